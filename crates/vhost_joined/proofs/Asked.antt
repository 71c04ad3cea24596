-- A request that was sent, what was carried, and an answer that was taken.
use Rattle.std.proofs.Common.{◌≡◌, ◌⊎◌, inl, inr, true, false, List, [], ◌∷◌, ◌++◌, Option, None, Ok, Err, refl, sym, ◌∙◌, ap, append_assoc}
use Rattle.vhost_message.specs.declared.error.Error as declared
use Rattle.vhost_message.specs.declared.error.Error.TheVariants as error
use Rattle.vhost_message.specs.declared.heard_req.HeardReq.{HeardReq}
use Rattle.vhost_message.specs.HeardReq.{request_number}
use Rattle.vhost_message.specs.Header.{Header}
use Rattle.vhost_message.specs.MsgHeader.{fields_of}
use Rattle.vhost_protocol.specs.AnswerTable.{Answered}
use Rattle.vhost_protocol.specs.Ask.{Refuses, Sends, ask}
use Rattle.vhost_protocol.specs.declared.asked.Awaited.{Awaited}
use Rattle.vhost_protocol.specs.Error.{seen}
use Rattle.vhost_protocol.specs.FrontendCall.{FrontendCall, Frontend}
use Rattle.vhost_protocol.specs.Take.{take}
use Rattle.vhost_protocol.specs.Written.{Written, head_of, written_cells}
use Rattle.vhost_link.specs.declared.plain.PlainHandle.{PlainHandle}
use Rattle.vhost_link.specs.Mem.{event}
use Rattle.vhost_frontend_core.specs.Asking as asking
use Rattle.vhost_frontend_core.specs.Asking.{AsksWithRoom, Goes}
use Rattle.vhost_frontend_core.specs.declared.asked.Sent.{Sent}
use Rattle.vhost_frontend_core.specs.Taking.{Reads, unread, read}
use Rattle.vhost_joined.specs.OnWay.{incoming, outgoing, Carries}
use Rattle.vhost_joined.specs.Joined.{Passes}
use Rattle.vhost_joined.specs.Sides.{cuts_of}
use Rattle.vhost_joined.proofs.OnWay.{incoming-handed, outgoing-taken}
use Rattle.vhost_joined.proofs.Spent.{End, Faults, faults, no-memory, sent-passes}
use Rattle.vhost_joined.proofs.Taken as taken
use Rattle.vhost_joined.proofs.Taken.{nothing-read, reply-heard}

pub both-empty : {A : Type 0} (xs ys : List A) → xs ++ ys ≡ [] → (xs ≡ []) × (ys ≡ [])
both-empty [] ys e = (refl, e)
both-empty (x ∷ xs) ys e = absurd (cc e)

-- ---- a request that was sent

module _ (call : FrontendCall PlainHandle) (fe : End) (f : Frontend) (before : Awaited) where
  -- What was asked.
  pub record IsAsked (sent : Sent) (fe' : End) (f' : Frontend) (aw' : Awaited) : Type 0 where
    pub message : Written HeardReq PlainHandle
    pub asked : ask f call ≡ Sends message aw' f'
    pub request : outgoing fe' ≡ outgoing fe ++ written_cells request_number message
    pub incoming : incoming fe' ≡ incoming fe
    pub awaits : sent.awaited ≡ aw'
    pub header : fields_of sent.request ≡ head_of request_number message
    pub broken : fe'.broken ≡ None
    pub faulted : fe'.faulted ≡ false
    pub list : fe'.list ≡ true
    pub budget : fe'.budget ≡ fe.budget
    pub passed : Passes fe.budget (written_cells request_number message) (cuts_of fe.link) (cuts_of fe'.link)

  went-asked : {w : Written HeardReq PlainHandle} {aw' : Awaited} {f' : Frontend} {sent : Sent} {fe' : End} → ask f call ≡ Sends w aw' f' → Goes event w aw' fe sent fe' → IsAsked sent fe' f' aw'
  went-asked {w} {fe' = fe'} e g = record {
    message = w;
    asked = e;
    request = outgoing-taken fe fe' _ g.serves.talks;
    incoming = sym (incoming-handed fe fe' _ g.serves.talks);
    awaits = g.awaits;
    header = g.header;
    broken = g.serves.after;
    faulted = g.serves.faulted;
    list = g.list;
    budget = g.serves.talks.budget;
    passed = sent-passes _ fe fe' _ _ g.serves;
  }

  pub is-asked : {sent : Sent} {fe' : End} {f' : Frontend} {aw' : Awaited} → AsksWithRoom event (ask f call) fe f before (Ok sent) fe' f' aw' → IsAsked sent fe' f' aw'
  is-asked (asking.roomy (asking.goes e g)) = went-asked e g

  -- What came of it where nothing was asked: it was refused, or the link failed; both changed neither the session nor what is awaited.
  pub record IsUnasked (e : declared.Error) (fe' : End) (f' : Frontend) (aw' : Awaited) : Type 0 where
    pub session : f' ≡ f
    pub awaits : aw' ≡ before
    pub why : ((ask f call ≡ Refuses (seen e)) × (fe' ≡ fe)) ⊎ (((w : Written HeardReq PlainHandle) × (aw : Awaited) × (g : Frontend) × (ask f call ≡ Sends w aw g)) × Faults fe fe' e)

  pub is-unasked : {e : declared.Error} {fe' : End} {f' : Frontend} {aw' : Awaited} → (e ≡ error.OutOfMemory → ⊥) → fe.broken ≡ None → fe.list ≡ true
      → AsksWithRoom event (ask f call) fe f before (Err e) fe' f' aw' → IsUnasked e fe' f' aw'
  is-unasked other whole list (asking.roomy (asking.refuses r)) = record { session = refl; awaits = refl; why = inl (r, refl) }
  is-unasked {fe' = fe'} other whole list (asking.roomy (asking.fails {e = x} s k)) = record { session = refl; awaits = refl; why = inr ((_, _, _, s), faults fe fe' false x k whole list) }
  is-unasked other whole list (asking.no_room s) = absurd (other refl)

  -- where there was no memory, nothing changed
  pub unroomy : {fe' : End} {f' : Frontend} {aw' : Awaited} → fe.list ≡ true → AsksWithRoom event (ask f call) fe f before (Err error.OutOfMemory) fe' f' aw' → (fe' ≡ fe) × (f' ≡ f) × (aw' ≡ before)
  unroomy list (asking.roomy (asking.refuses r)) = (refl, refl, refl)
  unroomy {fe' = fe'} list (asking.roomy (asking.fails s k)) = absurd (no-memory fe fe' false _ k list refl)
  unroomy list (asking.no_room s) = (refl, refl, refl)

-- ---- what was carried

module _ (from to from' to' : End) (k : Carries from to from' to') where
  -- what was sent is behind what was coming
  pub arrived-behind : incoming to' ≡ incoming to ++ outgoing from
  arrived-behind = ap {A = End} (λ e. incoming e) k.receiver ∙ sym (append_assoc to.ahead to.link.pending from.link.sent)

  pub arrived : incoming to ≡ [] → incoming to' ≡ outgoing from
  arrived none = ap {A = End} (λ e. incoming e) k.receiver ∙ sym (append_assoc to.ahead to.link.pending from.link.sent) ∙ ap (λ xs. xs ++ from.link.sent) none

  pub emptied : outgoing from' ≡ []
  emptied = ap {A = End} (λ e. outgoing e) k.sender

  pub kept : incoming from' ≡ incoming from
  kept = ap {A = End} (λ e. incoming e) k.sender

  pub held : outgoing to' ≡ outgoing to
  held = ap {A = End} (λ e. outgoing e) k.receiver

  pub sender-cuts : cuts_of from'.link ≡ cuts_of from.link
  sender-cuts = ap {A = End} (λ e. cuts_of e.link) k.sender

  pub receiver-cuts : cuts_of to'.link ≡ cuts_of to.link
  receiver-cuts = ap {A = End} (λ e. cuts_of e.link) k.receiver

-- ---- an answer that was taken

module _ (call : FrontendCall PlainHandle) (awaited : Awaited) (sent : Header) (f : Frontend) (fe : End) (x : Option (Answered PlainHandle)) where
  abbrev pub IsTaken : End → Type 0
  IsTaken = taken.IsTaken (take call awaited sent f) fe x

  pub is-taken : {fe' : End} → fe.broken ≡ None → fe.faulted ≡ false → Reads event call awaited sent f fe x fe' → IsTaken fe'
  is-taken whole sound (unread here) = nothing-read (take call awaited sent f) fe x whole sound (here (incoming fe))
  is-taken {fe'} whole sound (read came) = reply-heard (take call awaited sent f) fe x fe' came
