-- A message was read, and then it was answered, whichever side is served.
use Rattle.std.proofs.Common.{◌≡◌, ℕ, ◌+◌, Bool, false, List, [], Option, None, Some, Result, Ok, Err, inl, inr, ◌⊎◌, refl, sym, ap, subst, ◌∙◌, arith}
use Rattle.std.specs.Prelude.{⊤, ℤ, Vec, IsErrAnd, not}
use Rattle.std.specs.Global.{Global}
use Rattle.std.proofs.lemmas.List.{append-nil}
use Rattle.std.proofs.lemmas.Result.{err_from_is_err_and}
use Rattle.vhost_message.specs.declared.error.Error as declared
use Rattle.vhost_protocol.specs.Error.{Error, seen}
use Rattle.vhost_protocol.specs.Run as run
use Rattle.vhost_protocol.specs.Served.{Replied, reply, cells_of}
use Rattle.vhost_protocol.specs.Split.{Message, split}
use Rattle.vhost_protocol.specs.Stream.{Cell, Item, has_some, heard, items}
use Rattle.vhost_protocol.specs.Written.{Payload, payload_text}
use Rattle.vhost_link.specs.Law.{Event, Move, move, nothing, ◌then◌}
use Rattle.vhost_link.specs.Law.Moved.{still}
use Rattle.vhost_connection.specs.Pass.{sends, receives}
use Rattle.vhost_connection.specs.Talk.{State, Talks}
use Rattle.vhost_connection.specs.Calls.{HandsOver}
use Rattle.vhost_connection.specs.Hearing.{Hears}
use Rattle.vhost_connection.specs.Requests as requests
use Rattle.vhost_connection.specs.Requests.{Reads, IsReady, Replies, Stops, Tells, ReadsRequest, ReadsNone, ReadsInPart, reply_text}
use Rattle.vhost_connection.specs.declared.request.Request.{Request}
use Rattle.vhost_connection.proofs.Talking.{Talks-then, Talks-as}
use Rattle.vhost_connection.specs.Serving as serving
use Rattle.vhost_connection.specs.Serving.{Answered, Answers, Handled, HandlesOne}

-- ---- a reply

-- the reply that went out is that of the row, or a fault stopped it
pub reply-as : {L R H : Type 0} (event : L → Event H → L → Type 0) (number : R → ℕ) (old new : State L H) (r code : R) (hs : List H) (text : List ℕ) (payload : Payload) (answer : Result ⊤ Error) (result : Result ⊤ declared.Error) → code ≡ r → text ≡ payload_text payload
    → Tells event old (reply_text number code hs text) answer result new → Tells event old (cells_of number (reply r (Replied payload hs))) answer result new
reply-as {R = R} event number old new r code hs text payload answer result is same p =
    subst (λ (x : List ℕ). Tells event old (reply_text number r hs x) answer result new) same (subst (λ (x : R). Tells event old (reply_text number x hs text) answer result new) is p)

module _ {L H : Type 0} (event : L → Event H → L → Type 0) where
  -- nothing is to be sent
  pub none-sent : (old : State L H) → IsReady old → Replies event old [] old
  none-sent old ready = record {
    retries = 0;
    list = refl;
    serves = record {
      talks = record { below = nothing; moved = still; handed = append-nil (items old.ahead); taken = refl; retries = refl; failures = refl; budget = refl };
      retries = omega arith;
      failures = refl;
      before = ready.broken;
      after = ready.broken;
      faulted = ready.faulted;
    };
  }

  -- the peer knows
  pub replies-told : (old new : State L H) (cells : List (Cell H)) → Tells event old cells (Ok tt) (Ok tt) new → Replies event old cells new
  replies-told old new cells (requests.whole is p) = p

  -- a fault stopped it
  pub stops-told : (old new : State L H) (cells : List (Cell H)) (e : declared.Error) → Tells event old cells (Ok tt) (Err e) new → Stops event old cells e new
  stops-told old new cells e (requests.whole is p) = absurd (cc is)
  stops-told old new cells e (requests.stopped p) = p

-- the same bytes and handles are one message
same_handles : {H : Type 0} (given : Option (Vec H Global)) (hs others : List H) → HandsOver given hs → HandsOver given others → hs ≡ others
same_handles None hs others a b = a ∙ sym b
same_handles (Some v) hs others a b = sym a.0 ∙ b.0

pub same_message : {R H : Type 0} (bytes : List ℕ) (request : Request R) (given : Option (Vec H Global)) (m n : Message R H) → Reads bytes request m → Reads bytes request n → HandsOver given m.handles → HandsOver given n.handles → m ≡ n
same_message bytes request given m n a b over again =
    let code = sym a.code ∙ b.code in
    let reply = sym a.reply ∙ b.reply in
    let need = sym a.need_reply ∙ b.need_reply in
    let body = sym a.body ∙ b.body in
    let hands = same_handles given m.handles n.handles over again in
    λ j. record { request = code j; reply = reply j; need_reply = need j; body = body j; handles = hands j }

-- an endpoint that has heard a message can reply to it
is-ready : {L H A : Type 0} {event : L → Event H → L → Type 0} {cut : List (Cell H) → A × List (Cell H)} {old new : State L H} {o : A} → Hears event cut old o new → IsReady new
is-ready h = record { broken = h.serves.after; faulted = h.serves.faulted }

-- what was heard and then a reply, as one move
heard-then-sent : {H : Type 0} (xs : List (Item H)) (cells : List (Cell H)) (r q : ℕ) → receives xs r then sends cells q ≡ move xs cells (r + q) 0
heard-then-sent xs cells r q = ap (λ ys. move ys cells (r + q) 0) (append-nil xs)

-- what is met in one sense is met in another
pub answers-as : {L H S A Dev : Type 0} (event : L → Event H → L → Type 0) (Met Other : Result A Error → List (Cell H) → S → Dev → Type 0) (kept : S → S)
    → ((answer : Result A Error) (written : List (Cell H)) (s' : S) (d' : Dev) → Met answer written s' d' → Other answer written s' d')
    → (old new : State L H) (s' : S) (d' : Dev) (result : Result A declared.Error) → Answers event Met kept old result new s' d' → Answers event Other kept old result new s' d'
answers-as event Met Other kept turns old new s' d' result (serving.answered p) = serving.answered (record { written = p.written; meets = turns _ p.written s' d' p.meets; replies = p.replies })
answers-as event Met Other kept turns old new s' d' _ (serving.interrupted p) =
    serving.interrupted (record { answer = p.answer; written = p.written; after = p.after; meets = turns p.answer p.written p.after d' p.meets; stops = p.stops; session = p.session })

-- ---- a call

module _ {L R H S A Dev : Type 0} (event : L → Event H → L → Type 0) (request_of : S → ℕ → Option R) (allows_handles : R → ℕ → Bool) (failed : S → Option ℤ)
    (kept : R → S → S → S) (Meets : S → Dev → Message R H → Result A Error → List (Cell H) → S → Dev → Type 0) where
  -- no message was read
  handles-none : (old new : State L H) (s : S) (d : Dev) (e : Error) → ReadsNone event (request_of s) allows_handles old e new → Handled event request_of allows_handles failed kept Meets old s d (Err e) new s d
  handles-none old new s d e h = record { heard = Err e; mid = new; hears = h.hears; written = []; replies = none-sent event new (is-ready h.hears); handles = (refl, refl, refl, refl); list = h.list }

  -- a message was read, and then its reply was sent
  handles-answered : (old mid new : State L H) (s s' : S) (d d' : Dev) (m : Message R H) (answer : Result A Error) → Hears event (split (request_of s) allows_handles) old (Ok m) mid
      → mid.list ≡ not (has_some m.handles) → Answered event (Meets s d m) mid answer new s' d' → Handled event request_of allows_handles failed kept Meets old s d answer new s' d'
  handles-answered old mid new s s' d d' m answer h list p = record { heard = Ok m; mid = mid; hears = h; written = p.written; replies = p.replies; handles = p.meets; list = p.replies.list ∙ list }

  -- whatever was answered
  handles-one : (old mid new : State L H) (s s' : S) (d d' : Dev) (m : Message R H) (result : Result A declared.Error) → Hears event (split (request_of s) allows_handles) old (Ok m) mid
      → mid.list ≡ not (has_some m.handles) → Answers event (Meets s d m) (kept m.request s) mid result new s' d' → HandlesOne event request_of allows_handles failed kept Meets old s d result new s' d'
  handles-one old mid new s s' d d' m (Ok a) h list (serving.answered p) = handles-answered old mid new s s' d d' m (Ok a) h list p
  handles-one old mid new s s' d d' m (Err e) h list (serving.answered p) = inl (handles-answered old mid new s s' d d' m (Err (seen e)) h list p)
  handles-one old mid new s s' d d' m (Err e) h list (serving.interrupted p) = inr (serving.unanswered m mid h p)

  -- nothing was read
  handles-nothing : (old new : State L H) (s : S) (d : Dev) (e : declared.Error) → ReadsNone event (request_of s) allows_handles old (seen e) new ⊎ ReadsInPart event (request_of s) allows_handles old e new
      → HandlesOne event request_of allows_handles failed kept Meets old s d (Err e) new s d
  handles-nothing old new s d e (inl h) = inl (handles-none old new s d (seen e) h)
  handles-nothing old new s d e (inr f) = inr (serving.unread f refl refl)

  -- no request was read
  pub handles-unread : (old new : State L H) (s : S) (d : Dev) (bytes : List ℕ) (result : Result A declared.Error) (e : declared.Error) → IsErrAnd result (λ y. y ≡ e)
      → ReadsRequest event (request_of s) allows_handles old (Err e) bytes new → HandlesOne event request_of allows_handles failed kept Meets old s d result new s d
  handles-unread old new s d bytes result e exit p = let q = err_from_is_err_and result exit in rw (q.1, q.2) (handles-nothing old new s d e p)

  -- a request was read, and then it was answered
  pub handles-request : (old mid new : State L H) (s s' : S) (d d' : Dev) (bytes : List ℕ) (request : Request R) (handles : Option (Vec H Global)) (result : Result A declared.Error)
      → ReadsRequest event (request_of s) allows_handles old (Ok (request, handles)) bytes mid
      → ((m : Message R H) → Reads bytes request m → HandsOver handles m.handles → IsReady mid → Answers event (Meets s d m) (kept m.request s) mid result new s' d')
      → HandlesOne event request_of allows_handles failed kept Meets old s d result new s' d'
  handles-request old mid new s s' d d' bytes request handles result p row =
      handles-one old mid new s s' d d' p.message result p.hears p.list (row p.message p.reads p.hands (is-ready p.hears))

  -- ---- a call as an entry of a run

  -- What a call received and wrote is one entry of a run.
  pub record Entry (old : State L H) (s : S) (d : Dev) (answer : Result A Error) (new : State L H) (s' : S) (d' : Dev) : Type 0 where
    pub move : Move H
    pub talks : Talks event old move new
    pub failures : move.failures ≡ 0
    pub after : new.broken ≡ None
    pub faulted : new.faulted ≡ false
    pub handles : run.Serves request_of allows_handles failed Meets s d move.handed answer move.taken s' d'

  -- it is, where the session has not failed
  pub as-entry : (old new : State L H) (s s' : S) (d d' : Dev) (answer : Result A Error) → failed s ≡ None → Handled event request_of allows_handles failed kept Meets old s d answer new s' d' → Entry old s d answer new s' d'
  as-entry old new s s' d d' answer alive h =
      let input = heard h.hears.cells h.hears.ended in
      record {
        move = move input h.written (h.hears.retries + h.replies.retries) 0;
        talks = Talks-as (heard-then-sent input h.written h.hears.retries h.replies.retries) (Talks-then h.hears.serves.talks h.replies.serves.talks);
        failures = refl;
        after = h.replies.serves.after;
        faulted = h.replies.serves.faulted;
        handles = subst (λ f. run.ServesUnless request_of allows_handles failed Meets f s d input answer h.written s' d') (sym alive)
            (h.heard, (h.hears.cells, h.hears.ended, refl, h.hears.splits), h.handles);
      }
