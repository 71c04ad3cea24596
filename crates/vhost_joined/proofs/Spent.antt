-- What messages used of a link's script.
use Rattle.std.proofs.Common.{◌≡◌, ℕ, ◌≤◌, List, [], ◌∷◌, ◌++◌, length, None, refl, sym, ◌∙◌, ap, subst, arith, true, Bool, IsTrue}
use Rattle.std.specs.Prelude.{◌||◌}
use Rattle.std.proofs.lemmas.List.{append-nil}
use Rattle.std.proofs.Math.Bool.{or-true}
use Rattle.vhost_message.specs.declared.cause.IoCause.{IoCause}
use Rattle.vhost_message.specs.declared.limits.TheConstants.{MAX_MSG_TEXT}
use Rattle.vhost_message.specs.Cause.{is_retry, error_of}
use Rattle.vhost_message.specs.declared.error.Error as declared
use Rattle.vhost_message.specs.declared.error.Error.TheVariants as error
use Rattle.vhost_protocol.specs.Stream.{Cell, Item, has_some, items}
use Rattle.vhost_link.specs.declared.plain.PlainHandle.{PlainHandle}
use Rattle.vhost_link.specs.Ends.{Ends}
use Rattle.vhost_link.specs.Law.{Move}
use Rattle.vhost_link.specs.Mem.{event, Runs}
use Rattle.vhost_link.proofs.MemStream.{mem-stream}
use Rattle.vhost_connection.specs.Pass.{receives, sends}
use Rattle.vhost_connection.specs.Talk.{State, Fell, Growth, Serves, Talks, Trouble}
use Rattle.vhost_connection.specs.Talk.Trouble.{was_broken as trouble_broken, no_memory as trouble_memory, fault as trouble_fault}
use Rattle.vhost_connection.proofs.Errors.{no_memory_error}
use Rattle.vhost_connection.proofs.Failing.{fell-talks, refused-taken}
use Rattle.vhost_connection.specs.Hearing.{Fails, was_broken, no_memory, fault}
use Rattle.vhost_joined.specs.Joined.{Cuts, Calls, Passes, Stops}
use Rattle.vhost_joined.specs.OnWay.{incoming, outgoing}
use Rattle.vhost_joined.specs.Sides.{cuts_of}
use Rattle.vhost_joined.proofs.OnWay.{cells_in, incoming-handed, outgoing-taken}

-- one end of a joined run
abbrev pub End : Type 0
End = State Ends PlainHandle

-- ---- calls of a link in memory

runs-calls : (old new : Ends) (m : Move PlainHandle) → Runs old m new → Calls (cuts_of old) (cuts_of new)
runs-calls old new m r = record { used = r.calls; wants = r.wants; script = r.script; count = r.count }

-- the link below handed something out, or took something in
abbrev pub HasMoved : {old new : End} {m : Move PlainHandle} → Talks event old m new → Type 0
HasMoved t = (has_some t.below.handed || has_some t.below.taken) ≡ true

pub passes : (cells : List (Cell PlainHandle)) (old new : End) (budget : ℕ) (m : Move PlainHandle) (s : Serves event old budget m new) → (has_some cells ≡ true → HasMoved s.talks)
    → Passes budget cells (cuts_of old.link) (cuts_of new.link)
unfolding runs-calls
passes cells old new budget m s moved =
    let t = s.talks in
    let r : Runs old.link t.below new.link = mem-stream old.link new.link t.below t.moved in
    record {
      calls = runs-calls old.link new.link t.below r;
      faults = sym r.failures ∙ t.failures ∙ s.failures;
      retries = subst (λ n. n ≤ budget) (sym t.retries ∙ r.retries) s.retries;
      some = λ is. r.moves (moved is);
    }

-- what was sent was moved
sent-moved : (cells : List (Cell PlainHandle)) (old new : End) (retries : ℕ) (t : Talks event old (sends cells retries) new) → has_some cells ≡ true → HasMoved t
sent-moved cells old new retries t is = ap (λ xs. has_some t.below.handed || has_some xs) t.taken ∙ ap (λ b. has_some t.below.handed || b) is ∙ or-true (has_some t.below.handed)

pub sent-passes : (cells : List (Cell PlainHandle)) (old new : End) (budget retries : ℕ) → Serves event old budget (sends cells retries) new → Passes budget cells (cuts_of old.link) (cuts_of new.link)
sent-passes cells old new budget retries s = passes cells old new budget (sends cells retries) s (sent-moved cells old new retries s.talks)

-- and so was what was heard of a link of which nothing had been heard before, and all of it
pub all-moved : (cells : List (Cell PlainHandle)) (old new : End) (m : Move PlainHandle) (t : Talks event old m new) → old.ahead ≡ [] → incoming old ≡ cells → incoming new ≡ [] → has_some cells ≡ true → HasMoved t
all-moved cells old new m t fresh is none some = by-handed m.handed refl
  where
    came : cells ≡ cells_in m.handed
    came = sym is ∙ incoming-handed old new m t ∙ ap (λ xs. cells_in m.handed ++ xs) none ∙ append-nil (cells_in m.handed)

    below : t.below.handed ≡ m.handed ++ items new.ahead
    below = ap (λ (xs : List (Cell PlainHandle)). items xs ++ t.below.handed) (sym fresh) ∙ t.handed

    by-handed : (is' : List (Item PlainHandle)) → m.handed ≡ is' → HasMoved t
    by-handed [] e = absurd (cc (sym (ap (λ (xs : List (Cell PlainHandle)). has_some xs) (came ∙ ap cells_in e)) ∙ some))
    by-handed (x ∷ xs) e = ap (λ ys. has_some ys || has_some t.below.taken) (below ∙ ap (λ ys. ys ++ items new.ahead) e)

-- where nothing was called
pub passes-none : (budget : ℕ) (old new : Cuts) → new ≡ old → Passes budget [] old new
passes-none budget old new e = record {
  calls = record { used = 0; wants = 0; script = ap {A = Cuts} (λ x. x.script) e; count = ap {A = Cuts} (λ x. x.wants) e };
  faults = refl;
  retries = omega arith;
  some = λ is. absurd (cc is);
}

-- nothing was there, so no call was made for it
pub still-passes : (e : End) (cells : List (Cell PlainHandle)) → (has_some cells ≡ true → cells ≡ []) → Passes e.budget cells (cuts_of e.link) (cuts_of e.link)
still-passes e [] none = passes-none e.budget (cuts_of e.link) (cuts_of e.link) refl
still-passes e (c ∷ cells) none = let is = none refl in absurd (cc is)

-- a failure: one that asks for the call to be made again, or a fault
pub stops : (old new : End) (budget : ℕ) (c : IoCause) (m : Move PlainHandle) → Fell event old m c new → m.failures ≡ 0 → m.retries ≤ budget → (IsTrue (is_retry c) → m.retries ≡ budget)
    → Stops budget c (cuts_of old.link) (cuts_of new.link)
unfolding runs-calls
stops old new budget c m fell none few most =
    let t = fell.talks in
    let r : Runs old.link t.below fell.before = mem-stream old.link fell.before t.below t.moved in
    record {
      before = cuts_of fell.before;
      calls = runs-calls old.link fell.before t.below r;
      faults = sym r.failures ∙ t.failures ∙ none;
      retries = subst (λ n. n ≤ budget) (sym t.retries ∙ r.retries) few;
      spent = λ again. sym r.retries ∙ t.retries ∙ most again;
      last = fell.last.0;
      script = ap {A = Ends} (λ l. l.script) fell.last.1;
    }

-- ---- calls of an endpoint

-- The link failed in a call of an endpoint that was whole and had its list of handles.
pub record Faults (old new : End) (e : declared.Error) : Type 0 where
  pub cause : IoCause
  pub error : e ≡ error_of cause
  pub stopped : Stops old.budget cause (cuts_of old.link) (cuts_of new.link)
  pub gone : List (Cell PlainHandle)
  pub sent : outgoing new ≡ outgoing old ++ gone
  pub few : length gone ≤ MAX_MSG_TEXT
  pub read : List (Cell PlainHandle)
  pub came : incoming old ≡ read ++ incoming new
  pub faulted : new.faulted ≡ true
  pub budget : new.budget ≡ old.budget
  pub list : new.list ≡ true

pub faults : (old new : End) (between : Bool) (e : declared.Error) → Fails event old between e new → old.broken ≡ None → old.list ≡ true → Faults old new e
faults old new between _ (was_broken b same) whole list = let h = sym b ∙ whole in absurd (cc h)
faults old new between _ (no_memory b away same) whole list = let h = sym away ∙ list in absurd (cc h)
faults old new between _ (fault c m b fell none most spent few broken faulted kept) whole list = record {
  cause = c;
  error = refl;
  stopped = stops old new old.budget c m fell none most spent;
  gone = m.taken;
  sent = outgoing-taken old new _ (fell-talks c fell) ∙ ap (λ xs. outgoing old ++ xs) (refused-taken m c (is_retry c));
  few = few;
  read = _;
  came = incoming-handed old new _ (fell-talks c fell);
  faulted = faulted;
  budget = (fell-talks c fell).budget;
  list = kept.0 list;
}

-- The link failed while one received, who sent nothing.
pub record FaultsReading (old new : End) (e : declared.Error) : Type 0 where
  pub cause : IoCause
  pub stopped : Stops old.budget cause (cuts_of old.link) (cuts_of new.link)
  pub sent : outgoing new ≡ outgoing old
  pub read : List (Cell PlainHandle)
  pub came : incoming old ≡ read ++ incoming new
  pub faulted : new.faulted ≡ true

pub faults-reading : (old new : End) (is : List (Item PlainHandle)) (retries : ℕ) (grows : Growth) (breaks : Bool) (e : declared.Error) → Trouble event old old.budget grows breaks (receives is retries) e new
    → old.broken ≡ None → old.list ≡ true → FaultsReading old new e
faults-reading old new is retries grows breaks _ (trouble_broken b n s) whole list = let h = sym b ∙ whole in absurd (cc h)
faults-reading old new is retries grows breaks _ (trouble_memory w b away n s) whole list = let h = sym away ∙ list in absurd (cc h)
faults-reading old new is retries grows breaks _ (trouble_fault c b fell none most spent broken faulted kept) whole list = record {
  cause = c;
  stopped = stops old new old.budget c (receives is retries) fell none most spent;
  sent = outgoing-taken old new _ (fell-talks c fell) ∙ ap (λ xs. outgoing old ++ xs) (refused-taken (receives is retries) c (is_retry c)) ∙ append-nil (outgoing old);
  read = _;
  came = incoming-handed old new _ (fell-talks c fell);
  faulted = faulted;
}

-- an endpoint that has its list of handles lacks no memory
pub no-memory : (old new : End) (between : Bool) (e : declared.Error) → Fails event old between e new → old.list ≡ true → e ≡ error.OutOfMemory → ⊥
no-memory old new between _ (was_broken b same) list is = absurd (cc is)
no-memory old new between _ (no_memory b away same) list is = let h = sym away ∙ list in absurd (cc h)
no-memory old new between _ (fault c m b talks none most spent few broken faulted kept) list is = no_memory_error _ c refl is
