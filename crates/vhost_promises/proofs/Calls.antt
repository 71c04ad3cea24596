-- What a call of a channel adds up to.
use Rattle.std.proofs.Common.{◌≡◌, ℕ, ◌+◌, List, [], ◌∷◌, take, drop, Bool, true, false, Some, None, Result, Ok, Err, refl, sym, ap, subst, ◌∙◌, arith}
use Rattle.std.specs.Prelude.{◌&&◌, ◌||◌, not, if◌then◌else◌}
use Rattle.std.proofs.lemmas.List.{append-nil}
use Rattle.vhost_message.specs.declared.error.Error as declared
use Rattle.vhost_message.specs.declared.limits.TheConstants.{MSG_HEADER_SIZE}
use Rattle.vhost_message.specs.Header.{Header, header_of}
use Rattle.vhost_protocol.specs.Error.{Error, PartialMessage, InvalidMessage}
use Rattle.vhost_protocol.specs.IoError.{IoError}
use Rattle.vhost_protocol.specs.ReplySplit.{Received, reply_split, received}
use Rattle.vhost_protocol.specs.Split.{Splits}
use Rattle.vhost_protocol.specs.Stream.{Cell, Item, items, bytes, first_handles, has_some, is_shorter}
use Rattle.vhost_link.specs.Law.{Event, Move, move, nothing}
use Rattle.vhost_link.specs.Law.Moved.{still}
use Rattle.vhost_connection.specs.Pass.{sends, receives}
use Rattle.vhost_connection.specs.Talk.{State, Serves, Talks, Never, Trouble, has_moved}
use Rattle.vhost_connection.specs.Talk.Trouble.{was_broken as trouble_broken, no_memory as trouble_memory, fault as trouble_fault}
use Rattle.vhost_connection.specs.Hearing.{Fails}
use Rattle.vhost_connection.specs.Hearing.Fails.{was_broken as fails_broken, no_memory as fails_memory, fault as fails_fault}
use Rattle.vhost_promises.specs.Calls.{is_fault, is_io_fault, Exchanges, HasReason}
use Rattle.vhost_promises.specs.Calls.HasReason.{was_broken, no_list, failed}
use Rattle.vhost_promises.proofs.TwoCalls.{talks-both}

-- ---- the endpoint

module _ {L H : Type 0} (event : L → Event H → L → Type 0) where
  -- a message out and a message in
  pub exchange : (old mid new : State L H) (out : List (Cell H)) (came : List (Item H)) (r q : ℕ) → Serves event old old.budget (sends out r) mid → Serves event mid mid.budget (receives came q) new
      → Exchanges event (old.budget + old.budget) out came old new
  exchange old mid new out came r q s t = (
    r + q,
    record {
      talks = subst (λ m. Talks event old m new) (ap (λ xs. move came xs (r + q) 0) (append-nil out)) (talks-both event old mid new (sends out r) (receives came q) s.talks t.talks);
      retries = omega (arith, s.retries, t.retries, s.talks.budget);
      failures = refl;
      before = s.before;
      after = t.after;
      faulted = t.faulted;
    },
  )

  -- nothing was done yet, but that the list of handles was made
  not-yet : (old : State L H) (listed : Bool) → Talks event old nothing (record old { list = listed })
  not-yet old listed = record { below = nothing; moved = still; handed = append-nil (items old.ahead); taken = refl; retries = refl; failures = refl; budget = refl }

  -- a failure of the first message has its reason
  pub fails-reason : (old : State L H) (e : declared.Error) (new : State L H) → Fails event old false e new → HasReason event old e new
  fails-reason old e new (fails_broken b s) = was_broken b (ap (λ x. x.broken) s ∙ b)
  fails-reason old e new (fails_memory b l s) = no_list l (ap (λ x. x.broken) s)
  fails-reason old e new (fails_fault c m b fell none most spent few broken faulted kept) = failed c (not-yet old old.list) refl b fell none spent broken

  -- behind a message that went out it is the link's
  pub behind-reason : (old mid : State L H) {m : Move H} (e : declared.Error) (new : State L H) → Serves event old old.budget m mid → has_moved m ≡ true → mid.list ≡ true → Fails event mid true e new → HasReason event old e new
  behind-reason old mid e new s moved listed (fails_broken b same) = let sound = s.after in absurd cc
  behind-reason old mid e new s moved listed (fails_memory b l same) = absurd cc
  behind-reason old mid e new s moved listed (fails_fault c m b fell none most spent few broken faulted kept) =
      failed c s.talks s.failures s.before fell none (λ is. spent is ∙ s.talks.budget) (broken ∙ ap (λ x. if x || has_moved m then Some c else None) (sym moved))

  -- so has trouble of an endpoint that has its list
  pub trouble-reason : (old : State L H) (m : Move H) (e : declared.Error) (new : State L H) → Trouble event (record old { list = true }) old.budget Never false m e new → HasReason event old e new
  trouble-reason old m e new (trouble_broken b s n) = was_broken b (ap (λ x. x.broken) n ∙ b)
  trouble-reason old m e new (trouble_memory g b l s n) = absurd (cc g)
  trouble-reason old m e new (trouble_fault c b fell none most spent broken faulted kept) = failed c (not-yet old true) refl b fell none spent broken

-- ---- what was received

-- what was received is cut so
pub splits-all : {A H : Type 0} (cut : List (Cell H) → A × List (Cell H)) (cells : List (Cell H)) (ended : Bool) (outcome : A) → Splits cut cells ended outcome → cut cells ≡ (outcome, [])
splits-all cut cells true outcome s = s.0
splits-all cut cells false outcome s = subst (λ xs. cut xs ≡ (outcome, [])) (append-nil cells) (s [])

pub none-of : {A : Type 0} (xs : List A) → has_some xs ≡ false → xs ≡ []
none-of [] is = refl
none-of (x ∷ xs) is = absurd cc

-- no reply is an error of a link
abbrev pub no_fault : {H : Type 0} → Result (Received H) Error → Bool
no_fault (Ok r) = true
no_fault (Err e) = not (is_fault e)

by-tests : {H : Type 0} (short fits : Bool) (r : Received H) (rest : List (Cell H)) → no_fault (if◌then◌else◌ {A = Result (Received H) Error × List (Cell H)} short (Err PartialMessage, []) (if fits then (Ok r, rest) else (Err InvalidMessage, rest))).0 ≡ true
by-tests true fits r rest = refl
by-tests false true r rest = refl
by-tests false false r rest = refl

pub reply-no-fault : {H : Type 0} (is_known : Header → Bool) (size : ℕ) (valid : List ℕ → Bool) (room : ℕ) (cells : List (Cell H)) → no_fault (reply_split is_known size valid room cells).0 ≡ true
unfolding reply_split received
reply-no-fault is_known size valid room cells =
    let h = header_of (bytes (take MSG_HEADER_SIZE cells)) in
    let body = bytes (take size (drop MSG_HEADER_SIZE cells)) in
    let behind = drop size (drop MSG_HEADER_SIZE cells) in
    by-tests (is_shorter (MSG_HEADER_SIZE + size) cells) (is_known h && valid body) (record { header = h; body = body; payload = bytes (take room behind); handles = first_handles cells }) (drop room behind)

-- the error of an answer is one
abbrev pub fault_in : {A : Type 0} → Result A IoError → Bool
fault_in (Ok a) = false
fault_in (Err e) = is_io_fault e

-- both parts of what was cut
pub both : {A B : Type 0} {x : A × B} {a : A} {b : B} → x.0 ≡ a → x.1 ≡ b → x ≡ (a, b)
both p q = λ i. (p i, q i)
