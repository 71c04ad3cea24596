-- A broken endpoint is not served.
use Rattle.std.proofs.Common.{◌≡◌, ℕ, Bool, true, false, List, Option, Some, Result, Ok, Err, refl, sym, ap, ◌∙◌, inl, inr}
use Rattle.std.specs.Prelude.{ℤ}
use Rattle.vhost_message.specs.declared.cause.IoCause.{IoCause}
use Rattle.vhost_message.specs.declared.error.Error as declared
use Rattle.vhost_message.specs.declared.error.Error.TheVariants.{SocketBroken}
use Rattle.vhost_protocol.specs.Error.{Error}
use Rattle.vhost_protocol.specs.Split.{Message}
use Rattle.vhost_protocol.specs.Stream.{Cell}
use Rattle.vhost_link.specs.Law.{Event, Move}
use Rattle.vhost_connection.specs.Talk.{State, First, Trouble}
use Rattle.vhost_connection.specs.Talk.Trouble.{was_broken, no_memory, fault}
use Rattle.vhost_connection.specs.Serving.{HandlesOne}
use Rattle.vhost_connection.specs.Serving.Breaks.{unread, unanswered}
use Rattle.vhost_promises.specs.Runs.{Unserved}

-- trouble of an endpoint that was broken
troubled : {L H S Dev A : Type 0} (event : L → Event H → L → Type 0) (old : State L H) (s s' : S) (d d' : Dev) (limit : ℕ) (m : Move H) (e : declared.Error) (new : State L H) (c : IoCause) → old.broken ≡ Some c
    → Trouble event old limit First false m e new → s' ≡ s → d' ≡ d → Unserved {A = A} old s d c (Err e) new s' d'
troubled event old s s' d d' limit m e new c is (was_broken {c = b} broke nothing_moved same) same_s same_d = (inl (ap (λ x. Err (SocketBroken x)) (cause (sym broke ∙ is)), same), same_s, same_d)
  where
    cause : Some b ≡ Some c → b ≡ c
    cause e = cc
troubled event old s s' d d' limit m e new c is (no_memory g b l n same) same_s same_d = (inr (l, refl, same), same_s, same_d)
troubled event old s s' d d' limit m e new c is (fault x b f k few spent broken faulted kept) same_s same_d = absurd (cc (sym is ∙ b))

-- where the endpoint has its list of handles, it says why it is broken
pub unserved-listed : {L H S Dev A : Type 0} (old : State L H) (s s' : S) (d d' : Dev) (c : IoCause) (result : Result A declared.Error) (new : State L H) → old.list ≡ true → Unserved old s d c result new s' d'
    → (result ≡ Err (SocketBroken c)) × (new ≡ record old { faulted = false }) × (s' ≡ s) × (d' ≡ d)
unserved-listed old s s' d d' c result new listed (inl (is, same), same_s, same_d) = (is, same ∙ ap (λ (x : Bool). record old { list = x; faulted = false }) (sym listed), same_s, same_d)
unserved-listed old s s' d d' c result new listed (inr (away, is, same), same_s, same_d) = absurd (cc (sym listed ∙ away))

module _ {L R H S A Dev : Type 0} (event : L → Event H → L → Type 0) (request_of : S → ℕ → Option R) (allows_handles : R → ℕ → Bool) (failed : S → Option ℤ)
    (kept : R → S → S → S) (Meets : S → Dev → Message R H → Result A Error → List (Cell H) → S → Dev → Type 0) where
  pub unserved : (old : State L H) (s : S) (d : Dev) (result : Result A declared.Error) (new : State L H) (s' : S) (d' : Dev) (c : IoCause) → old.broken ≡ Some c
      → HandlesOne event request_of allows_handles failed kept Meets old s d result new s' d' → Unserved old s d c result new s' d'
  unserved old s d (Ok a) new s' d' c is h = absurd (cc (sym is ∙ h.hears.serves.before))
  unserved old s d (Err e) new s' d' c is (inl h) = absurd (cc (sym is ∙ h.hears.serves.before))
  unserved old s d (Err e) new s' d' c is (inr (unread part same_s same_d)) = troubled event old s s' d d' old.budget _ e new c is part.trouble same_s same_d
  unserved old s d (Err e) new s' d' c is (inr (unanswered m mid hears stops)) = absurd (cc (sym is ∙ hears.serves.before))
