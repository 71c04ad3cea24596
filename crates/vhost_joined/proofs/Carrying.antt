-- What one side sent, at the other.
use Rattle.std.proofs.Common.{◌≡◌, ◌≤◌, [], ◌++◌, Result, Ok, Err, true, false, length, ap, ◌∙◌, subst}
use Rattle.std.specs.Prelude.{is_err, IsOk, OnOk, OnErr}
use Rattle.vhost_message.specs.declared.limits.TheConstants.{MAX_MSG_TEXT}
use Rattle.vhost_link.specs.declared.plain.PlainHandle.{PlainHandle}
use Rattle.vhost_link.specs.Ends.{Ends, Carried}
use Rattle.vhost_connection.specs.Talk.{State}
use Rattle.vhost_joined.specs.OnWay.{outgoing, Carries}
use Rattle.vhost_joined.specs.Text.{Text, text_of}
use Rattle.vhost_joined.proofs.Running.{found, refusal}
use Rattle.vhost_joined.proofs.Spent.{End}

module _ (from to : State Ends PlainHandle) (l m from_after to_after : Ends) (at_l : l ≡ from.link) (at_m : m ≡ to.link) where
  pub carries : Carried l m from_after to_after → Carries from to (record from { link = from_after }) (record to { link = to_after })
  carries c = record {
    sender = ap {A = Ends} (λ k. record from { link = k }) (c.given ∙ ap {A = Ends} (λ k. record k { sent = [] }) at_l);
    receiver = ap {A = Ends} (λ k. record to { link = k }) (c.got ∙ ap {A = Ends} (λ k. record k { pending = k.pending ++ l.sent }) at_m ∙ ap {A = Ends} (λ k. record to.link { pending = to.link.pending ++ k.sent }) at_l);
  }

-- ---- between two ends that were lent

module _ {A E : Type 0} (r : Result A E) (lent_from lent_to from to from' to' : End) (at_from : lent_from ≡ from) (at_to : lent_to ≡ to) where
  pub carried : is_err r ≡ false → OnOk r (Carries lent_from lent_to from' to') → Carries from to from' to'
  carried ok k = subst (λ e. Carries e to from' to') at_from (subst (λ e. Carries lent_from e from' to') at_to (found r _ ok k))

  pub refused : is_err r ≡ true → OnErr r ((from' ≡ lent_from) × (to' ≡ lent_to)) → (from' ≡ from) × (to' ≡ to)
  refused failed k = let same = refusal r _ failed k in (same.0 ∙ at_from, same.1 ∙ at_to)

-- what failed was in its way
pub full : {A E : Type 0} (r : Result A E) (lent to : End) → lent ≡ to → is_err r ≡ true → (lent.link.pending ≡ [] → IsOk r) → to.link.pending ≡ [] → ⊥
full (Ok a) lent to at failed ok none = absurd (cc failed)
full (Err x) lent to at failed ok none = absurd (cc (ok (ap {A = End} (λ e. e.link.pending) at ∙ none)))

pub copied : (lent end : End) (t : Text) → lent ≡ end → (length (outgoing lent) ≤ MAX_MSG_TEXT → t ≡ text_of (outgoing lent)) → length (outgoing end) ≤ MAX_MSG_TEXT → t ≡ text_of (outgoing end)
copied lent end t at k = subst (λ (e : End). length (outgoing e) ≤ MAX_MSG_TEXT → t ≡ text_of (outgoing e)) at k
