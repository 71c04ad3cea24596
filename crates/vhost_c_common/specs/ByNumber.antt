-- What C calls, by the number that it is answered.
use Rattle.std.specs.Prelude.{ℕ, Option, Some, None, Result, ⊤}
use Rattle.vhost_c_common.specs.Number.{outcome_number}
use Rattle.vhost_c_common.specs.declared.refusal.Refusal.{Refusal}

-- A call of C, by the number that it answers: there is no session, or what it does to the session is this.
pub data By {S : Type 0} (does : S → Result ⊤ Refusal → S → Type 0) : Option S → ℕ → Option S → Type 0 where
  none : By does None 101 None
  some : {s s' : S} {outcome : Result ⊤ Refusal} → does s outcome s' → By does (Some s) (outcome_number outcome) (Some s')
