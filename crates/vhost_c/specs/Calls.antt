-- The calls of any program in C, one after another, with their answers: what the programs of all five sessions have in common. What one call does is a relation, of the call, its answer, and the session before and after it.
use Rattle.std.specs.Prelude.{◌≡◌, ℕ, Bool, ◌||◌, ◌==◌, List, [], ◌∷◌, ◌++◌, Option, Some, None}
use Rattle.std.specs.List.{list_any}
use Rattle.vhost_c.specs.declared.places.ProgramAnswer.{ProgramAnswer}

-- Calls, one after another, with their answers: each goes on from the session that the one before left.
pub data Runs {Call S : Type 0} (Does : Call → ProgramAnswer → Option S → Option S → Type 0) : List Call → List ProgramAnswer → Option S → Option S → Type 0 where
  over : {session : Option S} → Runs Does [] [] session session
  goes_on : {call : Call} {answer : ProgramAnswer} {calls : List Call} {answers : List ProgramAnswer} {old mid new : Option S} → Does call answer old mid → Runs Does calls answers mid new → Runs Does (call ∷ calls) (answer ∷ answers) old new

-- The same, with the answers behind those that were there.
pub record Appends {Call S : Type 0} (Does : Call → ProgramAnswer → Option S → Option S → Type 0) (calls : List Call) (before after : List ProgramAnswer) (old new : Option S) : Type 0 where
  pub answers : List ProgramAnswer
  pub appended : after ≡ before ++ answers
  pub runs : Runs Does calls answers old new

-- A session that calls made, where there was none.
pub record IsMade {Call S : Type 0} (Does : Call → ProgramAnswer → Option S → Option S → Type 0) (session : Option S) : Type 0 where
  pub calls : List Call
  pub answers : List ProgramAnswer
  pub runs : Runs Does calls answers None session

-- the numbers of `enum covretin_error` of errors that say more
abbrev pub invalid_operation : ℕ
invalid_operation = 2

abbrev pub inactive_feature : ℕ
inactive_feature = 3

abbrev pub inactive_operation : ℕ
inactive_operation = 4

abbrev pub socket_broken : ℕ
socket_broken = 15

abbrev pub socket_retry : ℕ
socket_retry = 16

-- a call answers 0, or one of its refusals
abbrev pub is_named : List ℕ → ℕ → Bool
is_named refusals n = n == 0 || list_any (λ m. n == m) refusals

-- A session is there before and after, and this is so of both; or there is none.
pub data AtBoth {S : Type 0} (So : S → S → Type 0) : Option S → Option S → Type 0 where
  none : AtBoth So None None
  some : {old new : S} → So old new → AtBoth So (Some old) (Some new)
