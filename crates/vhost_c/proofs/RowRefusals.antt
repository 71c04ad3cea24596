-- Which errors the row of a request names.
use Rattle.std.proofs.Common.{◌≡◌, ℕ, Bool, true, false, List, [], ◌∷◌, Result, Ok, Err, sym, subst}
use Rattle.std.specs.Prelude.{⊤, if◌then◌else◌}
use Rattle.vhost_message.specs.declared.heard_req.HeardReq.{HeardReq}
use Rattle.vhost_message.specs.declared.heard_req.HeardReq.TheVariants.{ADD_MEM_REG, REM_MEM_REG}
use Rattle.vhost_protocol.specs.Error.{Error, test}
use Rattle.vhost_protocol.specs.Handler.{Follows}
use Rattle.vhost_protocol.specs.Row.{mapped_row, only, region_row, row_of}
use Rattle.vhost_protocol.specs.Session.{Session}
use Rattle.vhost_protocol.specs.Step.{Outcome, Refusal, Step, Refused, Calls, OpensBackend, OpensGpu, ◌>>=◌, ◌>>◌}
use Rattle.vhost_link.specs.declared.plain.PlainHandle.{PlainHandle}
use Rattle.vhost_backend_req_handler.specs.Halves.{uncalled, unopened}
use Rattle.vhost_backend_req_handler.specs.Serving.{fitting}
use Rattle.vhost_c_common.specs.Number.{number}
use Rattle.vhost_c_common.specs.declared.refusal.Refusal.TheVariants.{NoSession, NotReplied, NotYet}
use Rattle.vhost_c_backend.specs.Serving.{Request, Channel, Display, row}
use Rattle.vhost_c.specs.Calls.{is_named}
use Rattle.vhost_c.specs.ProgramBackend.{request_refusals}
use Rattle.vhost_c.proofs.AskRefusals.{seen_number}

-- a number that to read a request is refused with
abbrev pub IsOfRequest : ℕ → Type 0
IsOfRequest n = is_named (number NoSession ∷ number NotReplied ∷ number NotYet ∷ request_refusals) n ≡ true

abbrev Row : Type 0
Row = Step PlainHandle Channel Display

-- a step refuses with one
abbrev Fine : Row → Type 0
Fine (Refused r) = IsOfRequest (seen_number r.error)
Fine _ = ⊤

-- ---- tests

tested : (b : Bool) (r : Refusal PlainHandle) (next : Row) → IsOfRequest (seen_number r.error) → Fine next → Fine (test b r >> next)
tested true r next is fine = fine
tested false r next is fine = is

recorded : {A : Type 0} (b : Bool) (a : A) (r : Refusal PlainHandle) (next : A → Row) → IsOfRequest (seen_number r.error) → ((a : A) → Fine (next a)) → Fine ((if b then Ok a else Err r) >>= next)
recorded true a r next is fine = fine a
recorded false a r next is fine = is

handled : {A : Type 0} (xs : List A) (r : Refusal PlainHandle) (next : A → Row) → IsOfRequest (seen_number r.error) → ((a : A) → Fine (next a)) → Fine (only r xs >>= next)
handled [] r next is fine = is
handled (a ∷ []) r next is fine = fine a
handled (a ∷ b ∷ xs) r next is fine = is

either : (b : Bool) (x y : Row) → Fine x → Fine y → Fine (if b then x else y)
either true x y p q = p
either false x y p q = q

ruleset tests = (tested, recorded, handled, either)

-- ---- rows of more than one case

mapped-fine : (s : Session) (m : Request) → Fine (mapped_row s m)
mapped-fine s m = search tests

region-fine : (s : Session) (m : Request) → Fine (region_row s m)
region-fine s m = search tests

-- ---- all rows

row-fine : (r : HeardReq) (s : Session) (m : Request) → Fine (row_of r s m)
row-fine ADD_MEM_REG s m = search (tests, mapped-fine, region-fine)
row-fine REM_MEM_REG s m = search (tests, mapped-fine)
row-fine _ s m = search tests

-- ---- where nobody is called

abbrev Answers : Result ⊤ Error → Type 0
Answers (Ok u) = ⊤
Answers (Err e) = IsOfRequest (seen_number e)

followed : (s : Session) (x : Row) (o : Outcome PlainHandle) → Fine x → Follows (fitting (uncalled Channel Display)) (unopened Channel Display) (unopened Channel Display) s tt x o tt → Answers o.answer
followed s (Refused r) o fine f = subst (λ (q : Outcome PlainHandle). Answers q.answer) (sym f.0) fine
followed s (Calls c next) o fine f = absurd f.1.0
followed s (OpensBackend h next) o fine f = absurd f.1
followed s (OpensGpu h next) o fine f = absurd f.1

-- an error with which a row refuses is one of them
pub row-refused : (s : Session) (m : Request) (o : Outcome PlainHandle) (e : Error) → Follows (fitting (uncalled Channel Display)) (unopened Channel Display) (unopened Channel Display) s tt (row s m) o tt → o.answer ≡ Err e → IsOfRequest (seen_number e)
row-refused s m o e follows is = subst (λ r. Answers r) is (followed s (row s m) o (row-fine m.request s m) follows)
