-- An answer is read, and what a refusal leaves.
use Rattle.std.proofs.Common.{◌≡◌, ◌≢◌, ℕ, List, Result, Ok, Err, refl, subst}
use Rattle.std.specs.Prelude.{⊤, IfErr}
use Rattle.vhost_protocol.specs.Gpu.{GpuReply}
use Rattle.vhost_frontend_core.specs.declared.values.answer.FrontendAnswer.{FrontendAnswer}
use Rattle.vhost_c_common.specs.Number.{outcome_number}
use Rattle.vhost_c_common.specs.declared.refusal.Refusal.{Refusal}
use Rattle.vhost_c_channel.specs.Display.{TakesTo, taken, not_taken, no_room}
use Rattle.vhost_c_channel.specs.declared.display.Display.{Display}
use Rattle.vhost_c_frontend.specs.Session.{Reading}
use Rattle.vhost_c_frontend.specs.declared.session.Session.{Session}

-- an answer that was read
pub reading : (reads : FrontendAnswer → Result ⊤ Refusal → Type 0) (a : FrontendAnswer) (s : Session) (outcome : Result ⊤ Refusal) → a ≡ s.answer → reads a outcome → Reading reads s outcome s
reading reads a s outcome same read = (subst (λ x. reads x outcome) same read, refl)

-- what a refusal leaves holds where the number is not 0
pub unless-done : {P : Type 0} {n : ℕ} (o : Result ⊤ Refusal) → n ≡ outcome_number o → IfErr o (λ r. P) → n ≢ 0 → P
unless-done (Ok done) is kept not = absurd (not is)
unless-done (Err r) is kept not = kept

-- a record's place is as it was, where it is not taken
pub unless-taken : {T : Type 0} {reply : GpuReply} {read : List ℕ → T} {text : T → List ℕ} {before after : List ℕ} {s t : Display} {o : Result ⊤ Refusal} → TakesTo reply read text before after s t o → IfErr o (λ r. after ≡ before)
unless-taken (taken u takes is) = tt
unless-taken (not_taken r room takes same) = same
unless-taken (no_room less same all) = same
