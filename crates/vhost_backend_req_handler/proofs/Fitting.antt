-- The numbers of an answer.
use Rattle.std.proofs.Common.{ℕ, ◌<◌, ◌^◌, List, All, Some, get_or, true}
use Rattle.std.proofs.lemmas.List.{get_or_default}
use Rattle.vhost_protocol.specs.DeviceCall as device
use Rattle.vhost_protocol.specs.DeviceCall.{Call}
use Rattle.vhost_protocol.specs.Heard.{AnswerFits}
use Rattle.vhost_backend_req_handler_core.specs.Concluding.{Beside, answer_in}
use Rattle.vhost_backend_req_handler_core.specs.declared.answer.DeviceAnswer.{DeviceAnswer}
use Rattle.vhost_backend_req_handler.specs.Sized.{AnswerSized}

-- the numbers of a list of words
pub all-fit : (xs : List ℕ) → ((i : ℕ) → get_or xs i 0 < 2 ^ 64) → All (λ x. x < 2 ^ 64) xs
all-fit xs h k d within = rw (get_or_default xs k d 0 within) (h k)

-- an answer to a call
pub answer_fits : {H B G : Type 0} (c : Call H B G) (b : Beside) (d : DeviceAnswer H) → AnswerSized b.shmem d → AnswerFits c (answer_in b c d)
answer_fits (device.SetMemTable rs hs (Some true)) b d p = p.bases
answer_fits (device.AddMemRegion r h (Some true)) b d p = p.base
answer_fits _ b d p = search
