-- The numbers of an answer have the bits of their types.
use Rattle.std.specs.Prelude.{◌<◌, ◌^◌, [], All, IfOk, IfSome}
use Rattle.vhost_message.specs.LongRecords.{ShMemConfigFits}
use Rattle.vhost_message.specs.declared.records.shmem.VhostUserShMemConfig.{VhostUserShMemConfig}
use Rattle.vhost_message.specs.RecordLaws.{VringStateFits, InflightFits}
use Rattle.vhost_backend_req_handler_core.specs.Concluding.{number_in, bases_in, base_in, ring_state_in, inflight_in, shmem_in}
use Rattle.vhost_backend_req_handler_core.specs.declared.answer.DeviceAnswer.{DeviceAnswer}

pub record AnswerSized {H : Type 0} (place : VhostUserShMemConfig) (d : DeviceAnswer H) : Type 0 where
  pub number : IfOk (number_in d) (λ n. n < 2 ^ 64)
  pub bases : IfOk (bases_in d) (λ o. IfSome o (λ bases. All (λ base. base < 2 ^ 64) bases))
  pub base : IfOk (base_in d) (λ o. IfSome o (λ base. base < 2 ^ 64))
  pub ring_state : IfOk (ring_state_in d) VringStateFits
  pub inflight : IfOk (inflight_in d) (λ x. InflightFits x.0)
  pub shmem : IfOk (shmem_in (record { regions = []; shmem = place }) d) ShMemConfigFits
