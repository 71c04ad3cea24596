-- A reply by a value is an answer, and what follows from it never fails.
use Rattle.std.proofs.Common.{◌≡◌, ℕ, ◌^◌, ℤ, Bool, true, false, List, [], ◌∷◌, Option, Some, None, Result, Ok, Err, refl, ap, ◌∙◌}
use Rattle.std.specs.Borrow.{Bor}
use Rattle.std.specs.Prelude.{⊤, ◌==◌, bit_or, length, if◌then◌else◌}
use Rattle.vhost_message.specs.declared.records.config.VhostUserConfig.{VhostUserConfig}
use Rattle.vhost_message.specs.declared.records.inflight.VhostUserInflight.{VhostUserInflight}
use Rattle.vhost_protocol.specs.Answered.{with_config, with_features, with_handle, with_inflight, with_state}
use Rattle.vhost_protocol.specs.Error.{Error}
use Rattle.vhost_protocol.specs.Features.{REPLY_ACK}
use Rattle.vhost_protocol.specs.Session.{Session}
use Rattle.vhost_protocol.specs.Step.{Outcome, Step, replied, replied_or_silent}
use Rattle.vhost_protocol.specs.Written.{ConfigBytes, RingState, Shmem, U64}
use Rattle.vhost_link.specs.declared.plain.PlainHandle.{PlainHandle}
use Rattle.vhost_backend_req_handler_core.specs.Beginning.{if_some, single, step_of}
use Rattle.vhost_backend_req_handler_core.specs.Concluding.{Beside, FollowsFrom, bytes_in, handle_in, inflight_in, number_in, ring_state_in, shmem_in, state_handle_in}
use Rattle.vhost_backend_req_handler_core.specs.Fits.{Makes}
use Rattle.vhost_backend_req_handler_core.specs.declared.answer.DeviceAnswer.{DeviceAnswer}
use Rattle.vhost_backend_req_handler_core.specs.declared.call.DeviceCall.{DeviceCall}
use Rattle.vhost_backend_req_handler_core.specs.declared.call.DeviceCall.TheVariants as call
use Rattle.vhost_c_common.specs.declared.records.Inflight.{Inflight}
use Rattle.vhost_c_backend.specs.Replies.{Gives, GivesShmem, form_in}
use Rattle.vhost_c_backend.specs.Serving.{Channel, Display, Request}
use Rattle.vhost_c_backend.specs.declared.replies.Reply.TheVariants as reply

abbrev Answer : Type 0
Answer = DeviceAnswer PlainHandle

abbrev Outcome1 : Type 0
Outcome1 = Outcome PlainHandle

abbrev fine : Result ⊤ Error
fine = Ok tt

abbrev told : Outcome1 → Result ⊤ Error
told o = o.answer

either : (b : Bool) (x y : Outcome1) → told x ≡ fine → told y ≡ fine → told (if b then x else y) ≡ fine
either true x y p q = p
either false x y p q = q

config-fine : (s : Session) (c : VhostUserConfig) (r : Result (List ℕ) Error) → (with_config {H = PlainHandle} s c r).answer ≡ fine
config-fine s c (Ok bytes) = either (length bytes == c.size) (replied s (ConfigBytes c bytes) []) (replied s (ConfigBytes (record c { size = 0 }) []) []) refl refl
config-fine s c (Err e) = refl

handle-fine : (s : Session) (r : Result PlainHandle Error) → (with_handle s r).answer ≡ fine
handle-fine s (Ok h) = refl
handle-fine s (Err e) = refl

state-fine : (s : Session) (r : Result (Option PlainHandle) Error) → (with_state s r).answer ≡ fine
state-fine s (Ok (Some h)) = refl
state-fine s (Ok None) = refl
state-fine s (Err e) = refl

module _ (s : Session) (m : Request) (a : Answer) (b : Beside) (o : Outcome1) where
  abbrev Follows : DeviceCall → Type 0
  Follows c = FollowsFrom {B = Channel} {G = Display} s b a (step_of s m c) o

  with-one : (h : Option PlainHandle) (next : PlainHandle → Step PlainHandle Channel Display) → Makes (if_some h next) → ((k : PlainHandle) → FollowsFrom {B = Channel} {G = Display} s b a (next k) o → told o ≡ fine) → FollowsFrom {B = Channel} {G = Display} s b a (if_some h next) o
      → told o ≡ fine
  with-one None next makes each f = absurd makes
  with-one (Some h) next makes each f = each h f

  pub number-fine : (c : DeviceCall) (n : ℕ) → Gives (form_in c) (reply.Number n) a → Follows c → told o ≡ fine
  number-fine call.GetFeatures n is f = ap {A = Outcome1} told f ∙ ap {A = Answer} (λ d. told (with_features s (number_in d))) is
  number-fine call.GetProtocolFeatures n is f = ap {A = Outcome1} told f ∙ ap {A = Answer} (λ d. told (replied_or_silent s (λ k. U64 (bit_or k (2 ^ REPLY_ACK))) (number_in d))) is
  number-fine call.GetQueueNum n is f = ap {A = Outcome1} told f ∙ ap {A = Answer} (λ d. told (replied_or_silent s U64 (number_in d))) is
  number-fine call.GetMaxMemSlots n is f = ap {A = Outcome1} told f ∙ ap {A = Answer} (λ d. told (replied_or_silent s U64 (number_in d))) is
  number-fine _ n is f = absurd is

  pub ring-fine : (c : DeviceCall) (i n : ℕ) → Gives (form_in c) (reply.Ring i n) a → Follows c → told o ≡ fine
  ring-fine (call.GetVringBase k) i n is f = ap {A = Outcome1} told f ∙ ap {A = Answer} (λ d. told (replied_or_silent s RingState (ring_state_in d))) is
  ring-fine _ i n is f = absurd is

  pub config-given : (c : DeviceCall) (bs : Bor (List ℕ)) → Gives (form_in c) (reply.Config bs) a → Follows c → told o ≡ fine
  config-given (call.GetConfig area) bs is f = ap {A = Outcome1} told f ∙ config-fine s _ (bytes_in a)
  config-given _ bs is f = absurd is

  pub fd-fine : (c : DeviceCall) (fd : ℤ) → Gives (form_in c) (reply.Fd fd) a → Makes (step_of {B = Channel} {G = Display} s m c) → Follows c → told o ≡ fine
  fd-fine (call.GetSharedObject name) fd is makes f = ap {A = Outcome1} told f ∙ handle-fine s (handle_in a)
  fd-fine call.PostcopyAdvice fd is makes f = ap {A = Outcome1} told f ∙ handle-fine _ (handle_in a)
  fd-fine (call.SetDeviceStateFd direction phase) fd is makes f = with-one (single m.handles) _ makes (λ h g. ap {A = Outcome1} told g ∙ state-fine s (state_handle_in a)) f
  fd-fine _ fd is makes f = absurd is

  pub inflight-fine : (c : DeviceCall) (i : Inflight) (fd : ℤ) → Gives (form_in c) (reply.Inflight i fd) a → Follows c → told o ≡ fine
  inflight-fine (call.GetInflightFd area) i fd (h, given, is) f = ap {A = Outcome1} told f ∙ ap {A = Answer} (λ d. told (with_inflight s (inflight_in d))) is
  inflight-fine _ i fd is f = absurd is

  pub shmem-fine : (c : DeviceCall) → GivesShmem (form_in c) a → Follows c → told o ≡ fine
  shmem-fine call.GetShmemConfig (form, is) f = ap {A = Outcome1} told f ∙ ap {A = Answer} (λ d. told (replied_or_silent s Shmem (shmem_in b d))) is
  shmem-fine _ (form, is) f = absurd (cc form)
