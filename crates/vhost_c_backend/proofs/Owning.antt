-- An error of what follows from a device's answer is the device's, or says that the answer doesn't do.
use Rattle.std.proofs.Common.{◌≡◌, inl, inr, ℕ, Bool, true, false, List, length, Option, Some, None, Result, Ok, Err, refl, subst}
use Rattle.std.specs.Prelude.{⊤, ◌==◌, if◌then◌else◌}
use Rattle.vhost_message.specs.declared.heard_req.HeardReq.{HeardReq}
use Rattle.vhost_message.specs.declared.records.config.VhostUserConfig.{VhostUserConfig}
use Rattle.vhost_message.specs.declared.records.inflight.VhostUserInflight.{VhostUserInflight}
use Rattle.vhost_message.specs.declared.records.memory.VhostUserMemoryRegion.{VhostUserMemoryRegion}
use Rattle.vhost_message.specs.declared.records.memory.VhostUserSingleMemoryRegion.{VhostUserSingleMemoryRegion}
use Rattle.vhost_protocol.specs.Answered.{with_base, with_check, with_config, with_handle, with_inflight, with_state}
use Rattle.vhost_protocol.specs.Error.{Error}
use Rattle.vhost_protocol.specs.Session.{Session}
use Rattle.vhost_protocol.specs.Split.{Message}
use Rattle.vhost_protocol.specs.Step.{Outcome, done, replied_or_silent}
use Rattle.vhost_protocol.specs.Written.{Payload}
use Rattle.vhost_link.specs.declared.plain.PlainHandle.{PlainHandle}
use Rattle.vhost_backend_req_handler_core.specs.Concluding.{Beside, concluded, reported, remembered, wanting, with_counted, done_in, number_in, bases_in, base_in, bytes_in, handle_in, ring_state_in, inflight_in, state_handle_in, shmem_in}
use Rattle.vhost_backend_req_handler_core.specs.declared.answer.DeviceAnswer.{DeviceAnswer}
use Rattle.vhost_backend_req_handler_core.specs.declared.answer.DeviceAnswer.TheVariants as answer
use Rattle.vhost_backend_req_handler_core.specs.declared.answer.Then.{Then}
use Rattle.vhost_backend_req_handler_core.specs.declared.answer.Then.TheVariants as then_
use Rattle.vhost_c_backend.specs.Serving.{IsOwn}

abbrev Answer : Type 0
Answer = DeviceAnswer PlainHandle

-- an error of this result
abbrev Owns : {A : Type 0} → Answer → Result A Error → Type 0
Owns a (Ok v) = ⊤
Owns a (Err e) = IsOwn a e

-- ---- by each kind of an answer

own-done : (a : Answer) → Owns a (done_in a)
own-done (answer.Done (Ok u)) = tt
own-done (answer.Done (Err e)) = inl refl
own-done _ = inr refl

own-number : (a : Answer) → Owns a (number_in a)
own-number (answer.Number (Ok n)) = tt
own-number (answer.Number (Err e)) = inl refl
own-number _ = inr refl

own-bases : (a : Answer) → Owns a (bases_in a)
own-bases (answer.Bases (Ok (Some bases))) = tt
own-bases (answer.Bases (Ok None)) = tt
own-bases (answer.Bases (Err e)) = inl refl
own-bases _ = inr refl

own-base : (a : Answer) → Owns a (base_in a)
own-base (answer.Base (Ok base)) = tt
own-base (answer.Base (Err e)) = inl refl
own-base _ = inr refl

own-ring : (a : Answer) → Owns a (ring_state_in a)
own-ring (answer.RingState (Ok v)) = tt
own-ring (answer.RingState (Err e)) = inl refl
own-ring _ = inr refl

own-inflight : (a : Answer) → Owns a (inflight_in a)
own-inflight (answer.Inflight (Ok v)) = tt
own-inflight (answer.Inflight (Err e)) = inl refl
own-inflight _ = inr refl

own-shmem : (b : Beside) (a : Answer) → Owns a (shmem_in b a)
own-shmem b (answer.Shmem (Ok u)) = tt
own-shmem b (answer.Shmem (Err e)) = inl refl
own-shmem b _ = inr refl

-- ---- by each way to report one

-- of an outcome
abbrev Fine : Answer → Outcome PlainHandle → Type 0
Fine a o = Owns a o.answer

done-owned : {A : Type 0} (a : Answer) (r : Result A Error) → Owns a r → Owns a (done r)
done-owned a (Ok v) own = tt
done-owned a (Err e) own = own

silent-owned : {A : Type 0} (a : Answer) (s : Session) (payload : A → Payload) (r : Result A Error) → Owns a r → Fine a (replied_or_silent s payload r)
silent-owned a s payload (Ok v) own = tt
silent-owned a s payload (Err e) own = own

inflight-owned : (a : Answer) (s : Session) (r : Result (VhostUserInflight × PlainHandle) Error) → Owns a r → Fine a (with_inflight s r)
inflight-owned a s (Ok v) own = tt
inflight-owned a s (Err e) own = own

base-owned : (a : Answer) (s : Session) (m : Message HeardReq PlainHandle) (region : VhostUserSingleMemoryRegion) (r : Result (Option ℕ) Error) → Owns a r → Fine a (with_base s m region r)
base-owned a s m region (Ok (Some base)) own = tt
base-owned a s m region (Ok None) own = inr refl
base-owned a s m region (Err e) own = own

either : (a : Answer) (b : Bool) (x y : Outcome PlainHandle) → Fine a x → Fine a y → Fine a (if b then x else y)
either a true x y p q = p
either a false x y p q = q

bases-owned : (a : Answer) (s : Session) (m : Message HeardReq PlainHandle) (regions : List VhostUserMemoryRegion) (n : ℕ) (r : Result (Option (List ℕ)) Error) → Owns a r → Fine a (with_counted s m regions n r)
bases-owned a s m regions n (Ok (Some bases)) own = either a (length bases == n) _ _ tt (inr refl)
bases-owned a s m regions n (Ok None) own = inr refl
bases-owned a s m regions n (Err e) own = own

config-owned : (a : Answer) (s : Session) (c : VhostUserConfig) (r : Result (List ℕ) Error) → Fine a (with_config s c r)
config-owned a s c (Ok bytes) = either a (length bytes == c.size) _ _ tt tt
config-owned a s c (Err e) = tt

handle-owned : (a : Answer) (s : Session) (r : Result PlainHandle Error) → Fine a (with_handle s r)
handle-owned a s (Ok h) = tt
handle-owned a s (Err e) = tt

state-owned : (a : Answer) (s : Session) (r : Result (Option PlainHandle) Error) → Fine a (with_state s r)
state-owned a s (Ok (Some h)) = tt
state-owned a s (Ok None) = tt
state-owned a s (Err e) = tt

check-owned : (a : Answer) (s : Session) (r : Result ⊤ Error) → Fine a (with_check s r)
check-owned a s (Ok u) = tt
check-owned a s (Err e) = tt

reported-owned : (s : Session) (need : Bool) (b : Beside) (t : Then) (a : Answer) → Fine a (reported s need b t a)
reported-owned s need b then_.Ack a = done-owned a (done_in a) (own-done a)
reported-owned s need b then_.AckTable a = done-owned a (bases_in a) (own-bases a)
reported-owned s need b then_.AckRegion a = done-owned a (base_in a) (own-base a)
reported-owned s need b (then_.AckFeatures n) a = done-owned a (done_in a) (own-done a)
reported-owned s need b (then_.AckProtocolFeatures n) a = done-owned a (done_in a) (own-done a)
reported-owned s need b then_.AckListen a = done-owned a (done_in a) (own-done a)
reported-owned s need b then_.AckEnd a = done-owned a (done_in a) (own-done a)
reported-owned s need b then_.Offers a = silent-owned a s _ (number_in a) (own-number a)
reported-owned s need b then_.OffersProtocol a = silent-owned a s _ (number_in a) (own-number a)
reported-owned s need b then_.Number a = silent-owned a s _ (number_in a) (own-number a)
reported-owned s need b then_.RingState a = silent-owned a s _ (ring_state_in a) (own-ring a)
reported-owned s need b (then_.Config area) a = config-owned a s area.config (bytes_in a)
reported-owned s need b then_.Handle a = handle-owned a s (handle_in a)
reported-owned s need b then_.HandleAdvise a = handle-owned a s (handle_in a)
reported-owned s need b then_.Inflight a = inflight-owned a s (inflight_in a) (own-inflight a)
reported-owned s need b then_.StateHandle a = state-owned a s (state_handle_in a)
reported-owned s need b then_.Check a = check-owned a s (done_in a)
reported-owned s need b then_.Shmem a = silent-owned a s _ (shmem_in b a) (own-shmem b a)
reported-owned s need b (then_.Log l) a = silent-owned a s _ (done_in a) (own-done a)
reported-owned s need b (then_.Base r) a = base-owned a s (wanting need) r (base_in a) (own-base a)
reported-owned s need b (then_.Bases n) a = bases-owned a s (wanting need) b.regions n (bases_in a) (own-bases a)
reported-owned s need b then_.Unwritten a = done-owned a (done_in a) (own-done a)

of : (a : Answer) (r : Result ⊤ Error) (e : Error) → r ≡ Err e → Owns a r → IsOwn a e
of a (Ok u) e is own = absurd (cc is)
of a (Err x) e is own = subst (λ y. IsOwn a y) (let same : x ≡ e = cc is in same) own

pub owns : (s : Session) (need : Bool) (b : Beside) (t : Then) (a : Answer) (e : Error) → (concluded s need b t a).answer ≡ Err e → IsOwn a e
owns s need b t a e is = of a (concluded s need b t a).answer e is (reported-owned (remembered s t a) need b t a)
