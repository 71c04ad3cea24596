-- What is read of the answer that was taken last.
use Rattle.std.specs.Prelude.{◌≡◌, ◌<◌, ℕ, ℤ, negsuc, List, [], ◌∷◌, ◌++◌, length, drop, Option, Some, None, Result, Ok, Err, ⊤}
use Rattle.vhost_message.specs.declared.records.config.VhostUserConfig.{VhostUserConfig}
use Rattle.vhost_message.specs.declared.records.inflight.VhostUserInflight.{VhostUserInflight}
use Rattle.vhost_message.specs.declared.records.shmem.VhostUserShMemConfig.{VhostUserShMemConfig}
use Rattle.vhost_frontend_core.specs.declared.values.answer.FrontendAnswer.{FrontendAnswer}
use Rattle.vhost_frontend_core.specs.declared.values.answer.FrontendAnswer.TheVariants as answer
use Rattle.vhost_c_common.specs.Records.{fd_in, config_in, inflight_in}
use Rattle.vhost_c_common.specs.declared.records.Config.{Config}
use Rattle.vhost_c_common.specs.declared.records.Inflight.{Inflight}
use Rattle.vhost_c_common.specs.declared.refusal.Refusal.{Refusal}
use Rattle.vhost_c_common.specs.declared.refusal.Refusal.TheVariants.{NoRoom, OtherAnswer}

-- a number, or features
abbrev pub number_of : FrontendAnswer → Option ℕ
number_of (answer.Number n) = Some n
number_of _ = None

-- where regions are mapped: no place where the device does not listen for page faults
abbrev pub bases_of : FrontendAnswer → Option (List ℕ)
bases_of (answer.Bases None) = Some []
bases_of (answer.Bases (Some bases)) = Some bases.items
bases_of (answer.Base None) = Some []
bases_of (answer.Base (Some base)) = Some (base ∷ [])
bases_of _ = None

-- a part of the configuration space, and its bytes
abbrev pub config_of : FrontendAnswer → Option (VhostUserConfig × List ℕ)
config_of (answer.Config part bytes) = Some (part, bytes.items)
config_of _ = None

-- a descriptor, or -1 where the call may do without
abbrev pub fd_of : FrontendAnswer → Option ℤ
fd_of (answer.Handle h) = Some (fd_in h)
fd_of (answer.StateHandle (Some h)) = Some (fd_in h)
fd_of (answer.StateHandle None) = Some (negsuc 0)
fd_of _ = None

-- the buffer for descriptors in flight, and the descriptor that maps it
abbrev pub inflight_of : FrontendAnswer → Option (VhostUserInflight × ℤ)
inflight_of (answer.Inflight area h) = Some (area, fd_in h)
inflight_of _ = None

-- the regions of shared memory
abbrev pub shmem_of : FrontendAnswer → Option VhostUserShMemConfig
shmem_of (answer.ShmemConfig place) = Some place.value
shmem_of _ = None

-- a place that held this before holds a list at its front, and else what it held
abbrev pub IsPut : {A : Type 0} → List A → List A → List A → Type 0
IsPut list before place = place ≡ list ++ drop (length list) before

-- the same, and how long it is, where there is room
abbrev pub Puts : {A : Type 0} → List A → List A → List A → ℕ → Result ⊤ Refusal → Type 0
Puts list before place count (Ok done) = IsPut list before place × (count ≡ length list)
Puts list before place count (Err r) = (r ≡ NoRoom) × (length before < length list)

-- An answer is read: where it has the form, its parts are at their places; or it has it, and there is no room for them; or it has another form.
abbrev pub Reads : {A : Type 0} → (A → Type 0) → (A → Type 0) → Option A → Result ⊤ Refusal → Type 0
Reads holds lacks (Some a) (Ok done) = holds a
Reads holds lacks (Some a) (Err r) = (r ≡ NoRoom) × lacks a
Reads holds lacks None (Ok done) = ⊥
Reads holds lacks None (Err r) = r ≡ OtherAnswer

-- the same of parts for which there always is room
abbrev pub ReadsPlain : {A : Type 0} → (A → Type 0) → Option A → Result ⊤ Refusal → Type 0
ReadsPlain holds = Reads holds (λ a. ⊥)

-- a number is at its place
abbrev pub ReadsNumber : ℕ → FrontendAnswer → Result ⊤ Refusal → Type 0
ReadsNumber number a = ReadsPlain (λ n. number ≡ n) (number_of a)

-- they are at the front of their place, and their count is how many there are
abbrev pub ReadsBases : List ℕ → List ℕ → ℕ → FrontendAnswer → Result ⊤ Refusal → Type 0
ReadsBases before place count a = Reads (λ bases. IsPut bases before place × (count ≡ length bases)) (λ bases. length before < length bases) (bases_of a)

-- its bytes are at the front of their place, and their count is how many there are
abbrev pub ReadsConfig : Config → List ℕ → List ℕ → ℕ → FrontendAnswer → Result ⊤ Refusal → Type 0
ReadsConfig config before place count a = Reads (λ c. (config_in config ≡ c.0) × IsPut c.1 before place × (count ≡ length c.1)) (λ c. length before < length c.1) (config_of a)

-- a descriptor is at its place
abbrev pub ReadsFd : ℤ → FrontendAnswer → Result ⊤ Refusal → Type 0
ReadsFd fd a = ReadsPlain (λ is. fd ≡ is) (fd_of a)

-- both are at their places
abbrev pub ReadsInflight : Inflight → ℤ → FrontendAnswer → Result ⊤ Refusal → Type 0
ReadsInflight inflight fd a = ReadsPlain (λ b. (inflight_in inflight ≡ b.0) × (fd ≡ b.1)) (inflight_of a)

-- the sizes of as many regions as there may be are at the front of their place, and their count is how many regions there are
abbrev pub ReadsShmem : List ℕ → List ℕ → ℕ → FrontendAnswer → Result ⊤ Refusal → Type 0
ReadsShmem before place count a = Reads (λ c. IsPut c.memory_sizes before place × (count ≡ c.nregions)) (λ c. length before < length c.memory_sizes) (shmem_of a)
