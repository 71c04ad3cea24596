-- Lists of another length than a call takes: they ask for no call.
use Rattle.std.proofs.Common.{◌≡◌, ℕ, ◌<◌, List, [], ◌∷◌, length, Option, None, refl, sym, arith}
use Rattle.std.specs.Borrow.{Bor}
use Rattle.vhost_lines.specs.Calls.{set_log_base, set_vring_addr, get_inflight_fd, set_inflight_fd, only_region, set_device_state_fd, get_config, set_config}
use Rattle.vhost_lines.specs.Read.{texts}
use Rattle.vhost_lines.specs.Shapes.{one, two}

abbrev Words : Type 0
Words = List (Bor (List ℕ))

one-other : {A C : Type 0} (first : List ℕ → Option A) (call : A → C) (ws : Words) → (length ws ≡ 1 → ⊥) → one first call (texts ws) ≡ None
one-other first call [] other = refl
one-other first call (a ∷ []) other = absurd (other refl)
one-other first call (a ∷ b ∷ ws) other = refl

two-other : {A B C : Type 0} (first : List ℕ → Option A) (second : List ℕ → Option B) (call : A → B → C) (ws : Words) → (length ws ≡ 2 → ⊥) → two first second call (texts ws) ≡ None
two-other first second call [] other = refl
two-other first second call (a ∷ []) other = refl
two-other first second call (a ∷ b ∷ []) other = absurd (other refl)
two-other first second call (a ∷ b ∷ d ∷ ws) other = refl

pub not_one : {A C : Type 0} (first : List ℕ → Option A) (call : A → C) (ws : Words) → (length ws ≡ 1 → ⊥) → None ≡ one first call (texts ws)
not_one first call ws other = sym (one-other first call ws other)

pub not_two : {A B C : Type 0} (first : List ℕ → Option A) (second : List ℕ → Option B) (call : A → B → C) (ws : Words) → (length ws ≡ 2 → ⊥) → None ≡ two first second call (texts ws)
not_two first second call ws other = sym (two-other first second call ws other)

pub set_log_base-other : (ws : Words) → (length ws ≡ 1 → ⊥) → (length ws ≡ 4 → ⊥) → set_log_base (texts ws) ≡ None
set_log_base-other [] other other1 = refl
set_log_base-other (a ∷ []) other other1 = absurd (other refl)
set_log_base-other (a ∷ b ∷ []) other other1 = refl
set_log_base-other (a ∷ b ∷ c ∷ []) other other1 = refl
set_log_base-other (a ∷ b ∷ c ∷ d ∷ []) other other1 = absurd (other1 refl)
set_log_base-other (a ∷ b ∷ c ∷ d ∷ e ∷ ws) other other1 = refl

pub set_device_state_fd-other : (ws : Words) → (length ws ≡ 3 → ⊥) → set_device_state_fd (texts ws) ≡ None
set_device_state_fd-other [] other = refl
set_device_state_fd-other (a ∷ []) other = refl
set_device_state_fd-other (a ∷ b ∷ []) other = refl
set_device_state_fd-other (a ∷ b ∷ c ∷ []) other = absurd (other refl)
set_device_state_fd-other (a ∷ b ∷ c ∷ d ∷ ws) other = refl

pub get_config-other : (ws : Words) → (length ws ≡ 3 → ⊥) → get_config (texts ws) ≡ None
get_config-other [] other = refl
get_config-other (a ∷ []) other = refl
get_config-other (a ∷ b ∷ []) other = refl
get_config-other (a ∷ b ∷ c ∷ []) other = absurd (other refl)
get_config-other (a ∷ b ∷ c ∷ d ∷ ws) other = refl

pub set_config-other : (ws : Words) → (length ws ≡ 3 → ⊥) → set_config (texts ws) ≡ None
set_config-other [] other = refl
set_config-other (a ∷ []) other = refl
set_config-other (a ∷ b ∷ []) other = refl
set_config-other (a ∷ b ∷ c ∷ []) other = absurd (other refl)
set_config-other (a ∷ b ∷ c ∷ d ∷ ws) other = refl

pub get_inflight_fd-other : (ws : Words) → (length ws ≡ 4 → ⊥) → get_inflight_fd (texts ws) ≡ None
get_inflight_fd-other [] other = refl
get_inflight_fd-other (a ∷ []) other = refl
get_inflight_fd-other (a ∷ b ∷ []) other = refl
get_inflight_fd-other (a ∷ b ∷ c ∷ []) other = refl
get_inflight_fd-other (a ∷ b ∷ c ∷ d ∷ []) other = absurd (other refl)
get_inflight_fd-other (a ∷ b ∷ c ∷ d ∷ e ∷ ws) other = refl

pub set_inflight_fd-other : (ws : Words) → (length ws ≡ 5 → ⊥) → set_inflight_fd (texts ws) ≡ None
set_inflight_fd-other [] other = refl
set_inflight_fd-other (a ∷ []) other = refl
set_inflight_fd-other (a ∷ b ∷ []) other = refl
set_inflight_fd-other (a ∷ b ∷ c ∷ []) other = refl
set_inflight_fd-other (a ∷ b ∷ c ∷ d ∷ []) other = refl
set_inflight_fd-other (a ∷ b ∷ c ∷ d ∷ e ∷ []) other = absurd (other refl)
set_inflight_fd-other (a ∷ b ∷ c ∷ d ∷ e ∷ f ∷ ws) other = refl

pub only_region-other : (ws : Words) → (length ws ≡ 5 → ⊥) → only_region (texts ws) ≡ None
only_region-other [] other = refl
only_region-other (a ∷ []) other = refl
only_region-other (a ∷ b ∷ []) other = refl
only_region-other (a ∷ b ∷ c ∷ []) other = refl
only_region-other (a ∷ b ∷ c ∷ d ∷ []) other = refl
only_region-other (a ∷ b ∷ c ∷ d ∷ e ∷ []) other = absurd (other refl)
only_region-other (a ∷ b ∷ c ∷ d ∷ e ∷ f ∷ ws) other = refl

pub set_vring_addr-other : (ws : Words) → length ws < 5 → set_vring_addr (texts ws) ≡ None
set_vring_addr-other [] few = refl
set_vring_addr-other (a ∷ []) few = refl
set_vring_addr-other (a ∷ b ∷ []) few = refl
set_vring_addr-other (a ∷ b ∷ c ∷ []) few = refl
set_vring_addr-other (a ∷ b ∷ c ∷ d ∷ []) few = refl
set_vring_addr-other (a ∷ b ∷ c ∷ d ∷ e ∷ ws) few = absurd (omega arith)
