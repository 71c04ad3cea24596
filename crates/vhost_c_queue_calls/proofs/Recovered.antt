-- What a recovery finds: a mark for each entry, or that the region is not that of the queue.
use Rattle.std.proofs.Common.{◌≡◌, ◌≢◌, ◌<◌, ◌⊎◌, ℕ, inl, inr, ap, zero, suc, Bool, true, false, ◌||◌, List, length, set, Result, Ok, Err, refl, sym, subst, ◌∙◌, nat_lt, nat_le, length-set}
use Rattle.std.proofs.lemmas.List.{length-replicate}
use Rattle.std.specs.Prelude.{MatchResult, replicate}
use Rattle.vhost_queue.specs.Inflight.{entry_of, marked, pending, settled}
use Rattle.vhost_queue.specs.Notification.{moved}
use Rattle.vhost_queue.specs.PackedInflight.{free_in, freed}
use Rattle.vhost_queue.specs.declared.error.Error.{Error}
use Rattle.vhost_queue.specs.declared.error.Error.TheVariants.{InvalidInflight, OutOfMemory}
use Rattle.vhost_queue.specs.declared.inflight.InflightEntry.{InflightEntry}
use Rattle.vhost_queue.specs.declared.inflight.Resubmit.{Resubmit}
use Rattle.vhost_queue.specs.declared.packed_inflight.PackedInflightHead.{PackedInflightHead}
use Rattle.vhost_c_queue.specs.Number.{error_number}
use Rattle.vhost_c_queue_calls.specs.Recovering.{RefusesRecovery}

abbrev pub Finds : ℕ → Result (List Bool) Error → Type 0
Finds n r = MatchResult r (λ marks. length marks ≡ n) (λ e. e ≡ InvalidInflight)

marked-finds : (es : List InflightEntry) (n k head : ℕ) (marks : List Bool) → length marks ≡ n → Finds n (marked es k head marks)
marked-finds es n zero head marks len = len
marked-finds es n (suc k) head marks len =
    let split : (b : Bool) → nat_lt head (length es) ≡ b → Finds n (marked es (suc k) head marks)
    = λ b. elim b as (λ b. nat_lt head (length es) ≡ b → Finds n (marked es (suc k) head marks)) [
      | true ↦ λ e. rw e (marked-finds es n k (entry_of es head).next (set marks head true) (length-set marks head true ∙ len))
      | false ↦ λ e. rw e refl
    ]
    in split (nat_lt head (length es)) refl

freed-finds : (es : List InflightEntry) (n k i : ℕ) (marks : List Bool) → length marks ≡ n → Finds n (freed es k i marks)
freed-finds es n zero i marks len =
    let split : (b : Bool) → nat_lt i (length es) ≡ b → Finds n (freed es zero i marks)
    = λ b. elim b as (λ b. nat_lt i (length es) ≡ b → Finds n (freed es zero i marks)) [
      | true ↦ λ e. rw e refl
      | false ↦ λ e. rw e len
    ]
    in split (nat_lt i (length es)) refl
freed-finds es n (suc k) i marks len =
    let split : (b : Bool) → nat_lt i (length es) ≡ b → Finds n (freed es (suc k) i marks)
    = λ b. elim b as (λ b. nat_lt i (length es) ≡ b → Finds n (freed es (suc k) i marks)) [
      | true ↦ λ e. rw e (freed-finds es n k (entry_of es i).next (set marks i true) (length-set marks i true ∙ len))
      | false ↦ λ e. rw e len
    ]
    in split (nat_lt i (length es)) refl

pub settled-finds : (es : List InflightEntry) (last used ring : ℕ) → Finds (length es) (settled es last used ring)
settled-finds es last used ring =
    let split : (b : Bool) → (nat_lt 32768 (length es) || nat_lt (length es) (moved used ring)) ≡ b → Finds (length es) (settled es last used ring)
    = λ b. elim b as (λ b. (nat_lt 32768 (length es) || nat_lt (length es) (moved used ring)) ≡ b → Finds (length es) (settled es last used ring)) [
      | true ↦ λ e. rw e refl
      | false ↦ λ e. rw e (marked-finds es (length es) (moved used ring) last (replicate (length es) false) (length-replicate (length es) false))
    ]
    in split (nat_lt 32768 (length es) || nat_lt (length es) (moved used ring)) refl

pub free_in-finds : (es : List InflightEntry) (head : PackedInflightHead) → Finds (length es) (free_in es head)
free_in-finds es head =
    let split : (b : Bool) → (nat_lt 32768 (length es) || nat_le (length es) head.used_idx) ≡ b → Finds (length es) (free_in es head)
    = λ b. elim b as (λ b. (nat_lt 32768 (length es) || nat_le (length es) head.used_idx) ≡ b → Finds (length es) (free_in es head)) [
      | true ↦ λ e. rw e refl
      | false ↦ λ e. rw e (freed-finds es (length es) (length es) head.free_head (replicate (length es) false) (length-replicate (length es) false))
    ]
    in split (nat_lt 32768 (length es) || nat_le (length es) head.used_idx) refl

module _ (es : List InflightEntry) (r : Result (List Bool) Error) (finds : Finds (length es) r) (marks : List Bool) (again : List Resubmit) (n : ℕ) where
  -- it found marks, and there is no room for them, or for what is to be taken again
  pub lacking : (found : List Bool) → r ≡ Ok found → n ≡ 105 → (length marks ≢ length found) ⊎ (length again < length (pending es found 0)) → RefusesRecovery es r marks again n
  lacking found is told (inl other) = let len : length found ≡ length es = subst (Finds (length es)) is finds in inr (inl (told, found, is, inl (λ same. other (same ∙ sym len))))
  lacking found is told (inr few) = inr (inl (told, found, is, inr few))

  -- it found none, or memory was refused
  pub refused : (e : Error) → n ≡ error_number e → (e ≡ OutOfMemory) ⊎ (r ≡ Err e) → RefusesRecovery es r marks again n
  refused e told (inl out) = inr (inr (told ∙ ap error_number out))
  refused e told (inr is) = let why : e ≡ InvalidInflight = subst (Finds (length es)) is finds in inl (told ∙ ap error_number why, is ∙ ap Err why)
