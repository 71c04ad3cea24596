-- The bits of a word.
use Rattle.std.specs.Prelude.{ℕ, ◌+◌, ◌*◌, ◌/◌, ◌%◌, ◌^◌, Bool, ◌==◌, if◌then◌else◌}
use Rattle.std.specs.Int.{bit_at}

-- bit k of a word is set
abbrev pub has_bit : ℕ → ℕ → Bool
has_bit word k = bit_at word k == 1

-- the word with its bit k set or cleared, and all other bits as they were
abbrev pub with_bit : ℕ → Bool → ℕ → ℕ
with_bit k on word = word / 2 ^ (k + 1) * 2 ^ (k + 1) + (if on then 2 ^ k else 0) + word % 2 ^ k
