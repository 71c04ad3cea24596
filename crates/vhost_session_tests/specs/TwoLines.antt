-- Two lines over the example device, and what they show.
use Rattle.std.specs.Prelude.{ℕ, List, codes}

-- the device is asked for its features, and claimed
abbrev pub two_lines : List ℕ
two_lines = codes "get_features\nset_owner\n"

-- the features are 0x40000003; nothing is replied to the other, and both succeed
abbrev pub two_lines_shown : List ℕ
two_lines_shown = codes "010000000100000000000000 0100000005000000080000000300004000000000 ok 0x40000003\n030000000100000000000000 - ok\n"
