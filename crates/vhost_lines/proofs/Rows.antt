-- Worked examples, which hold by computing.
use Rattle.std.proofs.Common.{◌≡◌, true, false, [], ◌∷◌, Some, None, refl, codes}
use Rattle.std.specs.Str.{is_utf8, chars}
use lib.Utf8.{encode}
use Rattle.vhost_lines.specs.Lines.{lines, bad_line}
use Rattle.vhost_lines.specs.Shown.{good_lines}

pub lines-three : lines (codes "a\n\nb") ≡ codes "a" ∷ [] ∷ codes "b" ∷ []
lines-three = refl

pub lines-ended : lines (codes "a\n\n") ≡ codes "a" ∷ [] ∷ []
lines-ended = refl

pub bad_line-third : bad_line false 1 (lines (codes "get_features\nset_vring_num 1 256\nnonsense\n")) ≡ Some 3
unfolding is_utf8 chars encode
bad_line-third = refl

pub bad_line-none : bad_line false 1 (lines (codes "get_features\nset_features 0x40000000")) ≡ None
unfolding is_utf8 chars encode
bad_line-none = refl

-- an empty line and a comment are no calls

pub bad_line-empty : bad_line false 1 (lines (codes "get_features\n\n")) ≡ Some 2
unfolding is_utf8 chars encode
bad_line-empty = refl

pub bad_line-comment : bad_line false 1 (lines (codes "# features\nget_features\n")) ≡ Some 1
unfolding is_utf8 chars encode
bad_line-comment = refl

pub good_lines-comment : good_lines false (lines (codes "get_features\n#\nget_features\n")) ≡ codes "get_features" ∷ []
unfolding is_utf8 chars encode
good_lines-comment = refl

-- where there may be comments, they are passed over

pub bad_line-passed_over : bad_line true 1 (lines (codes "# features\n\nget_features\n#\nnonsense\n")) ≡ Some 5
unfolding is_utf8 chars encode
bad_line-passed_over = refl

pub good_lines-passed_over : good_lines true (lines (codes "get_features\n#\n\nset_owner\n")) ≡ codes "get_features" ∷ codes "set_owner" ∷ []
unfolding is_utf8 chars encode
good_lines-passed_over = refl
