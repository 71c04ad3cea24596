-- What a caller of a recorder holds.
use Rattle.std.specs.Prelude.{ℕ}
use Rattle.vhost_recorder.specs.declared.share.Share.{Share}

-- how many parts of the ledger
abbrev pub parts_of : {L : Type 0} → Share L → ℕ
parts_of share = share.part.parts

-- how many calls it counts
abbrev pub count_of : {L : Type 0} → Share L → ℕ
count_of share = share.part.amount

-- whose it is
abbrev pub caller_of : {L : Type 0} → Share L → ℕ
caller_of share = share.caller
