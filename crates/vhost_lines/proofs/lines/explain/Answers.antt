-- The word and the reason that were given are those that are shown.
use Rattle.std.proofs.Common.{ℕ, List, ◌++◌, codes, Option, Some, Result, Ok, Err, OnOk}
use Rattle.std.proofs.KnownBytes.{Appends-kept}
use Rattle.std.specs.Fmt.{decimal}
use Rattle.std.specs.Io.KnownBytes.{Appends, Keeps}
use Rattle.vhost_lines.specs.Lines.{Explains}
use Rattle.vhost_lines.proofs.lines.explain.Goals as goal

-- a line that was written, and kept by the flush, names this word and this reason
explains : {A E : Type 0} (result : Result A E) (old written new : Option (List ℕ)) (n word : ℕ) (reason : List ℕ)
    → Appends old written (codes "line " ++ (decimal n ++ (codes ": bad call: word " ++ (decimal word ++ (codes ": " ++ (reason ++ codes "\n")))))) → Keeps written new → OnOk result (Explains old new (Some n))
explains (Ok _) old written new n word reason shown kept = (word, reason, Appends-kept old written new _ shown kept)
explains (Err _) old written new n word reason shown kept = tt

pub returns : goal.returns
returns g c = explains c.flush.result _ _ _ c.args.number c.args.why.0 c.args.why.1.now c.in_ok-writeln.ensures.bytes c.flush.ensures.bytes
