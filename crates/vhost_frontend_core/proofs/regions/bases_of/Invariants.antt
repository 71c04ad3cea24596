use Rattle.std.proofs.Common.{◌≡◌, ◌≤◌, take}
use Rattle.std.specs.Prelude.{vec_len, vec_capacity}
use Rattle.vhost_message.specs.Records.{regions_of}
use Rattle.vhost_protocol.specs.AnswerTable.{are_same_ranges, bases_in}
use Rattle.vhost_frontend_core.proofs.regions.bases_of.Given as goal

-- the regions so far were compared, and their addresses listed
abbrev pub invariant-regions : goal.invariant-regions
invariant-regions l =
    record {
      same : l.same ≡ are_same_ranges (take l.i l.regions.items) (regions_of l.i l.text);
      bases : l.bases.items ≡ bases_in (regions_of l.i l.text);
      len : vec_len l.bases ≡ l.i;
      room : l.count ≤ vec_capacity l.bases;
    }
