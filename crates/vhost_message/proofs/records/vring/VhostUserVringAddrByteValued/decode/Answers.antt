use Rattle.std.proofs.Common.{◌∙◌}
use Rattle.vhost_message.proofs.Numbers.{number_of_rest}
use Rattle.vhost_message.proofs.records.vring.VhostUserVringAddrByteValued.decode.Goals as goal

pub returns-clause-read : goal.returns-clause-read
returns-clause-read c =
    let bytes = c.args.b.now in
    let flags = c.read_u32-2.ensures ∙ number_of_rest 4 4 bytes in
    let descriptor = c.read_u64.ensures ∙ number_of_rest 8 8 bytes in
    let used = c.read_u64-2.ensures ∙ number_of_rest 16 8 bytes in
    let available = c.read_u64-3.ensures ∙ number_of_rest 24 8 bytes in
    let log = c.read_u64-4.ensures ∙ number_of_rest 32 8 bytes in
    λ i. record { index = c.read_u32.ensures i; flags = flags i; descriptor = descriptor i; used = used i; available = available i; log = log i }
