use Rattle.std.proofs.Common.{rules, arith, ◌≡◌, ◌∙◌, get_or, take, drop}
use Rattle.vhost_message.specs.Text.{number_at}
use Rattle.vhost_message.proofs.Numbers.{number_of_rest}
use Rattle.vhost_message.proofs.records.shmem.VhostUserMMapByteValued.decode.Goals as goal

pub returns-clause-read : goal.returns-clause-read
returns-clause-read c =
    let bytes = c.args.b.now in
    let shmid : get_or bytes 0 0 ≡ number_at 0 1 bytes = omega arith in
    let padding : c.copy_from_slice.new.self ≡ take 7 (drop 1 bytes) = search rules in
    let fd_offset = c.read_u64.ensures ∙ number_of_rest 8 8 bytes in
    let shm_offset = c.read_u64-2.ensures ∙ number_of_rest 16 8 bytes in
    let len = c.read_u64-3.ensures ∙ number_of_rest 24 8 bytes in
    let flags = c.read_u64-4.ensures ∙ number_of_rest 32 8 bytes in
    λ i. record { shmid = shmid i; padding = padding i; fd_offset = fd_offset i; shm_offset = shm_offset i; len = len i; flags = flags i }
