use Rattle.std.proofs.Common.{rules, arith, ◌≡◌, ◌∙◌, sym, subst, ℕ, ◌+◌, ◌*◌, ◌<◌, ◌^◌, List, length, drop, slice_index}
use Rattle.std.proofs.lemmas.List.{get_or-drop}
use Rattle.vhost_message.specs.Text.{number_at}
use Rattle.vhost_message.specs.Records.{numbers_of}
use Rattle.vhost_message.proofs.Numbers.{number_of_rest, rest_is}
use Rattle.vhost_message.proofs.LongRecords.{numbers-at, numbers-fit}
use Rattle.vhost_message.proofs.records.shmem.VhostUserShMemConfigByteValued.decode.Goals as goal

sizes_are : (ns bs rest : List ℕ) → rest ≡ drop 8 bs → length ns ≡ 256 → ((k : ℕ) → k < length ns → slice_index ns k ≡ number_at 0 8 (drop (8 * k) rest)) → ns ≡ numbers_of 256 (drop 8 bs)
sizes_are ns bs rest same count at = numbers-at ns rest at ∙ (λ i. numbers_of (count i) (same i))

fits_so : (ns bs : List ℕ) → ns ≡ numbers_of 256 (drop 8 bs) → ((i : ℕ) → slice_index bs i < 256) → (k : ℕ) → slice_index ns k < 2 ^ 64
fits_so ns bs same small k = subst (λ xs. slice_index xs k < 2 ^ 64) (sym same) (numbers-fit 256 (drop 8 bs) (λ i. rw (get_or-drop 8 bs i 0) (small (8 + i))) k)

pub returns-clause-read : goal.returns-clause-read
returns-clause-read c =
    let bytes = c.args.b.now in
    let count : length c.read_u64_into.new.dst ≡ 256 = search rules in
    let padding = c.read_u32-2.ensures ∙ number_of_rest 4 4 bytes in
    let sizes = sizes_are c.read_u64_into.new.dst bytes _ (rest_is 8 bytes) count c.read_u64_into.ensures in
    λ i. record { nregions = c.read_u32.ensures i; padding = padding i; memory_sizes = sizes i }

pub returns-clause-fits : goal.returns-clause-fits
returns-clause-fits c =
    let bytes = c.args.b.now in
    let count : length c.read_u64_into.new.dst ≡ 256 = search rules in
    let sizes = sizes_are c.read_u64_into.new.dst bytes _ (rest_is 8 bytes) count c.read_u64_into.ensures in
    record { nregions = search rules; padding = search rules; count = count; sizes = fits_so c.read_u64_into.new.dst bytes sizes (λ i. omega (arith, c.type_inv.b i)) }
