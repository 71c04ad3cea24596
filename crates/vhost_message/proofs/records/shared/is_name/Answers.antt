use Rattle.std.proofs.Common.{rules, ◌≡◌, ℕ, List, length, not, ◌&&◌, ◌==◌, true, ap, sym, ◌∙◌}
use Rattle.std.proofs.Math.ListN.{replicate}
use Rattle.std.specs.List.{list_all}
use Rattle.std.specs.Str.{bytes_eq}
use Rattle.vhost_message.proofs.LongRecords.{all_same}
use Rattle.vhost_message.proofs.records.shared.is_name.Goals as goal

-- sixteen bytes are all b exactly where they equal sixteen times b
sixteen : (b : ℕ) (bytes : List ℕ) → length bytes ≡ 16 → list_all (λ x. x == b) bytes ≡ bytes_eq bytes (replicate 16 b)
sixteen b bytes count = sym (all_same b bytes) ∙ ap (λ n. bytes_eq bytes (replicate n b)) count

pub returns-then-not-is_nil : goal.returns-then-not-is_nil
returns-then-not-is_nil c =
    let bytes = c.args.bytes.now in
    let count : length bytes ≡ 16 = search rules in
    let nil : list_all (λ x. x == 0) bytes ≡ c.is_nil.result = sixteen 0 bytes count ∙ search rules in
    let max : list_all (λ x. x == 255) bytes ≡ c.is_max.result = sixteen 255 bytes count ∙ search rules in
    let other : not c.is_nil.result ≡ true = search rules in
    sym ((λ i. not (nil i) && not (max i)) ∙ ap (λ x. x && not c.is_max.result) other)
