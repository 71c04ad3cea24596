use Rattle.std.proofs.Common.{◌≡◌, ℕ, List, ◌++◌, ap, ◌∙◌, rules, append_assoc, sym}
use Rattle.std.proofs.Output.{has_written_append}
use Rattle.std.proofs.lemmas.Grind.{flat_map-append}
use Rattle.std.specs.List.{flat_map}
use Rattle.std.specs.Slice.Iter.{chunks_rest}
use Rattle.vhost_lines.specs.Numbers.{byte_text}
use Rattle.vhost_lines.proofs.answer_text.lists.show_bytes.Goals as goal

pub loop-chunk-preserved : goal.loop-chunk-preserved
loop-chunk-preserved g c =
    let chunk = c.in-Some.chunk.now in
    let steps = c.in-Some.ensures.steps in
    let shown : flat_map byte_text chunk ++ flat_map byte_text (chunks_rest c.next.new.self) ≡ flat_map byte_text (chunks_rest c.loop-chunk.chunk-iterator) =
    sym (flat_map-append byte_text chunk (chunks_rest c.next.new.self)) ∙ ap (flat_map byte_text) (sym steps.1.0) in (
      search rules,
      tt,
      steps.0 ∙ c.loop-chunk.invariant.2,
      λ plain.
          let so_far = c.loop-chunk.invariant.3 plain in (
            so_far.0 ++ c.digits_of.result.now,
            has_written_append _ _ _ _ _ _ so_far.1 (search rules),
            append_assoc so_far.0 _ _ ∙ ap (λ (t : List ℕ). so_far.0 ++ t) (rw c.digits_of.ensures shown) ∙ so_far.2,
          ),
    )
