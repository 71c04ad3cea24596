use Rattle.std.proofs.Common.{◌≡◌, ℕ, List, ◌++◌, length, take, drop, arith, sym, subst}
use Rattle.std.proofs.lemmas.Grind.{common_steps}
use Rattle.vhost_gpu_message.specs.Replies.{edid_of, edid_text}
use Rattle.vhost_protocol.specs.Gpu.{TheEdid}
use Rattle.vhost_c_common.specs.ByNumber.{By}
use Rattle.vhost_c_channel.specs.Display.{TakesTo}
use Rattle.vhost_c.proofs.program_display.take_edid.Goals as goal

pub returns : goal.returns
returns c =
    let x = c.covretin_display_take_edid-number in
    let after : take c.args.places.bytes.len (x.new.place ++ drop (length x.new.place) c.args.places.bytes.items) ≡ x.new.place = grind (arith, common_steps) in
    subst (λ (xs : List ℕ). By (λ s o s'. TakesTo TheEdid edid_of edid_text c.args.places.bytes.items xs s s' o) c.args.display.now.session x.result x.new.display.session) (sym after)
    (subst (λ (xs : List ℕ). By (λ s o s'. TakesTo TheEdid edid_of edid_text xs x.new.place s s' o) c.args.display.now.session x.result x.new.display.session) c.deref_mut.ensures.value x.ensures.does)
