use Rattle.std.proofs.Common.{arith, ◌≡◌, ◌+◌, ◌-◌, ◌<◌, take, drop, min, length, ap, ◌∙◌, length-drop}
use Rattle.vhost_c_common.specs.declared.incoming.Incoming.{Incoming}
use Rattle.vhost_c_common.proofs.Heads.{was_whole, adds}
use Rattle.vhost_c_common.proofs.incoming.Incoming.add.Goals as goal
use Rattle.vhost_c_common.proofs.incoming.Incoming.add.Goals.{then-self-lt-MSG_HEADER_SIZE, else-self-lt-MSG_HEADER_SIZE}

pub returns : goal.returns
returns c =
    let whole : length c.args.self.now.head ≡ 12 = omega arith in
    elim c.if-self-lt-MSG_HEADER_SIZE.branch [
      | then-self-lt-MSG_HEADER_SIZE w ↦ record {
        count = c.saturating_add-self.ensures ∙ ap {A = Incoming} (λ i. min (i.count + length c.args.bytes.now) 18446744073709551615) w.self-is;
        head = ap {A = Incoming} (λ i. take (c.args.self.now.count + length c.args.bytes.now) i.head) w.self-is
            ∙ (let lt : c.args.self.now.count < 12 = omega arith in let n = w.min-more.result in
            let left : length (drop (c.args.self.now.count + n - c.args.self.now.count) (drop c.args.self.now.count c.args.self.now.head)) ≡ 12 - (c.args.self.now.count + n) = simp length-drop (omega arith) in
            adds 12 c.args.self.now.count c.args.self.now.head c.args.bytes.now whole n w.copy_from_slice.new.self _ lt w.min-more.ensures w.copy_from_slice.ensures.after left);
      }
      | else-self-lt-MSG_HEADER_SIZE w ↦ record {
        count = c.saturating_add-self.ensures ∙ ap {A = Incoming} (λ i. min (i.count + length c.args.bytes.now) 18446744073709551615) w.self-is;
        head = ap {A = Incoming} (λ i. take (c.args.self.now.count + length c.args.bytes.now) i.head) w.self-is ∙ was_whole 12 c.args.self.now.count c.args.self.now.head c.args.bytes.now whole w.if-self-lt-MSG_HEADER_SIZE.false;
      }
    ]
