-- One more piece is there, or another is.
use Rattle.std.proofs.Common.{◌≡◌, ◌<◌, ◌≤◌, ◌+◌, ◌++◌, ℕ, List, length, map, min, take, refl, sym, ap, subst, ◌∙◌, arith}
use Rattle.std.proofs.lemmas.List.{length-take-le}
use Rattle.vhost_protocol.specs.Stream.{carrying, first_handles}
use Rattle.vhost_message.specs.declared.limits.TheConstants.{MAX_ATTACHED_FD_ENTRIES}
use Rattle.vhost_c_common.specs.Records.{fd_in}
use Rattle.vhost_c_common.specs.View.{View, Hands}
use Rattle.vhost_c_backend.specs.Served.{queued, view}
use Rattle.vhost_c_joined.proofs.Pieces.{take-capped, take-within}
use Rattle.vhost_c_joined.proofs.Written.{all-named, brings-differs, none-behind, one-more, other-differs, over-all, over-right, some-of}
use Rattle.vhost_c_joined.proofs.judged.writes.Goals as goal

-- nothing but what is to be sent changed
handed-on : {R : Type 0} (a b d : View R) → Hands a b → Hands b d → Hands a d
handed-on a b d x y = record { came = y.came ∙ x.came; incoming = y.incoming ∙ x.incoming; end = y.end ∙ x.end; rest = y.rest ∙ x.rest }

pub returns-then-count-eq0 : goal.returns-then-count-eq0
returns-then-count-eq0 c =
    let none = c.in-Ok.ensures.out.end c.if-count-eq0.true in
    record {
      right = λ is.
          let over = c.is_over.ensures.over is in (
            over-right c.args.text.now c.args.fds.now (queued c.args.judge.now) c.pieces.at c.pieces.invariant.within (queued c.pieces.judge) c.pieces.invariant.left c.pieces.invariant.named none over.0 over.1,
            none-behind (carrying c.in-Ok.ensures.out.handles (take c.in-Ok.count c.hand_out.new.bytes)) (queued c.hand_out.new.self) (sym c.in-Ok.ensures.out.piece ∙ none),
          );
      differs = λ is m.
          let all = over-all c.args.text.now c.args.fds.now (queued c.args.judge.now) c.pieces.at c.pieces.invariant.within (queued c.pieces.judge) c.pieces.invariant.left c.pieces.invariant.named none m in
          c.is_over.ensures.more is all.0 all.1;
      hands = handed-on (view c.args.judge.now) (view c.pieces.judge) (view c.hand_out.new.self) c.pieces.invariant.hands c.hand_out.ensures.rest;
    }

pub returns-then-not-are_due : goal.returns-then-not-are_due
returns-then-not-are_due c =
    let some : 0 < length c.hand_out.new.bytes = omega (arith, c.hand_out.auto.bytes) in
    let moved : 0 < c.in-Ok.count = omega (arith, c.if-count-eq0.false) in
    let numbers : take c.min-fd_count.result c.hand_out.new.fds ≡ map fd_in c.in-Ok.ensures.out.handles = take-within _ _ MAX_ATTACHED_FD_ENTRIES c.hand_out.new.fds c.min-fd_count.ensures (omega (arith, c.hand_out.auto.fds)) ∙ c.in-Ok.ensures.out.fds_at in
    record {
      right = λ is. absurd (cc is);
      differs = λ is. brings-differs c.args.text.now c.args.fds.now (queued c.args.judge.now) c.pieces.at c.pieces.invariant.within (queued c.pieces.judge) c.pieces.invariant.left c.pieces.invariant.named c.in-Ok.ensures.out.handles (take c.in-Ok.count c.hand_out.new.bytes) (queued c.hand_out.new.self)
          (some-of c.in-Ok.count c.hand_out.new.bytes moved some) c.in-Ok.ensures.out.piece (take c.min-fd_count.result c.hand_out.new.fds) numbers (c.if-not-are_due.ensures.other refl);
      hands = handed-on (view c.args.judge.now) (view c.pieces.judge) (view c.hand_out.new.self) c.pieces.invariant.hands c.hand_out.ensures.rest;
    }

pub returns-then-not-is_at : goal.returns-then-not-is_at
returns-then-not-is_at c =
    let some : 0 < length c.hand_out.new.bytes = omega (arith, c.hand_out.auto.bytes) in
    let moved : 0 < c.in-Ok.count = omega (arith, c.if-count-eq0.false) in
    let long-bytes : length c.hand_out.new.bytes ≡ 4108 = omega (arith, c.hand_out.auto.bytes) in
    let same : take c.min-count.result c.hand_out.new.bytes ≡ take c.in-Ok.count c.hand_out.new.bytes = take-capped _ _ c.hand_out.new.bytes (c.min-count.ensures ∙ ap (λ n. min c.in-Ok.count n) (sym long-bytes)) in
    record {
      right = λ is. absurd (cc is);
      differs = λ is. other-differs c.args.text.now c.args.fds.now (queued c.args.judge.now) c.pieces.at c.pieces.invariant.within (queued c.pieces.judge) c.pieces.invariant.left c.pieces.invariant.named c.in-Ok.ensures.out.handles (take c.min-count.result c.hand_out.new.bytes) (queued c.hand_out.new.self)
          (subst (λ (xs : List ℕ). 0 < length xs) (sym same) (some-of c.in-Ok.count c.hand_out.new.bytes moved some)) (c.in-Ok.ensures.out.piece ∙ ap (λ xs. carrying c.in-Ok.ensures.out.handles xs ++ queued c.hand_out.new.self) (sym same)) (c.if-not-is_at.ensures.not_there refl);
      hands = handed-on (view c.args.judge.now) (view c.pieces.judge) (view c.hand_out.new.self) c.pieces.invariant.hands c.hand_out.ensures.rest;
    }

pub pieces-preserved : goal.pieces-preserved
pieces-preserved c =
    let some : 0 < length c.hand_out.new.bytes = omega (arith, c.hand_out.auto.bytes) in
    let moved : 0 < c.in-Ok.count = omega (arith, c.if-count-eq0.false) in
    let long-bytes : length c.hand_out.new.bytes ≡ 4108 = omega (arith, c.hand_out.auto.bytes) in
    let same : take c.min-count.result c.hand_out.new.bytes ≡ take c.in-Ok.count c.hand_out.new.bytes = take-capped _ _ c.hand_out.new.bytes (c.min-count.ensures ∙ ap (λ n. min c.in-Ok.count n) (sym long-bytes)) in
    let long : length (take c.min-count.result c.hand_out.new.bytes) ≡ c.min-count.result = length-take-le c.min-count.result c.hand_out.new.bytes (let k : c.min-count.result ≡ min c.in-Ok.count (length c.hand_out.new.bytes) = c.min-count.ensures ∙ ap (λ n. min c.in-Ok.count n) (sym long-bytes) in omega (arith, k)) in
    let there = c.if-not-is_at.ensures.there refl in
    let numbers : take c.min-fd_count.result c.hand_out.new.fds ≡ map fd_in c.in-Ok.ensures.out.handles = take-within _ _ MAX_ATTACHED_FD_ENTRIES c.hand_out.new.fds c.min-fd_count.ensures (omega (arith, c.hand_out.auto.fds)) ∙ c.in-Ok.ensures.out.fds_at in
    let more : 0 < length (take c.min-count.result c.hand_out.new.bytes) = subst (λ (xs : List ℕ). 0 < length xs) (sym same) (some-of c.in-Ok.count c.hand_out.new.bytes moved some) in
    let out : queued c.pieces.judge ≡ carrying c.in-Ok.ensures.out.handles (take c.min-count.result c.hand_out.new.bytes) ++ queued c.hand_out.new.self = c.in-Ok.ensures.out.piece ∙ ap (λ xs. carrying c.in-Ok.ensures.out.handles xs ++ queued c.hand_out.new.self) (sym same) in
    record {
      within = subst (λ n. c.pieces.at + n ≤ length c.args.text.now) long there.0;
      left = subst (λ n. queued c.args.judge.now ≡ carrying (first_handles (queued c.args.judge.now)) (take (c.pieces.at + n) c.args.text.now) ++ queued c.hand_out.new.self) long
          (one-more c.args.text.now c.args.fds.now (queued c.args.judge.now) c.pieces.at c.pieces.invariant.within (queued c.pieces.judge) c.pieces.invariant.left c.pieces.invariant.named c.in-Ok.ensures.out.handles (take c.min-count.result c.hand_out.new.bytes) (queued c.hand_out.new.self)
          more out (take c.min-fd_count.result c.hand_out.new.fds) numbers (c.if-not-are_due.ensures.due refl) there.1);
      named = λ far. all-named c.args.text.now c.args.fds.now (queued c.args.judge.now) c.pieces.at c.pieces.invariant.within (queued c.pieces.judge) c.pieces.invariant.left c.pieces.invariant.named c.in-Ok.ensures.out.handles (take c.min-count.result c.hand_out.new.bytes) (queued c.hand_out.new.self)
          more out (take c.min-fd_count.result c.hand_out.new.fds) numbers (c.if-not-are_due.ensures.due refl);
      hands = handed-on (view c.args.judge.now) (view c.pieces.judge) (view c.hand_out.new.self) c.pieces.invariant.hands c.hand_out.ensures.rest;
    }
