-- One more call was done, or one was not.
use Rattle.std.proofs.Common.{◌+◌, ◌++◌, [], ◌∷◌, List, take, drop, sym, ap, subst, ◌∙◌, append_assoc}
use Rattle.std.specs.Prelude.{not, if◌then◌else◌}
use Rattle.vhost_c_channel_joined.specs.JoinedDisplay.{AreDone}
use Rattle.vhost_c_channel_joined.specs.declared.joined_display.Turn.{Turn}
use Rattle.vhost_c_channel_joined.proofs.JoiningDisplay.{front-of, more-done, not-done, parts-of}
use Rattle.vhost_c_channel_joined.proofs.joined_display.display_calls.Goals as goal

pub returns-in-Err : goal.returns-in-Err
returns-in-Err c idle allowed =
    let ts = c.args.turns.now in let i = c.turns.turn-index in
    let done = c.turns.invariant.done idle allowed in
    not-done ts (take i ts) (drop (i + 1) ts) _ (parts-of ts i _ c.turns-test.true) c.args.display.now.pending c.turns.display.pending c.display_call.new.display.pending c.turns.session c.display_call.new.session c.args.answers.now.items c.turns.answers.items done.0 c.in-Err.halt done.1 done.2
    (c.in-Err.ensures done.2.idle (allowed i _ c.turns-test.true))

pub turns-preserved : goal.turns-preserved
turns-preserved c = record {
  done = λ idle allowed.
      let ts = c.args.turns.now in let i = c.turns.turn-index in
      let done = c.turns.invariant.done idle allowed in (
        done.0 ++ c.in-Ok.outcome ∷ [],
        c.push.ensures.items ∙ ap (λ b. if b then c.turns.answers.items ++ c.in-Ok.outcome ∷ [] else c.turns.answers.items) (c.is_err.ensures.negation ∙ ap not c.if-is_err.false) ∙ ap (λ xs. xs ++ c.in-Ok.outcome ∷ []) done.1 ∙ append_assoc c.args.answers.now.items done.0 (c.in-Ok.outcome ∷ []),
        subst (λ (xs : List Turn). AreDone xs c.args.display.now.pending c.display_call.new.session c.display_call.new.display.pending (done.0 ++ c.in-Ok.outcome ∷ [])) (sym (front-of ts i _ c.turns-test.true))
            (more-done (take i ts) c.args.display.now.pending c.turns.display.pending c.display_call.new.display.pending c.turns.session c.display_call.new.session done.0 _ c.in-Ok.outcome done.2 (c.in-Ok.ensures done.2.idle (allowed i _ c.turns-test.true))),
      );
}
