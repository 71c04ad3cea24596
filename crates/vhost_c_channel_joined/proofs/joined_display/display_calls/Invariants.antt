-- So many calls were done.
use Rattle.std.proofs.Common.{◌≡◌, ◌++◌, List, Result, take}
use Rattle.std.specs.Prelude.{All}
use Rattle.vhost_c_common.specs.declared.refusal.Refusal.{Refusal}
use Rattle.vhost_c_channel_joined.specs.JoinedDisplay.{AreDone, IsAllowed, IsIdle}
use Rattle.vhost_c_channel_joined.specs.declared.joined_display.DisplayAnswer.{DisplayAnswer}
use Rattle.vhost_c_channel_joined.proofs.joined_display.display_calls.Given as goal

abbrev pub invariant-turns : goal.invariant-turns
invariant-turns l = record {
  done : IsIdle l.fn.session → All IsAllowed l.turns → (outcomes : List (Result DisplayAnswer Refusal)) × (l.answers.items ≡ l.fn.answers.items ++ outcomes) × AreDone (take l.turn-index l.turns) l.fn.display.pending l.session l.display.pending outcomes;
}
