use Rattle.std.proofs.Common.{◌≡◌, ◌+◌, ◌≤◌, ◌++◌, vec_len, vec_capacity}
use Rattle.std.specs.Vec.Iter.{into_iter_items, into_iter_len}
use Rattle.vhost_c.specs.Calls.{Appends}
use Rattle.vhost_c.specs.ProgramBackend.{Does}
use Rattle.vhost_c.proofs.program_backend.run.Given as goal

abbrev pub invariant-loop-call : goal.invariant-loop-call
invariant-loop-call l = record {
  ran : Appends Does l.yielded l.fn.answers.items l.answers.items l.fn.backend.session l.backend.session;
  front : l.fn.calls.items ≡ l.yielded ++ into_iter_items l.call-iterator;
  room : vec_len l.answers + into_iter_len l.call-iterator ≤ vec_capacity l.answers;
}
