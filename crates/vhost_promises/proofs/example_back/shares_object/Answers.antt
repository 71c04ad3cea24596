-- An object is shared.
use Rattle.std.proofs.Common.{false, refl}
use Rattle.vhost_promises.proofs.Sharing.{shared}
use Rattle.vhost_promises.proofs.example_back.shares_object.Goals as goal

pub returns : goal.returns
returns c goes_on = (
  c.run.ensures.answers,
  c.run.ensures.appended,
  shared _ c.run.new.self c.some_name.result (record { taken = false }) c.new.result.items c.new-2.result.items c.args.answers.now.items c.run.new.out.items _ c.some_name.ensures refl c.new.ensures.items c.new-2.ensures.items c.in_ok-joined.ensures.fresh c.run.ensures c.in_ok-run.was
      c.in_ok-joined.ensures.ready goes_on,
)
