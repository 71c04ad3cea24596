use Rattle.std.proofs.Common.{◌<◌, length, refl, sym, subst, ◌∙◌}
use Rattle.vhost_backend_req_handler_core.specs.Beginning.{regions_in}
use Rattle.vhost_c_backend.proofs.Placing.{length-with}
use Rattle.vhost_c_backend.proofs.regions.put_table.Goals as goal

pub returns-then-count-places : goal.returns-then-count-places
returns-then-count-places c = (refl, subst (λ n. length c.args.places.now < n) (c.len-count.ensures.len ∙ sym (length-with (regions_in c.args.table.now) c.args.handles.now)) c.if-count-places.true, refl)
