use Rattle.std.proofs.Common.{◌≡◌, ◌<◌, Ok, Err, map, length, refl, sym, subst}
use Rattle.std.proofs.lemmas.List.{length-map}
use Rattle.vhost_c_common.specs.Records.{fd_in}
use Rattle.vhost_c_common.specs.declared.refusal.Refusal.TheVariants.{NoRoom}
use Rattle.vhost_c_backend.specs.Arguments.{PutsFds}
use Rattle.vhost_c_backend.proofs.Placing.{fronted}
use Rattle.vhost_c_backend.proofs.regions.put_fds.Goals as goal

pub returns-then-handles-place : goal.returns-then-handles-place
returns-then-handles-place c =
    let count : length (map fd_in c.args.handles.now) ≡ length c.args.handles.now = length-map c.args.handles.now fd_in in
    subst (λ x. PutsFds c.args.handles.now x c.args.place.now c.args.place.now (Err NoRoom)) (sym c.in-Other.is) (refl, subst (λ n. length c.args.place.now < n) (sym count) c.if-handles-place.true, refl)

pub returns-else-handles-place : goal.returns-else-handles-place
returns-else-handles-place c =
    let count : length (map fd_in c.args.handles.now) ≡ length c.args.handles.now = length-map c.args.handles.now fd_in in
    subst (λ x. PutsFds c.args.handles.now x c.args.place.now c.put_fds.new.fds (Ok (length c.args.handles.now, tt))) (sym c.in-Other.is)
    (fronted (map fd_in c.args.handles.now) c.args.place.now c.put_fds.new.fds (length c.args.handles.now) count c.put_fds.ensures.front c.put_fds.ensures.rest, sym count, refl)
