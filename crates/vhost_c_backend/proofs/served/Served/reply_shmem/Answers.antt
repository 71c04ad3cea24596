use Rattle.std.proofs.Common.{Ok, Err, refl, subst}
use Rattle.vhost_message.specs.declared.error.Error.TheVariants.{InvalidParam}
use Rattle.vhost_message.specs.declared.records.shmem.VhostUserShMemConfig.{VhostUserShMemConfig}
use Rattle.vhost_backend_req_handler_core.specs.declared.answer.DeviceAnswer.TheVariants as answer
use Rattle.vhost_c_common.specs.declared.refusal.Refusal.TheVariants.{Protocol, OtherCall}
use Rattle.vhost_c_backend.specs.Replies.{GivesShmem, RejectsShmem}
use Rattle.vhost_c_backend.specs.Serving.{Answers}
use Rattle.vhost_c_backend.proofs.Serving.{by-nothing, by-rejection, by-success, by-failure, concludes-placed}
use Rattle.vhost_c_backend.proofs.served.Served.reply_shmem.Goals as goal

pub returns-in_default : goal.returns-in_default
returns-in_default c = by-nothing GivesShmem (RejectsShmem c.args.sizes.now) _ c.args.self.now c.in_default.ensures.one

pub returns-then-sizes-ne256 : goal.returns-then-sizes-ne256
returns-then-sizes-ne256 c = by-rejection GivesShmem (RejectsShmem c.args.sizes.now) _ c.args.self.now c.in-Some.form c.in-Some.ensures.one c.in-Some.ensures.none (Protocol InvalidParam) (c.in-Shmem.is, c.if-sizes-ne256.true)

pub returns-in_default-form : goal.returns-in_default-form
returns-in_default-form c = by-rejection GivesShmem (RejectsShmem c.args.sizes.now) _ c.args.self.now c.in-Some.form c.in-Some.ensures.one c.in-Some.ensures.none OtherCall c.in_default-form.not-Shmem

pub returns-in-Ok : goal.returns-in-Ok
returns-in-Ok c = subst {A = VhostUserShMemConfig} (λ place. Answers GivesShmem (RejectsShmem c.args.sizes.now) place c.args.self.now (Ok tt) c.conclude.new.self) c.new.ensures (by-success GivesShmem (RejectsShmem c.args.sizes.now) _ c.args.self.now c.in-Some.form c.in-Some.ensures.one c.in-Some.ensures.none _ (answer.Shmem (Ok tt)) (c.in-Shmem.is, refl) (record { idle = c.in-Ok.ensures.rest.idle; incoming = c.in-Ok.ensures.rest.incoming; inactive = c.in-Ok.ensures.rest.inactive }) c.in-Ok.ensures.held (concludes-placed c.args.self.now _ _ c.set_shmem.new.self (answer.Shmem (Ok tt)) (Ok tt) c.set_shmem.ensures c.in-Ok.ensures.concluded))

pub returns-in-Err : goal.returns-in-Err
returns-in-Err c = subst {A = VhostUserShMemConfig} (λ place. Answers GivesShmem (RejectsShmem c.args.sizes.now) place c.args.self.now (Err (Protocol c.in-Err.error)) c.conclude.new.self) c.new.ensures (by-failure GivesShmem (RejectsShmem c.args.sizes.now) _ c.args.self.now c.in-Some.form c.in-Some.ensures.one c.in-Some.ensures.none _ (answer.Shmem (Ok tt)) (c.in-Shmem.is, refl) (record { idle = c.in-Err.ensures.rest.idle; incoming = c.in-Err.ensures.rest.incoming; inactive = c.in-Err.ensures.rest.inactive }) c.in-Err.ensures.held c.in-Err.error (concludes-placed c.args.self.now _ _ c.set_shmem.new.self (answer.Shmem (Ok tt)) (Err c.in-Err.error) c.set_shmem.ensures c.in-Err.ensures.concluded))
