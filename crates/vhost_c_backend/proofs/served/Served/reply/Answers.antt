use Rattle.vhost_c_backend.specs.Replies.{Gives, Rejects}
use Rattle.vhost_c_backend.proofs.Serving.{by-nothing, by-rejection, by-success, by-failure}
use Rattle.vhost_c_backend.proofs.served.Served.reply.Goals as goal

pub returns-in-Ok-conclude : goal.returns-in-Ok-conclude
returns-in-Ok-conclude c = by-success (λ f a. Gives f c.args.reply a) (λ f e. Rejects f c.args.reply e) _ c.args.self.now c.in-Some.form c.in-Some.ensures.one c.in-Some.ensures.none _ c.in-Ok.answer c.in-Ok.ensures c.in-Ok-conclude.ensures.rest c.in-Ok-conclude.ensures.held c.in-Ok-conclude.ensures.concluded

pub returns-in-Err-conclude : goal.returns-in-Err-conclude
returns-in-Err-conclude c = by-failure (λ f a. Gives f c.args.reply a) (λ f e. Rejects f c.args.reply e) _ c.args.self.now c.in-Some.form c.in-Some.ensures.one c.in-Some.ensures.none _ c.in-Ok.answer c.in-Ok.ensures c.in-Err-conclude.ensures.rest c.in-Err-conclude.ensures.held c.in-Err-conclude.error c.in-Err-conclude.ensures.concluded

pub returns-in-Err : goal.returns-in-Err
returns-in-Err c = by-rejection (λ f a. Gives f c.args.reply a) (λ f e. Rejects f c.args.reply e) _ c.args.self.now c.in-Some.form c.in-Some.ensures.one c.in-Some.ensures.none c.in-Err.refusal c.in-Err.ensures

pub returns-in_default : goal.returns-in_default
returns-in_default c = by-nothing (λ f a. Gives f c.args.reply a) (λ f e. Rejects f c.args.reply e) _ c.args.self.now c.in_default.ensures.one
