-- A new frontend over a link that holds the reply.
use Rattle.std.proofs.Common.{◌≡◌, ap, subst, ◌∙◌}
use Rattle.vhost_connection.specs.State.{fresh}
use Rattle.vhost_frontend_core.specs.Frontend.{endpoint_of, session_of}
use Rattle.vhost_link.specs.Ends.{Ends}
use Rattle.vhost_protocol.specs.FrontendCall.{new_frontend}
use Rattle.vhost_promises.specs.Read.{ReadsFeatures, replied}
use Rattle.vhost_connection.specs.Memory.{stream}
use Rattle.vhost_promises.specs.Streams.{Near}
use Rattle.vhost_promises.proofs.read.reads_features_new.Goals as goal

pub returns : goal.returns
returns c sound =
    let begins : endpoint_of c.in_ok-frontend.frontend.inner ≡ fresh (replied c.args.script.items) c.args.budget = c.in_ok-frontend.ensures.endpoint ∙ ap {A = Ends} (λ l. fresh l c.args.budget) c.in_ok-holds_reply.ensures in
    subst {A = Near} (λ e. ReadsFeatures e (new_frontend 2) c.reads_features-answer.result (endpoint_of c.reads_features-answer.new.frontend.inner) (session_of c.reads_features-answer.new.frontend.inner)) begins
    (c.reads_features-answer.ensures 2 c.in_ok-frontend.ensures.session (ap stream begins) sound)
