-- What is sent, chosen or taken leaves what is held.
use Rattle.vhost_c_books.proofs.Calling.{taken, unmoved}
use Rattle.vhost_c_books.proofs.calls.call_frontend.Goals as goal

pub returns-in-Send : goal.returns-in-Send
returns-in-Send c = unmoved c.args.session.now.held c.hand_out.new.self.held c.hand_out.ensures.held

pub returns-in-SetProfile : goal.returns-in-SetProfile
returns-in-SetProfile c = unmoved c.args.session.now.held c.set_profile.new.self.held c.set_profile.ensures.held

pub returns-in-AskInvalid : goal.returns-in-AskInvalid
returns-in-AskInvalid c = unmoved c.args.session.now.held c.reject.new.self.held c.reject.ensures.1.held

pub returns-in-Take : goal.returns-in-Take
returns-in-Take c = taken c.args.session.now.held c.take.new.self.held c.take.result c.take.ensures.held
