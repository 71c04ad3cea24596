-- What is asked or taken leaves what is held.
use Rattle.vhost_c_books.proofs.Calling.{nothing-taken, put, record-taken, shown}
use Rattle.vhost_c_books.proofs.calls.call_display.Goals as goal

pub returns-in-AskDisplay : goal.returns-in-AskDisplay
returns-in-AskDisplay c = shown c.in-AskDisplay.call.now c.args.session.now c.ask.new.self c.ask.result c.ask.ensures

pub returns-in-Take : goal.returns-in-Take
returns-in-Take c = nothing-taken c.args.session.now c.take.new.self c.take.ensures

pub returns-in-TakeNumber : goal.returns-in-TakeNumber
returns-in-TakeNumber c = record-taken _ _ c.args.session.now c.take_number.new.self c.take_number.ensures

pub returns-in-TakeDisplayInfo : goal.returns-in-TakeDisplayInfo
returns-in-TakeDisplayInfo c = put _ _ c.args.session.now c.take_display_info.new.self _ _ _ c.take_display_info.ensures

pub returns-in-TakeEdid : goal.returns-in-TakeEdid
returns-in-TakeEdid c = put _ _ c.args.session.now c.take_edid.new.self _ _ _ c.take_edid.ensures
