use Rattle.std.proofs.Common.{◌≡◌, ap, sym, ◌∙◌}
use Rattle.vhost_lines.specs.Calls.{call_in, call_named}
use Rattle.vhost_lines.specs.Words.{words}
use Rattle.vhost_lines.proofs.CallLineLaws.{call_in-utf8, call_in-not_utf8}
use Rattle.vhost_lines.proofs.call_words.line.call_of.Goals as goal

pub returns-in_default : goal.returns-in_default
returns-in_default c = sym (call_in-not_utf8 c.args.line.now (c.in_default.ensures {u = tt}).cases.0)

pub returns : goal.returns
returns c =
    let text = (c.in-Ok.ensures {u = tt}).cases in
    let e : call_in c.args.line.now ≡ call_named (words c.in-Ok.text.now) =
    call_in-utf8 c.args.line.now text.1 ∙ ap (λ line. call_named (words line)) (sym text.0) in
    rw e c.call_of_text.ensures
