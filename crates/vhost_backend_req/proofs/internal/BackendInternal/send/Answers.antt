-- A request goes out.
use Rattle.std.proofs.Common.{refl, sym, ◌∙◌, map}
use Rattle.std.proofs.lemmas.List.{append-nil}
use Rattle.vhost_backend_req.specs.Halves.AsksHalf.{goes, fails}
use Rattle.vhost_backend_req.specs.Channel.{channel, backend_of}
use Rattle.vhost_backend_req.proofs.Answered.{sends-is}
use Rattle.vhost_backend_req.proofs.internal.BackendInternal.send.Goals as goal

pub returns-then-not-self-clause-sent : goal.returns-then-not-self-clause-sent
returns-then-not-self-clause-sent g c alive p text =
    let is = sends-is (backend_of (channel c.args.self.now)) c.args.code p (map (λ h. h.now) c.args.handles.now) c.flags_of-flags.result _ c.flags_of-flags.ensures.no_reply c.flags_of-flags.ensures.need_reply c.if-not-self.true in
    (goes c.in-Ok.header is (c.in-Ok.ensures p (text ∙ sym (append-nil _))), refl)

pub returns-else-not-self-clause-sent : goal.returns-else-not-self-clause-sent
returns-else-not-self-clause-sent g c alive p text =
    let is = sends-is (backend_of (channel c.args.self.now)) c.args.code p (map (λ h. h.now) c.args.handles.now) c.flags_of-flags.result _ c.flags_of-flags.ensures.no_reply c.flags_of-flags.ensures.need_reply c.if-not-self.false in
    (goes c.in-Ok.header is (c.in-Ok.ensures p (text ∙ sym (append-nil _))), refl)

pub returns-in-Err-clause-sent : goal.returns-in-Err-clause-sent
returns-in-Err-clause-sent g c alive p text =
    let is = sends-is (backend_of (channel c.args.self.now)) c.args.code p (map (λ h. h.now) c.args.handles.now) c.flags_of-flags.result _ c.flags_of-flags.ensures.no_reply c.flags_of-flags.ensures.need_reply refl in
    (fails is (c.in-Err.ensures p (text ∙ sym (append-nil _))), refl)
