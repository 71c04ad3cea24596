-- GET_INFLIGHT_FD: its reply.
use Rattle.std.proofs.Common.{◌≡◌, Bool, List, Result, Some, Ok, Err, true, sym, ap, refl, ◌∙◌}
use Rattle.std.specs.Prelude.{◌==◌, ◌&&◌, if◌then◌else◌}
use Rattle.vhost_message.specs.Valid.{is_valid_inflight}
use Rattle.vhost_message.specs.declared.error.Error as declared
use Rattle.vhost_message.specs.declared.records.inflight.VhostUserInflight.{VhostUserInflight}
use Rattle.vhost_protocol.specs.AnswerTable.{answered, inflight_reply}
use Rattle.vhost_protocol.specs.Error.{InvalidMessage, seen_result}
use Rattle.vhost_protocol.specs.FrontendCall.{Frontend, InflightOf}
use Rattle.vhost_protocol.specs.Profile.{is_standard}
use Rattle.vhost_frontend_core.specs.Frontend.{session_of}
use Rattle.vhost_frontend_core.specs.Taking.{one_unless, valued}
use Rattle.vhost_frontend_core.proofs.Taking.{any-replied, unreplied, one-area, one-valued}
use Rattle.vhost_frontend_core.proofs.internal.FrontendInternal.take_get_inflight_fd.Goals as goal

-- a valid region, with the handles that came
area-is : {H : Type 0} (f f' : Frontend) (i j : VhostUserInflight) (hs : List H) (none : Bool) (r : Result H declared.Error) → i ≡ j → is_valid_inflight i ≡ true → none ≡ (is_standard f'.profile && i.mmap_size == 0) → f' ≡ f
    → one_unless none hs (λ h. h) ≡ seen_result r → (if is_valid_inflight j then inflight_reply f j hs else Err InvalidMessage) ≡ valued (InflightOf i) r
area-is f f' i j hs none r e ok by same told =
    rw (sym e, ok) (one-area f i hs ∙ ap (λ b. one_unless b hs (InflightOf i)) (sym (by ∙ ap (λ (g : Frontend). is_standard g.profile && i.mmap_size == 0) same)) ∙ one-valued (InflightOf i) none hs r told)

pub returns-in-Ok-one_of-clause-taken : goal.returns-in-Ok-one_of-clause-taken
returns-in-Ok-one_of-clause-taken g c asked =
    any-replied c.in-Ok.ensures.taken (λ cells. refl) (λ r. refl) (λ r is ok came.
    ap (λ x. Some (answered (session_of c.args.self.now) x)) (area-is (session_of c.args.self.now) _ c.in-Ok.area _ r.handles _ (Ok c.in-Ok-one_of.handle) is ok c.says_none.ensures c.take_reply.ensures.session (c.in-Ok-one_of.ensures r.handles came))
    ∙ ap (λ (f : Frontend). Some (answered f (valued (InflightOf c.in-Ok.area) (Ok c.in-Ok-one_of.handle)))) (sym c.take_reply.ensures.session))

pub returns-in-Err-one_of-clause-taken : goal.returns-in-Err-one_of-clause-taken
returns-in-Err-one_of-clause-taken g c asked =
    any-replied c.in-Ok.ensures.taken (λ cells. refl) (λ r. refl) (λ r is ok came.
    ap (λ x. Some (answered (session_of c.args.self.now) x)) (area-is (session_of c.args.self.now) _ c.in-Ok.area _ r.handles _ (Err c.in-Err-one_of.error) is ok c.says_none.ensures c.take_reply.ensures.session (c.in-Err-one_of.ensures r.handles came))
    ∙ ap (λ (f : Frontend). Some (answered f (valued (InflightOf c.in-Ok.area) (Err c.in-Err-one_of.error)))) (sym c.take_reply.ensures.session))

pub returns-in-Err-clause-taken : goal.returns-in-Err-clause-taken
returns-in-Err-clause-taken g c asked = unreplied c.in-Err.ensures.taken (λ cells. refl) c.take_reply.ensures.session
