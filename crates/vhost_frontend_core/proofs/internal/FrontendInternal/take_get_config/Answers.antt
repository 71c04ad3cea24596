-- GET_CONFIG: its reply.
use Rattle.std.proofs.Common.{◌≡◌, length, sym, ap, subst, ◌∙◌, rules}
use Rattle.std.proofs.lemmas.List.{with_items_is}
use Rattle.vhost_protocol.specs.Ask.{config}
use Rattle.vhost_frontend_core.specs.Frontend.{session_of}
use Rattle.vhost_frontend_core.specs.Kept.{KeepsConfig}
use Rattle.vhost_frontend_core.specs.declared.asked.Kept.{Kept}
use Rattle.vhost_frontend_core.specs.declared.asked.Kept.TheVariants.{Config}
use Rattle.vhost_frontend_core.specs.declared.internal.FrontendInternal.{FrontendInternal}
use Rattle.vhost_frontend_core.proofs.TakingConfig.{config-for-reply, config-for-none, config-taken, config-refused, config-missing}
use Rattle.vhost_frontend_core.proofs.internal.FrontendInternal.take_get_config.Goals as goal

pub returns-then-is_reply-clause-taken : goal.returns-then-is_reply-clause-taken
returns-then-is_reply-clause-taken g c offset size flags buffer kept = config-for-reply offset size flags buffer (sym c.is_reply.ensures ∙ c.if-is_reply.true)

pub returns-then-count-eq0-clause-taken : goal.returns-then-count-eq0-clause-taken
returns-then-count-eq0-clause-taken g c offset size flags buffer kept =
    let kept_so : KeepsConfig (config offset size flags) (length buffer) (Config c.in-Config.asked c.in-Config.bytes) = subst (λ (k : Kept). KeepsConfig (config offset size flags) (length buffer) k) c.in-Config.is kept in
    let long : length c.deref_mut.result.now ≡ length buffer = ap length c.deref_mut.ensures.value ∙ kept_so.1 in
    config-for-none offset size flags buffer (sym c.is_reply.ensures ∙ c.if-is_reply.false) (sym long ∙ c.if-count-eq0.true)

pub returns-then-not-is_same-clause-taken : goal.returns-then-not-is_same-clause-taken
returns-then-not-is_same-clause-taken g c offset size flags buffer kept =
    let kept_so : KeepsConfig (config offset size flags) (length buffer) (Config c.in-Config.asked c.in-Config.bytes) = subst (λ (k : Kept). KeepsConfig (config offset size flags) (length buffer) k) c.in-Config.is kept in
    let long : length c.deref_mut.result.now ≡ length buffer = ap length c.deref_mut.ensures.value ∙ kept_so.1 in
    config-refused offset size flags buffer (sym c.is_reply.ensures ∙ c.if-is_reply.false) (ap (λ (x : FrontendInternal _ _). session_of x) c.recv_config.ensures.same) c.in-Config.asked (length c.deref_mut.result.now) c.recv_config.new.room kept_so.0 c.in-Ok.part long c.if-count-eq0.false c.in-Ok.ensures.received (sym c.is_same.ensures ∙ c.if-not-is_same.true)

pub returns-else-not-is_same-clause-taken : goal.returns-else-not-is_same-clause-taken
returns-else-not-is_same-clause-taken g c offset size flags buffer kept =
    let kept_so : KeepsConfig (config offset size flags) (length buffer) (Config c.in-Config.asked c.in-Config.bytes) = subst (λ (k : Kept). KeepsConfig (config offset size flags) (length buffer) k) c.in-Config.is kept in
    let long : length c.deref_mut.result.now ≡ length buffer = ap length c.deref_mut.ensures.value ∙ kept_so.1 in
    config-taken offset size flags buffer (sym c.is_reply.ensures ∙ c.if-is_reply.false) (ap (λ (x : FrontendInternal _ _). session_of x) c.recv_config.ensures.same) c.in-Config.asked (length c.deref_mut.result.now) c.recv_config.new.room kept_so.0 c.in-Ok.part _ long c.if-count-eq0.false c.in-Ok.ensures.received (with_items_is c.in-Config.bytes c.recv_config.new.room (search rules)) (sym c.is_same.ensures ∙ c.if-not-is_same.false)

pub returns-in-Err-clause-taken : goal.returns-in-Err-clause-taken
returns-in-Err-clause-taken g c offset size flags buffer kept =
    let kept_so : KeepsConfig (config offset size flags) (length buffer) (Config c.in-Config.asked c.in-Config.bytes) = subst (λ (k : Kept). KeepsConfig (config offset size flags) (length buffer) k) c.in-Config.is kept in
    let long : length c.deref_mut.result.now ≡ length buffer = ap length c.deref_mut.ensures.value ∙ kept_so.1 in
    config-missing offset size flags buffer (sym c.is_reply.ensures ∙ c.if-is_reply.false) (ap (λ (x : FrontendInternal _ _). session_of x) c.recv_config.ensures.same) c.in-Config.asked (length c.deref_mut.result.now) c.recv_config.new.room kept_so.0 c.in-Err.error long c.if-count-eq0.false c.in-Err.ensures.received
