-- SET_MEM_TABLE: its reply while postcopy listens.
use Rattle.std.proofs.Common.{◌≡◌, ◌*◌, length, take, sym, ap, subst, refl, ◌∙◌, arith}
use Rattle.vhost_message.specs.declared.limits.TheConstants.{MEMORY_HEAD_SIZE, MEMORY_REGION_SIZE}
use Rattle.vhost_protocol.specs.Ask.{regions_in}
use Rattle.vhost_protocol.specs.declared.asked.Shape.TheVariants as shape
use Rattle.vhost_protocol.specs.FrontendCall.{SetMemTable}
use Rattle.vhost_message.specs.Records.{memory_of}
use Rattle.vhost_message.specs.Valid.{is_valid_memory}
use Rattle.vhost_frontend_core.specs.Frontend.{session_of}
use Rattle.vhost_frontend_core.specs.Kept.{KeepsTable}
use Rattle.vhost_frontend_core.specs.declared.asked.Kept.{Kept}
use Rattle.vhost_frontend_core.specs.declared.internal.FrontendInternal.{FrontendInternal}
use Rattle.vhost_frontend_core.proofs.Taking.{none-for-reply}
use Rattle.vhost_frontend_core.proofs.TakingTable.{kept-long, bases-taken, bases-refused, bases-missing}
use Rattle.vhost_frontend_core.proofs.internal.FrontendInternal.take_bases.Goals as goal

pub returns-then-is_reply-clause-taken : goal.returns-then-is_reply-clause-taken
returns-then-is_reply-clause-taken g c infos kept =
    none-for-reply (SetMemTable infos) shape.Memory MEMORY_HEAD_SIZE (MEMORY_REGION_SIZE * length infos) (λ bs. is_valid_memory (memory_of bs)) (λ cells. refl) (sym c.is_reply.ensures ∙ c.if-is_reply.true)

pub returns-in-Some-clause-taken : goal.returns-in-Some-clause-taken
returns-in-Some-clause-taken g c infos kept =
    let table = c.in-Table.table in
    let same : take table.count table.regions.items ≡ regions_in infos = subst (λ (k : Kept). KeepsTable (regions_in infos) k) c.in-Table.is kept in
    bases-taken infos table.count (kept-long table.count table.regions.items infos (omega (arith, table.few)) same) (sym c.is_reply.ensures ∙ c.if-is_reply.false)
    (ap (λ (x : FrontendInternal _ _). session_of x) c.recv_table.ensures.same) table.regions.items c.in-Some.bases same c.in-Ok.ensures.received (sym c.in-Some.ensures.same) c.in-Some.ensures.bases

pub returns-in-None-clause-taken : goal.returns-in-None-clause-taken
returns-in-None-clause-taken g c infos kept =
    let table = c.in-Table.table in
    let same : take table.count table.regions.items ≡ regions_in infos = subst (λ (k : Kept). KeepsTable (regions_in infos) k) c.in-Table.is kept in
    bases-refused infos table.count (kept-long table.count table.regions.items infos (omega (arith, table.few)) same) (sym c.is_reply.ensures ∙ c.if-is_reply.false)
    (ap (λ (x : FrontendInternal _ _). session_of x) c.recv_table.ensures.same) table.regions.items same c.in-Ok.ensures.received (sym c.in-None.ensures.same)

pub returns-in-Err-clause-taken : goal.returns-in-Err-clause-taken
returns-in-Err-clause-taken g c infos kept =
    let table = c.in-Table.table in
    let same : take table.count table.regions.items ≡ regions_in infos = subst (λ (k : Kept). KeepsTable (regions_in infos) k) c.in-Table.is kept in
    bases-missing infos table.count (kept-long table.count table.regions.items infos (omega (arith, table.few)) same) (sym c.is_reply.ensures ∙ c.if-is_reply.false)
    (ap (λ (x : FrontendInternal _ _). session_of x) c.recv_table.ensures.same) c.in-Err.ensures.received
