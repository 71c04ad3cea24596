-- A region of the table is not valid.
use Rattle.std.proofs.Common.{◌≡◌, ◌&&◌, ◌==◌, not, ◌+◌, ◌-◌, ◌*◌, Bool, true, false, length, nat_le, take, drop, refl, sym, ap, ◌∙◌, arith}
use Rattle.std.specs.List.{list_all}
use Rattle.vhost_message.specs.Records.{memory_of, regions_of}
use Rattle.vhost_message.specs.Valid.{is_valid_memory, is_valid_region}
use Rattle.vhost_message.specs.declared.limits.TheConstants.{MEMORY_HEAD_SIZE, MEMORY_REGION_SIZE}
use Rattle.vhost_protocol.specs.Row.{is_table_size}
use Rattle.vhost_backend_req_handler_core.specs.Session.{session_of}
use Rattle.vhost_backend_req_handler_core.proofs.Tables.{regions_front}
use Rattle.vhost_backend_req_handler_core.proofs.incoming.Incoming.table.Goals as goal

-- the last of several tests fails
last-fails : (a x : Bool) → x ≡ false → (a && x) ≡ false
last-fails true x h = h
last-fails false x h = refl

pub returns-else-read_front-clause-valid : goal.returns-else-read_front-clause-valid
returns-else-read_front-clause-valid c =
    let body = c.args.self.now.body.now in
    let n = (memory_of body).num_regions in
    let count = c.in_ok-count.count in
    let bytes = drop MEMORY_HEAD_SIZE body in
    let read = sym c.read_front.ensures.all ∙ c.if-read_front.false in
    let size : MEMORY_REGION_SIZE * count ≡ MEMORY_HEAD_SIZE + MEMORY_REGION_SIZE * count - MEMORY_HEAD_SIZE = omega arith in
    let front = ap (λ rs. list_all is_valid_region rs) (sym (regions_front count bytes)) in
    let whole = front ∙ ap (λ k. list_all is_valid_region (regions_of count (take k bytes))) size ∙ read in
    last-fails
    (not c.args.self.now.reply && nat_le MEMORY_HEAD_SIZE (length body) && is_valid_memory (memory_of body) && is_table_size (session_of c.args.session.now) n (length body) && c.args.handles == n)
    (list_all is_valid_region (regions_of n bytes))
    (ap (λ k. list_all is_valid_region (regions_of k bytes)) (sym c.in_ok-count.ensures.count) ∙ whole)
