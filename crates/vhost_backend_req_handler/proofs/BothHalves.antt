-- Both halves, with a device's answer between them, are one call of a handler.
use Rattle.std.proofs.Common.{◌∙◌, List, Some, Result, Err, refl, ap, subst, sym}
use Rattle.std.specs.Prelude.{⊤}
use Rattle.vhost_message.specs.declared.error.Error as declared
use Rattle.vhost_message.specs.declared.heard_req.HeardReq.{HeardReq}
use Rattle.vhost_message.specs.declared.records.memory.VhostUserMemoryRegion.{VhostUserMemoryRegion}
use Rattle.vhost_protocol.specs.Codes.{allows_handles}
use Rattle.vhost_protocol.specs.DeviceCall.{Call, Answer}
use Rattle.vhost_protocol.specs.Error.{Error}
use Rattle.vhost_protocol.specs.Handler.{Follows, MeetsRow}
use Rattle.vhost_protocol.specs.Session.{Session, heard_in}
use Rattle.vhost_protocol.specs.Split.{Message}
use Rattle.vhost_protocol.specs.Step.{Outcome, Step, Refused, Calls, OpensBackend, OpensGpu}
use Rattle.vhost_protocol.specs.Stream.{Cell}
use Rattle.vhost_link.specs.Law.{Event}
use Rattle.vhost_connection.specs.Serving as serving
use Rattle.vhost_connection.proofs.Running.{wider-once}
use Rattle.vhost_connection.proofs.Serving.{handles-request, same_message}
use Rattle.vhost_backend_req_handler_core.specs.Beginning.{step_of}
use Rattle.vhost_backend_req_handler_core.specs.Concluding.{concluded, regions_for}
use Rattle.vhost_backend_req_handler_core.specs.Settling.{settled_by}
use Rattle.vhost_backend_req_handler.specs.Calling.{Called}
use Rattle.vhost_backend_req_handler.specs.Core.{endpoint_of, session_in}
use Rattle.vhost_backend_req_handler.specs.Halves.{HalvesRefuse, HalvesServe, beside_then, uncalled, unopened}
use Rattle.vhost_backend_req_handler.specs.Serving.{Finishes, fitting, kept_unsent}
use Rattle.vhost_backend_req_handler.proofs.Finishing.{by_row, made}
use Rattle.vhost_backend_req_handler.proofs.Handling.{meets-row}

module _ {L H B G Dev : Type 0} (event : L → Event H → L → Type 0) (gives : Dev → (c : Call H B G) → Answer c → Dev → Type 0)
    (opens_backend : H → Result B Error → Type 0) (opens_gpu : H → Result G Error → Type 0) where
  pub halves_serve : HalvesServe event gives opens_backend opens_gpu
  halves_serve old mid last new d d' a result begun endpoint session regions called sized done =
      let m = begun.reads.message in
      let s = session_in old in
      let p = begun.prepares in
      let b = beside_then begun.pending.then last.service in
      let kept = ap (λ (rs : List VhostUserMemoryRegion). regions_for begun.pending.then rs) regions ∙ p.regions in
      let call = subst (λ (step : Step H B G). Called gives opens_backend opens_gpu d b step (Some a) d') p.row called in
      let finished = subst (λ (r : HeardReq). Finishes event r (settled_by begun.pending.unanswered (concluded (session_in last) m.need_reply b begun.pending.then a)) (endpoint_of last) (session_in last) result (endpoint_of new) (session_in new)) begun.reads.reads.code
      (subst (λ need. Finishes event begun.pending.request.code (settled_by begun.pending.unanswered (concluded (session_in last) need b begun.pending.then a)) (endpoint_of last) (session_in last) result (endpoint_of new) (session_in new)) begun.reads.reads.need_reply done) in
      let answered = by_row (sym p.row) (made s (session_in last) (endpoint_of mid) (endpoint_of last) (endpoint_of new) m p.call begun.pending.then begun.pending.unanswered b a d d' (session_in new) result (session ∙ begun.session) endpoint p.next kept sized begun.settles call finished) in
      handles-request event heard_in allows_handles (λ (t : Session). t.failed) kept_unsent (MeetsRow (fitting gives) opens_backend opens_gpu)
      (endpoint_of old) (endpoint_of mid) (endpoint_of new) s (session_in new) d d' mid.body.value begun.pending.request begun.pending.handles result begun.reads
      (λ n reads over ready. subst (λ (x : Message HeardReq H). serving.Answers event (MeetsRow (fitting gives) opens_backend opens_gpu s d x) (kept_unsent x.request s) (endpoint_of mid) result (endpoint_of new) (session_in new) d')
      (same_message mid.body.value begun.pending.request begun.pending.handles m n begun.reads.reads reads begun.reads.hands over)
      (meets-row event gives opens_backend opens_gpu m.request (endpoint_of mid) (endpoint_of new) s (session_in new) d d' m result refl answered))

  follows-none : (s : Session) (d : Dev) (o : Outcome H) (step : Step H B G) → Follows (fitting (uncalled B G)) (unopened B G) (unopened B G) s tt step o tt → Follows (fitting gives) opens_backend opens_gpu s d step o d
  follows-none s d o (Refused r) p = (p.0, refl)
  follows-none s d o (Calls c next) (a, gave, is) = absurd gave.0
  follows-none s d o (OpensBackend h next) (opened, by, p) = absurd by
  follows-none s d o (OpensGpu h next) (opened, by, p) = absurd by

  meets-none : (d : Dev) (s s' : Session) (u u' : ⊤) (m : Message HeardReq H) (answer : Result ⊤ Error) (written : List (Cell H)) → MeetsRow (fitting (uncalled B G)) (unopened B G) (unopened B G) s u m answer written s' u'
      → MeetsRow (fitting gives) opens_backend opens_gpu s d m answer written s' d
  meets-none d s s' u u' m answer written p = (p.0, (p.1.0, follows-none s d p.1.0 _ p.1.1, p.1.2), p.2, p.3, p.4)

  pub halves_refuse : HalvesRefuse event gives opens_backend opens_gpu
  halves_refuse old new d e alive refused =
      let s = session_in old in
      let once = wider-once event heard_in allows_handles (λ (t : Session). t.failed) kept_unsent (MeetsRow (fitting (uncalled B G)) (unopened B G) (unopened B G)) (MeetsRow (fitting gives) opens_backend opens_gpu) (λ u. d) (meets-none d)
      (endpoint_of old) (endpoint_of new) s (session_in new) tt tt (Err e)
      (subst (λ mark. serving.CallsUnless event heard_in allows_handles (λ (t : Session). t.failed) kept_unsent (MeetsRow (fitting (uncalled B G)) (unopened B G) (unopened B G)) mark (endpoint_of old) s tt (Err e) (endpoint_of new) (session_in new) tt) (sym alive) refused) in
      subst (λ mark. serving.CallsUnless event heard_in allows_handles (λ (t : Session). t.failed) kept_unsent (MeetsRow (fitting gives) opens_backend opens_gpu) mark (endpoint_of old) s d (Err e) (endpoint_of new) (session_in new) d) alive once
