-- Both halves, with an answer of the frontend's side between them, are one call of a handler.
use Rattle.std.proofs.Common.{◌≡◌, ◌∙◌, ℕ, ◌<◌, ◌^◌, List, Result, Err, refl, subst, sym}
use Rattle.std.specs.Prelude.{⊤}
use Rattle.vhost_message.specs.BackendReq.{backend_request_number, backend_request_of}
use Rattle.vhost_message.specs.declared.backend_req.BackendReq.{BackendReq}
use Rattle.vhost_message.specs.declared.error.Error as declared
use Rattle.vhost_message.specs.declared.io_error.IoError as io
use Rattle.vhost_protocol.specs.Error.{Error}
use Rattle.vhost_protocol.specs.IoError.{IoError, seen_io_result}
use Rattle.vhost_protocol.specs.Reverse.{ReverseCall, ReverseFollows, ReverseMeets, ReverseOutcome, ReverseStep, Calls, Refused, Server, backend_allows_handles, handed_on, number_back, result_number, reverse_row_of, with_number}
use Rattle.vhost_protocol.specs.Served.{cells_of, reply}
use Rattle.vhost_protocol.specs.Split.{Message}
use Rattle.vhost_protocol.specs.Stream.{Cell}
use Rattle.vhost_link.specs.Law.{Event}
use Rattle.vhost_connection.specs.Requests.{Reads, Replies, Stops}
use Rattle.vhost_connection.specs.Serving as serving
use Rattle.vhost_connection.specs.Serving.{Answers}
use Rattle.vhost_connection.specs.Talk.{State}
use Rattle.vhost_connection.specs.declared.request.Request.{Request}
use Rattle.vhost_connection.proofs.Running.{wider-once}
use Rattle.vhost_connection.proofs.Serving.{handles-request, same_message}
use Rattle.vhost_frontend_req_handler.specs.Calling.{call_in}
use Rattle.vhost_frontend_req_handler.specs.Core.{endpoint_of, server_in}
use Rattle.vhost_frontend_req_handler.specs.Halves.{Concludes, HalvesRefuse, HalvesServe, concluded, stopped, uncalled}
use Rattle.vhost_frontend_req_handler.specs.Handling.{fitting, kept}
use Rattle.vhost_frontend_req_handler.proofs.Answering.{cells_as}

module _ {L H Dev : Type 0} (event : L → Event H → L → Type 0) (gives : Dev → ReverseCall H → Result ℕ IoError → Dev → Type 0) where
  -- the message became this call, and its answer went out
  answers : (s s' : Server) (request : Request BackendReq) (m : Message BackendReq H) (bytes : List ℕ) (c : ReverseCall H) (a : Result ℕ io.IoError) (d d' : Dev) (old new : State L H) (result : Result ℕ declared.Error) → Reads bytes request m
      → reverse_row_of m.request s m ≡ Calls c (with_number s m) → gives d c (seen_io_result a) d' → result_number (seen_io_result a) < 2 ^ 64
      → Concludes event request (seen_io_result a) old s result new s' → Answers event (ReverseMeets (fitting gives) s d m) (λ t. t) old result new s' d'
  answers s s' request m bytes c a d d' old new result reads row gave fits (concluded same replies after) = serving.answered (record {
    written = cells_of backend_request_number (reply m.request (number_back s m (seen_io_result a)));
    meets = (with_number s m (seen_io_result a), subst (λ (x : ReverseStep H). ReverseFollows (fitting gives) d x (with_number s m (seen_io_result a)) d') (sym row) (seen_io_result a, (gave, fits), refl), same, refl, after);
    replies = subst (λ (cells : List (Cell H)). Replies event old cells new) (cells_as s request m (seen_io_result a) bytes reads) replies;
  })
  answers s s' request m bytes c a d d' old new result reads row gave fits (stopped {e} stops after) = serving.interrupted (record {
    answer = handed_on (seen_io_result a);
    written = cells_of backend_request_number (reply m.request (number_back s m (seen_io_result a)));
    after = s';
    meets = (with_number s m (seen_io_result a), subst (λ (x : ReverseStep H). ReverseFollows (fitting gives) d x (with_number s m (seen_io_result a)) d') (sym row) (seen_io_result a, (gave, fits), refl), refl, refl, after);
    stops = subst (λ (cells : List (Cell H)). Stops event old cells e new) (cells_as s request m (seen_io_result a) bytes reads) stops;
    session = refl;
  })

  pub halves_serve : HalvesServe event gives
  halves_serve old mid last new d d' call a result begun endpoint server gave fits done =
      let s = server_in old in
      let over = subst (λ (x : Server). Concludes event begun.request (seen_io_result a) (endpoint_of mid) x result (endpoint_of new) (server_in new)) (server ∙ begun.server)
      (subst (λ (x : State L H). Concludes event begun.request (seen_io_result a) x (server_in last) result (endpoint_of new) (server_in new)) endpoint done) in
      handles-request event (λ (_ : Server). backend_request_of) backend_allows_handles (λ (t : Server). t.failed) kept (ReverseMeets (fitting gives))
      (endpoint_of old) (endpoint_of mid) (endpoint_of new) s (server_in new) d d' mid.body.value begun.request begun.handles result begun.reads
      (λ n reads hands ready. subst (λ (x : Message BackendReq H). Answers event (ReverseMeets (fitting gives) s d x) (λ t. t) (endpoint_of mid) result (endpoint_of new) (server_in new) d')
      (same_message mid.body.value begun.request begun.handles begun.reads.message n begun.reads.reads reads begun.reads.hands hands)
      (answers s (server_in new) begun.request begun.reads.message mid.body.value (call_in call) a d d' (endpoint_of mid) (endpoint_of new) result begun.reads.reads begun.row gave fits over))

  follows-none : (d : Dev) (o : ReverseOutcome H) (step : ReverseStep H) → ReverseFollows (fitting uncalled) tt step o tt → ReverseFollows (fitting gives) d step o d
  follows-none d o (Refused r) p = (p.0, refl)
  follows-none d o (Calls c next) (a, gave, is) = absurd gave.0

  meets-none : (d : Dev) (s s' : Server) (u u' : ⊤) (m : Message BackendReq H) (answer : Result ℕ Error) (written : List (Cell H)) → ReverseMeets (fitting uncalled) s u m answer written s' u'
      → ReverseMeets (fitting gives) s d m answer written s' d
  meets-none d s s' u u' m answer written p = (p.0, follows-none d p.0 _ p.1, p.2, p.3, p.4)

  pub halves_refuse : HalvesRefuse event gives
  halves_refuse old new d e alive refused =
      let s = server_in old in
      let once = wider-once event (λ (_ : Server). backend_request_of) backend_allows_handles (λ (t : Server). t.failed) kept (ReverseMeets (fitting uncalled)) (ReverseMeets (fitting gives)) (λ u. d) (meets-none d)
      (endpoint_of old) (endpoint_of new) s (server_in new) tt tt (Err e)
      (subst (λ mark. serving.CallsUnless event (λ (_ : Server). backend_request_of) backend_allows_handles (λ (t : Server). t.failed) kept (ReverseMeets (fitting uncalled)) mark (endpoint_of old) s tt (Err e) (endpoint_of new) (server_in new) tt) (sym alive) refused) in
      subst (λ mark. serving.CallsUnless event (λ (_ : Server). backend_request_of) backend_allows_handles (λ (t : Server). t.failed) kept (ReverseMeets (fitting gives)) mark (endpoint_of old) s d (Err e) (endpoint_of new) (server_in new) d) alive once
