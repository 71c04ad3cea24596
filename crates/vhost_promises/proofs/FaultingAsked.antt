-- Calls of a side that asks, over a broken endpoint.
use Rattle.std.proofs.Common.{◌≡◌, ℕ, ◌+◌, Bool, true, false, List, [], ◌∷◌, ◌++◌, map, replicate, Option, Some, None, Result, Ok, Err, refl, sym, ap, ◌∙◌, arith}
use Rattle.std.proofs.lemmas.List.{map-append, replicate-append-replicate}
use Rattle.std.specs.Prelude.{ℤ, codes, if◌then◌else◌}
use Rattle.vhost_message.specs.declared.backend_req.BackendReq.TheVariants.{SHARED_OBJECT_ADD}
use Rattle.vhost_message.specs.declared.cause.IoCause.{IoCause}
use Rattle.vhost_message.specs.declared.error.Error as declared
use Rattle.vhost_message.specs.declared.error.Error.TheVariants.{SocketBroken, OutOfMemory}
use Rattle.vhost_message.specs.declared.io_error.IoError as io
use Rattle.vhost_message.specs.declared.io_error.IoError.TheVariants.{Of}
use Rattle.vhost_message.specs.declared.records.shared.VhostUserSharedMsg.{VhostUserSharedMsg}
use Rattle.vhost_protocol.specs.Ask as asks
use Rattle.vhost_protocol.specs.Error.{Named, seen}
use Rattle.vhost_protocol.specs.FrontendCall.{Frontend, GetFeatures, Number}
use Rattle.vhost_protocol.specs.Gpu.{GetProtocolFeatures, gpu_refusal, gpu_row}
use Rattle.vhost_protocol.specs.IoError.{IoError, Because, In, seen_io, seen_io_result}
use Rattle.vhost_protocol.specs.Reverse.{Backend, ReverseAsked, Refuses, SharedObjectAdd, reverse_ask, sends_unless}
use Rattle.vhost_protocol.specs.Written.{ObjectName}
use Rattle.vhost_protocol.specs.declared.asked.Awaited.{Awaited}
use Rattle.vhost_link.specs.Law.{Event, Move}
use Rattle.vhost_connection.specs.Hearing.{Fails}
use Rattle.vhost_connection.specs.Hearing.Fails.{was_broken, no_memory, fault}
use Rattle.vhost_connection.specs.Talk.{State, Never, Trouble}
use Rattle.vhost_connection.specs.Talk.Trouble.{was_broken as trouble_broken, no_memory as trouble_memory, fault as trouble_fault}
use Rattle.vhost_backend_req.specs.Asking.{Asks, AsksCall}
use Rattle.vhost_backend_req.specs.Asking.Asks.{refused, unsent, asked_for}
use Rattle.vhost_backend_req.specs.Channel.{Channel, backend_of}
use Rattle.vhost_gpu_backend_req.specs.Asking as gpu
use Rattle.vhost_gpu_backend_req.specs.Asking.Asks.{unsent as gpu_unsent, asked_for as gpu_asked}
use Rattle.vhost_gpu_backend_req.specs.Asking.Unsent.{refused as gpu_refused, no_memory as gpu_memory, too_long as gpu_long, stopped as gpu_stopped}
use Rattle.vhost_gpu_backend_req.specs.Channel.{Channel as Display}
use Rattle.vhost_frontend.specs.Whole.{Whole}
use Rattle.vhost_frontend.specs.Whole.Calls.{ended, answered}
use Rattle.vhost_frontend_core.specs.Asking as core
use Rattle.vhost_frontend_core.specs.Asking.Asks.{refuses, goes, fails}
use Rattle.vhost_frontend_core.specs.Frontend.{endpoint_of, session_of, awaits}
use Rattle.vhost_frontend_core.specs.declared.asked.Sent.{Sent}
use Rattle.vhost_frontend_core.specs.declared.internal.FrontendInternal.{FrontendInternal}
use Rattle.vhost_promises.specs.Faults.{StaysBroken}
use Rattle.vhost_promises.proofs.Faulting.{faulted_as}

-- no call was made yet
pub none-yet : {L H A E : Type 0} (c : IoCause) (error : E) (old : State L H) (answers : List (Result A E)) → answers ≡ [] → old.broken ≡ Some c → StaysBroken c error 0 old answers old
none-yet c error old answers none broken = record { answered = none; broken = broken; endpoint = refl }

-- an endpoint that was not served
abbrev pub unserved : {L H : Type 0} → State L H → State L H
unserved s = record s { faulted = false }

-- one more call
pub once-more : {L H A E : Type 0} (c : IoCause) (error : E) (n : ℕ) (old mid new : State L H) (answers more : List (Result A E)) (answer : Result A E) → StaysBroken c error n old answers mid
    → more ≡ answers ++ answer ∷ [] → answer ≡ Err error → new ≡ unserved mid → StaysBroken c error (n + 1) old more new
once-more c error n old mid new answers more answer stays all is same = record {
  answered = all ∙ ap (λ xs. xs ++ answer ∷ []) stays.answered ∙ ap (λ a. replicate n (Err error) ++ a ∷ []) is ∙ replicate-append-replicate n 1 (Err error);
  broken = ap (λ s. s.broken) same ∙ stays.broken;
  endpoint = same ∙ ap unserved stays.endpoint ∙ ap (faulted_as old) (sym (ap (λ s. s.faulted) same));
}

same-cause : {x y : IoCause} → ◌≡◌ {A = Option IoCause} (Some x) (Some y) → x ≡ y
same-cause e = cc

-- with its list, or without
abbrev listed-as : {L H : Type 0} → State L H → Bool → State L H
listed-as s b = record s { list = b; faulted = false }

module _ {L H : Type 0} (event : L → Event H → L → Type 0) where
  -- an endpoint that was broken and has its list is not served
  failing : (c : IoCause) (old : State L H) (e : declared.Error) (new : State L H) → old.broken ≡ Some c → old.list ≡ true → Fails event old false e new → (e ≡ SocketBroken c) × (new ≡ unserved old)
  failing c old e new broken listed (was_broken b same) = (ap SocketBroken (same-cause (sym b ∙ broken)), same ∙ ap (listed-as old) (sym listed))
  failing c old e new broken listed (no_memory b away same) = absurd (cc (sym listed ∙ away))
  failing c old e new broken listed (fault x m b fell none most spent few is_broken faulted kept) = absurd (cc (sym broken ∙ b))

  -- ---- a device's call to its frontend

  -- an object is not refused where objects were agreed on
  not-refused : (b : Backend) (name : VhostUserSharedMsg) (e : IoError) → b.failed ≡ None → b.shared_object ≡ true → reverse_ask {H = H} b (SharedObjectAdd name) ≡ Refuses e → ⊥
  not-refused b name e alive agreed is = by b.shared_object b.failed agreed alive is
    where
      by : (shared : Bool) (failed : Option ℤ) → shared ≡ true → failed ≡ None
          → ◌≡◌ {A = ReverseAsked H} (if shared then sends_unless failed b SHARED_OBJECT_ADD (ObjectName name) [] else Refuses (Because (Named (codes "Shared Object feature not negotiated")))) (Refuses e) → ⊥
      by true None agreed alive is = absurd cc
      by true (Some n) agreed alive is = absurd (cc alive)
      by false failed agreed alive is = absurd (cc agreed)

  adds-once : (c : IoCause) (old : Channel L H) (name : VhostUserSharedMsg) (answer : Result ℕ io.IoError) (new : State L H) → old.failed ≡ None → old.shared_object ≡ true → old.endpoint.list ≡ true → old.endpoint.broken ≡ Some c
      → Asks event (reverse_ask (backend_of old) (SharedObjectAdd name)) old.endpoint answer new → (answer ≡ Err (Of (SocketBroken c))) × (new ≡ unserved old.endpoint)
  adds-once c old name (Ok n) new alive agreed listed broken (asked_for asked out takes) = absurd (cc (sym broken ∙ out.serves.before))
  adds-once c old name (Err e) new alive agreed listed broken (asked_for asked out takes) = absurd (cc (sym broken ∙ out.serves.before))
  adds-once c old name (Err e) new alive agreed listed broken (refused is) = absurd (not-refused (backend_of old) name (seen_io e) alive agreed is)
  adds-once c old name (Err e) new alive agreed listed broken (unsent is f) =
      let (error, same) = failing c old.endpoint _ new broken listed f in (ap (λ x. Err (Of x)) error, same)

  -- so many of them
  abbrev pub AddsBroken : Channel L H → ℕ → List (Result ℕ io.IoError) → Channel L H → Type 0
  AddsBroken old n answers new = old.failed ≡ None → old.shared_object ≡ true → old.endpoint.list ≡ true → (c : IoCause) → old.endpoint.broken ≡ Some c
      → StaysBroken c (Of (SocketBroken c)) n old.endpoint answers new.endpoint × (new ≡ record old { endpoint = new.endpoint })

  pub adds-none : (old : Channel L H) (answers : List (Result ℕ io.IoError)) → answers ≡ [] → AddsBroken old 0 answers old
  adds-none old answers none alive agreed listed c broken = (none-yet c (Of (SocketBroken c)) old.endpoint answers none broken, refl)

  pub adds-more : (old mid new : Channel L H) (name : VhostUserSharedMsg) (n : ℕ) (answers more : List (Result ℕ io.IoError)) (answer : Result ℕ io.IoError) → AddsBroken old n answers mid
      → AsksCall event (SharedObjectAdd name) mid answer new → more ≡ answers ++ answer ∷ [] → AddsBroken old (n + 1) more new
  adds-more old mid new name n answers more answer so_far (asks, others) all alive agreed listed c broken =
      let (stays, same) = so_far alive agreed listed c broken in
      let (is, left) = adds-once c mid name answer new.endpoint (ap (λ x. x.failed) same ∙ alive) (ap (λ x. x.shared_object) same ∙ agreed) (ap (λ x. x.list) stays.endpoint ∙ listed) stays.broken asks in
      (once-more c (Of (SocketBroken c)) n old.endpoint mid.endpoint new.endpoint answers more answer stays all is left, others ∙ ap (over new.endpoint) same)
    where
      over : State L H → Channel L H → Channel L H
      over endpoint x = record x { endpoint = endpoint }

  -- ---- a device's call to a display

  -- nor is one whose list was made before
  troubled : (c : IoCause) (old : State L H) (m : Move H) (e : declared.Error) (new : State L H) → old.broken ≡ Some c → old.list ≡ true → Trouble event (record old { list = true }) old.budget Never false m e new
      → (e ≡ SocketBroken c) × (new ≡ unserved old)
  troubled c old m e new broken listed (trouble_broken b none same) = (ap SocketBroken (same-cause (sym b ∙ broken)), same ∙ ap (listed-as old) (sym listed))
  troubled c old m e new broken listed (trouble_memory g b l none same) = absurd (cc g)
  troubled c old m e new broken listed (trouble_fault x b fell none most spent is_broken faulted kept) = absurd (cc (sym broken ∙ b))

  module _ {T : Type 0} (read : List ℕ → T) where
    shows-once : (c : IoCause) (old : Display L H) (answer : Result T IoError) (new : Display L H) → old.failed ≡ None → old.endpoint.list ≡ true → old.endpoint.broken ≡ Some c
        → gpu.Asks event read (codes "send_header") (gpu_row GetProtocolFeatures) old answer new
        → (answer ≡ Err (In (codes "send_header") (seen (SocketBroken c)))) × (new.endpoint ≡ unserved old.endpoint) × (new.failed ≡ None)
    shows-once c old answer new alive listed broken (gpu_asked out takes others) =
        let (r, s, list, left) = out.sends in absurd (cc (sym broken ∙ s.before))
    shows-once c old answer new alive listed broken (gpu_unsent (gpu_refused {e} is)) = let none : ◌≡◌ {A = Option IoError} None (Some e) = sym (ap gpu_refusal alive) ∙ is in absurd cc
    shows-once c old answer new alive listed broken (gpu_unsent (gpu_memory is away same)) = let found : true ≡ false = sym listed ∙ away in absurd cc
    shows-once c old answer new alive listed broken (gpu_unsent (gpu_long is long same)) = absurd (omega (arith, long))
    shows-once c old answer new alive listed broken (gpu_unsent (gpu_stopped is fits (n, r, trouble, short) others)) =
        let (error, same) = troubled c old.endpoint _ _ new.endpoint broken listed trouble in
        (ap (λ x. Err (In (codes "send_header") (seen x))) error, same, ap (λ x. x.failed) others ∙ alive)

    -- so many of them
    abbrev pub DisplaysBroken : Display L H → ℕ → List (Result T io.IoError) → Display L H → Type 0
    DisplaysBroken old n answers new = old.failed ≡ None → old.endpoint.list ≡ true → (c : IoCause) → old.endpoint.broken ≡ Some c
        → StaysBroken c (In (codes "send_header") (seen (SocketBroken c))) n old.endpoint (map (λ a. seen_io_result a) answers) new.endpoint × (new.failed ≡ None)

    pub displays-none : (old : Display L H) (answers : List (Result T io.IoError)) → answers ≡ [] → DisplaysBroken old 0 answers old
    displays-none old answers none alive listed c broken = (none-yet c (In (codes "send_header") (seen (SocketBroken c))) old.endpoint (map (λ a. seen_io_result a) answers) (ap (map (λ a. seen_io_result a)) none) broken, alive)

    pub displays-more : (old mid new : Display L H) (n : ℕ) (answers more : List (Result T io.IoError)) (answer : Result T io.IoError) → DisplaysBroken old n answers mid
        → gpu.AsksCall event read GetProtocolFeatures mid answer new → more ≡ answers ++ answer ∷ [] → DisplaysBroken old (n + 1) more new
    displays-more old mid new n answers more answer so_far asks all alive listed c broken =
        let (stays, same) = so_far alive listed c broken in
        let (is, left, sound) = shows-once c mid (seen_io_result answer) new same (ap (λ x. x.list) stays.endpoint ∙ listed) stays.broken asks in (
          once-more c (In (codes "send_header") (seen (SocketBroken c))) n old.endpoint mid.endpoint new.endpoint (map (λ a. seen_io_result a) answers) (map (λ a. seen_io_result a) more) (seen_io_result answer) stays
              (ap (map (λ a. seen_io_result a)) all ∙ map-append (λ a. seen_io_result a) answers (answer ∷ [])) is left,
          sound,
        )

  -- ---- a frontend's call

  asked-once : (c : IoCause) (old : State L H) (f : Frontend) (before : Awaited) (result : Result Sent declared.Error) (new : State L H) (f' : Frontend) (after : Awaited) → old.list ≡ true → old.broken ≡ Some c
      → core.Asks event (asks.ask f GetFeatures) old f before result new f' after → (result ≡ Err (SocketBroken c)) × (new ≡ unserved old) × (f' ≡ f)
  asked-once c old f before result new f' after listed broken (refuses is) = absurd cc
  asked-once c old f before result new f' after listed broken (goes is g) = absurd (cc (sym broken ∙ g.serves.before))
  asked-once c old f before result new f' after listed broken (fails is x) =
      let (error, same) = failing c old _ new broken listed x in (ap (λ e. Err e) error, same, refl)

  reads-once : (c : IoCause) (old : FrontendInternal L H) (answer : Result ℕ declared.Error) (new : FrontendInternal L H) → (endpoint_of old).list ≡ true → (endpoint_of old).broken ≡ Some c
      → Whole event GetFeatures Number old answer new → (answer ≡ Err (SocketBroken c)) × (endpoint_of new ≡ unserved (endpoint_of old)) × (session_of new ≡ session_of old)
  reads-once c old answer new listed broken (ended {e} a) =
      let (is, same, same_f) = asked-once c (endpoint_of old) (session_of old) (awaits old) (Err e) (endpoint_of new) (session_of new) (awaits new) listed broken a in
      (ap (again {A = ℕ}) is, same, same_f)
    where
      again : {A : Type 0} → Result Sent declared.Error → Result A declared.Error
      again (Ok s) = Err OutOfMemory
      again (Err e) = Err e
  reads-once c old answer new listed broken (answered {sent} {middle} a takes) =
      let (is, same, same_f) = asked-once c (endpoint_of old) (session_of old) (awaits old) (Ok sent) (endpoint_of middle) (session_of middle) (awaits middle) listed broken a in absurd cc

  -- so many of them
  abbrev pub ReadsBroken : FrontendInternal L H → ℕ → List (Result ℕ declared.Error) → FrontendInternal L H → Type 0
  ReadsBroken old n answers new = (endpoint_of old).list ≡ true → (c : IoCause) → (endpoint_of old).broken ≡ Some c
      → StaysBroken c (SocketBroken c) n (endpoint_of old) answers (endpoint_of new) × (session_of new ≡ session_of old)

  pub reads-none : (old : FrontendInternal L H) (answers : List (Result ℕ declared.Error)) → answers ≡ [] → ReadsBroken old 0 answers old
  reads-none old answers none listed c broken = (none-yet c (SocketBroken c) (endpoint_of old) answers none broken, refl)

  pub reads-more : (old mid new : FrontendInternal L H) (n : ℕ) (answers more : List (Result ℕ declared.Error)) (answer : Result ℕ declared.Error) → ReadsBroken old n answers mid
      → Whole event GetFeatures Number mid answer new → more ≡ answers ++ answer ∷ [] → ReadsBroken old (n + 1) more new
  reads-more old mid new n answers more answer so_far whole all listed c broken =
      let (stays, same) = so_far listed c broken in
      let (is, left, kept) = reads-once c mid answer new (ap (λ x. x.list) stays.endpoint ∙ listed) stays.broken whole in
      (once-more c (SocketBroken c) n (endpoint_of old) (endpoint_of mid) (endpoint_of new) answers more answer stays all is left, kept ∙ same)
