-- What becomes of a call, where the handler serves its request.
use Rattle.std.proofs.Common.{◌≡◌, ℕ, ◌≤◌, inl, inr, Bool, true, false, cond, List, [], ◌∷◌, length, None, Some, IfSome, refl, sym, ◌∙◌, ap, subst, arith, lit<, length-append}
use Rattle.std.specs.Prelude.{if◌then◌else◌, Result, is_some, is_ok, not, ◌&&◌, ◌||◌}
use Rattle.vhost_message.specs.Bits.{has_bit}
use Rattle.vhost_message.specs.declared.heard_req.HeardReq.{HeardReq}
use Rattle.vhost_message.specs.declared.heard_req.HeardReq.TheVariants.{GET_CONFIG, GET_INFLIGHT_FD, GET_SHARED_OBJECT, POSTCOPY_ADVISE, POSTCOPY_END, SET_DEVICE_STATE_FD, CHECK_DEVICE_STATE}
use Rattle.vhost_message.specs.declared.records.config.VhostUserConfig.{VhostUserConfig}
use Rattle.vhost_message.specs.declared.records.memory.VhostUserMemoryRegion.{VhostUserMemoryRegion}
use Rattle.vhost_message.specs.HeardReq.{request_number}
use Rattle.vhost_message.specs.Header.{header_text}
use Rattle.vhost_message.specs.LongRecords.{shmem_config-length}
use Rattle.vhost_message.specs.declared.limits.TheConstants.{MAX_MSG_SIZE, MAX_MSG_TEXT}
use Rattle.vhost_protocol.specs.declared.profile.Profile.TheVariants.{Vhost}
use Rattle.vhost_protocol.specs.Agreement.{IsNegotiated}
use Rattle.vhost_protocol.specs.Answering.{IsServed}
use Rattle.vhost_protocol.specs.Ask.{Asked, Sends, ask}
use Rattle.vhost_protocol.specs.declared.asked.Awaited.{Awaited}
use Rattle.vhost_protocol.specs.declared.asked.Shape.{Shape}
use Rattle.vhost_protocol.specs.declared.asked.Shape.TheVariants as shape
use Rattle.vhost_protocol.specs.Codes.{allows_handles}
use Rattle.vhost_protocol.specs.DeviceCall.{Call, Answer}
use Rattle.vhost_protocol.specs.Error.{Error}
use Rattle.vhost_protocol.specs.FrontendCall.{FrontendCall, Frontend, SetMemTable, GetConfig}
use Rattle.vhost_protocol.specs.Handler.{Follows, Meets}
use Rattle.vhost_protocol.specs.Heard.{IsAwaitedBy, AskedWell, AsksPlainly, AsksSendable, IsSendable, IsGoodReply, shape_of}
use Rattle.vhost_protocol.specs.Joined.{AgreeOn, read_as}
use Rattle.vhost_protocol.specs.Laws.{IsReplyOf, IsTableOf, IsConfigOf, PayloadFits}
use Rattle.vhost_protocol.specs.Row.{row}
use Rattle.vhost_protocol.specs.Served.{Served, Silent, Acknowledged, Replied, reply, cells_of}
use Rattle.vhost_protocol.specs.Profile.{is_standard}
use Rattle.vhost_protocol.specs.Session.{Session, heard_in}
use Rattle.vhost_protocol.specs.Settled.{config_asked, inflight_asked, awaits_reply, awaits_ack, is_unanswered, is_fatal, ended, silenced, saying, refused_reply, spoken, settled}
use Rattle.vhost_protocol.specs.Split.{Message}
use Rattle.vhost_protocol.specs.Step.{Outcome, Step, Refused, Calls, OpensBackend, OpensGpu}
use Rattle.vhost_protocol.specs.Take.{take}
use Rattle.vhost_protocol.specs.Written.{Written, Payload, Empty, U64, Regions, OneRegion, Shmem, RingState, ConfigBytes, InflightArea, LogArea, head_of, payload_text, reply_to, written_cells, written_text}
use Rattle.vhost_protocol.proofs.FollowLaws.{followed-good, followed-mark, met-known, met-good, met-row}
use Rattle.vhost_protocol.proofs.HeardLaws.{awaits-shape, hears-answer, replies-well, heard-named}
use Rattle.vhost_protocol.proofs.RegionLaws.{regions-length}
use Rattle.vhost_protocol.proofs.RowLaws.{rows-keep}
use Rattle.vhost_protocol.proofs.SendLaws.{sends-whole}
use Rattle.vhost_protocol.proofs.TextLaws as text
use Rattle.vhost_protocol.proofs.TextLaws.{request-small}
use Rattle.vhost_link.specs.declared.plain.PlainHandle.{PlainHandle}
use Rattle.vhost_link.specs.Ends.{Ends}
use Rattle.vhost_link.proofs.Cells.{length-carrying}
use Rattle.vhost_backend_req.specs.declared.backend.Backend.{Backend}
use Rattle.vhost_gpu_backend_req.specs.declared.backend.GpuBackend.{GpuBackend}
use Rattle.vhost_backend_req_handler.specs.Serving.{fitting}
use Rattle.vhost_joined.specs.Device.{Gives, opens_backend, opens_gpu}
use Rattle.vhost_frontend_core.specs.ValueHalves.{IsProper}
use Rattle.vhost_joined.proofs.Settings.{Has, kept-sent, answered-with}

-- ---- messages are short

pub few-written : (w : Written HeardReq PlainHandle) → length (payload_text w.payload) ≤ MAX_MSG_SIZE → length (written_cells request_number w) ≤ MAX_MSG_TEXT
few-written w small =
    rw (length-carrying w.handles (written_text request_number w), length-append (header_text (head_of request_number w)) (payload_text w.payload)) (omega (arith, small))

table-small : (call : FrontendCall PlainHandle) (rs : List VhostUserMemoryRegion) → IsTableOf call rs → length (payload_text (Regions rs)) ≤ MAX_MSG_SIZE
table-small (SetMemTable infos) rs good = omega (arith, regions-length rs, good.2)
table-small _ rs good = absurd good

config-small : (call : FrontendCall PlainHandle) (c : VhostUserConfig) (bytes : List ℕ) (handles : List PlainHandle) → IsConfigOf call c bytes handles → length (payload_text (ConfigBytes c bytes)) ≤ MAX_MSG_SIZE
config-small (GetConfig o n k []) c bytes handles good = absurd good
config-small (GetConfig o n k (b ∷ buffer)) c bytes handles (inl bare) = subst (λ (bs : List ℕ). length (payload_text (ConfigBytes c bs)) ≤ MAX_MSG_SIZE) (sym bare.1) (lit< tt)
config-small (GetConfig o n k (b ∷ buffer)) c bytes handles (inr whole) = omega (arith, whole.1)
config-small _ c bytes handles good = absurd good

reply-small : (call : FrontendCall PlainHandle) (shape : Shape) (payload : Payload) (handles : List PlainHandle) → IsReplyOf call shape payload handles → PayloadFits payload → length (payload_text payload) ≤ MAX_MSG_SIZE
reply-small call shape.Empty Empty handles good fits = omega arith
reply-small call shape.U64 (U64 n) handles good fits = lit< tt
reply-small call shape.SingleMemoryRegion (OneRegion r) handles good fits = lit< tt
reply-small call shape.ShMemConfig (Shmem c) handles good fits = omega (arith, shmem_config-length c fits)
reply-small call shape.VringState (RingState v) handles good fits = lit< tt
reply-small call shape.Inflight (InflightArea i) handles good fits = lit< tt
reply-small call shape.Log (LogArea l) handles good fits = lit< tt
reply-small call shape.Memory (Regions rs) handles good fits = table-small call rs good
reply-small call shape.Config (ConfigBytes c bytes) handles good fits = config-small call c bytes handles good
reply-small call _ _ handles good fits = absurd good

few-replied : (call : FrontendCall PlainHandle) (r : HeardReq) (served : Served PlainHandle) → IsGoodReply call served → length (cells_of request_number (reply r served)) ≤ MAX_MSG_TEXT
few-replied call r Silent good = omega arith
few-replied call r (Acknowledged agreed) good = few-written (reply_to r (U64 (if agreed then 0 else 1)) []) (lit< tt)
few-replied call r (Replied payload handles) good = few-written (reply_to r payload handles) (reply-small call (shape_of call) payload handles good.0 good.1)

-- ---- and stay so once they are settled

-- what is written with a request's reply is short
abbrev Few : HeardReq → Served PlainHandle → Type 0
Few r served = length (cells_of request_number (reply r served)) ≤ MAX_MSG_TEXT

few-silent : (r : HeardReq) (served : Served PlainHandle) → served ≡ Silent → Few r served
few-silent r served quiet = subst (λ x. Few r x) (sym quiet) (omega arith)

few-refused : (r : HeardReq) (body : List ℕ) (o : Outcome PlainHandle) → o.served ≡ Silent → Few r (refused_reply r body o).served
few-refused GET_CONFIG body o quiet = few-written (reply_to GET_CONFIG (ConfigBytes (record (config_asked body) { size = 0 }) []) []) (lit< tt)
few-refused GET_INFLIGHT_FD body o quiet = few-written (reply_to GET_INFLIGHT_FD (InflightArea (record (inflight_asked body) { mmap_size = 0 })) []) (lit< tt)
few-refused GET_SHARED_OBJECT body o quiet = few-written (reply_to GET_SHARED_OBJECT Empty []) (omega arith)
few-refused POSTCOPY_ADVISE body o quiet = few-written (reply_to POSTCOPY_ADVISE Empty []) (omega arith)
few-refused SET_DEVICE_STATE_FD body o quiet = few-written (reply_to SET_DEVICE_STATE_FD (U64 0x101) []) (lit< tt)
few-refused CHECK_DEVICE_STATE body o quiet = few-written (reply_to CHECK_DEVICE_STATE (U64 1) []) (lit< tt)
few-refused POSTCOPY_END body o quiet = few-written (reply_to POSTCOPY_END (U64 (if is_ok o.answer then 0 else 1)) []) (lit< tt)
few-refused r body o quiet = few-silent r o.served quiet

one-of : (R n F A : Bool) (x y z w : Outcome PlainHandle) (P : Outcome PlainHandle → Type 0) → P x → P y → P z → P w → P (cond (R && n) x (cond (F || R) y (cond A z w)))
one-of true true F A x y z w P hx hy hz hw = hx
one-of true false true A x y z w P hx hy hz hw = hy
one-of true false false A x y z w P hx hy hz hw = hy
one-of false n true A x y z w P hx hy hz hw = hy
one-of false n false true x y z w P hx hy hz hw = hz
one-of false n false false x y z w P hx hy hz hw = hw

few-spoken : (s : Session) (m : Message HeardReq PlainHandle) (o : Outcome PlainHandle) → o.served ≡ Silent → Few m.request (spoken s m o).served
few-spoken s m o quiet =
    let few = few-silent m.request o.served quiet in
    one-of (awaits_reply s m) (not m.reply) (is_fatal m o) (awaits_ack m o) (refused_reply m.request m.body o) (ended o) (saying o (Acknowledged (is_ok o.answer))) o (λ x. Few m.request x.served)
    (few-refused m.request m.body o quiet) few (few-written (reply_to m.request (U64 (if is_ok o.answer then 0 else 1)) []) (lit< tt)) few

few-settled : (s : Session) (m : Message HeardReq PlainHandle) (o : Outcome PlainHandle) → Few m.request o.served → Few m.request (settled s m o).served
few-settled s m o few = by-cases (is_standard s.profile && is_unanswered (awaits_reply s m) o.served)
  where
    by-cases : (b : Bool) → Few m.request (cond b (spoken s m (silenced o)) o).served
    by-cases true = few-spoken s m (silenced o) refl
    by-cases false = few

-- ---- a device that may do more

module _ {H B G Dev : Type 0} (gives wider : Dev → (c : Call H B G) → Answer c → Dev → Type 0)
    (opens_back : H → Result B Error → Type 0) (opens_display : H → Result G Error → Type 0) (within : (d : Dev) (c : Call H B G) (a : Answer c) (d' : Dev) → gives d c a d' → wider d c a d') where
  pub follows-wider : (s : Session) (d : Dev) (step : Step H B G) (o : Outcome H) (d' : Dev) → Follows gives opens_back opens_display s d step o d' → Follows wider opens_back opens_display s d step o d'
  follows-wider s d (Refused r) o d' f = f
  follows-wider s d (Calls c next) o d' f = (f.0, within d c f.0 d' f.1, f.2)
  follows-wider s d (OpensBackend h next) o d' f = (f.0, f.1, follows-wider s d (next f.0) o d' f.2)
  follows-wider s d (OpensGpu h next) o d' f = (f.0, f.1, follows-wider s d (next f.0) o d' f.2)

  pub meets-wider : (s : Session) (d : Dev) (m : Message HeardReq H) (o : Outcome H) (d' : Dev) → Meets gives opens_back opens_display s d m o d' → Meets wider opens_back opens_display s d m o d'
  meets-wider s d m o d' met = (met.0, follows-wider s d (row s m) met.0 d' met.1, met.2)

-- ---- a call that was sent

module _ (call : FrontendCall PlainHandle) (proper : IsProper call) (f : Frontend) (w : Written HeardReq PlainHandle) (awaited : Awaited) (g : Frontend) (asked : ask f call ≡ Sends w awaited g) where
  whole : IsSendable w
  whole = subst (λ (x : Asked PlainHandle). AsksSendable x) asked (sends-whole PlainHandle f call proper.named)

  -- whatever the session of the handler
  pub sendable : (s : Session) → text.IsSendable (heard_in s) allows_handles request_number w
  sendable s = record { known = heard-named s w.request whole.named; code = request-small w.request whole.named; allowed = whole.allowed; size = whole.size }

  -- what the handler wrote for it is short
  pub few-met : {Dev : Type 0} (gives : Gives Dev) (s : Session) (d d' : Dev) (o : Outcome PlainHandle) → Meets (fitting gives) opens_backend opens_gpu s d (read_as w) o d' → length (cells_of request_number (reply w.request o.served)) ≤ MAX_MSG_TEXT
  few-met gives s d d' o met =
      let asked-well = subst (λ (x : Asked PlainHandle). AskedWell (Backend Ends PlainHandle) (GpuBackend Ends PlainHandle) s call x) asked (replies-well PlainHandle (Backend Ends PlainHandle) (GpuBackend Ends PlainHandle) f s call proper.small) in
      let good : IsGoodReply call met.0.served = followed-good (fitting gives) opens_backend opens_gpu (λ old c a new p. p.1) call s d (row s (read_as w)) met.0 d' asked-well met.1 in
      subst (λ (x : Outcome PlainHandle). Few w.request x.served) (sym met.2) (few-settled s (read_as w) met.0 (few-replied call w.request met.0.served good))

  plainly : IsAwaitedBy call awaited × (w.reply ≡ has_bit f.header_flags 2)
  plainly = subst (λ (x : Asked PlainHandle). AsksPlainly f call x) asked (awaits-shape PlainHandle f call)

  module _ {Dev : Type 0} (gives : Gives Dev) (s : Session) (d d' : Dev) (agree : AgreeOn f s) (on : IsNegotiated f) (plain : has_bit f.header_flags 2 ≡ false) where
    -- What follows from the outcome of the handler's row.
    pub record Outcomes (o : Outcome PlainHandle) : Type 0 where
      pub known : IsServed s.profile call awaited g w.request o
      pub taken : take call awaited (head_of request_number w) g (cells_of request_number (reply w.request o.served)) ≡ (Some known.to_caller, [])
      pub meets : Meets gives opens_backend opens_gpu s d (read_as w) o d'
      -- under Vhost no row ends a session
      pub alive : s.failed ≡ None → s.profile ≡ Vhost → is_some o.session.failed ≡ false
      pub profile : known.to_caller.session.profile ≡ s.profile
      pub few : length (cells_of request_number (reply w.request o.served)) ≤ MAX_MSG_TEXT

    pub outcomes : (o : Outcome PlainHandle) → Meets (fitting gives) opens_backend opens_gpu s d (read_as w) o d' → Outcomes o
    outcomes o met =
        let known : IsServed s.profile call awaited g w.request o = met-known (fitting gives) opens_backend opens_gpu f s call w awaited g d o d' agree on proper.bits asked met in
        let good : IsGoodReply call o.served = met-good (fitting gives) opens_backend opens_gpu (λ old c a new p. p.1) f s call w awaited g d o d' agree.profile proper.small asked met in
        let kept = kept-sent PlainHandle f.header_flags f.profile f call w awaited g asked (refl, refl) in
        record {
          known = known;
          taken = hears-answer PlainHandle call awaited w g o.served known.to_caller whole.named (plainly.1 ∙ plain) plainly.0 good known.known;
          meets = meets-wider (fitting gives) gives opens_backend opens_gpu (λ old c a new p. p.0) s d (read_as w) o d' met;
          alive = λ none e. ap is_some (followed-mark (fitting gives) opens_backend opens_gpu s d (row s (read_as w)) o d' (rows-keep PlainHandle _ _ w.request s (read_as w)) (met-row (fitting gives) opens_backend opens_gpu s (read_as w) d o d' e met) ∙ none);
          profile = (subst (λ x. IfSome x (λ a. Has PlainHandle f.header_flags f.profile a.session)) known.known (answered-with PlainHandle f.header_flags f.profile call awaited g o.served kept)).1 ∙ agree.profile;
          few = few-replied call w.request o.served good;
        }
