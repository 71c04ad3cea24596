-- The example device is asked for its features and claimed, step by step.
use Rattle.std.proofs.Common.{◌≡◌, ℕ, Bool, true, false, List, [], ◌∷◌, Some, None, Result, Ok, Err, inl, inr, sym, ap, ◌∙◌, subst}
use Rattle.std.proofs.lemmas.Option.{same_Some}
use Rattle.std.specs.Prelude.{◌⊎◌, ⊤, not, codes, if◌then◌else◌}
use Rattle.vhost_message.specs.Bits.{has_bit}
use Rattle.vhost_protocol.specs.Features.{PROTOCOL_FEATURES}
use Rattle.std.specs.declared.alloc.Global.{Global}
use Rattle.vhost_message.specs.declared.heard_req.HeardReq.TheVariants.{SET_OWNER}
use Rattle.vhost_protocol.specs.AnswerTable.{answer}
use Rattle.vhost_protocol.specs.Error.{Error, InvalidOperation}
use Rattle.vhost_protocol.specs.FrontendCall.{Frontend, Nothing, Number, GetFeatures, SetOwner, new_frontend}
use Rattle.vhost_protocol.specs.Joined.{Shown, JoinedStep, is_last}
use Rattle.vhost_protocol.specs.Served.{Silent, Replied, reply, cells_of}
use Rattle.vhost_protocol.specs.Session.{Session, fresh}
use Rattle.vhost_protocol.specs.Step.{Outcome}
use Rattle.vhost_protocol.specs.Written.{U64}
use Rattle.vhost_protocol.specs.declared.asked.Awaited.TheVariants.{Nobody, Reply}
use Rattle.vhost_protocol.specs.declared.asked.Shape.TheVariants as shape
use Rattle.vhost_message.specs.HeardReq.{request_number}
use Rattle.vhost_dummy_backend.specs.Dummy as dummy
use Rattle.vhost_dummy_backend.specs.Dummy.{DummyGives, Does, refusal}
use Rattle.vhost_link.specs.declared.cut.Cut.{Cut}
use Rattle.vhost_link.specs.declared.plain.PlainHandle.{PlainHandle}
use Rattle.vhost_joined.specs.Device.{Gives, opens_backend, opens_gpu}
use Rattle.vhost_frontend_core.specs.Values.{answer_of}
use Rattle.vhost_frontend_core.specs.declared.values.answer.FrontendAnswer.{FrontendAnswer}
use Rattle.vhost_frontend_core.specs.declared.values.call.FrontendCall.TheVariants as call
use Rattle.vhost_joined.specs.Joined.{View, IsReady, Offers, Answers, Steps, StepsAll}
use Rattle.vhost_joined.specs.Lockstep.{ArePlain, AreOffered, InLockstep, Lockstep}
use Rattle.vhost_joined.specs.Sides.{as_view, fresh_parts}
use Rattle.vhost_joined.specs.Text.{text_of}
use Rattle.vhost_joined.specs.declared.halt.Halt.{Halt}
use Rattle.vhost_joined.specs.declared.halt.Halt.TheVariants.{OutOfMemory}
use Rattle.vhost_joined.specs.declared.halt.Stop.TheVariants.{Premise, Table}
use Rattle.vhost_promises.specs.Example.{Device, Claims, RefusesAgain, asking, serving, owner_request}

-- the device's relation: a handle is copied as it is
abbrev moves : Gives Device
moves = DummyGives (λ handle copy. copy ≡ Ok handle)

-- the number of an answer that has one
unfoldable pub number_in : Result ℕ Error → ℕ
number_in (Ok n) = n
number_in (Err e) = 0

-- the handler's outcome where the device has answered its features
unfoldable pub read : ℕ → Outcome PlainHandle
read n = record { answer = Ok tt; served = Replied (U64 n) []; session = record fresh { offered = n } }

-- where the device has agreed, or refused, without a reply
agreed : Outcome PlainHandle
agreed = record { answer = Ok tt; served = Silent; session = serving }

-- the features are read
pub features-step : (d d' : Device) (shown : Shown PlainHandle) (f' : Frontend) (s' : Session)
    → JoinedStep moves opens_backend opens_gpu (new_frontend 2) fresh d GetFeatures shown f' s' d'
    → (shown.result ≡ Ok (Number 0x40000003)) × (f' ≡ asking) × (s' ≡ serving) × (d' ≡ d)
unfolding read number_in
features-step d d' shown f' s' (o, (told, (Ok n, (is_a, same), is_o), is_told), is_s, is_answer, is_request, is_handled, is_reply, is_end) =
    let now : o ≡ read 0x40000003 = is_told ∙ is_o ∙ ap read (ap number_in is_a) in
    let heard = same_Some _ _ (sym (ap (λ x. answer GetFeatures (Reply shape.U64) (new_frontend 2) x.served) now) ∙ is_answer) in
    (sym (ap (λ x. x.result) heard), sym (ap (λ x. x.session) heard), is_s ∙ ap (λ x. x.session) now, same)
features-step d d' shown f' s' (o, (told, (Err e, (is_a, same), is_o), is_told), is_s, is_answer, is_request, is_handled, is_reply, is_end) = absurd cc

-- the device gets its owner, in silence
pub owner-step : (alloc : Global) (spare : List PlainHandle) (d' : Device) (shown : Shown PlainHandle) (f' : Frontend) (s' : Session)
    → JoinedStep moves opens_backend opens_gpu asking serving (dummy.fresh alloc spare) SetOwner shown f' s' d'
    → (shown.result ≡ Ok Nothing) × (f' ≡ asking) × (s' ≡ serving) × (d' ≡ record (dummy.fresh alloc spare) { owned = true })
    × (shown.last ≡ false) × (text_of shown.request ≡ record { bytes = owner_request; handles = [] }) × (text_of shown.reply ≡ record { bytes = []; handles = [] })
unfolding agreed
owner-step alloc spare d' shown f' s' (o, (told, (Ok u, (is_a, same), is_o), is_told), is_s, is_answer, is_request, is_handled, is_reply, is_end) =
    let now : o ≡ agreed = is_told ∙ is_o in
    let heard = same_Some _ _ (sym (ap (λ x. answer SetOwner Nobody asking x.served) now) ∙ is_answer) in (
      sym (ap (λ x. x.result) heard),
      sym (ap (λ x. x.session) heard),
      is_s ∙ ap (λ x. x.session) now,
      same,
      is_end ∙ ap (λ x. is_last SET_OWNER x) now,
      ap text_of is_request,
      ap text_of (is_reply ∙ ap (λ x. cells_of request_number (reply SET_OWNER x.served)) now),
    )
owner-step alloc spare d' shown f' s' (o, (told, (Err e, (is_a, same), is_o), is_told), is_s, is_answer, is_request, is_handled, is_reply, is_end) = absurd cc

-- where the device has refused in silence
refused : Error → Outcome PlainHandle
refused e = record { answer = Err e; served = Silent; session = serving }

-- an owner is asked for once more: the device refuses in silence, and that is the last step
pub again-step : (device d' : Device) (shown : Shown PlainHandle) (f' : Frontend) (s' : Session) → device.owned ≡ true
    → JoinedStep moves opens_backend opens_gpu asking serving device SetOwner shown f' s' d'
    → (shown.result ≡ Ok Nothing) × (d' ≡ device) × (shown.last ≡ true)
    × (text_of shown.request ≡ record { bytes = owner_request; handles = [] }) × (text_of shown.reply ≡ record { bytes = []; handles = [] })
unfolding refused
again-step device d' shown f' s' owned (o, (told, (Err e, moved, is_o), is_told), is_s, is_answer, is_request, is_handled, is_reply, is_end) =
    let (is_a, same) = subst (λ x. Does device (refusal ((not x, InvalidOperation (codes "already claimed")) ∷ [])) tt (record device { owned = true }) (Err e) d') owned moved in
    let now : o ≡ refused e = is_told ∙ is_o in
    let heard = same_Some _ _ (sym (ap (λ x. answer SetOwner Nobody asking x.served) now) ∙ is_answer) in (
      sym (ap (λ x. x.result) heard),
      same,
      is_end ∙ ap (λ x. is_last SET_OWNER x) now,
      ap text_of is_request,
      ap text_of (is_reply ∙ ap (λ x. cells_of request_number (reply SET_OWNER x.served)) now),
    )
again-step device d' shown f' s' owned (o, (told, (Ok u, moved, is_o), is_told), is_s, is_answer, is_request, is_handled, is_reply, is_end) =
    let (is_a, same) = subst (λ x. Does device (refusal ((not x, InvalidOperation (codes "already claimed")) ∷ [])) tt (record device { owned = true }) (Ok u) d') owned moved in
    absurd cc

-- two sides as they begin, over a new example device
abbrev begun : Global → List PlainHandle → View Device
begun alloc spare = as_view (fresh_parts (dummy.fresh alloc spare) 2 3 [] []) None

-- both calls, from sides as they begin, in lockstep
pub claims : (alloc : Global) (spare : List PlainHandle) (new : View Device) (answers : List FrontendAnswer)
    → StepsAll moves (begun alloc spare) (call.GetFeatures ∷ call.SetOwner ∷ []) answers (Ok tt) new
    → InLockstep moves true (begun alloc spare) (call.GetFeatures ∷ call.SetOwner ∷ []) answers new
    → Claims (dummy.fresh alloc spare) answers new
claims alloc spare new [] steps lockstep = absurd steps
claims alloc spare new (a ∷ []) (_, _, steps) lockstep = absurd steps
claims alloc spare new (a ∷ b ∷ c ∷ later) (_, _, (_, _, steps)) lockstep = absurd steps
claims alloc spare new (a ∷ b ∷ []) steps lockstep =
    let (mid, k1, _, _, later) = lockstep.each in
    let (end, k2, _, _, same) = later in
    let (told, asked, served, kept) = features-step (dummy.fresh alloc spare) mid.device k1.shown mid.frontend mid.session k1.step in
    let from : JoinedStep moves opens_backend opens_gpu asking serving (dummy.fresh alloc spare) SetOwner k2.shown end.frontend end.session end.device =
    subst (λ f. JoinedStep moves opens_backend opens_gpu f serving (dummy.fresh alloc spare) SetOwner k2.shown end.frontend end.session end.device) asked
    (subst (λ s. JoinedStep moves opens_backend opens_gpu mid.frontend s (dummy.fresh alloc spare) SetOwner k2.shown end.frontend end.session end.device) served
    (subst (λ d. JoinedStep moves opens_backend opens_gpu mid.frontend mid.session d SetOwner k2.shown end.frontend end.session end.device) kept k2.step)) in
    let (told', asked', served', owned, goes_on, request, reply) = owner-step alloc spare end.device k2.shown end.frontend end.session from in
    let going = ap (λ v. v.stopped) same ∙ k2.stopped ∙ ap (λ last. if last then Some Table else None) goes_on in
    record {
      answered = ap (λ x. x ∷ answer_of b ∷ []) (k1.answered ∙ told) ∙ ap (λ x. Ok (Number 0x40000003) ∷ x ∷ []) (k2.answered ∙ told');
      asked = (ap (λ v. v.request) same ∙ k2.request ∙ request, ap (λ v. v.reply) same ∙ k2.reply ∙ reply);
      frontend = ap (λ v. v.frontend) same ∙ asked';
      session = ap (λ v. v.session) same ∙ served';
      owned = ap (λ v. v.device) same ∙ owned;
      going = going;
      ready = lockstep.in_step going;
    }

-- all features that the example device answers have the bit of protocol features
offers : Offers moves true
unfolding number_in
offers d d' n (is_n, same) = ap (λ k. has_bit k PROTOCOL_FEATURES) (ap number_in is_n)

-- the same of a run whose contract is given
pub claimed : (alloc : Global) (spare : List PlainHandle) (old new : View Device) (answers : List FrontendAnswer) (end : Result ⊤ Halt)
    → (device : Device) (script script' : List Cut) → device ≡ dummy.fresh alloc spare → script ≡ [] → script' ≡ [] → old ≡ as_view (fresh_parts device 2 3 script script') None
    → StepsAll moves old (call.GetFeatures ∷ call.SetOwner ∷ []) answers end new ⊎ ((end ≡ Err OutOfMemory) × (answers ≡ []) × (new ≡ old))
    → end ≡ Ok tt
    → ((bit : Bool) → AreOffered bit (call.GetFeatures ∷ call.SetOwner ∷ []) answers ⊎ Offers moves bit → IsReady bit old → old.stopped ≡ None → ArePlain (call.GetFeatures ∷ call.SetOwner ∷ []) → Lockstep moves bit old (call.GetFeatures ∷ call.SetOwner ∷ []) answers new)
    → IsReady true old → (new.stopped ≡ Some Premise → ⊥) → Claims (dummy.fresh alloc spare) answers new
claimed alloc spare old new answers (Ok u) device script script' is_device is_script is_script' is_old (inl steps) done contract ready goes_on = go (contract true (inr offers) ready (ap (λ v. v.stopped) is_old) (tt, (tt, tt)))
  where
    is : old ≡ begun alloc spare
    is = is_old ∙ ap (λ d. as_view (fresh_parts d 2 3 script script') None) is_device ∙ ap (λ c. as_view (fresh_parts (dummy.fresh alloc spare) 2 3 c script') None) is_script
        ∙ ap (λ c. as_view (fresh_parts (dummy.fresh alloc spare) 2 3 [] c) None) is_script'

    go : Lockstep moves true old (call.GetFeatures ∷ call.SetOwner ∷ []) answers new → Claims (dummy.fresh alloc spare) answers new
    go (inl (lockstep, _)) = claims alloc spare new answers
        (subst (λ v. StepsAll moves v (call.GetFeatures ∷ call.SetOwner ∷ []) answers (Ok tt) new) is steps)
        (subst (λ v. InLockstep moves true v (call.GetFeatures ∷ call.SetOwner ∷ []) answers new) is lockstep)
    go (inr broke) = absurd (goes_on broke.stopped)
claimed alloc spare old new answers (Ok u) device script script' is_device is_script is_script' is_old (inr (short, _, _)) done contract ready goes_on = absurd cc
claimed alloc spare old new answers (Err e) device script script' is_device is_script is_script' is_old steps done contract ready goes_on = absurd cc

-- the step after a claim, from its contract: it is refused in silence, and the run stops there
pub claimed-again : (device : Device) (done : List FrontendAnswer) (old new : View Device) (a : FrontendAnswer)
    → Claims device done old → Steps moves old SetOwner (Ok a) new → (new.stopped ≡ Some Premise → ⊥) → RefusesAgain a new
claimed-again device done old new a claim (going, moved, steps, lists) goes_on = go (steps true claim.ready)
  where
    go : Answers moves old SetOwner (answer_of a) new → RefusesAgain a new
    go (inl kept) =
        let (told, same, last, request, reply) = again-step old.device new.device kept.shown new.frontend new.session (ap (λ d. d.owned) claim.owned)
        (subst (λ f. JoinedStep moves opens_backend opens_gpu f serving old.device SetOwner kept.shown new.frontend new.session new.device) claim.frontend
        (subst (λ s. JoinedStep moves opens_backend opens_gpu old.frontend s old.device SetOwner kept.shown new.frontend new.session new.device) claim.session kept.step)) in
        record { answered = kept.answered ∙ told; asked = (kept.request ∙ request, kept.reply ∙ reply); stopped = kept.stopped ∙ ap (λ x. if x then Some Table else None) last }
    go (inr premise) = absurd (goes_on premise)
