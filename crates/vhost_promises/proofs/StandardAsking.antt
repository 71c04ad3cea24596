-- A frontend under Standard whose first request is refused by a reply without a body, and whose second is answered.
use Rattle.std.proofs.Common.{◌≡◌, ℕ, false, List, [], ◌∷◌, ◌++◌, Some, Result, Ok, Err, refl, ap, subst, ◌∙◌}
use Rattle.vhost_message.specs.HeardReq.{request_number}
use Rattle.vhost_message.specs.declared.error.Error as declared
use Rattle.vhost_message.specs.declared.error.Error.TheVariants as code
use Rattle.vhost_message.specs.declared.heard_req.HeardReq.{HeardReq}
use Rattle.vhost_message.specs.declared.heard_req.HeardReq.TheVariants.{GET_CONFIG, GET_FEATURES}
use Rattle.vhost_protocol.specs.AnswerTable.{answered}
use Rattle.vhost_protocol.specs.Ask.{Sends, ask}
use Rattle.vhost_protocol.specs.Error.{BackendInternalError, seen}
use Rattle.vhost_protocol.specs.FrontendCall.{Frontend, FrontendCall, GetConfig, GetFeatures, Number, Value}
use Rattle.vhost_protocol.specs.ReplySplit.{whole_split}
use Rattle.vhost_protocol.specs.Stream.{plain}
use Rattle.vhost_protocol.specs.Take.{take}
use Rattle.vhost_protocol.specs.Written.{ConfigBytes, Empty, Written, head_of}
use Rattle.vhost_protocol.specs.declared.asked.Awaited.TheVariants.{Reply}
use Rattle.vhost_protocol.specs.declared.asked.Shape.TheVariants as shape
use Rattle.vhost_protocol.specs.declared.profile.Profile.TheVariants.{Standard}
use Rattle.vhost_link.specs.Mem.{event}
use Rattle.vhost_connection.specs.Memory.{stream, TalksLaw}
use Rattle.vhost_link.specs.declared.plain.PlainHandle.{PlainHandle}
use Rattle.vhost_frontend.specs.Whole.{Whole, WholeWithRoom}
use Rattle.vhost_frontend_core.specs.Frontend.{endpoint_of, session_of}
use Rattle.vhost_frontend_core.specs.Taking.{valued}
use Rattle.vhost_promises.specs.Runs.{answer_of_link}
use Rattle.vhost_promises.specs.Served.{features_reply, features_request}
use Rattle.vhost_promises.specs.StandardAsking.{GoesOnAsking, config_request, no_config, with_config}
use Rattle.vhost_promises.specs.Streams.{Near}
use Rattle.vhost_promises.proofs.KnownAnswer.{Inner, roomy-known, whole-known}

abbrev begin : ℕ → Frontend
begin queues = record (with_config queues) { profile = Standard }

abbrev zeros : List ℕ
zeros = 0 ∷ 0 ∷ 0 ∷ 0 ∷ 0 ∷ 0 ∷ 0 ∷ 0 ∷ []

abbrev config_call : FrontendCall PlainHandle
config_call = GetConfig 0 8 0 zeros

abbrev config_written : Written HeardReq PlainHandle
config_written = record { request = GET_CONFIG; reply = false; need_reply = false; payload = ConfigBytes (record { offset = 0; size = 8; flags = 0 }) zeros; handles = [] }

abbrev features_written : Written HeardReq PlainHandle
features_written = record { request = GET_FEATURES; reply = false; need_reply = false; payload = Empty; handles = [] }

abbrev remembers : ℕ → Frontend
remembers queues = record (begin queues) { offered = 0x40000003 }

config-asked : (queues : ℕ) → ask (begin queues) config_call ≡ Sends config_written (Reply shape.Config) (begin queues)
config-asked queues = refl

features-asked : (queues : ℕ) → ask {H = PlainHandle} (begin queues) GetFeatures ≡ Sends features_written (Reply shape.U64) (begin queues)
features-asked queues = refl

config-known : (queues : ℕ) → take config_call (Reply shape.Config) (head_of request_number config_written) (begin queues) (plain (no_config ++ features_reply)) ≡ (Some (answered (begin queues) (Err BackendInternalError)), plain features_reply)
unfolding whole_split
config-known queues = refl

features-known : (queues : ℕ) → take {H = PlainHandle} GetFeatures (Reply shape.U64) (head_of request_number features_written) (begin queues) (plain features_reply) ≡ (Some (answered (remembers queues) (Ok (Number 0x40000003))), [])
unfolding whole_split
features-known queues = refl

-- no other error is seen as that one
other-seen : (e : declared.Error) → seen e ≡ BackendInternalError → e ≡ code.BackendInternalError
other-seen code.BackendInternalError is = refl
other-seen _ is = absurd (cc is)

refused-as : {A : Type 0} (value : A → Value PlainHandle) (result : Result A declared.Error) → valued value result ≡ Err BackendInternalError → result ≡ Err code.BackendInternalError
refused-as value (Ok a) is = absurd (cc is)
refused-as value (Err e) is = ap Err (other-seen e (cc is))

by-number : (result : Result ℕ declared.Error) (n : ℕ) → valued {H = PlainHandle} Number result ≡ Ok (Number n) → result ≡ Ok n
by-number (Ok m) n is = cc
by-number (Err e) n is = absurd cc

pub goes-on-asking : {A : Type 0} → TalksLaw → (queues flags : ℕ) (buffer : List ℕ) (value : A → Value PlainHandle) (old chosen mid new : Inner) (config : Result A declared.Error) (features : Result ℕ declared.Error)
    → flags ≡ 0 → buffer ≡ zeros → endpoint_of chosen ≡ endpoint_of old → session_of chosen ≡ record (session_of old) { profile = Standard }
    → WholeWithRoom event (GetConfig 0 8 flags buffer) value chosen config mid → Whole event GetFeatures Number mid features new
    → session_of old ≡ with_config queues → stream (endpoint_of old) ≡ plain (no_config ++ features_reply) → answer_of_link config ≡ false → answer_of_link features ≡ false
    → GoesOnAsking queues (endpoint_of old) config features (endpoint_of new) (session_of new)
goes-on-asking law queues flags buffer value old chosen mid new config features no_flags all_zeros same_end same_session first second begins came sound sound' =
    let asked = subst (λ bs. WholeWithRoom event (GetConfig 0 8 0 bs) value chosen config mid) all_zeros (subst (λ n. WholeWithRoom event (GetConfig 0 8 n buffer) value chosen config mid) no_flags first) in
    let b : session_of chosen ≡ begin queues = same_session ∙ ap (λ (f : Frontend). record f { profile = Standard }) begins in
    let one = roomy-known law config_call value (begin queues) (begin queues) config_written shape.Config (Err BackendInternalError) (plain (no_config ++ features_reply)) (plain features_reply) (config-asked queues) (config-known queues)
    chosen config mid b (ap stream same_end ∙ came) sound asked in
    let two = whole-known law GetFeatures Number (begin queues) (remembers queues) features_written shape.U64 (Ok (Number 0x40000003)) (plain features_reply) [] (features-asked queues) (features-known queues)
    mid features new one.session one.left sound' second in record {
      refused = refused-as value config one.answered;
      answered = by-number features 0x40000003 two.answered;
      written = two.written ∙ ap (λ x. x ++ plain features_request) (one.written ∙ ap (λ (e : Near). e.link.sent ++ plain config_request) same_end);
      left = two.left;
      session = two.session;
    }
