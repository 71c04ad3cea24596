-- An object is shared with a frontend that takes one, step by step.
use Rattle.std.proofs.Common.{◌≡◌, ℕ, true, false, List, [], ◌∷◌, Some, None, Result, Ok, Err, inl, inr, sym, ap, ◌∙◌, subst}
use Rattle.std.proofs.lemmas.Option.{same_Some}
use Rattle.std.specs.Prelude.{◌⊎◌, ⊤, if◌then◌else◌}
use Rattle.vhost_message.specs.BackendReq.{backend_request_number}
use Rattle.vhost_message.specs.declared.backend_req.BackendReq.{BackendReq}
use Rattle.vhost_message.specs.declared.backend_req.BackendReq.TheVariants.{SHARED_OBJECT_ADD}
use Rattle.vhost_message.specs.declared.io_error.IoError as declared
use Rattle.vhost_message.specs.declared.records.shared.VhostUserSharedMsg.{VhostUserSharedMsg}
use Rattle.vhost_protocol.specs.Error.{FrontendInternalError}
use Rattle.vhost_protocol.specs.IoError.{IoError, Of, seen_io_result}
use Rattle.vhost_protocol.specs.Joined.{read_as}
use Rattle.vhost_protocol.specs.JoinedReverse.{ReverseShown, ReverseJoinedStep, Asks}
use Rattle.vhost_protocol.specs.Reverse.{Backend, ReverseOutcome, Server, SharedObjectAdd, is_reverse_last, reverse_answer, with_number}
use Rattle.vhost_protocol.specs.Served.{cells_of, reply}
use Rattle.vhost_protocol.specs.Written.{ObjectName, Written}
use Rattle.vhost_link.specs.declared.cut.Cut.{Cut}
use Rattle.vhost_link.specs.declared.plain.PlainHandle.{PlainHandle}
use Rattle.vhost_backend_req.specs.declared.call.ReverseCall.{ReverseCall}
use Rattle.vhost_backend_req.specs.declared.call.ReverseCall.TheVariants as call
use Rattle.vhost_joined.specs.Text.{text_of}
use Rattle.vhost_joined.specs.declared.halt.Halt.{Halt}
use Rattle.vhost_joined.specs.declared.halt.Halt.TheVariants.{OutOfMemory}
use Rattle.vhost_joined.specs.declared.halt.Stop.TheVariants.{Premise, Table}
use Rattle.vhost_joined_reverse.specs.Joined.{View, IsReady, Answers, Steps, StepsAll}
use Rattle.vhost_joined_reverse.specs.Lockstep.{InLockstep, Lockstep, RunsReverse}
use Rattle.vhost_joined_reverse.specs.Sides.{as_view, fresh_parts}
use Rattle.vhost_promises.specs.ExampleBack.{OneObjectGives, Shares, SharesAgain, add_reply, add_request, agreed, agreed_server, name, refused_number, taken_number, unserved}
use Rattle.vhost_promises.specs.declared.example_back.OneObject.{OneObject}

-- the message that asks for an object to be taken
abbrev adds : Written BackendReq PlainHandle
adds = record { request = SHARED_OBJECT_ADD; reply = false; need_reply = true; payload = ObjectName name; handles = [] }

-- what follows from the frontend's answer
outcome : Result ℕ IoError → ReverseOutcome PlainHandle
outcome a = with_number agreed_server (read_as adds) a

-- the frontend takes an object
take-step : (d d' : OneObject) (shown : ReverseShown PlainHandle) (b' : Backend) (s' : Server) → d.taken ≡ false → ReverseJoinedStep OneObjectGives agreed agreed_server d (Asks (SharedObjectAdd name)) shown b' s' d'
    → (shown.result ≡ Ok 0) × (text_of shown.request ≡ record { bytes = add_request; handles = [] }) × (text_of shown.reply ≡ record { bytes = add_reply taken_number; handles = [] })
    × (shown.last ≡ false) × (b' ≡ agreed) × (s' ≡ agreed_server) × (d' ≡ record { taken = true })
unfolding outcome
take-step d d' shown b' s' free ((o, (a, (is_a, moved), is_o), is_answer, is_request, is_handled, is_reply, is_last), same_b, same_s) =
    let now : o ≡ outcome (Ok 0) = is_o ∙ ap outcome (is_a ∙ ap (λ t. if t then Err unserved else Ok 0) free) in (
      sym (same_Some _ _ (sym (ap (λ x. reverse_answer true x.served) now) ∙ is_answer)),
      ap text_of is_request,
      ap text_of (is_reply ∙ ap (λ x. cells_of backend_request_number (reply SHARED_OBJECT_ADD x.served)) now),
      is_last ∙ ap is_reverse_last now,
      same_b,
      same_s,
      moved,
    )

-- it has one already, and fails
refuse-step : (d d' : OneObject) (shown : ReverseShown PlainHandle) (b' : Backend) (s' : Server) → d.taken ≡ true → ReverseJoinedStep OneObjectGives agreed agreed_server d (Asks (SharedObjectAdd name)) shown b' s' d'
    → (shown.result ≡ Err (Of FrontendInternalError)) × (text_of shown.request ≡ record { bytes = add_request; handles = [] }) × (text_of shown.reply ≡ record { bytes = add_reply refused_number; handles = [] })
    × (shown.last ≡ false) × (b' ≡ agreed) × (s' ≡ agreed_server) × (d' ≡ record { taken = true })
unfolding outcome
refuse-step d d' shown b' s' taken ((o, (a, (is_a, moved), is_o), is_answer, is_request, is_handled, is_reply, is_last), same_b, same_s) =
    let now : o ≡ outcome (Err unserved) = is_o ∙ ap outcome (is_a ∙ ap (λ t. if t then Err unserved else Ok 0) taken) in (
      sym (same_Some _ _ (sym (ap (λ x. reverse_answer true x.served) now) ∙ is_answer)),
      ap text_of is_request,
      ap text_of (is_reply ∙ ap (λ x. cells_of backend_request_number (reply SHARED_OBJECT_ADD x.served)) now),
      is_last ∙ ap is_reverse_last now,
      same_b,
      same_s,
      moved,
    )

-- two sides as they begin, over a frontend without an object
abbrev begun : View OneObject
begun = as_view (fresh_parts (record { taken = false }) 3 [] []) None

-- both flags and the object
abbrev flags_and_object : List (ReverseCall PlainHandle)
flags_and_object = call.SetReplyAck true ∷ call.SetSharedObject true ∷ call.SharedObjectAdd name ∷ []

shares : (new : View OneObject) (answers : List (Result ℕ declared.IoError)) → StepsAll OneObjectGives begun flags_and_object answers (Ok tt) new → InLockstep OneObjectGives begun flags_and_object answers new → Shares answers new
shares new [] steps lockstep = absurd steps
shares new (a ∷ []) (_, _, steps) lockstep = absurd steps
shares new (a ∷ b ∷ []) (_, _, (_, _, steps)) lockstep = absurd steps
shares new (a ∷ b ∷ c ∷ d ∷ later) (_, _, (_, _, (_, _, steps))) lockstep = absurd steps
shares new (a ∷ b ∷ c ∷ []) steps lockstep =
    let (one, k1, _, rest) = lockstep.each in
    let (two, k2, _, rest') = rest in
    let (end, k3, _, same) = rest' in
    let (shown1, b1, s1, d1) = k1.step in
    let (shown2, b2, s2, d2) = k2.step in
    let from : ReverseJoinedStep OneObjectGives agreed agreed_server two.device (Asks (SharedObjectAdd name)) k3.shown end.backend end.server end.device =
    subst (λ b. ReverseJoinedStep OneObjectGives b agreed_server two.device (Asks (SharedObjectAdd name)) k3.shown end.backend end.server end.device) (b2 ∙ ap sharing b1)
    (subst (λ s. ReverseJoinedStep OneObjectGives two.backend s two.device (Asks (SharedObjectAdd name)) k3.shown end.backend end.server end.device) (s2 ∙ s1) k3.step) in
    let (result, request, reply, last, is_b, is_s, is_d) = take-step two.device end.device k3.shown end.backend end.server (ap (λ d. d.taken) (d2 ∙ d1)) from in
    record {
      answered = λ i. (k1.answered ∙ ap (λ x. x.result) shown1) i ∷ (k2.answered ∙ ap (λ x. x.result) shown2) i ∷ (k3.answered ∙ result) i ∷ [];
      after = record {
        request = ap (λ v. v.request) same ∙ k3.request ∙ request;
        reply = ap (λ v. v.reply) same ∙ k3.reply ∙ reply;
        backend = ap (λ v. v.backend) same ∙ is_b;
        server = ap (λ v. v.server) same ∙ is_s;
        taken = ap (λ v. v.device) same ∙ is_d;
        going = ap (λ v. v.stopped) same ∙ k3.stopped ∙ ap (λ x. if x then Some Table else None) last;
        ready = lockstep.in_step;
      };
    }
  where
    sharing : Backend → Backend
    sharing b = record b { shared_object = true }

-- the same of a run whose contract is given
pub shared : (old new : View OneObject) (called : VhostUserSharedMsg) (device : OneObject) (script script' : List Cut) (before after : List (Result ℕ declared.IoError)) (end : Result ⊤ Halt)
    → called ≡ name → device ≡ record { taken = false } → script ≡ [] → script' ≡ [] → old ≡ as_view (fresh_parts device 3 script script') None
    → (run : RunsReverse OneObjectGives old (call.SetReplyAck true ∷ call.SetSharedObject true ∷ call.SharedObjectAdd called ∷ []) before end after new) → end ≡ Ok tt → IsReady old → (new.stopped ≡ Some Premise → ⊥)
    → Shares run.answers new
shared old new called device script script' before after end is_name is_device is_script is_script' is_old run done ready goes_on = by run.steps (run.lockstep ready (ap (λ v. v.stopped) is_old))
  where
    is : old ≡ begun
    is = is_old ∙ ap (λ d. as_view (fresh_parts d 3 script script') None) is_device ∙ ap (λ c. as_view (fresh_parts (record { taken = false }) 3 c script') None) is_script
        ∙ ap (λ c. as_view (fresh_parts (record { taken = false }) 3 [] c) None) is_script'

    calls : VhostUserSharedMsg → List (ReverseCall PlainHandle)
    calls n = call.SetReplyAck true ∷ call.SetSharedObject true ∷ call.SharedObjectAdd n ∷ []

    by : StepsAll OneObjectGives old (calls called) run.answers end new ⊎ ((end ≡ Err OutOfMemory) × (run.answers ≡ []) × (new ≡ old)) → Lockstep OneObjectGives old (calls called) run.answers new → Shares run.answers new
    by (inl steps) (inl (lockstep, _)) = shares new run.answers
        (subst (λ v. StepsAll OneObjectGives v flags_and_object run.answers (Ok tt) new) is
        (subst (λ n. StepsAll OneObjectGives old (calls n) run.answers (Ok tt) new) is_name (subst (λ e. StepsAll OneObjectGives old (calls called) run.answers e new) done steps)))
        (subst (λ v. InLockstep OneObjectGives v flags_and_object run.answers new) is (subst (λ n. InLockstep OneObjectGives old (calls n) run.answers new) is_name lockstep))
    by (inl steps) (inr broke) = absurd (goes_on broke.stopped)
    by (inr (short, _, _)) lockstep = let found : Ok tt ≡ Err OutOfMemory = sym done ∙ short in absurd cc

-- the step behind it, from its contract: the object is refused, and the run goes on
pub shared-again : (done : List (Result ℕ declared.IoError)) (old new : View OneObject) (called : VhostUserSharedMsg) (a : Result ℕ declared.IoError) → called ≡ name → Shares done old
    → Steps OneObjectGives old (Asks (SharedObjectAdd called)) (Ok a) new → (new.stopped ≡ Some Premise → ⊥) → SharesAgain a new
shared-again done old new called a is_name claim (going, steps) goes_on = go (subst (λ n. Answers OneObjectGives old (Asks (SharedObjectAdd n)) (seen_io_result a) new) is_name steps)
  where
    go : Answers OneObjectGives old (Asks (SharedObjectAdd name)) (seen_io_result a) new → SharesAgain a new
    go (inl k) =
        let now = claim.after in
        let (result, request, reply, last, is_b, is_s, is_d) = refuse-step old.device new.device k.shown new.backend new.server (ap (λ d. d.taken) now.taken)
        (subst (λ b. ReverseJoinedStep OneObjectGives b agreed_server old.device (Asks (SharedObjectAdd name)) k.shown new.backend new.server new.device) now.backend
        (subst (λ s. ReverseJoinedStep OneObjectGives old.backend s old.device (Asks (SharedObjectAdd name)) k.shown new.backend new.server new.device) now.server k.step)) in
        record {
          answered = k.answered ∙ result;
          after = record {
            request = k.request ∙ request;
            reply = k.reply ∙ reply;
            backend = is_b;
            server = is_s;
            taken = is_d;
            going = k.stopped ∙ ap (λ x. if x then Some Table else None) last;
            ready = k.in_step;
          };
        }
    go (inr (premise, _)) = absurd (goes_on premise)
