-- What two lines over the example device show.
use Rattle.std.proofs.Common.{◌≡◌, ◌≢◌, ◌≤◌, ℕ, zero, suc, arith, false, List, [], ◌∷◌, ◌++◌, Some, Ok, Err, refl, sym, ap, ◌∙◌, subst}
use Rattle.std.proofs.lemmas.Option.{same_Some}
use Rattle.std.specs.Prelude.{codes}
use Rattle.std.specs.Fmt.{digits}
use Rattle.std.specs.Str.{is_utf8, chars}
use Rattle.std.specs.declared.alloc.Global.{Global}
use lib.Utf8.{encode}
use Rattle.vhost_message.specs.HeardReq.{request_number}
use Rattle.vhost_message.specs.declared.heard_req.HeardReq.TheVariants.{GET_FEATURES}
use Rattle.vhost_protocol.specs.FrontendCall as calls
use Rattle.vhost_protocol.specs.FrontendCall.{Frontend, FrontendCall, GetFeatures, SetOwner, new_frontend}
use Rattle.vhost_protocol.specs.Joined.{Shown, JoinedStep, is_last}
use Rattle.vhost_protocol.specs.Served.{cells_of, reply}
use Rattle.vhost_protocol.specs.Session.{Session, fresh}
use Rattle.vhost_link.specs.declared.plain.PlainHandle.{PlainHandle}
use Rattle.vhost_dummy_backend.specs.Dummy as dummy
use Rattle.vhost_dummy_backend.specs.Dummy.{DummyGives}
use Rattle.vhost_frontend_core.specs.Values.{answer_of}
use Rattle.vhost_frontend_core.specs.declared.values.answer.FrontendAnswer.{FrontendAnswer}
use Rattle.vhost_frontend_core.specs.declared.values.answer.FrontendAnswer.TheVariants as answer
use Rattle.vhost_joined.specs.Device.{opens_backend, opens_gpu}
use Rattle.vhost_joined.specs.Text.{text_of}
use Rattle.vhost_lines.specs.Calls.{call_in}
use Rattle.vhost_lines.specs.Lines.{bad_line, lines, status_of}
use Rattle.vhost_protocol.specs.declared.profile.Profile.TheVariants.{Vhost}
use Rattle.vhost_lines.specs.Run.{Behind, RunShows, ShowsLines, stopped_text}
use Rattle.vhost_lines.specs.Session.{copies, spares}
use Rattle.vhost_lines.specs.Shown.{good_lines, line_text}
use Rattle.vhost_promises.specs.Example.{Device, asking, owner_request, serving}
use Rattle.vhost_promises.specs.Served.{features_request, features_reply}
use Rattle.vhost_session_tests.specs.TwoLines.{two_lines, two_lines_shown}
use Rattle.vhost_promises.proofs.Claiming.{features-step, number_in, owner-step, read}

-- an answer by its value
number-answer : (a : FrontendAnswer) (n : ℕ) → answer_of a ≡ Ok (calls.Number n) → a ≡ answer.Number n
number-answer (answer.Number m) n is = let same : m ≡ n = cc in ap answer.Number same
number-answer (answer.Failed e) n is = absurd cc
number-answer answer.Done n is = absurd cc
number-answer (answer.Bases b) n is = absurd cc
number-answer (answer.Base b) n is = absurd cc
number-answer (answer.Config part bytes) n is = absurd cc
number-answer (answer.Handle h) n is = absurd cc
number-answer (answer.Inflight area h) n is = absurd cc
number-answer (answer.StateHandle h) n is = absurd cc
number-answer (answer.ShmemConfig c) n is = absurd cc

done-answer : (a : FrontendAnswer) → answer_of a ≡ Ok calls.Nothing → a ≡ answer.Done
done-answer answer.Done is = refl
done-answer (answer.Number m) is = absurd cc
done-answer (answer.Failed e) is = absurd cc
done-answer (answer.Bases b) is = absurd cc
done-answer (answer.Base b) is = absurd cc
done-answer (answer.Config part bytes) is = absurd cc
done-answer (answer.Handle h) is = absurd cc
done-answer (answer.Inflight area h) is = absurd cc
done-answer (answer.StateHandle h) is = absurd cc
done-answer (answer.ShmemConfig c) is = absurd cc

-- the messages of the first line
features-shown : (d d' : Device) (shown : Shown PlainHandle) (f' : Frontend) (s' : Session) → JoinedStep (DummyGives copies) opens_backend opens_gpu (new_frontend 2) fresh d GetFeatures shown f' s' d'
    → (shown.last ≡ false) × (text_of shown.request ≡ record { bytes = features_request; handles = [] }) × (text_of shown.reply ≡ record { bytes = features_reply; handles = [] })
unfolding read number_in
features-shown d d' shown f' s' (o, (told, (Ok n, (is_a, same), is_o), is_told), is_s, is_answer, is_request, is_handled, is_reply, is_end) =
    let now : o ≡ read 0x40000003 = is_told ∙ is_o ∙ ap read (ap number_in is_a) in (
      is_end ∙ ap (λ x. is_last GET_FEATURES x) now,
      ap text_of is_request,
      ap text_of (is_reply ∙ ap (λ x. cells_of request_number (reply GET_FEATURES x.served)) now),
    )
features-shown d d' shown f' s' (o, (told, (Err e, (is_a, same), is_o), is_told), is_s, is_answer, is_request, is_handled, is_reply, is_end) = absurd cc

-- the step of a call
abbrev Step : Frontend → Session → Device → FrontendCall PlainHandle → Shown PlainHandle → Frontend → Session → Device → Type 0
Step = JoinedStep (DummyGives copies) opens_backend opens_gpu

-- the lines, as they are cut
abbrev first_line : List ℕ
first_line = codes "get_features"

abbrev second_line : List ℕ
second_line = codes "set_owner"

-- by evaluation: both are calls, and there is no other line
first-call : call_in first_line ≡ Some GetFeatures
unfolding is_utf8 chars encode
first-call = refl

second-call : call_in second_line ≡ Some SetOwner
unfolding is_utf8 chars encode
second-call = refl

all-lines : good_lines false (lines two_lines) ≡ first_line ∷ second_line ∷ []
unfolding is_utf8 chars encode
all-lines = refl

pub no-bad : status_of (bad_line false 1 (lines two_lines)) ≡ 0
unfolding is_utf8 chars encode
no-bad = refl

-- what they show
first-text : List ℕ → List ℕ
first-text rest = line_text (record { bytes = features_request; handles = [] }) (record { bytes = features_reply; handles = [] }) (answer.Number 0x40000003) ++ rest

second-text : List ℕ
second-text = line_text (record { bytes = owner_request; handles = [] }) (record { bytes = []; handles = [] }) answer.Done

both-text : first-text (second-text ++ []) ≡ two_lines_shown
unfolding digits first-text second-text
both-text = refl

-- the second line, behind the first
second : (alloc : Global) (text : List ℕ) → RunShows asking serving (dummy.fresh alloc spares) (second_line ∷ []) text → text ≡ second-text ++ []
unfolding second-text
second alloc text (call, shown, a, g, t, mid, rest, is_call, step, is_answer, is_text, behind) =
    let (result, is_g, is_t, is_mid, last, request, reply) = owner-step alloc spares mid shown g t (subst (λ c. Step asking serving (dummy.fresh alloc spares) c shown g t mid) (same_Some call SetOwner (sym is_call ∙ second-call)) step) in
    let none : rest ≡ [] = subst (λ b. Behind b (rest ≡ stopped_text []) (RunShows g t mid [] rest)) last behind in
    let done = done-answer a (is_answer ∙ result) in
    is_text ∙ ap (λ x. line_text x (text_of shown.reply) a ++ rest) request ∙ ap (λ x. line_text (record { bytes = owner_request; handles = [] }) x a ++ rest) reply
    ∙ ap (λ x. line_text (record { bytes = owner_request; handles = [] }) (record { bytes = []; handles = [] }) x ++ rest) done
    ∙ ap (λ x. line_text (record { bytes = owner_request; handles = [] }) (record { bytes = []; handles = [] }) answer.Done ++ x) none

-- both
both : (alloc : Global) (text : List ℕ) → RunShows (new_frontend 2) fresh (dummy.fresh alloc spares) (first_line ∷ second_line ∷ []) text → text ≡ first-text (second-text ++ [])
unfolding first-text
both alloc text (call, shown, a, g, t, mid, rest, is_call, step, is_answer, is_text, behind) =
    let asked = subst (λ c. Step (new_frontend 2) fresh (dummy.fresh alloc spares) c shown g t mid) (same_Some call GetFeatures (sym is_call ∙ first-call)) step in
    let (result, is_g, is_t, is_mid) = features-step (dummy.fresh alloc spares) mid shown g t asked in
    let (last, request, reply) = features-shown (dummy.fresh alloc spares) mid shown g t asked in
    let number = number-answer a 0x40000003 (is_answer ∙ result) in
    let later : RunShows g t mid (second_line ∷ []) rest = subst (λ b. Behind b (rest ≡ stopped_text (second_line ∷ [])) (RunShows g t mid (second_line ∷ []) rest)) last behind in
    let shows = second alloc rest (subst (λ f. RunShows f serving (dummy.fresh alloc spares) (second_line ∷ []) rest) is_g
    (subst (λ s. RunShows g s (dummy.fresh alloc spares) (second_line ∷ []) rest) is_t (subst (λ d. RunShows g t d (second_line ∷ []) rest) is_mid later))) in
    is_text ∙ ap (λ x. line_text x (text_of shown.reply) a ++ rest) request ∙ ap (λ x. line_text (record { bytes = features_request; handles = [] }) x a ++ rest) reply
    ∙ ap (λ x. line_text (record { bytes = features_request; handles = [] }) (record { bytes = features_reply; handles = [] }) x ++ rest) number
    ∙ ap (λ x. line_text (record { bytes = features_request; handles = [] }) (record { bytes = features_reply; handles = [] }) (answer.Number 0x40000003) ++ x) shows

-- of a writer that held nothing
pub shown-lines : (out : List ℕ) → ShowsLines false Vhost two_lines (Some []) (Some out) → out ≡ two_lines_shown
shown-lines out (shown, (alloc, run), is) = is ∙ both alloc shown (subst (λ ls. RunShows (new_frontend 2) fresh (dummy.fresh alloc spares) ls shown) all-lines run) ∙ both-text

-- a status that is 0 wherever it is not 2
pub only-two : (status : ℕ) → status ≤ 2 → (status ≢ 2 → status ≡ 0) → status ≢ 0 → status ≡ 2
only-two zero small done failed = absurd (failed refl)
only-two (suc zero) small done failed = absurd (failed (done (λ e. absurd (omega (arith, e)))))
only-two (suc (suc zero)) small done failed = refl
only-two (suc (suc (suc n))) small done failed = absurd (omega (arith, small))
