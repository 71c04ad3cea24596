-- What lines show of a joined run, in the words of the definitions alone.
use Rattle.std.specs.Prelude.{◌≡◌, ℕ, List, [], ◌∷◌, ◌++◌, Option, Some, Bool, true, false, codes}
use Rattle.std.specs.declared.alloc.Global.{Global}
use Rattle.std.specs.Io.KnownBytes.{Appends}
use Rattle.vhost_protocol.specs.declared.profile.Profile.{Profile}
use Rattle.vhost_protocol.specs.FrontendCall.{Frontend, new_frontend}
use Rattle.vhost_protocol.specs.Joined.{Shown, JoinedStep}
use Rattle.vhost_protocol.specs.Session.{Session}
use Rattle.vhost_protocol.specs.Session as session
use Rattle.vhost_dummy_backend.specs.Dummy.{DummyGives, fresh}
use Rattle.vhost_link.specs.declared.plain.PlainHandle.{PlainHandle}
use Rattle.vhost_frontend_core.specs.Values.{answer_of}
use Rattle.vhost_frontend_core.specs.declared.values.answer.FrontendAnswer.{FrontendAnswer}
use Rattle.vhost_joined.specs.Device.{opens_backend, opens_gpu}
use Rattle.vhost_joined.specs.Text.{text_of}
use Rattle.vhost_lines.specs.Calls.{Call, call_in}
use Rattle.vhost_lines.specs.Lines.{lines}
use Rattle.vhost_lines.specs.Output.{AppendsFront}
use Rattle.vhost_lines.specs.Session.{Device, spares, copies}
use Rattle.vhost_lines.specs.Shown.{good_lines, line_text}

-- the lines behind the last step
abbrev pub stopped_text : List (List ℕ) → List ℕ
stopped_text [] = []
stopped_text (line ∷ later) = codes "- - stopped\n" ++ stopped_text later

-- what is so behind the last step, and behind another
abbrev pub Behind : (last : Bool) → Type 0 → Type 0 → Type 0
Behind true stopped goes_on = stopped
Behind false stopped goes_on = goes_on

-- From two sessions and a device: each line is one joined step of its call, shown by its request, its reply and its answer; behind the last step nothing is done.
abbrev pub RunShows : Frontend → Session → Device → List (List ℕ) → List ℕ → Type 0
RunShows f s d [] text = text ≡ []
RunShows f s d (line ∷ later) text =
    (call : Call) × (shown : Shown PlainHandle) × (answer : FrontendAnswer) × (g : Frontend) × (t : Session) × (mid : Device) × (rest : List ℕ)
    × (call_in line ≡ Some call) × JoinedStep (DummyGives copies) opens_backend opens_gpu f s d call shown g t mid × (answer_of answer ≡ shown.result)
    × (text ≡ line_text (text_of shown.request) (text_of shown.reply) answer ++ rest)
    × Behind shown.last (rest ≡ stopped_text later) (RunShows g t mid later rest)

-- from two fresh sessions with this profile, and the device as it begins
abbrev pub FreshShows : Profile → List (List ℕ) → List ℕ → Type 0
FreshShows profile ls text = (alloc : Global) × RunShows (record (new_frontend 2) { profile = profile }) (record session.fresh { profile = profile }) (fresh alloc spares) ls text

-- what is written shows the lines of a text up to the first one that is no call
abbrev pub ShowsLines : (comments : Bool) → Profile → List ℕ → Option (List ℕ) → Option (List ℕ) → Type 0
ShowsLines comments profile text old new = (shown : List ℕ) × FreshShows profile (good_lines comments (lines text)) shown × Appends old new shown

-- what is written is a front of what such lines show, up to some line
abbrev pub ShowsFront : (comments : Bool) → Profile → List ℕ → Option (List ℕ) → Option (List ℕ) → Type 0
ShowsFront comments profile text old new = (done later : List (List ℕ)) × (shown : List ℕ) × (good_lines comments (lines text) ≡ done ++ later) × FreshShows profile done shown × AppendsFront old new shown
