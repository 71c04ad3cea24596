-- What is shown of lines that are answered one after another.
use Rattle.std.specs.Prelude.{◌≡◌, ◌≢◌, ℕ, Bool, List, [], ◌∷◌, ◌++◌, Option, Some, Result, Ok, Err, is_some, if◌then◌else◌, codes}
use Rattle.vhost_joined.specs.Text.{Text}
use Rattle.vhost_frontend_core.specs.declared.values.answer.FrontendAnswer.{FrontendAnswer}
use Rattle.vhost_joined.specs.declared.halt.Halt.{Halt}
use Rattle.vhost_joined.specs.declared.halt.Halt.TheVariants.{Stopped, OutOfMemory}
use Rattle.vhost_joined.specs.declared.halt.Stop.{Stop}
use Rattle.vhost_joined.specs.declared.halt.Stop.TheVariants.{Premise}
use Rattle.std.specs.Io.KnownBytes.{Appends}
use Rattle.vhost_lines.specs.Calls.{Call, call_in}
use Rattle.vhost_lines.specs.Lines.{lines, passes}
use Rattle.vhost_lines.specs.Output.{AppendsFront}
use Rattle.vhost_lines.specs.Text.{message_text, answer_text}

-- the lines that are calls, before the first one that is none and is not passed over
abbrev pub good_lines : (comments : Bool) → List (List ℕ) → List (List ℕ)
good_lines comments [] = []
good_lines comments (line ∷ later) =
    if passes comments line then good_lines comments later else if is_some (call_in line) then line ∷ good_lines comments later else []

-- request, reply and answer in a line
abbrev pub line_text : Text → Text → FrontendAnswer → List ℕ
line_text request reply answer =
    message_text request.bytes request.handles ++ (codes " " ++ (message_text reply.bytes reply.handles ++ (codes " " ++ (answer_text answer ++ codes "\n"))))

-- `Step` is what a session does, and the others are what it shows
module _ {V : Type 0} (Step : V → Call → Result FrontendAnswer Halt → V → Type 0) (request_of reply_of : V → Text) (stopped_of : V → Option Stop) where
  -- the line of a step: its messages and its answer, or that the run has stopped before
  abbrev pub Shows : Result FrontendAnswer Halt → V → List ℕ → Type 0
  Shows (Ok answer) new text = (stopped_of new ≢ Some Premise) × (text ≡ line_text (request_of new) (reply_of new) answer)
  Shows (Err Stopped) new text = text ≡ codes "- - stopped\n"
  Shows (Err OutOfMemory) new text = ⊥

  -- a call is answered and shown
  abbrev pub AnswersCall : V → Call → List ℕ → V → Type 0
  AnswersCall old call text new = (result : Result FrontendAnswer Halt) × Step old call result new × Shows result new text

  -- lines are answered one after another, each the call that it asks for
  abbrev pub AnswersAll : V → List (List ℕ) → List ℕ → V → Type 0
  AnswersAll old [] text new = (text ≡ []) × (new ≡ old)
  AnswersAll old (line ∷ lines) text new =
      (call : Call) × (first rest : List ℕ) × (mid : V)
      × (call_in line ≡ Some call) × AnswersCall old call first mid × (text ≡ first ++ rest) × AnswersAll mid lines rest new

  -- From a session as it begins, the lines of a text that are calls up to the first one that is none are answered, and what is written is what they show.
  abbrev pub ShowsText : (comments : Bool) → (V → Type 0) → List ℕ → Option (List ℕ) → Option (List ℕ) → Type 0
  ShowsText comments IsFresh text old new = (start end : V) × (shown : List ℕ) × IsFresh start × AnswersAll start (good_lines comments (lines text)) shown end × Appends old new shown

  -- What is written is a front of what such lines show, up to some line: all of it, or what came before a write that failed.
  abbrev pub ShowsFrontOf : (comments : Bool) → (V → Type 0) → List ℕ → Option (List ℕ) → Option (List ℕ) → Type 0
  ShowsFrontOf comments IsFresh text old new =
      (start end : V) × (done later : List (List ℕ)) × (shown : List ℕ)
      × IsFresh start × (good_lines comments (lines text) ≡ done ++ later) × AnswersAll start done shown end × AppendsFront old new shown
