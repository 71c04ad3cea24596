-- How far the lines of a text are answered.
use Rattle.std.specs.Prelude.{◌≡◌, ℕ, ◌+◌, Bool, true, false, List, [], ◌∷◌, ◌++◌, Option, Some, None, ⊤, Result, IfSome}
use Rattle.std.proofs.Common.{refl, sym, ap, ◌∙◌, append_assoc, append-nil}
use Rattle.std.specs.Io.KnownBytes.{Appends}
use Rattle.vhost_joined.specs.Text.{Text}
use Rattle.vhost_frontend_core.specs.declared.values.answer.FrontendAnswer.{FrontendAnswer}
use Rattle.vhost_joined.specs.declared.halt.Halt.{Halt}
use Rattle.vhost_joined.specs.declared.halt.Stop.{Stop}
use Rattle.vhost_lines.specs.Calls.{Call, call_in}
use Rattle.vhost_lines.specs.Lines.{lines, passes, bad_line, GivesLine}
use Rattle.vhost_lines.specs.Output.{AppendsFront}
use Rattle.vhost_lines.specs.Shown.{good_lines, AnswersCall, AnswersAll, ShowsText, ShowsFrontOf}

-- what is written twice
pub Appends-twice : (a b c : Option (List ℕ)) (x y : List ℕ) → Appends a b x → Appends b c y → Appends a c (x ++ y)
Appends-twice None b c x y first second = tt
Appends-twice (Some a) None c x y first second = absurd first
Appends-twice (Some a) (Some b) None x y first second = absurd second
Appends-twice (Some a) (Some b) (Some c) x y first second = second ∙ ap (λ t. t ++ y) first ∙ append_assoc a x y

-- nothing is written
pub Appends-none : (a : Option (List ℕ)) → Appends a a []
Appends-none None = tt
Appends-none (Some a) = sym (append-nil a)

-- a line that is a call, in front of others
good-call : (comments : Bool) (line : List ℕ) (call : Call) → passes comments line ≡ false → Some call ≡ call_in line → (ls : List (List ℕ))
    → good_lines comments (line ∷ ls) ≡ line ∷ good_lines comments ls
good-call comments line call full is ls = rw full (rw (sym is) refl)

module _ (comments : Bool) {V : Type 0} (Step : V → Call → Result FrontendAnswer Halt → V → Type 0) (request_of reply_of : V → Text) (stopped_of : V → Option Stop) where
  -- one line more
  pub answers-more : (old : V) (done : List (List ℕ)) (shown : List ℕ) (mid : V) (line : List ℕ) (call : Call) (text : List ℕ) (new : V)
      → AnswersAll Step request_of reply_of stopped_of old done shown mid → call_in line ≡ Some call → AnswersCall Step request_of reply_of stopped_of mid call text new
      → AnswersAll Step request_of reply_of stopped_of old (done ++ line ∷ []) (shown ++ text) new
  answers-more old [] shown mid line call text new all is one =
      let begun : AnswersCall Step request_of reply_of stopped_of old call text new = rw all.1 at one in
      let nothing : shown ++ text ≡ text ++ [] = rw all.0 (sym (append-nil text)) in
      (call, text, [], new, is, begun, nothing, (refl, refl))
  answers-more old (first ∷ done) shown mid line call text new all is one = (
    all.0,
    all.1,
    all.2 ++ text,
    all.3,
    all.4,
    all.5,
    ap (λ t. t ++ text) all.6 ∙ append_assoc all.1 all.2 text,
    answers-more all.3 done all.2 mid line call text new all.7 is one,
  )

  -- Of a text the lines before line n are answered, from a session as it began to the present one; the rest is left.
  pub record Goes (text : List ℕ) (start now : V) (old new left : Option (List ℕ)) (n : ℕ) : Type 0 where
    pub rest : List ℕ
    pub is_left : left ≡ Some rest
    pub bad : bad_line comments 1 (lines text) ≡ bad_line comments n (lines rest)
    pub done : List (List ℕ)
    pub shown : List ℕ
    pub good : good_lines comments (lines text) ≡ done ++ good_lines comments (lines rest)
    pub answered : AnswersAll Step request_of reply_of stopped_of start done shown now
    pub written : Appends old new shown

  abbrev pub GoesOn : Option (List ℕ) → V → V → Option (List ℕ) → Option (List ℕ) → Option (List ℕ) → ℕ → Type 0
  GoesOn None start now old new left n = ⊤
  GoesOn (Some text) start now old new left n = Goes text start now old new left n

  -- at the first line
  pub goes-start : (before : Option (List ℕ)) (start : V) (out : Option (List ℕ)) → GoesOn before start start out out before 1
  goes-start None start out = tt
  goes-start (Some text) start out =
      record { rest = text; is_left = refl; bad = refl; done = []; shown = []; good = refl; answered = (refl, refl); written = Appends-none out }

  -- after one line more
  pub goes-more : (before : Option (List ℕ)) (start now : V) (old out left : Option (List ℕ)) (n : ℕ) (line : List ℕ) (call : Call) (text : List ℕ) (new : V) (later after : Option (List ℕ))
      → GoesOn before start now old out left n → GivesLine left after true line → passes comments line ≡ false → Some call ≡ call_in line
      → AnswersCall Step request_of reply_of stopped_of now call text new → Appends out later text → GoesOn before start new old later after (n + 1)
  goes-more None start now old out left n line call text new later after goes gives full is one written = tt
  goes-more (Some whole) start now old out left n line call text new later after goes gives full is one written =
      let given : GivesLine (Some goes.rest) after true line = rw goes.is_left at gives in
      let good : (ls : List (List ℕ)) → good_lines comments (line ∷ ls) ≡ line ∷ good_lines comments ls = good-call comments line call full is in
      let bad : (ls : List (List ℕ)) → bad_line comments n (line ∷ ls) ≡ bad_line comments (n + 1) ls = λ ls. rw full (rw (sym is) refl) in
      record {
        rest = given.0;
        is_left = given.1;
        bad = goes.bad ∙ ap (bad_line comments n) given.2 ∙ bad (lines given.0);
        done = goes.done ++ line ∷ [];
        shown = goes.shown ++ text;
        good = goes.good ∙ ap (λ ls. goes.done ++ good_lines comments ls) given.2 ∙ ap (λ ls. goes.done ++ ls) (good (lines given.0))
            ∙ sym (append_assoc goes.done (line ∷ []) (good_lines comments (lines given.0)));
        answered = answers-more start goes.done goes.shown now line call text new goes.answered (sym is) one;
        written = Appends-twice old out later goes.shown text goes.written written;
      }

  -- after a line that is passed over
  pub goes-past : (before : Option (List ℕ)) (start now : V) (old out left : Option (List ℕ)) (n : ℕ) (line : List ℕ) (after : Option (List ℕ))
      → GoesOn before start now old out left n → GivesLine left after true line → passes comments line ≡ true → GoesOn before start now old out after (n + 1)
  goes-past None start now old out left n line after goes gives is = tt
  goes-past (Some whole) start now old out left n line after goes gives is =
      let given : GivesLine (Some goes.rest) after true line = rw goes.is_left at gives in
      let good : (ls : List (List ℕ)) → good_lines comments (line ∷ ls) ≡ good_lines comments ls = λ ls. rw is refl in
      let bad : (ls : List (List ℕ)) → bad_line comments n (line ∷ ls) ≡ bad_line comments (n + 1) ls = λ ls. rw is refl in
      record {
        rest = given.0;
        is_left = given.1;
        bad = goes.bad ∙ ap (bad_line comments n) given.2 ∙ bad (lines given.0);
        done = goes.done;
        shown = goes.shown;
        good = goes.good ∙ ap (λ ls. goes.done ++ good_lines comments ls) given.2 ∙ ap (λ ls. goes.done ++ ls) (good (lines given.0));
        answered = goes.answered;
        written = goes.written;
      }

  -- at the end, or at a line that is no call
  ends : (IsFresh : V → Type 0) (whole : List ℕ) (start now : V) (old out left : Option (List ℕ)) (n : ℕ) → IsFresh start
      → (goes : Goes whole start now old out left n) → good_lines comments (lines goes.rest) ≡ []
      → ShowsText Step request_of reply_of stopped_of comments IsFresh whole old out
  ends IsFresh whole start now old out left n fresh goes none =
      let good : good_lines comments (lines whole) ≡ goes.done = goes.good ∙ ap (λ ls. goes.done ++ ls) none ∙ append-nil goes.done in
      let answered : AnswersAll Step request_of reply_of stopped_of start (good_lines comments (lines whole)) goes.shown now = rw good goes.answered in
      (start, now, goes.shown, fresh, answered, goes.written)

  pub shown-end : (IsFresh : V → Type 0) (before : Option (List ℕ)) (start now : V) (old out left : Option (List ℕ)) (n : ℕ) (line : List ℕ) (after : Option (List ℕ))
      → IsFresh start → GoesOn before start now old out left n → GivesLine left after false line
      → IfSome before (λ text. ShowsText Step request_of reply_of stopped_of comments IsFresh text old out)
  shown-end IsFresh None start now old out left n line after fresh goes gives = tt
  shown-end IsFresh (Some whole) start now old out left n line after fresh goes gives =
      let empty : goes.rest ≡ [] = rw goes.is_left at gives in
      ends IsFresh whole start now old out left n fresh goes (rw empty refl)

  pub shown-bad : (IsFresh : V → Type 0) (before : Option (List ℕ)) (start now : V) (old out left : Option (List ℕ)) (n : ℕ) (line : List ℕ) (after : Option (List ℕ))
      → IsFresh start → GoesOn before start now old out left n → GivesLine left after true line → passes comments line ≡ false → None ≡ call_in line
      → IfSome before (λ text. ShowsText Step request_of reply_of stopped_of comments IsFresh text old out)
  shown-bad IsFresh None start now old out left n line after fresh goes gives full is = tt
  shown-bad IsFresh (Some whole) start now old out left n line after fresh goes gives full is =
      let given : GivesLine (Some goes.rest) after true line = rw goes.is_left at gives in
      let none : (ls : List (List ℕ)) → good_lines comments (line ∷ ls) ≡ [] = λ ls. rw full (rw (sym is) refl) in
      ends IsFresh whole start now old out left n fresh goes (ap (good_lines comments) given.2 ∙ none (lines given.0))

  pub bad-end : (before : Option (List ℕ)) (start now : V) (old out left : Option (List ℕ)) (n : ℕ) (line : List ℕ) (after : Option (List ℕ))
      → GoesOn before start now old out left n → GivesLine left after false line → IfSome before (λ text. None ≡ bad_line comments 1 (lines text))
  bad-end None start now old out left n line after goes gives = tt
  bad-end (Some whole) start now old out left n line after goes gives =
      let empty : goes.rest ≡ [] = rw goes.is_left at gives in
      sym (goes.bad ∙ ap (λ rest. bad_line comments n (lines rest)) empty)

  pub bad-found : (before : Option (List ℕ)) (start now : V) (old out left : Option (List ℕ)) (n : ℕ) (line : List ℕ) (after : Option (List ℕ))
      → GoesOn before start now old out left n → GivesLine left after true line → passes comments line ≡ false → None ≡ call_in line → IfSome before (λ text. Some n ≡ bad_line comments 1 (lines text))
  bad-found None start now old out left n line after goes gives full is = tt
  bad-found (Some whole) start now old out left n line after goes gives full is =
      let given : GivesLine (Some goes.rest) after true line = rw goes.is_left at gives in
      let found : (ls : List (List ℕ)) → bad_line comments n (line ∷ ls) ≡ Some n = λ ls. rw full (rw (sym is) refl) in
      sym (goes.bad ∙ ap (bad_line comments n) given.2 ∙ found (lines given.0))

  -- no line is answered yet
  pub front-none : (IsFresh : V → Type 0) (before : Option (List ℕ)) (start : V) (out : Option (List ℕ)) → IsFresh start
      → IfSome before (λ text. ShowsFrontOf Step request_of reply_of stopped_of comments IsFresh text out out)
  front-none IsFresh None start out fresh = tt
  front-none IsFresh (Some whole) start out fresh =
      (start, start, [], good_lines comments (lines whole), [], fresh, refl, (refl, refl), ([], [], refl, Appends-none out))

  -- the lines so far are shown whole
  pub front-now : (IsFresh : V → Type 0) (before : Option (List ℕ)) (start now : V) (old out left : Option (List ℕ)) (n : ℕ) → IsFresh start
      → GoesOn before start now old out left n → IfSome before (λ text. ShowsFrontOf Step request_of reply_of stopped_of comments IsFresh text old out)
  front-now IsFresh None start now old out left n fresh goes = tt
  front-now IsFresh (Some whole) start now old out left n fresh goes =
      (start, now, goes.done, good_lines comments (lines goes.rest), goes.shown, fresh, goes.good, goes.answered, (goes.shown, [], sym (append-nil goes.shown), goes.written))

  -- of the last line a front is shown
  pub front-next : (IsFresh : V → Type 0) (before : Option (List ℕ)) (start now : V) (old out left : Option (List ℕ)) (n : ℕ) (line : List ℕ) (call : Call) (text : List ℕ) (new : V) (later after : Option (List ℕ))
      → IsFresh start → GoesOn before start now old out left n → GivesLine left after true line → passes comments line ≡ false → Some call ≡ call_in line
      → AnswersCall Step request_of reply_of stopped_of now call text new → AppendsFront out later text
      → IfSome before (λ whole. ShowsFrontOf Step request_of reply_of stopped_of comments IsFresh whole old later)
  front-next IsFresh None start now old out left n line call text new later after fresh goes gives full is one written = tt
  front-next IsFresh (Some whole) start now old out left n line call text new later after fresh goes gives full is one (front, rest, split, written) =
      let given : GivesLine (Some goes.rest) after true line = rw goes.is_left at gives in
      let good : (ls : List (List ℕ)) → good_lines comments (line ∷ ls) ≡ line ∷ good_lines comments ls = good-call comments line call full is in (
        start,
        new,
        goes.done ++ line ∷ [],
        good_lines comments (lines given.0),
        goes.shown ++ text,
        fresh,
        goes.good ∙ ap (λ ls. goes.done ++ good_lines comments ls) given.2 ∙ ap (λ ls. goes.done ++ ls) (good (lines given.0))
            ∙ sym (append_assoc goes.done (line ∷ []) (good_lines comments (lines given.0))),
        answers-more start goes.done goes.shown now line call text new goes.answered (sym is) one,
        (goes.shown ++ front, rest, ap (λ t. goes.shown ++ t) split ∙ sym (append_assoc goes.shown front rest), Appends-twice old out later goes.shown front goes.written written),
      )
