-- Lines that are answered from two new sides are a joined run of the definitions.
use Rattle.std.proofs.Common.{◌≡◌, ℕ, Bool, true, false, List, [], ◌∷◌, ◌++◌, Option, Some, None, Result, Ok, Err, inl, inr, refl, sym, ap, ◌∙◌, subst}
use Rattle.std.proofs.lemmas.Option.{none-some}
use Rattle.std.specs.Prelude.{IfSome, codes, if◌then◌else◌, is_some}
use Rattle.vhost_message.specs.Bits.{has_bit}
use Rattle.vhost_protocol.specs.Error.{Error}
use Rattle.vhost_protocol.specs.Features.{PROTOCOL_FEATURES}
use Rattle.vhost_dummy_backend.specs.Dummy.{DummyGives, fresh}
use Rattle.vhost_frontend_core.specs.Values.{answer_of}
use Rattle.vhost_protocol.specs.declared.profile.Profile.{Profile}
use Rattle.vhost_joined.proofs.Lockstep.{begins, next-ready}
use Rattle.vhost_joined.proofs.Ready.{ready-profile}
use Rattle.vhost_joined.specs.Joined.{IsReady, Offers, Keeps}
use Rattle.vhost_joined.specs.Device.{Gives}
use Rattle.vhost_joined.specs.Joined as joined
use Rattle.vhost_joined.specs.Text.{text_of}
use Rattle.vhost_joined.specs.declared.halt.Halt.TheVariants.{Stopped, OutOfMemory}
use Rattle.vhost_joined.specs.declared.halt.Stop.{Stop}
use Rattle.vhost_joined.specs.declared.halt.Stop.TheVariants.{Table}
use Rattle.vhost_lines.specs.Lines.{lines}
use Rattle.vhost_lines.specs.Run.{Behind, RunShows, FreshShows, ShowsLines, ShowsFront, stopped_text}
use Rattle.vhost_lines.specs.Session.{View, Device, Steps, AnswersLines, AnswersFront, IsFresh, copies, spares, request_of, reply_of, stopped_of}
use Rattle.vhost_lines.specs.Shown.{AnswersAll, good_lines, line_text}
use Rattle.vhost_lines.proofs.Plain.{line-plain}

-- the number of an answer that has one
number_in : Result ℕ Error → ℕ
number_in (Ok n) = n
number_in (Err e) = 0

-- the device's relation
abbrev moves : Gives Device
moves = DummyGives copies

-- all features that the example device answers have the bit of protocol features
offers : Offers moves true
unfolding number_in
offers d d' n (is_n, same) = ap (λ k. has_bit k PROTOCOL_FEATURES) (ap number_in is_n)

-- behind the last step
stopped-shows : (old new : View) (ls : List (List ℕ)) (text : List ℕ) (stop : Stop) → old.stopped ≡ Some stop → AnswersAll Steps request_of reply_of stopped_of old ls text new → text ≡ stopped_text ls
stopped-shows old new [] text stop is (none, same) = none
stopped-shows old new (line ∷ ls) text stop is (call, first, rest, mid, asks, (Ok a, step, shows), split, all) = absurd (none-some stop (sym step.0 ∙ is))
stopped-shows old new (line ∷ ls) text stop is (call, first, rest, mid, asks, (Err Stopped, step, shows), split, all) =
    split ∙ ap (λ x. x ++ rest) shows ∙ ap (λ x. codes "- - stopped\n" ++ x) (stopped-shows mid new ls rest stop (ap (λ v. v.stopped) step.1 ∙ is) all)
stopped-shows old new (line ∷ ls) text stop is (call, first, rest, mid, asks, (Err OutOfMemory, step, shows), split, all) = absurd shows

-- from two sides that are in step
run-shows : (old new : View) (ls : List (List ℕ)) (text : List ℕ) → IsReady true old → old.stopped ≡ None → AnswersAll Steps request_of reply_of stopped_of old ls text new
    → RunShows old.frontend old.session old.device ls text
run-shows old new [] text ready going (none, same) = none
run-shows old new (line ∷ ls) text ready going (call, first, rest, mid, asks, (Err Stopped, step, shows), split, all) = absurd (cc (subst (λ s. is_some s ≡ true) going step.0))
run-shows old new (line ∷ ls) text ready going (call, first, rest, mid, asks, (Err OutOfMemory, step, shows), split, all) = absurd shows
run-shows old new (line ∷ ls) text ready going (call, first, rest, mid, asks, (Ok a, (on, moved, steps, lists), (goes_on, shows)), split, all) = go (steps true ready) (λ next on'. run-shows mid new ls rest next on' all)
  where
    go : joined.Answers moves old call (answer_of a) mid → (IsReady true mid → mid.stopped ≡ None → RunShows mid.frontend mid.session mid.device ls rest)
        → RunShows old.frontend old.session old.device (line ∷ ls) text
    go (inr premise) later = absurd (goes_on premise)
    go (inl k) later = (
      call,
      k.shown,
      a,
      mid.frontend,
      mid.session,
      mid.device,
      rest,
      asks,
      k.step,
      k.answered,
      split ∙ ap (λ x. x ++ rest) (shows ∙ ap (λ r. line_text r mid.reply a) k.request ∙ ap (λ r. line_text (text_of k.shown.request) r a) k.reply),
      by k.shown.last refl,
    )
      where
        by : (last : Bool) → k.shown.last ≡ last → Behind last (rest ≡ stopped_text ls) (RunShows mid.frontend mid.session mid.device ls rest)
        by true e = stopped-shows mid new ls rest Table (k.stopped ∙ ap (λ x. if x then Some Table else None) e) all
        by false e = later (next-ready moves true call old mid (answer_of a) (inr offers) (line-plain line call asks) ready k e) (k.stopped ∙ ap (λ x. if x then Some Table else None) e)

-- from a session as it begins
fresh-shows : (profile : Profile) (start new : View) (ls : List (List ℕ)) (text : List ℕ) → IsFresh profile start → AnswersAll Steps request_of reply_of stopped_of start ls text new → FreshShows profile ls text
fresh-shows profile start new ls text (alloc, is) all = (
  alloc,
  subst (λ v. RunShows v.frontend v.session v.device ls text) is
      (run-shows start new ls text (subst (λ v. IsReady true v) (sym is) (ready-profile true _ profile (begins (fresh alloc spares) 2 3 [] [] true))) (ap (λ v. v.stopped) is) all),
)

-- what lines show that were answered
pub lines_known : (comments : Bool) (profile : Profile) (before old new : Option (List ℕ)) → IfSome before (λ text. AnswersLines comments profile text old new)
    → IfSome before (λ text. ShowsLines comments profile text old new)
lines_known comments profile None old new shows = tt
lines_known comments profile (Some text) old new (start, end, shown, begun, all, written) =
    (shown, fresh-shows profile start end (good_lines comments (lines text)) shown begun all, written)

-- a front of it
pub front_known : (comments : Bool) (profile : Profile) (before old new : Option (List ℕ)) → IfSome before (λ text. AnswersFront comments profile text old new)
    → IfSome before (λ text. ShowsFront comments profile text old new)
front_known comments profile None old new shows = tt
front_known comments profile (Some text) old new (start, end, done, later, shown, begun, good, all, written) =
    (done, later, shown, good, fresh-shows profile start end done shown begun all, written)
