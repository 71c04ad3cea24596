-- A whole run under Standard answers whoever waits.
use Rattle.std.proofs.Common.{◌≡◌, ◌∙◌, List, [], ◌∷◌, ◌++◌, Option, Some, None, Result, Ok, Err, refl, sym, ap, subst, ℤ}
use Rattle.std.specs.Prelude.{⊤}
use Rattle.vhost_message.specs.declared.heard_req.HeardReq.{HeardReq}
use Rattle.vhost_message.specs.HeardReq.{request_number}
use Rattle.vhost_protocol.specs.Codes.{allows_handles}
use Rattle.vhost_protocol.specs.declared.profile.Profile.TheVariants.{Standard}
use Rattle.vhost_protocol.specs.DeviceCall.{Call, Answer}
use Rattle.vhost_protocol.specs.Error.{Error, SocketBroken, Raw}
use Rattle.vhost_protocol.specs.Handler.{MeetsRow}
use Rattle.vhost_protocol.specs.Run as run
use Rattle.vhost_protocol.specs.Served.{reply, cells_of}
use Rattle.vhost_protocol.specs.Session.{Session, heard_in}
use Rattle.vhost_protocol.specs.Split.{Message}
use Rattle.vhost_protocol.specs.Step.{Outcome}
use Rattle.vhost_protocol.specs.Stream.{Cell, Item}
use Rattle.vhost_protocol.proofs.FollowLaws.{met-profile, met-well}
use Rattle.vhost_promises.specs.Waiting.{IsHeard, AllAnswered, no_more, ended, not_whole, served}

module _ {H B G Dev : Type 0} (gives : Dev → (c : Call H B G) → Answer c → Dev → Type 0) (opens_backend : H → Result B Error → Type 0) (opens_gpu : H → Result G Error → Type 0) where
  abbrev Meets : Session → Dev → Message HeardReq H → Result ⊤ Error → List (Cell H) → Session → Dev → Type 0
  Meets = MeetsRow gives opens_backend opens_gpu

  abbrev Handles : Session → Dev → Result (Message HeardReq H) Error → Result ⊤ Error → List (Cell H) → Session → Dev → Type 0
  Handles = run.Handles heard_in allows_handles (λ (t : Session). t.failed) Meets

  -- the calls behind one, from the session that it left
  Behind : Session → List (Result ⊤ Error) → List (Item H) → List (Cell H) → Session → Type 0
  Behind t answers later rest s' = t.profile ≡ Standard → AllAnswered t answers later rest s'

  -- a call that changed nothing
  unchanged : (s mid s' : Session) (d between : Dev) (e : Error) (a : Result ⊤ Error) (answers : List (Result ⊤ Error)) (now later : List (Item H)) (first rest : List (Cell H)) → s.profile ≡ Standard
      → (AllAnswered s answers later rest s' → AllAnswered s (Err e ∷ answers) (now ++ later) rest s')
      → Handles s d (Err e) a first mid between → Behind mid answers later rest s' → AllAnswered s (a ∷ answers) (now ++ later) (first ++ rest) s'
  unfolding Behind
  unchanged s mid s' d between e a answers now later first rest standard adds (is, silent, same, still) behind =
      let left : AllAnswered s answers later rest s' = subst (λ (t : Session). AllAnswered t answers later rest s') same (behind (ap (λ (t : Session). t.profile) same ∙ standard)) in
      subst (λ (x : Result ⊤ Error). AllAnswered s (x ∷ answers) (now ++ later) (first ++ rest) s') (sym is) (subst (λ (cells : List (Cell H)). AllAnswered s (Err e ∷ answers) (now ++ later) (cells ++ rest) s') (sym silent) (adds left))

  -- a call that served a message
  met : (s mid s' : Session) (d between : Dev) (m : Message HeardReq H) (a : Result ⊤ Error) (answers : List (Result ⊤ Error)) (now later : List (Item H)) (first rest : List (Cell H)) → s.profile ≡ Standard
      → s.failed ≡ None → IsHeard s now (Ok m) → Meets s d m a first mid between → Behind mid answers later rest s' → AllAnswered s (a ∷ answers) (now ++ later) (first ++ rest) s'
  unfolding Behind
  met s mid s' d between m a answers now later first rest standard sound came (o, meets, is_answer, is_written, is_session) behind =
      let well = met-well gives opens_backend opens_gpu s m d o between standard meets in
      let left : AllAnswered o.session answers later rest s' = subst (λ (t : Session). AllAnswered t answers later rest s') is_session (behind (ap (λ (t : Session). t.profile) is_session ∙ met-profile gives opens_backend opens_gpu s m d o between meets ∙ standard)) in
      subst (λ (x : Result ⊤ Error). AllAnswered s (x ∷ answers) (now ++ later) (first ++ rest) s') (sym is_answer)
      (subst (λ (cells : List (Cell H)). AllAnswered s (o.answer ∷ answers) (now ++ later) (cells ++ rest) s') (sym is_written) (served m o now sound came well left))

  -- a call of a session that has not ended
  one : (s mid s' : Session) (d between : Dev) (outcome : Result (Message HeardReq H) Error) (a : Result ⊤ Error) (answers : List (Result ⊤ Error)) (now later : List (Item H)) (first rest : List (Cell H)) → s.profile ≡ Standard
      → s.failed ≡ None → IsHeard s now outcome → Handles s d outcome a first mid between → Behind mid answers later rest s' → AllAnswered s (a ∷ answers) (now ++ later) (first ++ rest) s'
  one s mid s' d between (Err e) a answers now later first rest standard sound came handles behind =
      unchanged s mid s' d between e a answers now later first rest standard (λ left. not_whole e now sound came left) handles behind
  one s mid s' d between (Ok m) a answers now later first rest standard sound came meets behind =
      met s mid s' d between m a answers now later first rest standard sound came meets behind

  -- a call, by whether the session has ended
  unless : (mark : Option ℤ) (s mid s' : Session) (d between : Dev) (now later : List (Item H)) (a : Result ⊤ Error) (answers : List (Result ⊤ Error)) (first rest : List (Cell H)) → s.profile ≡ Standard → s.failed ≡ mark
      → run.ServesUnless heard_in allows_handles (λ (t : Session). t.failed) Meets mark s d now a first mid between → Behind mid answers later rest s' → AllAnswered s (a ∷ answers) (now ++ later) (first ++ rest) s'
  unless (Some n) s mid s' d between now later a answers first rest standard failed (empty, handles) behind =
      unchanged s mid s' d between (SocketBroken (Raw n)) a answers now later first rest standard
      (λ left. subst (λ (items : List (Item H)). AllAnswered s (Err (SocketBroken (Raw n)) ∷ answers) (items ++ later) rest s') (sym empty) (ended n failed left)) handles behind
  unless None s mid s' d between now later a answers first rest standard failed (outcome, hears, handles) behind =
      one s mid s' d between outcome a answers now later first rest standard failed hears handles behind

  pub all-answered : (answers : List (Result ⊤ Error)) (s s' : Session) (d d' : Dev) (input : List (Item H)) (written : List (Cell H)) → s.profile ≡ Standard
      → run.Run heard_in allows_handles (λ (t : Session). t.failed) Meets s d answers input written s' d' → AllAnswered s answers input written s'
  unfolding Behind
  all-answered [] s s' d d' input written standard (is, silent, same, still) =
      subst (λ (t : Session). AllAnswered s [] input written t) (sym same) (subst (λ (cells : List (Cell H)). AllAnswered s [] input cells s) (sym silent)
      (subst (λ (items : List (Item H)). AllAnswered s [] items [] s) (sym is) no_more))
  all-answered (a ∷ answers) s s' d d' input written standard (now, later, first, rest, mid, between, serves, is_input, is_written, more) =
      subst (λ (cells : List (Cell H)). AllAnswered s (a ∷ answers) input cells s') (sym is_written)
      (subst (λ (items : List (Item H)). AllAnswered s (a ∷ answers) items (first ++ rest) s') (sym is_input)
      (unless s.failed s mid s' d between now later a answers first rest standard refl serves (λ stays. all-answered answers mid s' between d' later rest stays more)))
