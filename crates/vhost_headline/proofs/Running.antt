-- Many calls of a backend, in the words of the theorem.
use Rattle.std.proofs.Common.{◌≡◌, ◌⊎◌, ◌∙◌, ℕ, List, [], ◌++◌, length, Result, Err, inl, inr, sym, ap, subst, map}
use Rattle.std.specs.Prelude.{⊤}
use Rattle.vhost_message.specs.declared.error.Error as declared
use Rattle.vhost_message.specs.declared.heard_req.HeardReq.{HeardReq}
use Rattle.vhost_protocol.specs.Codes.{allows_handles}
use Rattle.vhost_protocol.specs.DeviceCall.{Call, Answer}
use Rattle.vhost_protocol.specs.Error.{Error, seen_result}
use Rattle.vhost_protocol.specs.Handler.{MeetsRow}
use Rattle.vhost_protocol.specs.Session.{Session, heard_in}
use Rattle.vhost_protocol.specs.Split.{Message}
use Rattle.vhost_protocol.specs.Stream.{Cell}
use Rattle.vhost_link.specs.Law.{Event, move}
use Rattle.vhost_connection.specs.Talk.{State, Talks}
use Rattle.vhost_connection.specs.Serving.{BrokenRun, Runs, RunsMany, WholeRun}
use Rattle.vhost_backend_req_handler.specs.Serving.{fitting, kept_unsent}
use Rattle.vhost_promises.proofs.Waiting.{all-answered}
use Rattle.vhost_headline.specs.Headline.{IsRun, IsRunUntil}
use Rattle.vhost_headline.proofs.OneCall.{broken-once, not-served}

module _ {L H B G Dev : Type 0} (event : L → Event H → L → Type 0) (gives : Dev → (c : Call H B G) → Answer c → Dev → Type 0) (opens_backend : H → Result B Error → Type 0) (opens_gpu : H → Result G Error → Type 0) where
  abbrev Meets : Session → Dev → Message HeardReq H → Result ⊤ Error → List (Cell H) → Session → Dev → Type 0
  Meets = MeetsRow (fitting gives) opens_backend opens_gpu

  abbrev Whole : State L H → Session → Dev → List (Result ⊤ declared.Error) → State L H → Session → Dev → Type 0
  Whole = WholeRun event heard_in allows_handles (λ (t : Session). t.failed) kept_unsent Meets

  abbrev Until : State L H → Session → Dev → List (Result ⊤ declared.Error) → State L H → Session → Dev → Type 0
  Until = BrokenRun event heard_in allows_handles (λ (t : Session). t.failed) kept_unsent Meets

  abbrev pub Called : State L H → Session → Dev → ℕ → List (Result ⊤ declared.Error) → List (Result ⊤ declared.Error) → State L H → Session → Dev → Type 0
  Called = Runs event heard_in allows_handles (λ (t : Session). t.failed) kept_unsent Meets

  whole : (old : State L H) (s : Session) (d : Dev) (answers : List (Result ⊤ declared.Error)) (new : State L H) (s' : Session) (d' : Dev) → Whole old s d answers new s' d' → IsRun event gives opens_backend opens_gpu old s d answers new s' d'
  whole old s d answers new s' d' w =
      let m = w.move in
      record {
        came = m.handed;
        written = m.taken;
        carries = (m.retries, subst (λ n. Talks event old (move m.handed m.taken m.retries n) new) w.failures w.talks);
        run = w.run;
        waits = λ standard. all-answered (fitting gives) opens_backend opens_gpu (map (λ a. seen_result a) answers) s s' d d' m.handed m.taken standard w.run;
      }

  until : (old : State L H) (s : Session) (d : Dev) (answers : List (Result ⊤ declared.Error)) (new : State L H) (s' : Session) (d' : Dev) → Until old s d answers new s' d' → IsRunUntil event gives opens_backend opens_gpu old s d answers
  until old s d answers new s' d' b = record {
    served = b.served;
    answer = Err b.error;
    later = b.later;
    all = b.all;
    mid = b.mid;
    mid_session = b.mid_session;
    mid_device = b.mid_device;
    run = whole old s d b.served b.mid b.mid_session b.mid_device b.run;
    next = b.next;
    next_session = b.next_session;
    next_device = b.next_device;
    fails = not-served event gives opens_backend opens_gpu b.mid b.mid_session b.mid_device b.error b.next b.next_session b.next_device b.breaks;
    device = broken-once event gives opens_backend opens_gpu b.mid b.mid_session b.mid_device b.error b.next b.next_session b.next_device b.breaks;
  }

  -- of a run that appended to nothing, all answers are of it
  pub as-served : (old : State L H) (s : Session) (d : Dev) (n : ℕ) (before answers : List (Result ⊤ declared.Error)) (new : State L H) (s' : Session) (d' : Dev) → Called old s d n before answers new s' d' → before ≡ []
      → (length answers ≡ n) × (IsRun event gives opens_backend opens_gpu old s d answers new s' d' ⊎ IsRunUntil event gives opens_backend opens_gpu old s d answers)
  as-served old s d n before answers new s' d' r empty =
      let same : r.answers ≡ answers = sym (r.appended ∙ ap (λ xs. xs ++ r.answers) empty) in (
        ap length (sym same) ∙ r.count,
        subst (λ xs. IsRun event gives opens_backend opens_gpu old s d xs new s' d' ⊎ IsRunUntil event gives opens_backend opens_gpu old s d xs) same (either-run r.answers r.runs),
      )
    where
      either-run : (xs : List (Result ⊤ declared.Error)) → RunsMany event heard_in allows_handles (λ (t : Session). t.failed) kept_unsent Meets old s d xs new s' d'
          → IsRun event gives opens_backend opens_gpu old s d xs new s' d' ⊎ IsRunUntil event gives opens_backend opens_gpu old s d xs
      either-run xs (inl w) = inl (whole old s d xs new s' d' w)
      either-run xs (inr b) = inr (until old s d xs new s' d' b)
