-- A fault of the link in a frontend's call.
use Rattle.std.proofs.Common.{◌≡◌, ℕ, Bool, true, false, Option, Some, None, Result, Ok, Err, refl, sym, ap, ◌∙◌}
use Rattle.std.specs.Prelude.{◌||◌, if◌then◌else◌}
use Rattle.vhost_message.specs.HeardReq.{request_number}
use Rattle.vhost_message.specs.MsgHeader.{fields_of}
use Rattle.vhost_message.specs.Header.{Header}
use Rattle.vhost_message.specs.declared.error.Error as declared
use Rattle.vhost_protocol.specs.AnswerTable.{Answered}
use Rattle.vhost_protocol.specs.Ask as asks
use Rattle.vhost_protocol.specs.FrontendCall.{FrontendCall, Frontend, GetFeatures, Number}
use Rattle.vhost_protocol.specs.Written.{written_cells}
use Rattle.vhost_protocol.specs.declared.asked.Awaited.{Awaited}
use Rattle.vhost_link.specs.Law.{Event, Move, nothing}
use Rattle.vhost_connection.specs.Hearing.{Fails}
use Rattle.vhost_connection.specs.Hearing.Fails.{was_broken, no_memory, fault}
use Rattle.vhost_connection.specs.Pass.{sends}
use Rattle.vhost_connection.specs.Talk.{State, Serves, has_moved}
use Rattle.vhost_frontend.specs.Whole.{Whole}
use Rattle.vhost_frontend.specs.Whole.Calls.{ended, answered}
use Rattle.vhost_frontend_core.specs.Asking as core
use Rattle.vhost_frontend_core.specs.Asking.Asks.{refuses, goes, fails}
use Rattle.vhost_frontend_core.specs.Frontend.{endpoint_of, session_of, awaits}
use Rattle.vhost_frontend_core.specs.Taking.{Reads, Takes}
use Rattle.vhost_frontend_core.specs.Taking.Reads.{unread, read}
use Rattle.vhost_frontend_core.specs.Taking.Takes.{taken, stopped}
use Rattle.vhost_frontend_core.specs.declared.asked.Sent.{Sent}
use Rattle.vhost_frontend_core.specs.declared.internal.FrontendInternal.{FrontendInternal}
use Rattle.vhost_promises.specs.Faults.{MeetsFault, MeetsFaultAs}
use Rattle.vhost_promises.proofs.Faulting.{not-yet}

-- an endpoint that says that it met none has met none
pub unmet : {b : Bool} → b ≡ true → b ≡ false → ⊥
unmet met not_met = let found : true ≡ false = sym met ∙ not_met in absurd cc

module _ {L H : Type 0} (event : L → Event H → L → Type 0) where
  -- a fault of the request
  pub met-first : (answers : declared.Error → Type 0) (old : State L H) (e : declared.Error) (new : State L H) → answers e → Fails event old false e new → new.faulted ≡ true → MeetsFaultAs event old answers new
  met-first answers old e new says (was_broken b same) met = absurd (unmet met (ap (λ s. s.faulted) same))
  met-first answers old e new says (no_memory b away same) met = absurd (unmet met (ap (λ s. s.faulted) same))
  met-first answers old e new says (fault c m b fell none most spent few broken faulted kept) met =
      record { cause = c; answered = says; before = nothing; moved = m; mid = old; talks = not-yet event old; fell = fell; spent = spent; broken = broken }

  -- a fault of the reply, behind a request that went out
  pub met-later : (answers : declared.Error → Type 0) (old mid : State L H) (m : Move H) (e : declared.Error) (new : State L H) → answers e → Serves event old old.budget m mid → has_moved m ≡ true → Fails event mid true e new
      → new.faulted ≡ true → MeetsFaultAs event old answers new
  met-later answers old mid m e new says s moved (was_broken b same) met = absurd (unmet met (ap (λ s. s.faulted) same))
  met-later answers old mid m e new says s moved (no_memory b away same) met = absurd (unmet met (ap (λ s. s.faulted) same))
  met-later answers old mid m e new says s moved (fault c n b fell none most spent few broken faulted kept) met = record {
    cause = c;
    answered = says;
    before = m;
    moved = n;
    mid = mid;
    talks = s.talks;
    fell = fell;
    spent = λ again. spent again ∙ s.talks.budget;
    broken = broken ∙ ap (λ b. if b || has_moved n then Some c else None) (sym moved);
  }

  -- where the request failed
  met-asking : {A : Type 0} (old : State L H) (f : Frontend) (before : Awaited) (e : declared.Error) (new : State L H) (f' : Frontend) (after : Awaited) → core.Asks event (asks.ask f GetFeatures) old f before (Err e) new f' after
      → new.faulted ≡ true → MeetsFault {A = A} event old (Err e) new
  met-asking old f before e new f' after (refuses is) met = absurd cc
  met-asking old f before e new f' after (fails is x) met = met-first _ old e new refl x met

  -- where it went out
  pub went : {asked : asks.Asked H} (old : State L H) (f : Frontend) (before : Awaited) (sent : Sent) (new : State L H) (f' : Frontend) (after : Awaited) → core.Asks event asked old f before (Ok sent) new f' after
      → (m : Move H) × Serves event old old.budget m new × (has_moved m ≡ true)
  went old f before sent new f' after (goes {w} is g) = (sends (written_cells request_number w) g.retries, g.serves, refl)

  -- what was read met none
  pub read-unmet : (call : FrontendCall H) (asked : Awaited) (sent : Header) (f : Frontend) (old : State L H) (x : Option (Answered H)) (new : State L H) → Reads event call asked sent f old x new → old.faulted ≡ false → new.faulted ≡ false
  read-unmet call asked sent f old x new (unread same) sound = sound
  read-unmet call asked sent f old x new (read h) sound = h.hears.serves.faulted

  met-taking : (asked : Awaited) (sent : Header) (old mid : State L H) (f : Frontend) (m : Move H) (result : Result ℕ declared.Error) (new : State L H) (f' : Frontend) → Serves event old old.budget m mid → has_moved m ≡ true
      → Takes event GetFeatures Number asked sent mid f result new f' → new.faulted ≡ true → MeetsFault event old result new
  met-taking asked sent old mid f m result new f' s moved (taken reads) met = absurd (unmet met (read-unmet GetFeatures asked sent f mid _ new reads s.faulted))
  met-taking asked sent old mid f m (Err e) new f' s moved (stopped x) met = met-later _ old mid m e new refl s moved x met

  pub met-fault : (old : FrontendInternal L H) (result : Result ℕ declared.Error) (new : FrontendInternal L H) → Whole event GetFeatures Number old result new
      → (endpoint_of new).faulted ≡ true → MeetsFault event (endpoint_of old) result (endpoint_of new)
  met-fault old (Err e) new (ended a) met =
      met-asking (endpoint_of old) (session_of old) (awaits old) e (endpoint_of new) (session_of new) (awaits new) a met
  met-fault old result new (answered {sent} {middle} a takes) met =
      let (m, s, moved) = went (endpoint_of old) (session_of old) (awaits old) sent (endpoint_of middle) (session_of middle) (awaits middle) a in
      met-taking sent.awaited (fields_of sent.request) (endpoint_of old) (endpoint_of middle) (session_of middle) m result (endpoint_of new) (session_of new) s moved takes met
