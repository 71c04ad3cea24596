-- The half that takes the reply about the log.
use Rattle.std.proofs.Common.{◌≡◌, ℕ, List, [], ◌∷◌, true, false, Option, Some, Result, Ok, Err, refl, sym, ap, subst, ◌∙◌}
use Rattle.std.specs.Prelude.{⊤}
use Rattle.vhost_message.specs.declared.error.Error as declared
use Rattle.vhost_message.specs.declared.records.log.VhostUserLog.{VhostUserLog}
use Rattle.vhost_message.specs.Bits.{has_bit}
use Rattle.vhost_message.specs.Header.{Header}
use Rattle.vhost_message.specs.Records.{log_of}
use Rattle.vhost_message.specs.Valid.{is_valid_log}
use Rattle.vhost_protocol.specs.AnswerTable.{Answered, answered, answer}
use Rattle.vhost_protocol.specs.declared.asked.Awaited.TheVariants.{Reply}
use Rattle.vhost_protocol.specs.declared.asked.Shape.TheVariants as shape
use Rattle.vhost_protocol.specs.declared.profile.Profile.TheVariants.{Vhost, Standard}
use Rattle.vhost_protocol.specs.Error.{Error, InvalidMessage, seen}
use Rattle.vhost_protocol.specs.FrontendCall.{Frontend, LogRegion, SetLogBase, Nothing}
use Rattle.vhost_protocol.specs.ReplySplit.{Received, whole_split}
use Rattle.vhost_protocol.specs.Served.{Replied}
use Rattle.vhost_protocol.specs.Stream.{Cell, has_some}
use Rattle.vhost_protocol.specs.Take.{is_known, payload_of, understood, take, take_reply}
use Rattle.vhost_link.specs.Law.{Event}
use Rattle.vhost_connection.specs.Asking.Missing.{unfit, none, failed}
use Rattle.vhost_connection.specs.Hearing.{HearsReply}
use Rattle.vhost_connection.specs.Talk.{State}
use Rattle.vhost_connection.proofs.Replies.{replies-by}
use Rattle.vhost_frontend_core.specs.Taking.{reply_cut, AwaitsAlone, AwaitsAny, Reads, Takes}
use Rattle.vhost_frontend_core.specs.Taking.AwaitsAny.{any_for_reply, any, any_crowded, any_missing}
use Rattle.vhost_frontend_core.specs.Taking.Reads.{unread, read}
use Rattle.vhost_frontend_core.specs.Taking.Takes.{taken, stopped}
use Rattle.vhost_frontend_core.proofs.Taking.{alone-replied, alone-fails}

-- ---- by the profile Vhost

module _ {H : Type 0} (base : ℕ) (region : Option (LogRegion H)) (sent : Header) (f : Frontend) (vhost : f.profile ≡ Vhost) where
  log-by : (cells : List (Cell H)) → take_reply (SetLogBase base region) shape.Log sent f cells
      ≡ (understood (SetLogBase base region) (Reply shape.Log) sent f (reply_cut f.profile 16 (λ bs. is_valid_log (log_of bs)) 0 cells).0, (reply_cut {H = H} f.profile 16 (λ bs. is_valid_log (log_of bs)) 0 cells).1)
  log-by cells = rw vhost refl

  log-told : (r : Received H) → is_valid_log (log_of r.body) ≡ true → answer (SetLogBase base region) (Reply shape.Log) f (Replied (payload_of shape.Log r.body r.payload) []) ≡ Some (answered f (Ok Nothing))
  log-told r ok = rw (vhost, ok) refl

module _ {L H : Type 0} {event : L → Event H → L → Type 0} (base : ℕ) (region : Option (LogRegion H)) {sent : Header} {f f' : Frontend} {old new : State L H} where
  -- an area came
  pub log-came : {l : VhostUserLog} → f.profile ≡ Vhost → f' ≡ f → AwaitsAlone event f.profile 16 log_of is_valid_log old sent (Ok l) new → Takes event (SetLogBase base region) (λ (u : ⊤). Nothing) (Reply shape.Log) sent old f (Ok tt) new f'
  log-came vhost same x =
      alone-replied x (log-by base region sent f vhost) (λ r. refl)
      (λ r is ok. log-told base region sent f vhost r (ap is_valid_log (sym is) ∙ ok) ∙ ap (λ (g : Frontend). Some (answered g (Ok Nothing))) (sym same))

  -- none came
  pub log-missing : {e : declared.Error} → f.profile ≡ Vhost → f' ≡ f → AwaitsAlone event f.profile 16 log_of is_valid_log old sent (Err e) new → Takes event (SetLogBase base region) (λ (u : ⊤). Nothing) (Reply shape.Log) sent old f (Err e) new f'
  log-missing vhost same x = alone-fails x (log-by base region sent f vhost) (λ r. refl) (λ r h hs. refl) same

-- ---- by the profile Standard

module _ {H : Type 0} (base : ℕ) (region : Option (LogRegion H)) (f : Frontend) (standard : f.profile ≡ Standard) where
  any-alone : (r : Received H) → r.handles ≡ [] → answer (SetLogBase base region) (Reply shape.Log) f (Replied (payload_of shape.Log r.body r.payload) r.handles) ≡ Some (answered f (Ok Nothing))
  any-alone r none_came = rw (none_came, standard) refl

  any-many : (r : Received H) (hs : List H) → has_some hs ≡ true → answer (SetLogBase base region) (Reply shape.Log) f (Replied (payload_of shape.Log r.body r.payload) hs) ≡ Some (answered f (Err InvalidMessage))
  any-many r [] e = absurd cc
  any-many r (h ∷ hs) e = refl

module _ {L H : Type 0} {event : L → Event H → L → Type 0} (base : ℕ) (region : Option (LogRegion H)) {sent : Header} {f : Frontend} {old : State L H} (standard : f.profile ≡ Standard) where
  -- the reply decides, of whatever size it is
  any-heard : {new : State L H} (o : Result (Received H) Error) {x : Answered H} → has_bit sent.flags 2 ≡ false → HearsReply event (whole_split is_known) old o new → understood (SetLogBase base region) (Reply shape.Log) sent f o ≡ Some x
      → Reads event (SetLogBase base region) (Reply shape.Log) sent f old (Some x) new
  any-heard {new} o {x} plain h e =
      read (subst (λ y. HearsReply event (take (SetLogBase base region) (Reply shape.Log) sent f) old y new) e
      (replies-by (λ r. understood (SetLogBase base region) (Reply shape.Log) sent f r) o (λ cells. rw (plain, standard) refl) h))

  any-taken : {new : State L H} {result : Result ⊤ declared.Error} → AwaitsAny event old sent result new → Takes event (SetLogBase base region) (λ (u : ⊤). Nothing) (Reply shape.Log) sent old f result new f
  any-taken (any_for_reply reply) = taken (unread (λ cells. rw reply refl))
  any-taken (any r plain x none_came) = taken (any-heard (Ok r) plain x.hears (rw x.answers (any-alone base region f standard r none_came)))
  any-taken (any_crowded r plain x some) = taken (any-heard (Ok r) plain x.hears (rw x.answers (any-many base region f standard r r.handles some)))
  any-taken (any_missing plain (unfit r x bad)) = taken (any-heard (Ok r) plain x (rw bad refl))
  any-taken {result = Err e} (any_missing plain (none x listed)) = taken (any-heard (Err (seen e)) plain x refl)
  any-taken (any_missing plain (failed x)) = stopped x

  pub log-any : {new : State L H} {f' : Frontend} {result : Result ⊤ declared.Error} → f' ≡ f → AwaitsAny event old sent result new → Takes event (SetLogBase base region) (λ (u : ⊤). Nothing) (Reply shape.Log) sent old f result new f'
  log-any {new} {f'} {result} same x = subst (λ (g : Frontend). Takes event (SetLogBase base region) (λ (u : ⊤). Nothing) (Reply shape.Log) sent old f result new g) (sym same) (any-taken x)
