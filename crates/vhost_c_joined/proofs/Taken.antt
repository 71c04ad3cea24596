-- The answer of a call is taken from what came back.
use Rattle.std.proofs.Common.{◌≡◌, ◌⊎◌, inl, inr, Bool, true, false, List, [], Option, Some, None, Result, Err, refl, sym, ap, ◌∙◌}
use Rattle.vhost_message.specs.Header.{Header}
use Rattle.vhost_message.specs.declared.error.Error as declared
use Rattle.vhost_message.specs.declared.error.Error.TheVariants as code
use Rattle.vhost_protocol.specs.AnswerTable.{Answered, answered}
use Rattle.vhost_protocol.specs.declared.asked.Awaited.{Awaited}
use Rattle.vhost_protocol.specs.Error.{Error, OutOfMemory, SocketRetry, seen}
use Rattle.vhost_protocol.specs.FrontendCall.{FrontendCall, Frontend, Value}
use Rattle.vhost_protocol.specs.Stream.{Cell}
use Rattle.vhost_protocol.specs.Take.{take}
use Rattle.vhost_link.specs.declared.plain.PlainHandle.{PlainHandle}
use Rattle.vhost_connection.specs.Memory.{stream, TalksLaw}
use Rattle.vhost_frontend_core.specs.Taking.{unread, read}
use Rattle.vhost_frontend_core.specs.Values.{answer_of}
use Rattle.vhost_frontend_core.specs.ValueHalves.{TakesResult}
use Rattle.vhost_frontend_core.specs.declared.values.answer.FrontendAnswer.{FrontendAnswer}
use Rattle.vhost_frontend_core.specs.declared.values.answer.FrontendAnswer.TheVariants as answer
use Rattle.vhost_c_common.proofs.Hearing.{hears-cut}
use Rattle.vhost_c_common.proofs.Wants.{IsWant, list_away, by_link, broke_before, failed}
use Rattle.vhost_c_common.specs.View.{End}
use Rattle.vhost_c_common.specs.declared.refusal.Refusal.TheVariants.{Protocol}
use Rattle.vhost_c_joined.specs.Device.{is_want}

abbrev Result1 : Type 0
Result1 = Result (Value PlainHandle) Error

-- It is the answer that the definitions take of what came, and nothing is left.
pub record Took (a : Answered PlainHandle) (old new : End) (result : Result1) (f' : Frontend) : Type 0 where
  pub is : answered f' result ≡ a
  pub came : stream new ≡ []
  pub sent : new.link.sent ≡ old.link.sent
  pub sound : new.broken ≡ None

-- or memory was refused
pub record Wanted (result : Result1) : Type 0 where
  pub error : declared.Error
  pub is : result ≡ Err (seen error)
  pub want : is_want (Protocol error) ≡ true

want-so : (old : End) (e : declared.Error) → old.broken ≡ None → IsWant old e → is_want (Protocol e) ≡ true
want-so old _ sound (list_away away) = refl
want-so old _ sound by_link = refl
want-so old _ sound (broke_before at) = absurd (cc (sym sound ∙ at))

module _ (law : TalksLaw) (call : FrontendCall PlainHandle) (awaited : Awaited) (sent : Header) (f : Frontend) (a : Answered PlainHandle) where
  both : (x : Answered PlainHandle) (cells : List (Cell PlainHandle)) → ◌≡◌ {A = Option (Answered PlainHandle) × List (Cell PlainHandle)} (Some x, cells) (Some a, []) → (x ≡ a) × (cells ≡ [])
  both x cells is = let some : Some x ≡ Some a = ap (λ p. p.0) is in (cc some, ap (λ p. p.1) is)

  pub took : (old : End) (result : Result1) (new : End) (f' : Frontend) → TakesResult call awaited sent old f result new f' → take call awaited sent f (stream old) ≡ (Some a, []) → old.broken ≡ None → old.link.script ≡ [] → Took a old new result f' ⊎ Wanted result
  took old result new f' (inl (unread is)) all sound uncut =
      let b = both (answered f' result) (stream old) (sym (is (stream old)) ∙ all) in
      inl (record { is = b.0; came = b.1; sent = refl; sound = sound })
  took old result new f' (inl (read h)) all sound uncut =
      let cut = hears-cut law (take call awaited sent f) old new (Some (answered f' result)) h.hears in
      let b = both (answered f' result) (stream new) (sym cut.0 ∙ all) in
      inl (record { is = b.0; came = b.1; sent = cut.1; sound = h.hears.serves.after })
  took old result new f' (inr (same, e, is, fails)) all sound uncut =
      inr (record { error = e; is = is; want = want-so old e sound (failed old new true e fails (record { uncut = uncut; broken = λ c at. absurd (cc (sym sound ∙ at)) })).1 })

-- ---- errors

abbrev want-seen : Error → Bool
want-seen OutOfMemory = true
want-seen (SocketRetry c) = true
want-seen _ = false

seen-so : (e : declared.Error) → want-seen (seen e) ≡ is_want (Protocol e)
seen-so code.OutOfMemory = refl
seen-so (code.SocketRetry c) = refl
seen-so _ = refl

-- two errors that are seen as one want memory both, or neither
pub same-want : (e e' : declared.Error) → seen e ≡ seen e' → is_want (Protocol e) ≡ is_want (Protocol e')
same-want e e' same = sym (seen-so e) ∙ ap want-seen same ∙ seen-so e'

-- an answer that is no error is none
pub no-error : (a : FrontendAnswer) (e : Error) → ((x : declared.Error) → ¬ (a ≡ answer.Failed x)) → answer_of a ≡ Err e → ⊥
no-error (answer.Failed x) e fine is = fine x refl
no-error _ e fine is = cc is
