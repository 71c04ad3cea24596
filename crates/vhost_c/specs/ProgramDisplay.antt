-- What the calls of any program in C do to a session with a display, one after another, in any order.
use Rattle.std.specs.Prelude.{◌≡◌, ◌≢◌, ℕ, Bool, true, false, not, ◌||◌, ◌==◌, List, [], ◌∷◌, length, Option, Some, None, ⊤}
use Rattle.vhost_message.specs.declared.error.Error.TheVariants.{InvalidParam, InvalidMessage, OutOfMemory, OversizedMsg}
use Rattle.vhost_gpu_message.specs.Replies.{display_info_of, display_info_text, edid_of, edid_text}
use Rattle.vhost_protocol.specs.Gpu as gpu
use Rattle.vhost_protocol.specs.Gpu.{TheDisplayInfo, TheEdid}
use Rattle.vhost_c_common.specs.ByNumber.{By}
use Rattle.vhost_c_common.specs.Number.{number, error_number}
use Rattle.vhost_c_common.specs.Records.{handle_in}
use Rattle.vhost_c_common.specs.declared.refusal.Refusal.TheVariants.{NoSession, SessionOpen, NotTaken, NothingAsked, NotYet, TooManyBytes, NoRoom, OtherAnswer}
use Rattle.vhost_c_channel.specs.Display.{Getting, LettingGo, Receiving, Sending, Settles, Stays, Takes, TakesTo, endpoint_of, view}
use Rattle.vhost_c_channel.specs.DisplayRecords.{scanout_in, update_in, dmabuf_in, dmabuf2_in, cursor_pos_in, cursor_update_in}
use Rattle.vhost_c_channel.specs.declared.display.Display.{Display}
use Rattle.vhost_c.specs.Calls.{AtBoth, is_named, socket_broken, socket_retry}
use Rattle.vhost_c.specs.Display.{AsksBy, OpensDisplay, TakesNumber, missing_at}
use Rattle.vhost_c.specs.declared.places.Places.{Places}
use Rattle.vhost_c.specs.declared.places.ProgramAnswer.{ProgramAnswer}
use Rattle.vhost_c.specs.declared.program_display.DisplayAsk.{DisplayAsk}
use Rattle.vhost_c.specs.declared.program_display.DisplayAsk.TheVariants as ask
use Rattle.vhost_c.specs.declared.program_display.DisplayCall.{DisplayCall}
use Rattle.vhost_c.specs.declared.program_display.DisplayCall.TheVariants.{Open, Ask, ToSend, Missing, Receive, Take, TakeNumber, TakeDisplayInfo, TakeEdid, Unclaimed, Close}

-- What an ask does, whatever the pixels that its caller sends.
abbrev pub AsksTo : DisplayAsk → Option Display → ℕ → Option Display → Type 0
AsksTo ask.GetProtocolFeatures old n new = AsksBy gpu.GetProtocolFeatures old n new
AsksTo (ask.SetProtocolFeatures features) old n new = AsksBy (gpu.SetProtocolFeatures features) old n new
AsksTo ask.GetDisplayInfo old n new = AsksBy gpu.GetDisplayInfo old n new
AsksTo (ask.GetEdid id) old n new = AsksBy (gpu.GetEdid (record { scanout_id = id })) old n new
AsksTo (ask.SetScanout scanout) old n new = AsksBy (gpu.SetScanout (scanout_in scanout)) old n new
AsksTo (ask.UpdateScanout update len) old n new = (pixels : List ℕ) → length pixels ≡ len → AsksBy (gpu.UpdateScanout (update_in update) pixels) old n new
AsksTo (ask.SetDmabufScanout scanout fd) old n new = AsksBy (gpu.SetDmabufScanout (dmabuf_in scanout) (handle_in fd)) old n new
AsksTo (ask.SetDmabufScanout2 scanout fd) old n new = AsksBy (gpu.SetDmabufScanout2 (dmabuf2_in scanout) (handle_in fd)) old n new
AsksTo (ask.UpdateDmabufScanout update) old n new = AsksBy (gpu.UpdateDmabufScanout (update_in update)) old n new
AsksTo (ask.MoveCursor cursor) old n new = AsksBy (gpu.MoveCursor (cursor_pos_in cursor)) old n new
AsksTo (ask.HideCursor cursor) old n new = AsksBy (gpu.HideCursor (cursor_pos_in cursor)) old n new
AsksTo (ask.UpdateCursor update) old n new = (pixels : List ℕ) → length pixels ≡ 16384 → AsksBy (gpu.UpdateCursor (cursor_update_in update) pixels) old n new

-- What a call does is what the contract of its export says.
abbrev pub Does : DisplayCall → ProgramAnswer → Option Display → Option Display → Type 0
Does Open a old new = OpensDisplay old a.number new
Does (Ask what) a old new = AsksTo what old a.number new
Does (ToSend p) a old new = By (Sending a.places.bytes.items a.places.fds.items (a.places.byte_count, a.places.fd_count)) old a.number new × By (λ s o s'. s'.held ≡ s.held) old a.number new
Does (Missing p) a old new = (a.number ≡ 0) × (a.places.count ≡ missing_at old) × (new ≡ old)
Does (Receive bytes fds) a old new = By (Receiving bytes.items fds.items) old a.number new × By (Getting fds.items) old a.number new
Does Take a old new = By (λ s o s'. Takes s s' o) old a.number new
Does (TakeNumber p) a old new = By (TakesNumber p.number a.places.number) old a.number new
Does (TakeDisplayInfo p) a old new = By (λ s o s'. TakesTo TheDisplayInfo display_info_of display_info_text p.bytes.items a.places.bytes.items s s' o) old a.number new
Does (TakeEdid p) a old new = By (λ s o s'. TakesTo TheEdid edid_of edid_text p.bytes.items a.places.bytes.items s s' o) old a.number new
Does (Unclaimed p) a old new = By (LettingGo p.fds.items a.places.count a.places.fds.items) old a.number new
Does Close a old new = (a.number ≡ 0) × (new ≡ None)

-- ---- what a call may answer

-- the refusals of each ask
abbrev pub asking : List ℕ
asking = number NoSession ∷ number NotTaken ∷ error_number OutOfMemory ∷ socket_retry ∷ socket_broken ∷ []

-- those of an ask: no header can say how many bytes its pixels have
abbrev pub ask_refusals : DisplayAsk → List ℕ
ask_refusals (ask.UpdateScanout update len) = error_number OversizedMsg ∷ asking
ask_refusals _ = asking

-- those of each reply that is taken
abbrev pub taking : List ℕ
taking = number NoSession ∷ number NothingAsked ∷ number NotYet ∷ number OtherAnswer ∷ error_number InvalidMessage ∷ error_number OutOfMemory ∷ socket_retry ∷ socket_broken ∷ []

-- those of a call, whatever its arguments and the session
abbrev pub refusals : DisplayCall → List ℕ
refusals Open = number SessionOpen ∷ error_number OutOfMemory ∷ []
refusals (Ask what) = ask_refusals what
refusals (ToSend p) = number NoSession ∷ number NoRoom ∷ []
refusals (Missing p) = []
refusals (Receive bytes fds) = number NoSession ∷ number TooManyBytes ∷ error_number InvalidParam ∷ error_number OutOfMemory ∷ []
refusals Take = taking
refusals (TakeNumber p) = taking
refusals (TakeDisplayInfo p) = number NoRoom ∷ taking
refusals (TakeEdid p) = number NoRoom ∷ taking
refusals (Unclaimed p) = number NoSession ∷ []
refusals Close = []

-- ---- what a refusal leaves

-- All that the contracts see is as before.
abbrev pub IsAlike : Display → Display → Type 0
IsAlike old new = view new ≡ view old

-- a reply that came was refused
abbrev pub is_late : ℕ → Bool
is_late n = n == error_number InvalidMessage || (n == error_number OutOfMemory || (n == socket_retry || n == socket_broken))

-- what a refusal to take leaves: nothing is asked any more; or the session as it was
abbrev pub LeavesTaken : (late : Bool) → Option Display → Option Display → Type 0
LeavesTaken true old new = AtBoth Settles old new
LeavesTaken false old new = new ≡ old

-- What a refusal of this number leaves: the session as it was; but an ask leaves what is to be sent, and what is asked.
abbrev pub Leaves : DisplayCall → ℕ → Option Display → Option Display → Type 0
Leaves (Ask what) n old new = AtBoth Stays old new
Leaves (ToSend p) n old new = AtBoth IsAlike old new
Leaves (Receive bytes fds) n old new = AtBoth IsAlike old new
Leaves Take n old new = LeavesTaken (is_late n) old new
Leaves (TakeNumber p) n old new = LeavesTaken (is_late n) old new
Leaves (TakeDisplayInfo p) n old new = LeavesTaken (is_late n) old new
Leaves (TakeEdid p) n old new = LeavesTaken (is_late n) old new
Leaves call n old new = new ≡ old

-- ---- soundness

-- Nothing broke the session's end of the connection, if there is a session.
abbrev pub IsSound : Option Display → Type 0
IsSound None = ⊤
IsSound (Some s) = (endpoint_of s).broken ≡ None

-- after the other a session may be broken: memory was refused to its link
abbrev pub is_harmless : ℕ → Bool
is_harmless n = not (n == socket_retry)

-- ---- one call

-- A call of a program, whatever the program called before: it does what its contract says, answers 0 or one of its refusals, leaves the session so where it refuses, and breaks none where its answer is harmless.
pub record IsCalled (call : DisplayCall) (answer : ProgramAnswer) (old new : Option Display) : Type 0 where
  pub does : Does call answer old new
  pub named : is_named (refusals call) answer.number ≡ true
  pub leaves : answer.number ≢ 0 → Leaves call answer.number old new
  pub sound : is_harmless answer.number ≡ true → IsSound old → IsSound new
