-- What each call of a session makes of the descriptors that it holds, by the contracts of that session.
use Rattle.std.proofs.Common.{◌≡◌, ◌+◌, ℕ, ℤ, Bool, true, false, List, [], ◌∷◌, length, replicate, take, Result, Ok, Err, refl, ap, ◌∙◌, arith}
use Rattle.std.proofs.lemmas.List.{length-replicate}
use Rattle.std.specs.Prelude.{⊤}
use Rattle.vhost_protocol.specs.Gpu as gpu
use Rattle.vhost_protocol.specs.Gpu.{GpuReply}
use Rattle.vhost_protocol.specs.JoinedReverse as input
use Rattle.vhost_protocol.specs.Reverse as reverse
use Rattle.vhost_link.specs.declared.plain.PlainHandle.{PlainHandle}
use Rattle.vhost_backend_req.specs.Halves.{input_of}
use Rattle.vhost_backend_req.specs.declared.call.ReverseCall.{ReverseCall}
use Rattle.vhost_backend_req.specs.declared.call.ReverseCall.TheVariants as call
use Rattle.vhost_gpu_backend_req.specs.Halves.{call_in, pixels_of}
use Rattle.vhost_gpu_backend_req.specs.declared.call.GpuCall.{GpuCall}
use Rattle.vhost_c_common.proofs.Balancing.{arrived-times, claimed-times, handed-times, released-times, same-times}
use Rattle.vhost_c_common.specs.Held.{Abandons, Claimed, Gets, HandsLoose, claimable, held_times, times}
use Rattle.vhost_c_common.specs.declared.held.Held.{Held}
use Rattle.vhost_c_common.specs.declared.refusal.Refusal.{Refusal}
use Rattle.vhost_c_common.specs.declared.refusal.Refusal.TheVariants as refusal
use Rattle.vhost_c_frontend.specs.Session.{Drops, TakesHeld}
use Rattle.vhost_c_channel.specs.Asking.{Asking, Takes, read, other_size, not_awaited, nothing_asked, not_yet}
use Rattle.vhost_c_channel.specs.Display as display
use Rattle.vhost_c_channel.specs.declared.asking.Channel.{Channel}
use Rattle.vhost_c_channel.specs.declared.display.Display.{Display}
use Rattle.vhost_c_books.specs.Books.{HoldsAsOften}

-- ---- a frontend's

pub dropped : (was is : Bool) (old new : Held) → Drops was is old new → HoldsAsOften old new
dropped false true old new x n = released-times n old new x
dropped false false old new x n = ap {A = Held} (held_times n) x
dropped true is old new x n = ap {A = Held} (held_times n) x

pub taken : (old new : Held) (outcome : Result ⊤ Refusal) → TakesHeld old outcome new → HoldsAsOften old new
taken old new (Ok done) x n = ap {A = Held} (held_times n) x
taken old new (Err refusal.NothingAsked) x n = ap {A = Held} (held_times n) x
taken old new (Err refusal.NotYet) x n = ap {A = Held} (held_times n) x
taken old new (Err _) x n = released-times n old new x

pub unmoved : (old new : Held) → new ≡ old → HoldsAsOften old new
unmoved old new same n = ap {A = Held} (held_times n) same

-- ---- a device's, of the backend channel

asked-same : (c : reverse.ReverseCall PlainHandle) (s t : Channel) (outcome : Result ⊤ Refusal) → Asking c s outcome t → t.held ≡ s.held
asked-same c s t (Ok done) x = x.held
asked-same c s t (Err r) x = x.1.held

-- a call that is no flag is asked
module _ (s t : Channel) (outcome : Result ⊤ Refusal) where
  pub asked : (k : ReverseCall PlainHandle) → ((c : reverse.ReverseCall PlainHandle) → input_of k ≡ input.Asks c → Asking c s outcome t)
      → ((on : Bool) → k ≡ call.SetReplyAck on → ⊥) → ((on : Bool) → k ≡ call.SetConfigChange on → ⊥) → ((on : Bool) → k ≡ call.SetSharedObject on → ⊥) → ((on : Bool) → k ≡ call.SetShmem on → ⊥) → t.held ≡ s.held
  asked (call.SetReplyAck on) each a b c d = absurd (a on refl)
  asked (call.SetConfigChange on) each a b c d = absurd (b on refl)
  asked (call.SetSharedObject on) each a b c d = absurd (c on refl)
  asked (call.SetShmem on) each a b c d = absurd (d on refl)
  asked call.HandleConfigChange each a b c d = asked-same reverse.HandleConfigChange s t outcome (each reverse.HandleConfigChange refl)
  asked (call.SharedObjectAdd name) each a b c d = asked-same (reverse.SharedObjectAdd name) s t outcome (each (reverse.SharedObjectAdd name) refl)
  asked (call.SharedObjectRemove name) each a b c d = asked-same (reverse.SharedObjectRemove name) s t outcome (each (reverse.SharedObjectRemove name) refl)
  asked (call.SharedObjectLookup name h) each a b c d = asked-same (reverse.SharedObjectLookup name h) s t outcome (each (reverse.SharedObjectLookup name h) refl)
  asked (call.ShmemMap mapping h) each a b c d = asked-same (reverse.ShmemMap mapping h) s t outcome (each (reverse.ShmemMap mapping h) refl)
  asked (call.ShmemUnmap mapping) each a b c d = asked-same (reverse.ShmemUnmap mapping) s t outcome (each (reverse.ShmemUnmap mapping) refl)

pub reply-taken : (s t : Channel) {outcome : Result ⊤ Refusal} → Takes s t outcome → t.held ≡ s.held
reply-taken s t (read head result whole was size hears settles) = settles.held
reply-taken s t (other_size head whole was size came queue end settles) = settles.held
reply-taken s t (not_awaited was end queue settles) = settles.held
reply-taken s t (nothing_asked was same) = ap {A = Channel} (λ k. k.held) same
reply-taken s t (not_yet more same) = ap {A = Channel} (λ k. k.held) same

-- ---- a device's, with a display

shown-same : (c : gpu.GpuCall PlainHandle) (s t : Display) (outcome : Result ⊤ Refusal) → display.Asking c s outcome t → t.held ≡ s.held
shown-same c s t (Ok done) x = x.held
shown-same c s t (Err r) x = x.1.held

-- whatever pixels are sent behind the message
pub shown : (k : GpuCall PlainHandle) (s t : Display) (outcome : Result ⊤ Refusal) → ((pixels : List ℕ) → length pixels ≡ pixels_of k → display.Asking (call_in k pixels) s outcome t) → t.held ≡ s.held
shown k s t outcome each = shown-same (call_in k (replicate (pixels_of k) 0)) s t outcome (each (replicate (pixels_of k) 0) (length-replicate (pixels_of k) 0))

module _ {T : Type 0} (reply : GpuReply) (reads : List ℕ → T) (s t : Display) where
  pub record-taken : {outcome : Result T Refusal} → display.TakesRecord reply reads s t outcome → t.held ≡ s.held
  record-taken (display.reads a result whole was form size hears settles) = settles.held
  record-taken (display.other_size a whole was form size came queue end settles) = settles.held
  record-taken (display.other_form kept was other same) = ap {A = Display} (λ k. k.held) same
  record-taken (display.nothing_asked was same) = ap {A = Display} (λ k. k.held) same
  record-taken (display.not_yet more same) = ap {A = Display} (λ k. k.held) same

  pub put : (text : T → List ℕ) (before after : List ℕ) {outcome : Result ⊤ Refusal} → display.TakesTo reply reads text before after s t outcome → t.held ≡ s.held
  put text before after (display.taken v takes is) = record-taken takes
  put text before after (display.not_taken r room takes same) = record-taken takes
  put text before after (display.no_room few same-place same) = ap {A = Display} (λ k. k.held) same

pub nothing-taken : (s t : Display) {outcome : Result ⊤ Refusal} → display.Takes s t outcome → t.held ≡ s.held
nothing-taken s t (display.not_awaited was end queue settles) = settles.held
nothing-taken s t (display.takes other takes) = record-taken _ _ s t takes

-- ---- what came or went

pub got : (fds : List ℤ) (is_first : Bool) (old new : Held) → Gets {E = Refusal} fds is_first old (Ok tt) new → (n : ℤ) → held_times n old + times n fds ≡ held_times n new + times n []
got fds is_first old new x n = omega (arith, arrived-times n old new fds is_first x)

pub not-got : (fds : List ℤ) (is_first : Bool) (old new : Held) (r : Refusal) → Gets {E = Refusal} fds is_first old (Err r) new → (n : ℤ) → held_times n old + times n [] ≡ held_times n new + times n []
not-got fds is_first old new r x n = omega (arith, same-times n old new x)

pub went : (fd : ℤ) (old new : Held) → Claimed fd old new → (n : ℤ) → held_times n old + times n [] ≡ held_times n new + times n (fd ∷ [])
went fd old new x n = omega (arith, claimed-times n old new fd x)

pub handed : (before : List ℤ) (count : ℕ) (after : List ℤ) (old new : Held) → HandsLoose old before count after new → (n : ℤ) → held_times n old + times n [] ≡ held_times n new + times n (take count after)
handed before count after old new x n = omega (arith, handed-times n old new before count after x)

pub stays : (old new : Held) → HoldsAsOften old new → (n : ℤ) → held_times n old + times n [] ≡ held_times n new + times n []
stays old new same n = omega (arith, same n)

-- what comes behind the first byte nobody may claim
pub still-none : (fds : List ℤ) (old new : Held) (outcome : Result ⊤ Refusal) → Gets fds false old outcome new → claimable old ≡ [] → claimable new ≡ []
still-none fds old new (Ok done) x none = x.own ∙ none
still-none fds old new (Err r) x none = x.own ∙ none

-- where no call is open, nothing may be claimed of what was given up
pub given-up : (is_open : Bool) (old new : Held) → Abandons is_open old new → is_open ≡ false → claimable new ≡ []
given-up true old new x is = absurd (cc is)
given-up false old new x is = x.own
