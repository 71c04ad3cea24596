-- Headers come in.
use Rattle.std.proofs.Common.{◌≡◌, ℕ, ◌<◌, ◌≤◌, List, length, take, sym, ap, ◌∙◌, arith, Bool, true, false}
use Rattle.std.proofs.lemmas.List.{nil_from_length, take_all}
use Rattle.vhost_message.specs.declared.error.Error.TheVariants.{InvalidMessage, PartialMessage, Disconnected}
use Rattle.vhost_protocol.specs.Stream.{Cell, bytes, first_handles}
use Rattle.vhost_link.specs.Law.{Event}
use Rattle.vhost_link.proofs.Cells.{length-bytes}
use Rattle.vhost_connection.specs.Talk.{State}
use Rattle.vhost_connection.specs.Came.{Came, Begins}
use Rattle.vhost_connection.specs.Calls.{IsHeader, IsNoHeader}
use Rattle.vhost_connection.specs.Calls.IsNoMessage.{too_few, not_valid}
use Rattle.vhost_connection.specs.Calls.IsNoHeader.{no_cell, no_header}
use Rattle.vhost_connection.specs.Front.{IsFront}
use Rattle.vhost_connection.proofs.Came.{came-listed}
use Rattle.vhost_connection.proofs.Bodies.{begins}

module _ {L H : Type 0} {event : L → Event H → L → Type 0} {old mid : State L H} {count more : ℕ} {hs : List H} {text : List ℕ} {cs : List (Cell H)} (m : Came event old Begins 12 cs false mid) (f : IsFront 12 cs count more hs text) where
  pub header-none : {new : State L H} {test : List ℕ → Bool} → count ≡ 0 → new ≡ record mid { list = true } → Came event old Begins 12 cs true new × IsNoHeader test cs Disconnected
  header-none none s = (came-listed m s, no_cell (nil_from_length cs (omega (arith, f.counted))))

  pub header-part : {new : State L H} {test : List ℕ → Bool} → count < 12 → (count ≡ 0 → ⊥) → new ≡ record mid { list = true } → Came event old Begins 12 cs true new × IsNoHeader test cs PartialMessage
  header-part short some s = (came-listed m s, no_header (omega (arith, f.counted, some)) (too_few (omega (arith, f.counted))))

  module _ {M : Type 0} (read : List ℕ → M) (valid : M → Bool) (x : M) (most : 12 ≤ count) (is : x ≡ read (take 12 text)) where
    all : length cs ≡ 12
    all = omega (arith, f.counted, m.within)

    decoded : x ≡ read (bytes cs)
    decoded = is ∙ ap read (begins f most ∙ take_all 12 (bytes cs) (omega (arith, all, length-bytes cs)))

    pub header-bad : {new : State L H} → valid x ≡ false → new ≡ record mid { list = true } → Came event old Begins 12 cs true new × IsNoHeader (λ bs. valid (read bs)) cs InvalidMessage
    header-bad bad s = (came-listed m s, no_header (omega (arith, all)) (not_valid (omega (arith, all)) (ap valid (sym decoded) ∙ bad)))

    pub head-whole : {X : Type 0} (hands : X → List H → Type 0) (given : X) → valid x ≡ true → hands given (first_handles cs) → IsHeader read valid hands cs (x, given)
    head-whole hands given ok over = (all, decoded, ok, over)
