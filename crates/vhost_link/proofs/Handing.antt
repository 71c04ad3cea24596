-- What a receive of a link in memory did.
use Rattle.std.proofs.Common.{◌≡◌, ℕ, ◌<◌, ◌≤◌, List, [], ◌∷◌, ◌++◌, length, take, drop, min, refl, sym, ap, ◌∙◌, arith}
use Rattle.std.proofs.lemmas.List.{drop-append-le, take-append-drop, length-take}
use Rattle.vhost_message.specs.declared.limits.TheConstants.{MAX_ATTACHED_FD_ENTRIES}
use Rattle.vhost_protocol.specs.Stream.{Cell, carrying}
use Rattle.vhost_link.specs.declared.cut.Cut.{Cut}
use Rattle.vhost_link.specs.declared.cut.Cut.TheVariants.{Give, Retry, Fault}
use Rattle.vhost_link.specs.declared.plain.PlainHandle.{PlainHandle}
use Rattle.vhost_link.specs.Law.{HandsOut}
use Rattle.vhost_link.specs.Cuts.{Gives}
use Rattle.vhost_link.specs.Ends.{Ends}
use Rattle.vhost_link.specs.Mem.{event, piece}
use Rattle.vhost_link.proofs.Cells.{length-carrying}

gives-fewer : (cuts : List Cut) (m n : ℕ) → n ≤ m → Gives cuts m → Gives cuts n
gives-fewer [] m n le g = tt
gives-fewer (Give k ∷ cuts) m n le g = omega arith
gives-fewer (Retry ∷ cuts) m n le g = g
gives-fewer (Fault e ∷ cuts) m n le g = g

-- the rest of a room whose front was written
pub behind : (n m : ℕ) (room sub : List ℕ) → m ≤ length room → length sub ≡ m → n ≤ length sub → drop n sub ≡ drop n (take m room) → drop n (sub ++ drop m room) ≡ drop n room
behind n m room sub le len most same =
    drop-append-le n sub (drop m room) most
    ∙ ap (λ xs. xs ++ drop m room) same
    ∙ sym (drop-append-le n (take m room) (drop m room) (omega (arith, length-take m room)))
    ∙ ap (drop n) (take-append-drop m room)

abbrev ends : List (Cell PlainHandle) → List (Cell PlainHandle) → List Cut → ℕ → Ends
ends p s c t = record { pending = p; sent = s; script = c; wants = t }

-- the same link, field by field
pub handed-is : (old new : Ends) → new.sent ≡ old.sent → new.script ≡ drop 1 old.script → new.wants ≡ old.wants → new ≡ record old { pending = new.pending; script = drop 1 old.script }
handed-is old new sent script wants = ap (λ x. ends new.pending x new.script new.wants) sent ∙ ap (λ x. ends new.pending old.sent x new.wants) script ∙ ap (λ x. ends new.pending old.sent (drop 1 old.script) x) wants

-- where a receive could hand out nothing, there is nothing
pub none-left : {H : Type 0} (cells : List (Cell H)) → length (piece cells) ≡ 0 → cells ≡ []
none-left [] e = refl
none-left (c ∷ cells) e = absurd (omega arith)

no-front : {H : Type 0} (front : List ℕ) (hs : List H) (cells : List (Cell H)) → length front ≡ 0 → carrying hs front ++ cells ≡ cells
no-front [] hs cells e = refl
no-front (b ∷ front) hs cells e = absurd (omega arith)

pub hands : (old new : Ends) (n most : ℕ) (hs : List PlainHandle) (front given : List ℕ)
    → n ≡ min most (length (piece old.pending)) → 0 < most → Gives old.script most → front ≡ given → length given ≡ n → old.pending ≡ carrying hs given ++ new.pending
    → new ≡ record old { pending = new.pending; script = drop 1 old.script } → length hs ≤ MAX_ATTACHED_FD_ENTRIES → (n ≡ 0 → hs ≡ []) → HandsOut event old n front hs new
hands old new n most hs front given count pos gives same len got is few none = record {
  some = λ some. rw same (omega (arith, length-carrying hs given), gives-fewer old.script most _ (omega (arith, length-carrying hs given)) gives, got, is);
  ended = λ z. let nil : old.pending ≡ [] = none-left old.pending (omega arith) in let kept = got ∙ no-front given hs new.pending (omega arith) in (
    nil,
    gives-fewer old.script most 0 (omega arith) gives,
    is ∙ ap (λ x. ends x old.sent (drop 1 old.script) old.wants) (sym kept),
  );
  none = none;
  few = few;
}
