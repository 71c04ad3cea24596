-- One of a list is claimed, or is none of it.
use Rattle.std.proofs.Common.{◌≡◌, ℕ, suc, ◌<◌, ℤ, List, ◌∷◌, ◌++◌, length, get_or, take, drop, sym, ap, ◌∙◌, w32, to_z, of_z}
use Rattle.std.proofs.Math.Seq.{drop-cons}
use Rattle.std.proofs.lemmas.Int.{to_z-of_z}
use Rattle.std.proofs.lemmas.List.{take-append-drop}
use Rattle.std.specs.List.{Contains, remove}
use mir.Val.{SFits}
use Rattle.vhost_c_common.specs.Held.{LosesOne}

-- the one at a place is gone
pub loses : (xs ys : List ℤ) (i : ℕ) (fd : ℤ) → i < length xs → get_or xs i fd ≡ fd → ys ≡ remove xs i → LosesOne fd xs ys
loses xs ys i fd within at is = record {
  before = take i xs;
  after = drop (suc i) xs;
  was = sym (take-append-drop i xs) ∙ ap (λ zs. take i xs ++ zs) (drop-cons xs i fd within ∙ ap (λ n. n ∷ drop (suc i) xs) at);
  is = is;
}

-- two numbers of the same bits are the same
pub same-bits : (a b : ℤ) → SFits w32 a → SFits w32 b → of_z w32 a ≡ of_z w32 b → a ≡ b
same-bits a b fits fits' is = sym (to_z-of_z w32 a fits) ∙ ap (λ n. to_z w32 n) is ∙ to_z-of_z w32 b fits'

-- none of the list is it
pub is-none : (xs : List ℤ) (fd : ℤ) → ((k : ℕ) (d : ℤ) → k < length xs → ¬ (get_or xs k d ≡ fd)) → ¬ (Contains xs fd)
is-none xs fd others c = others c.0 fd c.1 c.2
