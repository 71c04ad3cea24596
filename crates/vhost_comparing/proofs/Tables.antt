-- Tables whose parts are the same one by one.
use Rattle.std.proofs.Common.{◌≡◌, ℕ, ◌+◌, ◌<◌, List, [], ◌∷◌, ◌++◌, length, map, take, get_or, sym, ◌∙◌, ap}
use Rattle.std.proofs.lemmas.List.{get_or-map, map_more}

module _ {X Y : Type 0} (f : X → Y) (xs ys : List X) (i : ℕ) (d e : X) (left : i < length xs) (right : i < length ys) where
  -- the same at this place
  pub same_here : map f xs ≡ map f ys → f (get_or xs i d) ≡ f (get_or ys i e)
  same_here all = sym (get_or-map f xs i d (f d) left) ∙ ap (λ zs. get_or zs i (f d)) all ∙ get_or-map f ys i e (f d) right

  -- the same up to this place, and here
  pub same_more : map f (take i xs) ≡ map f (take i ys) → f (get_or xs i d) ≡ f (get_or ys i e) → map f (take (i + 1) xs) ≡ map f (take (i + 1) ys)
  same_more before here = map_more f xs i d left ∙ ap (λ zs. zs ++ f (get_or xs i d) ∷ []) before ∙ ap (λ y. map f (take i ys) ++ y ∷ []) here ∙ sym (map_more f ys i e right)
