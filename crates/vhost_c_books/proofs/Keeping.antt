-- The books balance after each call, since what came, was claimed and was handed out is noted.
use Rattle.std.proofs.Common.{◌≡◌, ◌+◌, ◌<◌, ℕ, ℤ, List, [], ◌∷◌, ◌++◌, length, Result, Ok, Err, refl, ap, ◌∙◌, arith}
use Rattle.std.specs.Prelude.{OnOk}
use Rattle.vhost_c_common.proofs.Balancing.{settled, times-append}
use Rattle.vhost_c_common.specs.Held.{HoldsNone, claimable, let_go, times}
use Rattle.vhost_c_books.specs.Books.{HandsOn, IsBalanced, IsNew, IsSettledIn, Moves, held_by}
use Rattle.vhost_c_books.specs.declared.any_session.AnySession.{AnySession}
use Rattle.vhost_c_books.specs.declared.any_session.Kind.{Kind}
use Rattle.vhost_c_books.specs.declared.books.Books.{Books}

-- what holds where a call succeeds, by what it promises where it does
pub on-ok : {T E P Q : Type 0} (r : Result T E) → (P → Q) → OnOk r P → OnOk r Q
on-ok (Ok v) f p = f p
on-ok (Err e) f p = tt

-- nothing was noted yet, and nothing is held
pub first : (k : Kind) (b : Books) → IsNew k b.session → b.came.items ≡ [] → b.claimed.items ≡ [] → b.handed.items ≡ [] → IsBalanced k b
first k b new no-came no-claimed no-handed = record {
  kind = new.kind;
  kept = new.kept;
  each = λ n.
      let a : times n b.came.items ≡ 0 = ap (times n) no-came in
      let c : times n b.claimed.items ≡ 0 = ap (times n) no-claimed in
      let d : times n b.handed.items ≡ 0 = ap (times n) no-handed in
      let e : times n (claimable (held_by b.session)) ≡ 0 = ap (times n) new.held.own in
      let f : times n (let_go (held_by b.session)) ≡ 0 = ap (times n) new.held.loose in
      omega arith;
}

module _ (k : Kind) (old new : Books) (was : IsBalanced k old) where
  -- these came
  pub came : (fds : List ℤ) → Moves fds [] old.session new.session → new.came.items ≡ old.came.items ++ fds → new.claimed ≡ old.claimed → new.handed ≡ old.handed → IsBalanced k new
  came fds moves is same-claimed same-handed = record {
    kind = moves.kind ∙ was.kind;
    kept = moves.kept;
    each = λ n.
        let a : times n new.came.items ≡ times n old.came.items + times n fds = ap (times n) is ∙ times-append n old.came.items fds in
        let b : times n new.claimed.items ≡ times n old.claimed.items = ap (λ v. times n v.items) same-claimed in
        let c : times n new.handed.items ≡ times n old.handed.items = ap (λ v. times n v.items) same-handed in
        omega (arith, was.each n, moves.held n);
  }

  -- this one was claimed
  pub claimed : (fd : ℤ) → Moves [] (fd ∷ []) old.session new.session → new.came ≡ old.came → new.claimed.items ≡ old.claimed.items ++ (fd ∷ []) → new.handed ≡ old.handed → IsBalanced k new
  claimed fd moves same-came is same-handed = record {
    kind = moves.kind ∙ was.kind;
    kept = moves.kept;
    each = λ n.
        let a : times n new.came.items ≡ times n old.came.items = ap (λ v. times n v.items) same-came in
        let b : times n new.claimed.items ≡ times n old.claimed.items + times n (fd ∷ []) = ap (times n) is ∙ times-append n old.claimed.items (fd ∷ []) in
        let c : times n new.handed.items ≡ times n old.handed.items = ap (λ v. times n v.items) same-handed in
        omega (arith, was.each n, moves.held n);
  }

  -- these were handed out
  pub handed : (fds : List ℤ) → Moves [] fds old.session new.session → new.came ≡ old.came → new.claimed ≡ old.claimed → new.handed.items ≡ old.handed.items ++ fds → IsBalanced k new
  handed fds moves same-came same-claimed is = record {
    kind = moves.kind ∙ was.kind;
    kept = moves.kept;
    each = λ n.
        let a : times n new.came.items ≡ times n old.came.items = ap (λ v. times n v.items) same-came in
        let b : times n new.claimed.items ≡ times n old.claimed.items = ap (λ v. times n v.items) same-claimed in
        let c : times n new.handed.items ≡ times n old.handed.items + times n fds = ap (times n) is ∙ times-append n old.handed.items fds in
        omega (arith, was.each n, moves.held n);
  }

  -- none did
  pub still : Moves [] [] old.session new.session → new.came ≡ old.came → new.claimed ≡ old.claimed → new.handed ≡ old.handed → IsBalanced k new
  still moves same-came same-claimed same-handed = record {
    kind = moves.kind ∙ was.kind;
    kept = moves.kept;
    each = λ n.
        let a : times n new.came.items ≡ times n old.came.items = ap (λ v. times n v.items) same-came in
        let b : times n new.claimed.items ≡ times n old.claimed.items = ap (λ v. times n v.items) same-claimed in
        let c : times n new.handed.items ≡ times n old.handed.items = ap (λ v. times n v.items) same-handed in
        omega (arith, was.each n, moves.held n);
  }

none-left : (xs : List ℤ) → length xs ≡ 0 → xs ≡ []
none-left [] is = refl
none-left (x ∷ xs) is = absurd (omega (arith, is))

-- where none may be claimed, and none is handed out though there is room, none is held
pub all-settled : (k : Kind) (old : AnySession) (b : Books) (room n : ℕ) → IsBalanced k b → claimable (held_by old) ≡ [] → HandsOn room n old b.session → n ≡ 0 → 0 < room → IsSettledIn k b
all-settled k old b room n is own x nothing wide =
    let gone : length (let_go (held_by b.session)) ≡ 0 = omega (arith, x.count, x.fewer, nothing, wide) in
    let none : HoldsNone (held_by b.session) = record { own = x.own ∙ own; loose = none-left (let_go (held_by b.session)) gone } in
    record { kind = is.kind; none = none; each = settled b.came.items b.claimed.items b.handed.items (held_by b.session) is.each none }
