-- A region that is not added to those before it in a list shows what they are not together.
use Rattle.std.proofs.Common.{◌≡◌, ℕ, ◌<◌, List, length, get_or, take, inl, inr, length-take, refl, sym, ◌∙◌, arith}
use Rattle.std.proofs.lemmas.Bool.{false≢true}
use Rattle.std.proofs.lemmas.List.{get_or-take}
use Rattle.vhost_queue.specs.Memory.{Refuses, RefusesAll}
use Rattle.vhost_queue.specs.declared.error.Error.{Error}
use Rattle.vhost_queue.specs.declared.memory.GuestRegion.{GuestRegion}

pub refused-among : (rs : List GuestRegion) (i : ℕ) (d : GuestRegion) (e : Error) → i < length rs → (old : List GuestRegion) → old ≡ take i rs
    → Refuses old (get_or rs i d) e → RefusesAll rs e
refused-among rs i d e lt old is (inl (why, bad)) = inl (why, λ all. false≢true (sym bad ∙ all i d lt))
refused-among rs i d e lt old is (inr (inl (why, many))) =
    let n = length-take i rs in let m : length old ≡ length (take i rs) = rw is refl in inr (inl (why, omega arith))
refused-among rs i d e lt old is (inr (inr (inl (why, (k, below, shared))))) =
    let n = length-take i rs in let m : length old ≡ length (take i rs) = rw is refl in
    let low : k < i = omega arith in
    let same : get_or old k d ≡ get_or rs k d = rw is (get_or-take i rs k d low) in
    inr (inr (inl (why, λ apart. false≢true (sym (rw same at (shared d)) ∙ apart k i d low lt))))
refused-among rs i d e lt old is (inr (inr (inr out))) = inr (inr (inr out))
