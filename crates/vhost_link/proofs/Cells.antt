-- Parts of bytes with handles on the first.
use Rattle.std.proofs.Common.{◌≡◌, ℕ, zero, suc, ◌<◌, List, [], ◌∷◌, ◌++◌, length, take, drop, refl, sym, ap, ◌∙◌, arith}
use Rattle.std.proofs.Common.{◌||◌}
use Rattle.std.proofs.Math.Bool.{or_assoc, or-false}
use Rattle.std.proofs.lemmas.List.{drop-map, length-map, map-append, take-map}
use Rattle.vhost_protocol.specs.Stream.{Cell, cell, plain, carrying, bytes, brings_handles, has_some}
pub use Rattle.vhost_protocol.proofs.TextLaws.{bytes-plain, length-plain, plain-bare as brings-plain}

pub plain-is : {H : Type 0} (bs : List ℕ) → carrying {H = H} [] bs ≡ plain bs
plain-is [] = refl
plain-is (b ∷ bs) = refl

pub length-carrying : {H : Type 0} (hs : List H) (bs : List ℕ) → length (carrying hs bs) ≡ length bs
length-carrying hs [] = refl
length-carrying {H} hs (b ∷ bs) = ap suc (length-plain H bs)

pub take-plain : {H : Type 0} (n : ℕ) (bs : List ℕ) → take n (plain {H = H} bs) ≡ plain (take n bs)
take-plain n bs = take-map (λ b. cell b []) n bs

pub take-carrying : {H : Type 0} (n : ℕ) (hs : List H) (bs : List ℕ) → take n (carrying hs bs) ≡ carrying hs (take n bs)
take-carrying zero hs bs = refl
take-carrying (suc n) hs [] = refl
take-carrying (suc n) hs (b ∷ bs) = ap (λ cs. cell b hs ∷ cs) (take-plain n bs)

pub drop-plain : {H : Type 0} (n : ℕ) (bs : List ℕ) → drop n (plain {H = H} bs) ≡ plain (drop n bs)
drop-plain n bs = drop-map (λ b. cell b []) n bs

pub drop-carrying : {H : Type 0} (n : ℕ) (hs : List H) (bs : List ℕ) → drop (suc n) (carrying hs bs) ≡ plain (drop (suc n) bs)
drop-carrying n hs [] = refl
drop-carrying n hs (b ∷ bs) = drop-plain n bs

-- the first piece of a message
pub piece-first : {H : Type 0} (n : ℕ) (hs : List H) (bs : List ℕ) → carrying hs (take n bs) ≡ take n (drop 0 (carrying hs bs))
piece-first n hs bs = sym (take-carrying n hs bs)

-- what is left of a message, and the next piece of it
pub piece-later : {H : Type 0} (k n : ℕ) (hs : List H) (bs : List ℕ) → 0 < k → carrying [] (take n (drop k bs)) ≡ take n (drop k (carrying hs bs))
piece-later zero n hs bs h = absurd (omega arith)
piece-later (suc k) n hs bs h = plain-is (take n (drop (suc k) bs)) ∙ sym (take-plain n (drop (suc k) bs)) ∙ ap (take n) (sym (drop-carrying k hs bs))

pub bytes-carrying : {H : Type 0} (hs : List H) (bs : List ℕ) → bytes (carrying hs bs) ≡ bs
bytes-carrying hs [] = refl
bytes-carrying {H} hs (b ∷ bs) = ap (λ xs. b ∷ xs) (bytes-plain H bs)

pub length-bytes : {H : Type 0} (cs : List (Cell H)) → length (bytes cs) ≡ length cs
length-bytes cs = length-map cs (λ c. c.byte)

pub bytes-append : {H : Type 0} (cs ds : List (Cell H)) → bytes (cs ++ ds) ≡ bytes cs ++ bytes ds
bytes-append cs ds = map-append (λ c. c.byte) cs ds

pub brings-append : {H : Type 0} (cs ds : List (Cell H)) → brings_handles (cs ++ ds) ≡ brings_handles cs || brings_handles ds
brings-append [] ds = refl
brings-append (c ∷ cs) ds = ap (λ b. has_some c.handles || b) (brings-append cs ds) ∙ sym (or_assoc (has_some c.handles) (brings_handles cs) (brings_handles ds))

pub brings-carrying : {H : Type 0} (hs : List H) (bs : List ℕ) → 0 < length bs → brings_handles (carrying hs bs) ≡ has_some hs
brings-carrying hs [] h = absurd (omega arith)
brings-carrying {H} hs (b ∷ bs) h = rw (brings-plain H bs) (or-false (has_some hs))

pub plain-append : {H : Type 0} (xs ys : List ℕ) → plain {H = H} (xs ++ ys) ≡ plain xs ++ plain ys
plain-append xs ys = map-append (λ b. cell b []) xs ys

pub carrying-append : {H : Type 0} (hs : List H) (xs ys : List ℕ) → 0 < length xs → carrying hs (xs ++ ys) ≡ carrying hs xs ++ plain ys
carrying-append hs [] ys h = absurd (omega arith)
carrying-append hs (x ∷ xs) ys h = ap (λ cs. cell x hs ∷ cs) (plain-append xs ys)
