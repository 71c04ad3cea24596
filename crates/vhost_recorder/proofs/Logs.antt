-- Logs that grow by one entry.
use Rattle.std.proofs.Common.{◌≡◌, ℕ, ◌+◌, ◌-◌, ◌<◌, ◌==◌, ◌&&◌, Bool, true, false, cond, List, [], ◌∷◌, ◌++◌, length, take, Option, refl, sym, ◌∙◌, ap, arith}
use Rattle.std.proofs.lemmas.List.{length-append}
use Rattle.std.proofs.lemmas.List.Sums.{sum_by-cons}
use Rattle.std.proofs.Math.Seq.{take-append_seam}
use Rattle.vhost_protocol.specs.Log.{Entry, calls_of, AreNumbered, first_bit, offered_bit, plain_entries}
use Rattle.vhost_link.specs.declared.plain.PlainHandle.{PlainHandle}
use Rattle.vhost_recorder.specs.Kept.{is_plain, are_plain, bit_after}

abbrev Log : Type 0
Log = List (Entry PlainHandle)

-- ---- serials

counted : (caller : ℕ) (e : Entry PlainHandle) (es : Log) → calls_of caller (e ∷ es) ≡ cond (e.caller == caller) 1 0 + calls_of caller es
counted caller e es = sum_by-cons (λ (x : Entry PlainHandle). cond (x.caller == caller) 1 0) e es

pub numbered-more : (earlier es : Log) (e : Entry PlainHandle) → AreNumbered earlier es → e.serial ≡ calls_of e.caller earlier + calls_of e.caller es → AreNumbered earlier (es ++ e ∷ [])
numbered-more earlier [] e n is = (is ∙ none (calls_of e.caller earlier), tt)
  where
    none : (k : ℕ) → k + calls_of {H = PlainHandle} e.caller [] ≡ k
    none k = omega arith
numbered-more earlier (x ∷ es) e n is =
    (n.0, numbered-more (x ∷ earlier) es e n.1 (let a = counted e.caller x earlier in let b = counted e.caller x es in omega (arith, a, b, is)))

-- ---- premises that the entries show

and-true : (a b : Bool) → (a && b) ≡ true → (a ≡ true) × (b ≡ true)
and-true true b e = (refl, e)
and-true false b e = absurd (cc e)

cond-true : {A : Type 0} (b : Bool) (x y : A) → b ≡ true → cond b x y ≡ x
cond-true b x y e = ap (λ c. cond c x y) e

cond-false : {A : Type 0} (b : Bool) (x y : A) → b ≡ false → cond b x y ≡ y
cond-false b x y e = ap (λ c. cond c x y) e

pub bit-more : (before : Option Bool) (es : Log) (e : Entry PlainHandle) → bit_after before (es ++ e ∷ []) ≡ first_bit (bit_after before es) (offered_bit e.call e.result)
bit-more before [] e = refl
bit-more before (x ∷ es) e = bit-more (first_bit before (offered_bit x.call x.result)) es e

pub plain-more : (before : Option Bool) (es : Log) (e : Entry PlainHandle) → are_plain before (es ++ e ∷ []) ≡ true → (are_plain before es ≡ true) × (is_plain (bit_after before es) e ≡ true)
plain-more before [] e all = (refl, (and-true (is_plain before e) true all).0)
plain-more before (x ∷ es) e all =
    let split = and-true (is_plain before x) (are_plain (first_bit before (offered_bit x.call x.result)) (es ++ e ∷ [])) all in
    let more = plain-more (first_bit before (offered_bit x.call x.result)) es e split.1 in
    (ap (λ b. b && are_plain (first_bit before (offered_bit x.call x.result)) es) split.0 ∙ more.0, more.1)

-- where all entries are plain, one more is kept if it is
pub kept-more : (before : Option Bool) (es : Log) (e : Entry PlainHandle) → are_plain before es ≡ true → plain_entries before (es ++ e ∷ []) ≡ es ++ cond (is_plain (bit_after before es) e) (e ∷ []) []
kept-more before [] e all = refl
kept-more before (x ∷ es) e all =
    let split = and-true (is_plain before x) (are_plain (first_bit before (offered_bit x.call x.result)) es) all in
    cond-true (is_plain before x) (x ∷ plain_entries (first_bit before (offered_bit x.call x.result)) (es ++ e ∷ [])) [] split.0
    ∙ ap (λ xs. x ∷ xs) (kept-more (first_bit before (offered_bit x.call x.result)) es e split.1)

pub kept-all : (before : Option Bool) (es : Log) → are_plain before es ≡ true → plain_entries before es ≡ es
kept-all before [] all = refl
kept-all before (x ∷ es) all =
    let split = and-true (is_plain before x) (are_plain (first_bit before (offered_bit x.call x.result)) es) all in
    cond-true (is_plain before x) (x ∷ plain_entries (first_bit before (offered_bit x.call x.result)) es) [] split.0 ∙ ap (λ xs. x ∷ xs) (kept-all (first_bit before (offered_bit x.call x.result)) es split.1)

-- where one is not, no more is kept
pub kept-cut : (before : Option Bool) (es : Log) (e : Entry PlainHandle) → are_plain before es ≡ false → (plain_entries before (es ++ e ∷ []) ≡ plain_entries before es) × (length (plain_entries before es) < length es)
kept-cut before [] e some = absurd (cc some)
kept-cut before (x ∷ es) e some = go (is_plain before x) refl (λ k. kept-cut (first_bit before (offered_bit x.call x.result)) es e k)
  where
    now : Option Bool
    now = first_bit before (offered_bit x.call x.result)

    go : (b : Bool) → is_plain before x ≡ b
        → (are_plain (first_bit before (offered_bit x.call x.result)) es ≡ false
        → (plain_entries (first_bit before (offered_bit x.call x.result)) (es ++ e ∷ []) ≡ plain_entries (first_bit before (offered_bit x.call x.result)) es)
        × (length (plain_entries (first_bit before (offered_bit x.call x.result)) es) < length es))
        → (plain_entries before ((x ∷ es) ++ e ∷ []) ≡ plain_entries before (x ∷ es)) × (length (plain_entries before (x ∷ es)) < length (x ∷ es))
    go true is behind =
        let rest = behind (ap (λ b. b && are_plain (first_bit before (offered_bit x.call x.result)) es) (sym is) ∙ some) in
        let one = cond-true (is_plain before x) (x ∷ plain_entries (first_bit before (offered_bit x.call x.result)) es) [] is in
        let more = cond-true (is_plain before x) (x ∷ plain_entries (first_bit before (offered_bit x.call x.result)) (es ++ e ∷ [])) [] is in
        (more ∙ ap (λ xs. x ∷ xs) rest.0 ∙ sym one, (let long = ap (λ (xs : Log). length xs) one in let shorter = rest.1 in omega (arith, long, shorter)))
    go false is behind =
        let one = cond-false (is_plain before x) (x ∷ plain_entries (first_bit before (offered_bit x.call x.result)) es) [] is in
        let more = cond-false (is_plain before x) (x ∷ plain_entries (first_bit before (offered_bit x.call x.result)) (es ++ e ∷ [])) [] is in
        (more ∙ sym one, (let long = ap (λ (xs : Log). length xs) one in omega (arith, long)))

-- ---- the last entry

pub but-last : (es : Log) (e : Entry PlainHandle) → take (length (es ++ e ∷ []) - 1) (es ++ e ∷ []) ≡ es
but-last es e =
    let long = length-append es (e ∷ []) in
    ap (λ n. take n (es ++ e ∷ [])) (let same : length (es ++ e ∷ []) - 1 ≡ length es = omega (arith, long) in same) ∙ take-append_seam es (e ∷ [])

pub no-shorter : (es : Log) (e : Entry PlainHandle) (xs : Log) → length xs < length es + 1 → xs ≡ es ++ e ∷ [] → ⊥
no-shorter es e xs less same = let long = ap (λ (ys : Log). length ys) same ∙ length-append es (e ∷ []) in absurd (omega (arith, long, less))
