-- Exactly these bytes and descriptors are to be sent, or not.
use Rattle.std.proofs.Common.{◌≡◌, ◌≢◌, ℕ, ℤ, zero, suc, ◌+◌, ◌-◌, ◌<◌, ◌≤◌, List, [], ◌∷◌, ◌++◌, length, map, take, drop, refl, sym, ap, ◌∙◌, append_assoc, length-append, arith}
use Rattle.std.proofs.lemmas.List.{append-nil, append_cancel_left, length-drop, length-take-le, take-append-drop, take_all, take_at}
use Rattle.std.proofs.Math.Seq.{take-add}
use Rattle.vhost_protocol.specs.Stream.{Cell, bytes, carrying, cell, first_handles, plain}
use Rattle.vhost_link.proofs.Cells.{bytes-carrying, plain-append, plain-is}
use Rattle.vhost_link.specs.declared.plain.PlainHandle.{PlainHandle}
use Rattle.vhost_c_common.specs.Records.{fd_in}
use Rattle.vhost_c_joined.specs.Judged.{IsMessage, due_at}

abbrev Cells : Type 0
Cells = List (Cell PlainHandle)

abbrev Handles : Type 0
Handles = List PlainHandle

-- the bytes of a message
pub text-is : (text : List ℕ) (fds : List ℤ) (cells : Cells) → IsMessage text fds cells → bytes cells ≡ text
text-is text fds cells m = ap (λ (cs : Cells). bytes cs) m.carried ∙ bytes-carrying (first_handles cells) text

-- the handles that go with a piece at this place
abbrev handles_at : ℕ → Handles → Handles
handles_at zero hs = hs
handles_at (suc n) hs = []

numbers-at : (n : ℕ) (hs : Handles) → map fd_in (handles_at n hs) ≡ due_at n (map fd_in hs)
numbers-at zero hs = refl
numbers-at (suc n) hs = refl

join : (hs : Handles) (xs ys : List ℕ) → carrying hs xs ++ carrying (handles_at (length xs) hs) ys ≡ carrying hs (xs ++ ys)
join hs [] ys = refl
join hs (x ∷ xs) ys = ap (λ cs. cell x hs ∷ cs) (ap (λ cs. plain xs ++ cs) (plain-is ys) ∙ sym (plain-append xs ys))

none-of : (hs : Handles) → map fd_in hs ≡ [] → hs ≡ []
none-of [] is = refl
none-of (h ∷ hs) is = absurd (cc is)

-- ---- the front of a message

first-of : (hs : Handles) (xs : List ℕ) (rest : Cells) → 0 < length xs → first_handles (carrying hs xs ++ rest) ≡ hs
first-of hs [] rest some = absurd (omega (arith, some))
first-of hs (x ∷ xs) rest some = refl

abbrev first_byte : Cells → ℕ
first_byte [] = 0
first_byte (c ∷ cs) = c.byte

abbrev tail : Cells → Cells
tail [] = []
tail (c ∷ cs) = cs

front-of : (xs text : List ℕ) (rest : Cells) → plain text ≡ plain xs ++ rest → (left : List ℕ) × (text ≡ xs ++ left)
front-of [] text rest is = (text, refl)
front-of (x ∷ xs) [] rest is = absurd (cc is)
front-of (x ∷ xs) (t ∷ text) rest is =
    let first : t ≡ x = ap first_byte is in
    let t' = front-of xs text rest (ap tail is) in
    (t'.0, ap (λ b. b ∷ text) first ∙ ap (λ bs. x ∷ bs) t'.1)

record Front (ks hs : Handles) (xs text : List ℕ) : Type 0 where
  same : hs ≡ ks
  left : List ℕ
  is : text ≡ xs ++ left

front : (ks hs : Handles) (xs text : List ℕ) (rest : Cells) → 0 < length xs → carrying ks text ≡ carrying hs xs ++ rest → Front ks hs xs text
front ks hs [] text rest some is = absurd (omega (arith, some))
front ks hs (x ∷ xs) [] rest some is = absurd (cc is)
front ks hs (x ∷ xs) (t ∷ text) rest some is =
    let first : t ≡ x = ap first_byte is in
    let t' = front-of xs text rest (ap tail is) in
    record { same = sym (ap first_handles is); left = t'.0; is = ap (λ b. b ∷ text) first ∙ ap (λ bs. x ∷ bs) t'.1 }

module _ (text : List ℕ) (fds : List ℤ) (before : Cells) (at : ℕ) (within : at ≤ length text) (queue : Cells) (left : before ≡ carrying (first_handles before) (take at text) ++ queue) (named : 0 < at → map fd_in (first_handles before) ≡ fds) where
  abbrev hs : Handles
  hs = first_handles before

  long : length (take at text) ≡ at
  long = length-take-le at text within

  -- what is left, where this is the message
  rest-is : IsMessage text fds before → queue ≡ carrying (handles_at at hs) (drop at text)
  rest-is m =
      append_cancel_left (carrying hs (take at text)) queue (carrying (handles_at at hs) (drop at text))
      (sym left ∙ m.carried ∙ ap (carrying hs) (sym (take-append-drop at text)) ∙ sym (join hs (take at text) (drop at text)) ∙ ap (λ n. carrying hs (take at text) ++ carrying (handles_at n hs) (drop at text)) long)

  -- nothing is left
  over : queue ≡ [] → before ≡ carrying hs (take at text)
  over none = left ∙ ap (λ cs. carrying hs (take at text) ++ cs) none ∙ append-nil (carrying hs (take at text))

  -- nothing went at all
  nothing : queue ≡ [] → at ≡ 0 → hs ≡ []
  nothing none first = ap first_handles (over none ∙ ap (λ n. carrying hs (take n text)) first)

  pub over-right : queue ≡ [] → at ≡ length text → [] ≡ due_at at fds → IsMessage text fds before
  over-right none is due = record {
    carried = over none ∙ ap (carrying hs) (take_all at text (let all : length text ≤ at = omega (arith, is) in all));
    numbers = by at refl named due;
  }
    where
      by : (n : ℕ) → at ≡ n → (0 < n → map fd_in hs ≡ fds) → [] ≡ due_at n fds → map fd_in hs ≡ fds
      by zero first some due = ap (map fd_in) (nothing none first) ∙ due
      by (suc n) later some due = some (omega arith)

  pub over-all : queue ≡ [] → IsMessage text fds before → (at ≡ length text) × ([] ≡ due_at at fds)
  over-all none m = (sym long ∙ ap (λ (xs : List ℕ). length xs) same, by at refl)
    where
      same : take at text ≡ text
      same = sym (ap (λ (cs : Cells). bytes cs) (over none) ∙ bytes-carrying hs (take at text)) ∙ text-is text fds before m

      by : (n : ℕ) → at ≡ n → [] ≡ due_at n fds
      by zero first = sym (ap (map fd_in) (nothing none first)) ∙ m.numbers
      by (suc n) later = refl

  module _ (ks : Handles) (piece : List ℕ) (queue' : Cells) (some : 0 < length piece) (out : queue ≡ carrying ks piece ++ queue') where
    fronts : IsMessage text fds before → Front (handles_at at hs) ks piece (drop at text)
    fronts m = front (handles_at at hs) ks piece (drop at text) queue' some (sym (rest-is m) ∙ out)

    -- other descriptors are none of it
    pub brings-differs : (handed : List ℤ) → handed ≡ map fd_in ks → handed ≢ due_at at fds → ¬ IsMessage text fds before
    brings-differs handed are other m = other (are ∙ ap (map fd_in) (fronts m).same ∙ numbers-at at hs ∙ ap (due_at at) m.numbers)

    -- nor are other bytes
    pub other-differs : (at + length piece ≤ length text → piece ≢ take (length piece) (drop at text)) → ¬ IsMessage text fds before
    other-differs other m =
        let f = fronts m in
        other (by (length f.left) (ap (λ (xs : List ℕ). length xs) f.is ∙ length-append piece f.left) (length-drop at text)) (sym (take_at piece f.left (length piece) refl) ∙ sym (ap (λ (xs : List ℕ). take (length piece) xs) f.is))
      where
        by : (n : ℕ) → length (drop at text) ≡ length piece + n → length (drop at text) ≡ length text - at → at + length piece ≤ length text
        by n is rest = omega (arith, is, rest, within)

    handles-due : (n : ℕ) → at ≡ n → map fd_in ks ≡ due_at n fds → ks ≡ handles_at n hs
    handles-due zero first are = sym (ap first_handles (left ∙ ap (λ k. carrying hs (take k text) ++ queue) first ∙ out) ∙ first-of ks piece queue' some)
    handles-due (suc n) later are = none-of ks are

    -- it goes on
    pub one-more : (handed : List ℤ) → handed ≡ map fd_in ks → handed ≡ due_at at fds → piece ≡ take (length piece) (drop at text) → before ≡ carrying hs (take (at + length piece) text) ++ queue'
    one-more handed are due is =
        let same : ks ≡ handles_at (length (take at text)) hs = handles-due at refl (sym are ∙ due) ∙ ap (λ n. handles_at n hs) (sym long) in
        left ∙ ap (λ cs. carrying hs (take at text) ++ cs) (out ∙ ap (λ h. carrying h piece ++ queue') same) ∙ sym (append_assoc (carrying hs (take at text)) (carrying (handles_at (length (take at text)) hs) piece) queue')
        ∙ ap (λ cs. cs ++ queue') (join hs (take at text) piece ∙ ap (carrying hs) (ap (λ xs. take at text ++ xs) is ∙ sym (take-add at (length piece) text)))

    -- with its descriptors
    pub all-named : (handed : List ℤ) → handed ≡ map fd_in ks → handed ≡ due_at at fds → map fd_in hs ≡ fds
    all-named handed are due = by at refl named (sym are ∙ due)
      where
        by : (n : ℕ) → at ≡ n → (0 < n → map fd_in hs ≡ fds) → map fd_in ks ≡ due_at n fds → map fd_in hs ≡ fds
        by zero first known due = ap (map fd_in) (sym (handles-due zero first due)) ∙ due
        by (suc n) later known due = known (omega arith)

pub none-behind : (xs ys : Cells) → xs ++ ys ≡ [] → ys ≡ []
none-behind [] ys is = is
none-behind (x ∷ xs) ys is = absurd (cc is)

pub some-of : (n : ℕ) (xs : List ℕ) → 0 < n → 0 < length xs → 0 < length (take n xs)
some-of zero xs some many = absurd (omega (arith, some))
some-of (suc n) [] some many = absurd (omega (arith, many))
some-of (suc n) (x ∷ xs) some many = omega arith
