-- A piece of a message goes from one session to another, with the descriptors on it.
use Rattle.std.proofs.Common.{◌≡◌, ◌<◌, ◌≤◌, ◌+◌, ℕ, ℤ, zero, suc, min, List, [], ◌∷◌, ◌++◌, length, map, take, Option, Some, None, Ok, ◌⊎◌, ⊎_elim, Contains, ◌^◌, inl, inr, refl, sym, ap, subst, ◌∙◌, append_assoc, ◌-◌, length-append, arith}
use Rattle.std.specs.Prelude.{slice_index_or}
use Rattle.std.proofs.lemmas.List.{append-nil, length-take, take_all}
use Rattle.std.proofs.lemmas.Bool.{cases_lt}
use Rattle.vhost_message.specs.declared.error.Error.TheVariants.{OutOfMemory, InvalidParam}
use Rattle.vhost_message.specs.declared.limits.TheConstants.{MAX_ATTACHED_FD_ENTRIES, MAX_MSG_TEXT, MSG_HEADER_SIZE}
use Rattle.vhost_protocol.specs.Stream.{Cell, bytes, carrying, plain}
use Rattle.vhost_link.proofs.Cells.{bytes-append, bytes-carrying, length-bytes}
use Rattle.vhost_link.specs.declared.plain.PlainHandle.{PlainHandle}
use Rattle.vhost_c_common.specs.Incoming.{Adds}
use Rattle.vhost_c_common.specs.Memory.{WantsMemory}
use Rattle.vhost_c_common.specs.Moving.{HandsOut, TakesIn}
use Rattle.vhost_c_common.specs.Records.{fd_in, handle_in}
use Rattle.vhost_c_common.specs.View.{View, Hands, HandsNone, Receives, TakesNone}
use Rattle.vhost_c_common.specs.declared.incoming.Incoming.{Incoming}
use Rattle.vhost_c_common.specs.declared.refusal.Refusal.{Refusal}
use Rattle.vhost_c_common.specs.declared.refusal.Refusal.TheVariants.{Protocol, NoRoom, TooManyBytes}
use Rattle.vhost_c_channel_joined.specs.Wire.{CarryDescriptors, HasCome, HaveDescriptors, IsTold, IsOnWay, Moves, IsOver, Steps}

abbrev Cells : Type 0
Cells = List (Cell PlainHandle)

-- ---- lists

take-again : (n : ℕ) (xs ys : List ℕ) → take n (take n xs ++ ys) ≡ take n (xs ++ ys)
take-again zero xs ys = refl
take-again (suc n) [] ys = refl
take-again (suc n) (x ∷ xs) ys = ap (λ zs. x ∷ zs) (take-again n xs ys)

some-of : (n : ℕ) (xs : List ℕ) → 0 < n → 0 < length xs → 0 < length (take n xs)
some-of zero xs some many = absurd (omega arith)
some-of (suc n) [] some many = absurd (omega arith)
some-of (suc n) (x ∷ xs) some many = omega arith

none-of : {A : Type 0} (xs : List A) → length xs ≡ 0 → xs ≡ []
none-of [] is = refl
none-of (x ∷ xs) is = absurd (omega arith)

pub take-capped : {A : Type 0} (k n : ℕ) (xs : List A) → k ≡ min n (length xs) → take k xs ≡ take n xs
take-capped k n xs is =
    ⊎_elim (λ (few : n < length xs). ap (λ j. take j xs) (let same : k ≡ n = omega (arith, is, few) in same))
    (λ (all : length xs ≤ n). take_all k xs (let enough : length xs ≤ k = omega (arith, is, all) in enough) ∙ sym (take_all n xs all)) (cases_lt n (length xs))

pub take-few : {A : Type 0} (k m : ℕ) (xs : List A) → length xs ≤ m → length (take k xs) ≤ m
take-few k m xs few = let some : length (take k xs) ≡ min k (length xs) = length-take k xs in omega (arith, some, few)

-- ---- descriptors

some-injective : {A : Type 0} (xs ys : List A) → map Some xs ≡ map Some ys → xs ≡ ys
some-injective [] [] is = refl
some-injective [] (y ∷ ys) is = absurd (cc is)
some-injective (x ∷ xs) [] is = absurd (cc is)
some-injective (x ∷ xs) (y ∷ ys) is =
    let first : x ≡ y = cc is in let rest : map Some xs ≡ map Some ys = cc is in
    ap (λ z. z ∷ xs) first ∙ ap (λ zs. y ∷ zs) (some-injective xs ys rest)

-- the handles of descriptors that were handed out are those that they are of
same-handles : (given taken : List PlainHandle) (fds : List ℤ) → HaveDescriptors given → fds ≡ map fd_in given → map handle_in fds ≡ map Some taken → taken ≡ given
same-handles given taken fds have are got = some-injective taken given (sym got ∙ ap (λ xs. map handle_in xs) are ∙ have)

none-at : (hs : List PlainHandle) (k : ℕ) → k < length (map {B = Option PlainHandle} Some hs) → slice_index_or (map {B = Option PlainHandle} Some hs) k None ≡ None → ⊥
none-at [] k within is = omega (arith, within)
none-at (h ∷ hs) zero within is = cc is
none-at (h ∷ hs) (suc k) within is = none-at hs k (omega (arith, within)) is

none-negative : (hs : List PlainHandle) → Contains (map Some hs) None → ⊥
none-negative hs among = none-at hs among.0 among.1 among.2

behind : (xs ys : Cells) → CarryDescriptors (xs ++ ys) → CarryDescriptors ys
behind [] ys all = all
behind (x ∷ xs) ys all = behind xs ys all.1

first-have : (hs : List PlainHandle) (bs : List ℕ) (rest : Cells) → 0 < length bs → CarryDescriptors (carrying hs bs ++ rest) → HaveDescriptors hs
first-have hs [] rest some all = absurd (omega arith)
first-have hs (b ∷ bs) rest some all = all.0

pub plain-have : (bs : List ℕ) → CarryDescriptors (plain bs)
plain-have [] = tt
plain-have (b ∷ bs) = (refl, plain-have bs)

pub carrying-have : (hs : List PlainHandle) (bs : List ℕ) → HaveDescriptors hs → CarryDescriptors (carrying hs bs)
carrying-have hs [] have = tt
carrying-have hs (b ∷ bs) have = (have, plain-have bs)

-- ---- a piece

has-come : (came piece : List ℕ) (i i' : Incoming) → HasCome came i → Adds piece i i' → length (came ++ piece) ≤ MAX_MSG_TEXT → HasCome (came ++ piece) i'
has-come came piece i i' h a few =
    let long : length (came ++ piece) ≡ length came + length piece = length-append came piece in
    let at : i.count ≡ length came = h.count in
    record {
      count = a.count ∙ ap (λ n. min (n + length piece) (2 ^ 64 - 1)) at ∙ capped (length came + length piece) (length (came ++ piece)) long few;
      head = ap (λ n. take n i'.head) (long ∙ ap (λ n. n + length piece) (sym at)) ∙ a.head ∙ ap (λ n. take MSG_HEADER_SIZE (take n i.head ++ piece)) at ∙ ap (λ xs. take MSG_HEADER_SIZE (xs ++ piece)) h.head ∙ take-again MSG_HEADER_SIZE came piece;
    }
  where
    capped : (n m : ℕ) → m ≡ n → m ≤ MAX_MSG_TEXT → min n (2 ^ 64 - 1) ≡ m
    capped n m is few = omega arith

module _ {R S : Type 0} (cells : Cells) (f f' : View R) (t : View S) (on : IsOnWay cells f t) (bs : List ℕ) (fds : List ℤ) (n : ℕ × ℕ) (some : 0 < length bs) (out : HandsOut f.queue f'.queue bs fds n) where
  -- nothing was to be sent, so there is no message
  pub silent : (missing : Incoming → ℕ) → (cells ≡ []) ⊎ IsTold cells missing → length bs ≤ missing t.incoming → n.0 ≡ 0 → (cells ≡ []) × (i : Incoming) × (i.count ≡ 0) × (0 < missing i)
  silent missing (inl none) few at = (none, t.incoming, on.has.count ∙ length-bytes t.came ∙ nothing (on.whole ∙ none), long)
    where
      nothing : t.came ++ f.queue ≡ [] → length t.came ≡ 0
      nothing is = let both : length t.came + length f.queue ≡ 0 = sym (length-append t.came f.queue) ∙ ap (λ (xs : Cells). length xs) is in omega (arith, both)

      long : 0 < missing t.incoming
      long = omega (arith, some, few)
  silent missing (inr told) few at =
      let there : missing t.incoming ≤ length f.queue = (told t.came f.queue t.incoming on.whole on.has).0 in
      let nothing : length f.queue ≡ 0 = ap (λ (xs : Cells). length xs) (out.end at) in
      absurd (omega (arith, some, few, there, nothing))

  more : 0 < n.0 → 0 < length (take n.0 bs)
  more moved = some-of n.0 bs moved some

  have : 0 < n.0 → HaveDescriptors out.handles
  have moved =
      first-have out.handles (take n.0 bs) f'.queue (more moved)
      (behind t.came (carrying out.handles (take n.0 bs) ++ f'.queue) (subst (λ xs. CarryDescriptors xs) (sym on.whole ∙ ap (λ xs. t.came ++ xs) out.piece) on.descriptors))

  pub stepped : (missing : Incoming → ℕ) (t' : View S) (piece : List ℕ) (taken : List ℤ) (most : ℕ) → 0 < n.0 → Hands f f' → piece ≡ take n.0 bs → taken ≡ take n.1 fds → Receives most piece taken t (Ok tt) t' → Steps missing cells f t (Ok tt) f' t'
  stepped missing t' piece taken most moved hands same_bytes same_fds got =
      let x : TakesIn piece taken t.came t'.came = got.1 in
      let handles : x.handles ≡ out.handles = same-handles out.handles x.handles taken (have moved) (same_fds ∙ out.fds_at) x.of_fds in
      let came : t'.came ≡ t.came ++ carrying out.handles (take n.0 bs) = x.got ∙ (λ i. t.came ++ carrying (handles i) (same_bytes i)) in
      let whole : t'.came ++ f'.queue ≡ cells = ap (λ xs. xs ++ f'.queue) came ∙ append_assoc t.came (carrying out.handles (take n.0 bs)) f'.queue ∙ ap (λ xs. t.came ++ xs) (sym out.piece) ∙ on.whole in
      let text : bytes t'.came ≡ bytes t.came ++ piece = ap (λ xs. bytes xs) x.got ∙ bytes-append t.came (carrying x.handles piece) ∙ ap (λ xs. bytes t.came ++ xs) (bytes-carrying x.handles piece) in
      let both : length (t'.came ++ f'.queue) ≡ length t'.came + length f'.queue = length-append t'.came f'.queue in
      let all : length (t'.came ++ f'.queue) ≡ length cells = ap (λ (xs : Cells). length xs) whole in
      let short : length (bytes t.came ++ piece) ≤ MAX_MSG_TEXT = within (length (t'.came ++ f'.queue)) (length t'.came) (length f'.queue) (length cells) (length (bytes t.came ++ piece)) both all on.few (ap (λ (xs : List ℕ). length xs) (sym text) ∙ length-bytes t'.came) in
      let h : HasCome (bytes t.came ++ piece) t'.incoming = has-come (bytes t.came) piece t.incoming t'.incoming on.has got.2 short in
      let as-many : length piece ≡ length (take n.0 bs) = ap (λ (xs : List ℕ). length xs) same_bytes in (
        record { whole = whole; few = on.few; descriptors = on.descriptors; has = subst (λ xs. HasCome xs t'.incoming) (sym text) h },
        grows (t.incoming.count) (t'.incoming.count) (length (bytes t.came)) (length piece) (length (bytes t.came ++ piece)) on.has.count h.count (length-append (bytes t.came) piece) (subst (λ k. 0 < k) (sym as-many) (more moved)),
        record { hands = hands; waits = got.3 },
      )
    where
      within : (both a b all l : ℕ) → both ≡ a + b → both ≡ all → all ≤ MAX_MSG_TEXT → l ≡ a → l ≤ MAX_MSG_TEXT
      within both a b all l is same few as-long = omega arith

      grows : (a b c p l : ℕ) → a ≡ c → b ≡ l → l ≡ c + p → 0 < p → a + 1 ≤ b
      grows a b c p l is is' long more = omega arith

  -- it is taken unless memory is refused
  pub wants : (piece : List ℕ) (taken : List ℤ) (most : ℕ) (r : Refusal) → 0 < n.0 → piece ≡ take n.0 bs → taken ≡ take n.1 fds → length piece ≤ most → length taken ≤ MAX_ATTACHED_FD_ENTRIES → TakesNone most piece taken r → WantsMemory r
  wants piece taken most TooManyBytes moved same_bytes same_fds few few_fds why = absurd (omega (arith, few, why))
  wants piece taken most (Protocol OutOfMemory) moved same_bytes same_fds few few_fds why = tt
  wants piece taken most (Protocol InvalidParam) moved same_bytes same_fds few few_fds (inl why) =
      let none : length piece ≡ 0 = why.0 in let as-many : length piece ≡ length (take n.0 bs) = ap (λ (xs : List ℕ). length xs) same_bytes in
      absurd (lacks (length piece) (length (take n.0 bs)) none as-many (more moved))
    where
      lacks : (a b : ℕ) → a ≡ 0 → a ≡ b → 0 < b → ⊥
      lacks a b none same some = omega arith
  wants piece taken most (Protocol InvalidParam) moved same_bytes same_fds few few_fds (inr (inl many)) = absurd (omega (arith, many, few_fds))
  wants piece taken most (Protocol InvalidParam) moved same_bytes same_fds few few_fds (inr (inr among)) =
      absurd (none-negative out.handles (subst (λ xs. Contains xs None) (ap (λ xs. map handle_in xs) (same_fds ∙ out.fds_at) ∙ have moved) among))
  wants piece taken most (Protocol _) moved same_bytes same_fds few few_fds why = absurd why
  wants piece taken most _ moved same_bytes same_fds few few_fds why = absurd why

-- there is room for a piece
pub roomy : (bs : List ℕ) (fds : List ℤ) (r : Refusal) → 0 < length bs → MAX_ATTACHED_FD_ENTRIES ≤ length fds → HandsNone bs fds r → ⊥
roomy bs fds NoRoom some many (inl none) = omega (arith, some, none)
roomy bs fds NoRoom some many (inr few) = omega (arith, many, few)
roomy bs fds _ some many why = why

-- ---- pieces

module _ {R S : Type 0} where
  pub unmoved : (f : View R) (t : View S) → Moves f t f t
  unmoved f t = record { hands = record { came = refl; incoming = refl; end = refl; rest = refl }; waits = record { queue = refl; end = refl; rest = refl } }

  pub moved-on : (f f' f'' : View R) (t t' t'' : View S) → Moves f t f' t' → Moves f' t' f'' t'' → Moves f t f'' t''
  moved-on f f' f'' t t' t'' a b = record {
    hands = record { came = b.hands.came ∙ a.hands.came; incoming = b.hands.incoming ∙ a.hands.incoming; end = b.hands.end ∙ a.hands.end; rest = b.hands.rest ∙ a.hands.rest };
    waits = record { queue = b.waits.queue ∙ a.waits.queue; end = b.waits.end ∙ a.waits.end; rest = b.waits.rest ∙ a.waits.rest };
  }

  -- so much of it came over
  pub record Came (cells : Cells) (f : View R) (t : View S) (n : ℕ) (f' : View R) (t' : View S) : Type 0 where
    pub on : IsOnWay cells f' t'
    pub far : n ≤ t'.incoming.count
    pub moves : Moves f t f' t'

  pub come-on : (missing : Incoming → ℕ) (cells : Cells) (f f' f'' : View R) (t t' t'' : View S) (n m : ℕ) → m ≡ n + 1 → Came cells f t n f' t' → Steps missing cells f' t' (Ok tt) f'' t'' → Came cells f t m f'' t''
  come-on missing cells f f' f'' t t' t'' n m is c s = record { on = s.0; far = further n m (t'.incoming.count) (t''.incoming.count) is c.far s.1; moves = moved-on f f' f'' t t' t'' c.moves s.2 }
    where
      further : (n m a b : ℕ) → m ≡ n + 1 → n ≤ a → a + 1 ≤ b → m ≤ b
      further n m a b is far more = omega arith

  over : (missing : Incoming → ℕ) (cells : Cells) (f f' : View R) (t t' : View S) (on : IsOnWay cells f' t') → f'.queue ≡ [] → missing t'.incoming ≡ 0 → Moves f t f' t' → IsOver missing cells f t f' t'
  over missing cells f f' t t' on none is-zero moves =
      let all : t'.came ≡ cells = sym (append-nil t'.came) ∙ ap (λ xs. t'.came ++ xs) (sym none) ∙ on.whole in
      record { queue = none; came = all; has = subst (λ xs. HasCome (bytes xs) t'.incoming) all on.has; whole = is-zero; moves = moves }

  -- where nothing is missing it came over
  pub told-over : (missing : Incoming → ℕ) (cells : Cells) (f f' : View R) (t t' : View S) (n : ℕ) → (cells ≡ []) ⊎ IsTold cells missing → Came cells f t n f' t' → missing t'.incoming ≡ 0 → IsOver missing cells f t f' t'
  told-over missing cells f f' t t' n (inl none) c is-zero = over missing cells f f' t t' c.on (later t'.came f'.queue (c.on.whole ∙ none)) is-zero c.moves
    where
      later : (xs ys : Cells) → xs ++ ys ≡ [] → ys ≡ []
      later [] ys is = is
      later (x ∷ xs) ys is = absurd cc
  told-over missing cells f f' t t' n (inr told) c is-zero = over missing cells f f' t t' c.on ((told t'.came f'.queue t'.incoming c.on.whole c.on.has).1 is-zero) is-zero c.moves

  -- after as many pieces as a message may have bytes it did, too
  pub all-over : (missing : Incoming → ℕ) (cells : Cells) (f f' : View R) (t t' : View S) (n : ℕ) → MAX_MSG_TEXT ≤ n → (cells ≡ []) ⊎ IsTold cells missing → Came cells f t n f' t' → IsOver missing cells f t f' t'
  all-over missing cells f f' t t' n many told c =
      let on : IsOnWay cells f' t' = c.on in
      let long : length (t'.came ++ f'.queue) ≡ length t'.came + length f'.queue = length-append t'.came f'.queue in
      let all : length (t'.came ++ f'.queue) ≡ length cells = ap (λ (xs : Cells). length xs) on.whole in
      let count : t'.incoming.count ≡ length t'.came = on.has.count ∙ length-bytes t'.came in
      let none : f'.queue ≡ [] = none-of f'.queue (spent n (t'.incoming.count) (length t'.came) (length f'.queue) (length (t'.came ++ f'.queue)) (length cells) many c.far count long all on.few) in
      over missing cells f f' t t' on none (at-end on none count told) c.moves
    where
      spent : (n a c l both all : ℕ) → MAX_MSG_TEXT ≤ n → n ≤ a → a ≡ c → both ≡ c + l → both ≡ all → all ≤ MAX_MSG_TEXT → l ≡ 0
      spent n a c l both all many far is long same few = omega arith

      none-more : (k l : ℕ) → l ≡ 0 → k ≤ l → k ≡ 0
      none-more k l is few = omega arith

      nothing : t'.came ++ f'.queue ≡ [] → length t'.came ≡ 0
      nothing is = sum (length t'.came) (length f'.queue) (sym (length-append t'.came f'.queue) ∙ ap (λ (xs : Cells). length xs) is)
        where
          sum : (a b : ℕ) → a + b ≡ 0 → a ≡ 0
          sum a b is = omega arith

      at-end : (on : IsOnWay cells f' t') → f'.queue ≡ [] → t'.incoming.count ≡ length t'.came → (cells ≡ []) ⊎ IsTold cells missing → missing t'.incoming ≡ 0
      at-end on none count (inr told) = none-more (missing t'.incoming) (length f'.queue) (ap (λ (xs : Cells). length xs) none) (told t'.came f'.queue t'.incoming on.whole on.has).0
      at-end on none count (inl empty) = absurd (far-off n (t'.incoming.count) (length t'.came) many c.far count (nothing (on.whole ∙ empty)))
        where
          far-off : (n a c : ℕ) → MAX_MSG_TEXT ≤ n → n ≤ a → a ≡ c → c ≡ 0 → ⊥
          far-off n a c many far is none = omega arith
