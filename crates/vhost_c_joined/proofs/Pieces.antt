-- A piece of a message goes from one session to another.
use Rattle.std.proofs.Common.{◌≡◌, ◌<◌, ◌≤◌, ◌+◌, true, ℕ, ℤ, zero, suc, min, List, [], ◌∷◌, ◌++◌, length, map, take, All, Option, Some, None, Ok, ◌⊎◌, ⊎_elim, Contains, ◌^◌, ◌-◌, inl, inr, refl, sym, ap, subst, ◌∙◌, append_assoc, length-append, arith}
use Rattle.std.specs.Prelude.{⊤, is_some}
use Rattle.std.proofs.lemmas.List.{append-nil, length-take, take_all}
use Rattle.std.proofs.lemmas.List.Elements.{All-nil, All-cons, All-head, All-tail, All-contains}
use Rattle.std.proofs.lemmas.Bool.{cases_lt}
use Rattle.vhost_message.specs.declared.error.Error.TheVariants.{OutOfMemory, InvalidParam}
use Rattle.vhost_message.specs.declared.limits.TheConstants.{MAX_ATTACHED_FD_ENTRIES, MAX_MSG_TEXT, MSG_HEADER_SIZE}
use Rattle.vhost_protocol.specs.Stream.{Cell, bytes, carrying, plain}
use Rattle.vhost_protocol.proofs.TextLaws.{bytes-plain}
use Rattle.vhost_link.specs.declared.plain.PlainHandle.{PlainHandle}
use Rattle.vhost_c_common.specs.Incoming.{Adds}
use Rattle.vhost_c_common.specs.Moving.{HandsOut, TakesIn}
use Rattle.vhost_c_common.specs.Records.{fd_in, handle_in}
use Rattle.vhost_c_common.specs.View.{View, Hands, HandsNone, Receives, TakesNone}
use Rattle.vhost_c_common.specs.declared.incoming.Incoming.{Incoming}
use Rattle.vhost_c_common.specs.declared.refusal.Refusal.{Refusal}
use Rattle.vhost_c_common.specs.declared.refusal.Refusal.TheVariants.{Protocol, NoRoom, TooManyBytes}
use Rattle.vhost_c_joined.specs.Wire.{HasCome, IsFd, IsTold, IsOnWay, Moves, IsOver, Steps}

abbrev Cells : Type 0
Cells = List (Cell PlainHandle)

abbrev Handles : Type 0
Handles = List PlainHandle

-- ---- bytes of cells

bytes-append : (xs ys : Cells) → bytes (xs ++ ys) ≡ bytes xs ++ bytes ys
bytes-append [] ys = refl
bytes-append (c ∷ xs) ys = ap (λ bs. c.byte ∷ bs) (bytes-append xs ys)

pub bytes-carried : (hs : Handles) (text : List ℕ) → bytes (carrying hs text) ≡ text
bytes-carried hs [] = refl
bytes-carried hs (b ∷ text) = ap (λ bs. b ∷ bs) (bytes-plain PlainHandle text)

no-bytes : (xs : Cells) → bytes xs ≡ [] → xs ≡ []
no-bytes [] is = refl
no-bytes (c ∷ xs) is = absurd (cc is)

-- ---- descriptors of cells

-- the handles of each are descriptors
abbrev AllFds : Cells → Type 0
AllFds [] = ⊤
AllFds (c ∷ cells) = All IsFd c.handles × AllFds cells

plain-fds : (text : List ℕ) → AllFds (plain text)
plain-fds [] = tt
plain-fds (b ∷ text) = (All-nil IsFd, plain-fds text)

carried-fds : (hs : Handles) (text : List ℕ) → All IsFd hs → AllFds (carrying hs text)
carried-fds hs [] fds = tt
carried-fds hs (b ∷ text) fds = (fds, plain-fds text)

later-fds : (xs ys : Cells) → AllFds (xs ++ ys) → AllFds ys
later-fds [] ys fds = fds
later-fds (c ∷ xs) ys fds = later-fds xs ys fds.1

first-fds : (hs : Handles) (bs : List ℕ) (rest : Cells) → 0 < length bs → AllFds (carrying hs bs ++ rest) → All IsFd hs
first-fds hs [] rest some fds = absurd (omega (arith, some))
first-fds hs (b ∷ bs) rest some fds = fds.0

-- their numbers name them again
pub named-again : (hs : Handles) → All IsFd hs → map handle_in (map fd_in hs) ≡ map Some hs
named-again [] fds = refl
named-again (h ∷ hs) fds = ap (λ x. x ∷ map handle_in (map fd_in hs)) (All-head IsFd h hs fds) ∙ ap (λ xs. Some h ∷ xs) (named-again hs (All-tail IsFd h hs fds))

pub same-handles : (hs ks : Handles) → map Some hs ≡ map Some ks → hs ≡ ks
same-handles [] [] is = refl
same-handles [] (k ∷ ks) is = absurd (cc is)
same-handles (h ∷ hs) [] is = absurd (cc is)
same-handles (h ∷ hs) (k ∷ ks) is = ap (λ x. x ∷ hs) one ∙ ap (λ xs. k ∷ xs) (same-handles hs ks (ap rest is))
  where
    rest : List (Option PlainHandle) → List (Option PlainHandle)
    rest [] = []
    rest (x ∷ xs) = xs

    first : List (Option PlainHandle) → Option PlainHandle
    first [] = None
    first (x ∷ xs) = x

    one : h ≡ k
    one = let some : Some h ≡ Some k = ap first is in cc some

-- there is one
abbrev pub There : Option PlainHandle → Type 0
There x = is_some x ≡ true

pub all-there : (hs : Handles) → All There (map Some hs)
all-there [] = All-nil There
all-there (h ∷ hs) = All-cons There (Some h) (map Some hs) refl (all-there hs)

-- ---- lists

take-again : (n : ℕ) (xs ys : List ℕ) → take n (take n xs ++ ys) ≡ take n (xs ++ ys)
take-again zero xs ys = refl
take-again (suc n) [] ys = refl
take-again (suc n) (x ∷ xs) ys = ap (λ zs. x ∷ zs) (take-again n xs ys)

some-of : (n : ℕ) (xs : List ℕ) → 0 < n → 0 < length xs → 0 < length (take n xs)
some-of zero xs some many = absurd (omega arith)
some-of (suc n) [] some many = absurd (omega arith)
some-of (suc n) (x ∷ xs) some many = omega arith

pub take-capped : {A : Type 0} (k n : ℕ) (xs : List A) → k ≡ min n (length xs) → take k xs ≡ take n xs
take-capped k n xs is =
    ⊎_elim (λ (few : n < length xs). ap (λ j. take j xs) (let same : k ≡ n = omega (arith, is, few) in same))
    (λ (all : length xs ≤ n). take_all k xs (let enough : length xs ≤ k = omega (arith, is, all) in enough) ∙ sym (take_all n xs all)) (cases_lt n (length xs))

pub take-within : {A : Type 0} (k n m : ℕ) (xs : List A) → k ≡ min n m → length xs ≡ m → take k xs ≡ take n xs
take-within k n m xs is long = take-capped k n xs (is ∙ ap (min n) (sym long))

pub take-few : {A : Type 0} (k m : ℕ) (xs : List A) → length xs ≤ m → length (take k xs) ≤ m
take-few k m xs few = let some : length (take k xs) ≡ min k (length xs) = length-take k xs in omega (arith, some, few)

-- ---- a piece

pub has-come : (came piece : List ℕ) (i i' : Incoming) → HasCome came i → Adds piece i i' → length (came ++ piece) ≤ MAX_MSG_TEXT → HasCome (came ++ piece) i'
has-come came piece i i' h a few =
    let long : length (came ++ piece) ≡ length came + length piece = length-append came piece in
    let at : i.count ≡ length came = h.count in
    record {
      count = a.count ∙ ap (λ n. min (n + length piece) (2 ^ 64 - 1)) at ∙ capped (length came + length piece) (length (came ++ piece)) long few;
      head = ap (λ n. take n i'.head) (long ∙ ap (λ n. n + length piece) (sym at)) ∙ a.head ∙ ap (λ n. take MSG_HEADER_SIZE (take n i.head ++ piece)) at ∙ ap (λ xs. take MSG_HEADER_SIZE (xs ++ piece)) h.head ∙ take-again MSG_HEADER_SIZE came piece;
    }
  where
    capped : (n m : ℕ) → m ≡ n → m ≤ MAX_MSG_TEXT → min n (2 ^ 64 - 1) ≡ m
    capped n m is few = omega arith

module _ {R S : Type 0} (hs : List PlainHandle) (text : List ℕ) (f f' : View R) (t : View S) (on : IsOnWay hs text f t) (room : List ℕ) (fds : List ℤ) (n : ℕ × ℕ)
    (some : 0 < length room) (out : HandsOut f.queue f'.queue room fds n) where
  -- nothing was to be sent, so there is no text
  pub silent : (missing : Incoming → ℕ) → (text ≡ []) ⊎ IsTold text missing → length room ≤ missing t.incoming → n.0 ≡ 0 → (text ≡ []) × (i : Incoming) × (i.count ≡ 0) × (0 < missing i)
  silent missing told few at = by told
    where
      all-came : t.came ≡ carrying hs text
      all-came = sym (append-nil t.came) ∙ ap (λ cells. t.came ++ cells) (sym (out.end at)) ∙ on.whole

      read : bytes t.came ≡ text
      read = ap bytes all-came ∙ bytes-carried hs text

      long : 0 < missing t.incoming
      long = omega (arith, some, few)

      by : (text ≡ []) ⊎ IsTold text missing → (text ≡ []) × (i : Incoming) × (i.count ≡ 0) × (0 < missing i)
      by (inl none) = (none, t.incoming, on.has.count ∙ ap (λ (xs : List ℕ). length xs) (read ∙ none), long)
      by (inr told) =
          let there : missing t.incoming ≤ 0 = (told (bytes t.came) [] t.incoming (append-nil (bytes t.came) ∙ read) on.has).0 in
          absurd (omega (arith, long, there))

  more : 0 < n.0 → 0 < length (take n.0 room)
  more moved = some-of n.0 room moved some

  -- the descriptors of a piece are some
  piece-fds : 0 < n.0 → All IsFd out.handles
  piece-fds moved = first-fds out.handles (take n.0 room) f'.queue (more moved) (subst AllFds out.piece (later-fds t.came f.queue (subst AllFds (sym on.whole) (carried-fds hs text on.fds))))

  pub named : (gone : List ℤ) → 0 < n.0 → gone ≡ take n.1 fds → map handle_in gone ≡ map Some out.handles
  named gone moved same = ap (map handle_in) (same ∙ out.fds_at) ∙ named-again out.handles (piece-fds moved)

  pub stepped : (missing : Incoming → ℕ) (t' : View S) (piece : List ℕ) (gone : List ℤ) (most : ℕ) → 0 < n.0 → Hands f f' → piece ≡ take n.0 room → gone ≡ take n.1 fds → Receives most piece gone t (Ok tt) t' → Steps missing hs text f t (Ok tt) f' t'
  stepped missing t' piece gone most moved hands same same-fds got =
      let x : TakesIn piece gone t.came t'.came = got.1 in
      let handles : x.handles ≡ out.handles = same-handles x.handles out.handles (sym x.of_fds ∙ named gone moved same-fds) in
      let came : t'.came ≡ t.came ++ carrying out.handles (take n.0 room) = x.got ∙ ap (λ ks. t.came ++ carrying ks piece) handles ∙ ap (λ bs. t.came ++ carrying out.handles bs) same in
      let whole : t'.came ++ f'.queue ≡ carrying hs text = ap (λ cells. cells ++ f'.queue) came ∙ append_assoc t.came (carrying out.handles (take n.0 room)) f'.queue ∙ ap (λ cells. t.came ++ cells) (sym out.piece) ∙ on.whole in
      let read : bytes t'.came ≡ bytes t.came ++ piece = ap bytes x.got ∙ bytes-append t.came (carrying x.handles piece) ∙ ap (λ bs. bytes t.came ++ bs) (bytes-carried x.handles piece) in
      let all : bytes t'.came ++ bytes f'.queue ≡ text = sym (bytes-append t'.came f'.queue) ∙ ap bytes whole ∙ bytes-carried hs text in
      let long : length (bytes t'.came ++ bytes f'.queue) ≡ length (bytes t'.came) + length (bytes f'.queue) = length-append (bytes t'.came) (bytes f'.queue) in
      let few : length (bytes t.came ++ piece) ≤ MAX_MSG_TEXT =
      within (length (bytes t'.came ++ bytes f'.queue)) (length (bytes t'.came)) (length (bytes f'.queue)) (length text) (length (bytes t.came ++ piece)) long (ap (λ (xs : List ℕ). length xs) all) on.few (ap (λ (xs : List ℕ). length xs) read) in
      let has : HasCome (bytes t.came ++ piece) t'.incoming = has-come (bytes t.came) piece t.incoming t'.incoming on.has got.2 few in
      let as-many : length piece ≡ length (take n.0 room) = ap (λ (xs : List ℕ). length xs) same in (
        record { whole = whole; few = on.few; fds = on.fds; has = subst (λ bs. HasCome bs t'.incoming) (sym read) has },
        grows (t.incoming.count) (t'.incoming.count) (length (bytes t.came)) (length piece) (length (bytes t.came ++ piece)) on.has.count has.count (length-append (bytes t.came) piece) (subst (λ k. 0 < k) (sym as-many) (more moved)),
        record { hands = hands; waits = got.3 },
      )
    where
      within : (both a b all c : ℕ) → both ≡ a + b → both ≡ all → all ≤ MAX_MSG_TEXT → a ≡ c → c ≤ MAX_MSG_TEXT
      within both a b all c is same few at = omega arith

      grows : (a b c p l : ℕ) → a ≡ c → b ≡ l → l ≡ c + p → 0 < p → a + 1 ≤ b
      grows a b c p l is is' long more = omega arith

  -- a piece that is no longer than what is missing is taken unless memory is refused
  pub wants : (most : ℕ) (piece : List ℕ) (gone : List ℤ) (r : Refusal) → 0 < n.0 → piece ≡ take n.0 room → gone ≡ take n.1 fds → length piece ≤ most → length gone ≤ MAX_ATTACHED_FD_ENTRIES → TakesNone most piece gone r → r ≡ Protocol OutOfMemory
  wants most piece gone TooManyBytes moved same same-fds few few-fds why = absurd (omega (arith, few, why))
  wants most piece gone (Protocol OutOfMemory) moved same same-fds few few-fds why = refl
  wants most piece gone (Protocol InvalidParam) moved same same-fds few few-fds (inl why) =
      let as-many : length piece ≡ length (take n.0 room) = ap (λ (xs : List ℕ). length xs) same in
      let m : 0 < length (take n.0 room) = more moved in
      let none : length piece ≡ 0 = why.0 in absurd (omega (arith, none, as-many, m))
  wants most piece gone (Protocol InvalidParam) moved same same-fds few few-fds (inr (inl many)) = absurd (omega (arith, few-fds, many))
  wants most piece gone (Protocol InvalidParam) moved same same-fds few few-fds (inr (inr among)) =
      let none : There None = All-contains There (map Some out.handles) None (all-there out.handles) (subst (λ xs. Contains xs None) (named gone moved same-fds) among) in absurd (cc none)
  wants most piece gone (Protocol _) moved same same-fds few few-fds why = absurd why
  wants most piece gone _ moved same same-fds few few-fds why = absurd why

-- there is room for a piece
pub roomy : (bytes : List ℕ) (fds : List ℤ) (r : Refusal) → 0 < length bytes → MAX_ATTACHED_FD_ENTRIES ≤ length fds → HandsNone bytes fds r → ⊥
roomy bytes fds NoRoom some many (inl none) = omega (arith, some, none)
roomy bytes fds NoRoom some many (inr few) = omega (arith, many, few)
roomy bytes fds _ some many why = why

-- ---- pieces

module _ {R S : Type 0} where
  pub unmoved : (f : View R) (t : View S) → Moves f t f t
  unmoved f t = record { hands = record { came = refl; incoming = refl; end = refl; rest = refl }; waits = record { queue = refl; end = refl; rest = refl } }

  pub moved-on : (f f' f'' : View R) (t t' t'' : View S) → Moves f t f' t' → Moves f' t' f'' t'' → Moves f t f'' t''
  moved-on f f' f'' t t' t'' a b = record {
    hands = record { came = b.hands.came ∙ a.hands.came; incoming = b.hands.incoming ∙ a.hands.incoming; end = b.hands.end ∙ a.hands.end; rest = b.hands.rest ∙ a.hands.rest };
    waits = record { queue = b.waits.queue ∙ a.waits.queue; end = b.waits.end ∙ a.waits.end; rest = b.waits.rest ∙ a.waits.rest };
  }

  -- so much of it came over
  pub record Came (hs : List PlainHandle) (text : List ℕ) (f : View R) (t : View S) (n : ℕ) (f' : View R) (t' : View S) : Type 0 where
    pub on : IsOnWay hs text f' t'
    pub far : n ≤ t'.incoming.count
    pub moves : Moves f t f' t'

  pub come-on : (missing : Incoming → ℕ) (hs : List PlainHandle) (text : List ℕ) (f f' f'' : View R) (t t' t'' : View S) (n m : ℕ) → m ≡ n + 1 → Came hs text f t n f' t' → Steps missing hs text f' t' (Ok tt) f'' t'' → Came hs text f t m f'' t''
  come-on missing hs text f f' f'' t t' t'' n m is c s = record { on = s.0; far = further n m (t'.incoming.count) (t''.incoming.count) is c.far s.1; moves = moved-on f f' f'' t t' t'' c.moves s.2 }
    where
      further : (n m a b : ℕ) → m ≡ n + 1 → n ≤ a → a + 1 ≤ b → m ≤ b
      further n m a b is far more = omega arith

  over : (missing : Incoming → ℕ) (hs : List PlainHandle) (text : List ℕ) (f f' : View R) (t t' : View S) (on : IsOnWay hs text f' t') → f'.queue ≡ [] → missing t'.incoming ≡ 0 → Moves f t f' t' → IsOver missing hs text f t f' t'
  over missing hs text f f' t t' on none is-zero moves =
      let all : t'.came ≡ carrying hs text = sym (append-nil t'.came) ∙ ap (λ cells. t'.came ++ cells) (sym none) ∙ on.whole in
      record { queue = none; arrived = all; has = subst (λ bs. HasCome bs t'.incoming) (ap bytes all ∙ bytes-carried hs text) on.has; whole = is-zero; moves = moves }

  -- the bytes of both parts are the text
  halves : (hs : List PlainHandle) (text : List ℕ) (f : View R) (t : View S) → IsOnWay hs text f t → bytes t.came ++ bytes f.queue ≡ text
  halves hs text f t on = sym (bytes-append t.came f.queue) ∙ ap bytes on.whole ∙ bytes-carried hs text

  -- where nothing is missing it came over
  pub told-over : (missing : Incoming → ℕ) (hs : List PlainHandle) (text : List ℕ) (f f' : View R) (t t' : View S) (n : ℕ) → (text ≡ []) ⊎ IsTold text missing → Came hs text f t n f' t' → missing t'.incoming ≡ 0 → IsOver missing hs text f t f' t'
  told-over missing hs text f f' t t' n (inl none) c is-zero = over missing hs text f f' t t' c.on (no-bytes f'.queue (behind (bytes t'.came) (bytes f'.queue) (halves hs text f' t' c.on ∙ none))) is-zero c.moves
    where
      behind : (xs ys : List ℕ) → xs ++ ys ≡ [] → ys ≡ []
      behind [] ys is = is
      behind (x ∷ xs) ys is = absurd (cc is)
  told-over missing hs text f f' t t' n (inr told) c is-zero =
      over missing hs text f f' t t' c.on (no-bytes f'.queue ((told (bytes t'.came) (bytes f'.queue) t'.incoming (halves hs text f' t' c.on) c.on.has).1 is-zero)) is-zero c.moves

  -- after as many pieces as a message may have bytes it did, too
  pub all-over : (missing : Incoming → ℕ) (hs : List PlainHandle) (text : List ℕ) (f f' : View R) (t t' : View S) (n : ℕ) → MAX_MSG_TEXT ≤ n → (text ≡ []) ⊎ IsTold text missing → Came hs text f t n f' t' → IsOver missing hs text f t f' t'
  all-over missing hs text f f' t t' n many told c =
      let on : IsOnWay hs text f' t' = c.on in
      let long : length (bytes t'.came ++ bytes f'.queue) ≡ length (bytes t'.came) + length (bytes f'.queue) = length-append (bytes t'.came) (bytes f'.queue) in
      let all : length (bytes t'.came ++ bytes f'.queue) ≡ length text = ap (λ (xs : List ℕ). length xs) (halves hs text f' t' on) in
      let none : bytes f'.queue ≡ [] =
      emptied (bytes f'.queue) (spent n (t'.incoming.count) (length (bytes t'.came)) (length (bytes f'.queue)) (length (bytes t'.came ++ bytes f'.queue)) (length text) many c.far on.has.count long all on.few) in
      over missing hs text f f' t t' on (no-bytes f'.queue none) (at-end none told) c.moves
    where
      emptied : (xs : List ℕ) → length xs ≡ 0 → xs ≡ []
      emptied [] is = refl
      emptied (x ∷ xs) is = absurd (omega arith)

      spent : (n a c l both all : ℕ) → MAX_MSG_TEXT ≤ n → n ≤ a → a ≡ c → both ≡ c + l → both ≡ all → all ≤ MAX_MSG_TEXT → l ≡ 0
      spent n a c l both all many far is long same few = omega arith

      none-more : (k l : ℕ) → l ≡ 0 → k ≤ l → k ≡ 0
      none-more k l is few = omega arith

      nothing : text ≡ [] → length (bytes t'.came) ≡ 0
      nothing empty = sum (length (bytes t'.came)) (length (bytes f'.queue)) (sym (length-append (bytes t'.came) (bytes f'.queue)) ∙ ap (λ (xs : List ℕ). length xs) (halves hs text f' t' c.on ∙ empty))
        where
          sum : (a b : ℕ) → a + b ≡ 0 → a ≡ 0
          sum a b is = omega arith

      at-end : bytes f'.queue ≡ [] → (text ≡ []) ⊎ IsTold text missing → missing t'.incoming ≡ 0
      at-end none (inr told) = none-more (missing t'.incoming) (length (bytes f'.queue)) (ap (λ (xs : List ℕ). length xs) none) (told (bytes t'.came) (bytes f'.queue) t'.incoming (halves hs text f' t' c.on) c.on.has).0
      at-end none (inl empty) = absurd (far-off n (t'.incoming.count) (length (bytes t'.came)) many c.far c.on.has.count (nothing empty))
        where
          far-off : (n a c : ℕ) → MAX_MSG_TEXT ≤ n → n ≤ a → a ≡ c → c ≡ 0 → ⊥
          far-off n a c many far is none = omega arith
