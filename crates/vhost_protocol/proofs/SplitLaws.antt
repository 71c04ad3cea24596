-- How much of a stream its first message takes, and that what follows makes no difference.
use Rattle.std.proofs.Common.{◌≡◌, ℕ, zero, suc, ◌+◌, ◌<◌, ◌≤◌, ◌⊎◌, inl, inr, Bool, true, false, cond, List, [], ◌∷◌, ◌++◌, length, take, drop, Option, Some, None, Result, Ok, Err, refl, sym, ◌∙◌, ap, subst, arith}
use Rattle.std.proofs.lemmas.List.{take-append-drop, take_at, drop_at, drop_all, length-take-le, append_assoc, length-append, append-nil}
use Rattle.vhost_message.specs.Bits.{has_bit}
use Rattle.vhost_message.specs.Header.{Header, header_of}
use Rattle.vhost_protocol.specs.Stream.{Cell, cell, bytes, brings_handles, is_shorter}
use Rattle.vhost_protocol.specs.Error.{Error, InvalidMessage, Disconnected, PartialMessage}
use Rattle.vhost_protocol.specs.Split.{Message, announced, split, split_after, split_body, body_outcome, Splits}

pub le-shorter : {A : Type 0} (n : ℕ) (xs : List A) → n ≤ length xs → is_shorter n xs ≡ false
le-shorter zero xs h = refl
le-shorter (suc n) [] h = absurd (omega arith)
le-shorter (suc n) (x ∷ xs) h = le-shorter n xs (omega arith)

pub shorter-false : {A : Type 0} (n : ℕ) (xs : List A) → is_shorter n xs ≡ false → n ≤ length xs
shorter-false zero xs e = omega arith
shorter-false (suc n) [] e = absurd (cc e)
shorter-false (suc n) (x ∷ xs) e = let h : n ≤ length xs = shorter-false n xs e in omega arith

-- there are fewer
pub shorter-true : {A : Type 0} (n : ℕ) (xs : List A) → is_shorter n xs ≡ true → length xs < n
shorter-true zero xs e = absurd (cc e)
shorter-true (suc n) [] e = omega arith
shorter-true (suc n) (x ∷ xs) e = let h : length xs < n = shorter-true n xs e in omega arith

pub lt-shorter : {A : Type 0} (n : ℕ) (xs : List A) → length xs < n → is_shorter n xs ≡ true
lt-shorter zero xs h = absurd (omega arith)
lt-shorter (suc n) [] h = refl
lt-shorter (suc n) (x ∷ xs) h = lt-shorter n xs (omega arith)

-- one more than fewer
pub one-more : {A : Type 0} (n : ℕ) (xs : List A) (x : A) → length xs < n → length (xs ++ x ∷ []) ≤ n
one-more n xs x h = omega (arith, length-append xs (x ∷ []))

-- an outcome that needed the end of its stream does not stand without it
pub end-needed : {A H : Type 0} (cut : List (Cell H) → A × List (Cell H)) (cells : List (Cell H)) (o p : A) → Splits cut cells true o → Splits cut cells false p → ⊥
end-needed {H = H} cut cells o p ended going = some (sym (ap (λ x. x.1) (going (next ∷ []))) ∙ ended.1 next)
  where
    next : Cell H
    next = cell 0 []

    some : ◌≡◌ {A = List (Cell H)} (next ∷ []) [] → ⊥
    some e = cc e

module _ {R H : Type 0} (request_of : ℕ → Option R) (allows_handles : R → ℕ → Bool) where
  -- an outcome that is no message
  IsError : Result (Message R H) Error → Type 0
  IsError o = (x : Error) × (Err x ≡ o)

  -- A cut of some cells: the front that it took; either nothing was left and more would have been taken, or what follows the front makes no difference.
  record IsCut (cut : List (Cell H) → Result (Message R H) Error × List (Cell H)) (cells : List (Cell H)) (o : Result (Message R H) Error) (rest : List (Cell H)) : Type 0 where
    front : List (Cell H)
    whole : cells ≡ front ++ rest
    settled : ((rest ≡ []) × Splits cut front true o × IsError o) ⊎ Splits cut front false o

  -- whatever cell comes next is taken, too
  abbrev pub TakesMore : (List (Cell H) → Result (Message R H) Error × List (Cell H)) → List (Cell H) → Type 0
  TakesMore cut cells = (next : Cell H) → (cut (cells ++ next ∷ [])).1 ≡ []

  error-is : (x : Error) (o : Result (Message R H) Error) → Err x ≡ o → IsError o
  unfolding IsError
  error-is x o e = (x, e)

  -- where nothing is left, the front is all of it
  all-cut : (cut : List (Cell H) → Result (Message R H) Error × List (Cell H)) (cells : List (Cell H)) (o : Result (Message R H) Error) (rest : List (Cell H)) → cut cells ≡ (o, rest) → [] ≡ rest → TakesMore cut cells → IsError o → IsCut cut cells o rest
  all-cut cut cells o rest e nothing more error = record {
    front = cells;
    whole = subst (λ r. cells ≡ cells ++ r) nothing (sym (append-nil cells));
    settled = inl (sym nothing, (subst (λ r. cut cells ≡ (o, r)) (sym nothing) e, more), error);
  }

  -- so short a body is read whole
  pub body-rest : (r : R) (h : Header) (hs : List H) (cells : List (Cell H)) → length cells ≤ h.size → (split_body request_of allows_handles r h hs cells).1 ≡ []
  unfolding split_body
  body-rest r h hs cells few = go (is_shorter h.size cells)
    where
      go : (b : Bool) → (cond {A = Result (Message R H) Error × List (Cell H)} b (Err InvalidMessage, []) (body_outcome request_of allows_handles r h hs (take h.size cells), drop h.size cells)).1 ≡ []
      go true = refl
      go false = drop_all h.size cells few

  -- and a stream that ends with its header, too
  pub header-rest : (cells : List (Cell H)) → length cells ≤ 12 → (split request_of allows_handles cells).1 ≡ []
  unfolding split split_after
  header-rest [] few = refl
  header-rest (c ∷ cells) few = go (is_shorter 12 (c ∷ cells))
    where
      nothing : drop 12 (c ∷ cells) ≡ []
      nothing = drop_all 12 (c ∷ cells) few

      h : Header
      h = header_of (bytes (take 12 (c ∷ cells)))

      allowed : (r : R) (b : Bool) → (cond {A = Result (Message R H) Error × List (Cell H)} b (split_body request_of allows_handles r h c.handles (drop 12 (c ∷ cells))) (Err InvalidMessage, drop 12 (c ∷ cells))).1 ≡ []
      allowed r true = body-rest r h c.handles (drop 12 (c ∷ cells)) (omega (arith, ap (λ xs. length xs) nothing))
      allowed r false = nothing

      after : (r : Option R) → (split_after request_of allows_handles h r c.handles (drop 12 (c ∷ cells))).1 ≡ []
      after None = nothing
      after (Some r) = allowed r (allows_handles r (length c.handles))

      go : (b : Bool) → (cond {A = Result (Message R H) Error × List (Cell H)} b (Err PartialMessage, []) (split_after request_of allows_handles h (announced request_of h) c.handles (drop 12 (c ∷ cells)))).1 ≡ []
      go true = refl
      go false = after (announced request_of h)

  pub body-whole : (r : R) (h : Header) (hs : List H) (front more : List (Cell H)) → length front ≡ h.size → split_body request_of allows_handles r h hs (front ++ more) ≡ (body_outcome request_of allows_handles r h hs front, more)
  unfolding split_body
  body-whole r h hs front more len = rw (le-shorter h.size (front ++ more) (omega (arith, length-append front more, len)), take_at front more h.size len, drop_at front more h.size len) refl

  body-cut : (r : R) (h : Header) (hs : List H) (cells : List (Cell H)) (o : Result (Message R H) Error) (rest : List (Cell H)) → split_body request_of allows_handles r h hs cells ≡ (o, rest) → IsCut (split_body request_of allows_handles r h hs) cells o rest
  unfolding split_body
  body-cut r h hs cells o rest e = go (is_shorter h.size cells) refl e
    where
      go : (b : Bool) → is_shorter h.size cells ≡ b → ◌≡◌ {A = Result (Message R H) Error × List (Cell H)} (cond b (Err InvalidMessage, []) (body_outcome request_of allows_handles r h hs (take h.size cells), drop h.size cells)) (o, rest) → IsCut (split_body request_of allows_handles r h hs) cells o rest
      go true short cut = all-cut (split_body request_of allows_handles r h hs) cells o rest e (ap (λ x. x.1) cut) (λ next. body-rest r h hs (cells ++ next ∷ []) (one-more h.size cells next (shorter-true h.size cells short))) (error-is InvalidMessage o (ap (λ x. x.0) cut))
      go false long cut = record {
        front = take h.size cells;
        whole = subst (λ r. cells ≡ take h.size cells ++ r) (ap (λ x. x.1) cut) (sym (take-append-drop h.size cells));
        settled = inr (λ more. subst (λ x. split_body request_of allows_handles r h hs (take h.size cells ++ more) ≡ (x, more)) (ap (λ x. x.0) cut)
            (body-whole r h hs (take h.size cells) more (length-take-le h.size cells (shorter-false h.size cells long))));
      }

  -- where nothing is read, the front is empty
  none-cut : (cut : List (Cell H) → Result (Message R H) Error × List (Cell H)) (cells : List (Cell H)) (o : Result (Message R H) Error) (rest : List (Cell H)) → ((more : List (Cell H)) → cut more ≡ (o, more)) → cells ≡ rest → IsCut cut cells o rest
  none-cut cut cells o rest same e = record { front = []; whole = e; settled = inr same }

  choose-cut : (b : Bool) (f g : List (Cell H) → Result (Message R H) Error × List (Cell H)) (cells : List (Cell H)) (o : Result (Message R H) Error) (rest : List (Cell H))
      → (f cells ≡ (o, rest) → IsCut f cells o rest) → (g cells ≡ (o, rest) → IsCut g cells o rest) → cond b (f cells) (g cells) ≡ (o, rest) → IsCut (λ x. cond b (f x) (g x)) cells o rest
  choose-cut true f g cells o rest of_f of_g e = of_f e
  choose-cut false f g cells o rest of_f of_g e = of_g e

  after-cut : (h : Header) (r : Option R) (hs : List H) (cells : List (Cell H)) (o : Result (Message R H) Error) (rest : List (Cell H)) → split_after request_of allows_handles h r hs cells ≡ (o, rest) → IsCut (split_after request_of allows_handles h r hs) cells o rest
  unfolding split_after
  after-cut h None hs cells o rest e = none-cut (split_after request_of allows_handles h None hs) cells o rest (λ more. ap (λ x. (x, more)) (ap (λ x. x.0) e)) (ap (λ x. x.1) e)
  after-cut h (Some r) hs cells o rest e = choose-cut (allows_handles r (length hs)) (split_body request_of allows_handles r h hs) (λ x. (Err InvalidMessage, x)) cells o rest
      (body-cut r h hs cells o rest)
      (λ cut. none-cut (λ x. (Err InvalidMessage, x)) cells o rest (λ more. ap (λ x. (x, more)) (ap (λ x. x.0) cut)) (ap (λ x. x.1) cut)) e

  -- a stream that begins with a whole header goes on after it
  pub split-on : (c : Cell H) (eleven tail : List (Cell H)) → length eleven ≡ 11 → split request_of allows_handles (c ∷ (eleven ++ tail))
      ≡ split_after request_of allows_handles (header_of (bytes (c ∷ eleven))) (announced request_of (header_of (bytes (c ∷ eleven)))) c.handles tail
  unfolding split
  split-on c eleven tail len = rw (le-shorter 12 (c ∷ (eleven ++ tail)) (omega (arith, length-append eleven tail, len)), take_at eleven tail 11 len, drop_at eleven tail 11 len) refl

  split-head : (c : Cell H) (cells tail : List (Cell H)) → 12 ≤ length (c ∷ cells) → split request_of allows_handles (take 12 (c ∷ cells) ++ tail)
      ≡ split_after request_of allows_handles (header_of (bytes (take 12 (c ∷ cells)))) (announced request_of (header_of (bytes (take 12 (c ∷ cells))))) c.handles tail
  split-head c cells tail long = split-on c (take 11 cells) tail (length-take-le 11 cells (omega arith))

  -- a stream has its first message, or why there is none, from a front of it
  split-cut : (cells : List (Cell H)) (o : Result (Message R H) Error) (rest : List (Cell H)) → split request_of allows_handles cells ≡ (o, rest) → IsCut (split request_of allows_handles) cells o rest
  unfolding split
  split-cut [] o rest e = all-cut (split request_of allows_handles) [] o rest e (ap (λ x. x.1) e) (λ next. refl) (error-is Disconnected o (ap (λ x. x.0) e))
  split-cut (c ∷ cells) o rest e = go (is_shorter 12 (c ∷ cells)) refl e
    where
      after : List (Cell H) → Result (Message R H) Error × List (Cell H)
      after = split_after request_of allows_handles (header_of (bytes (take 12 (c ∷ cells)))) (announced request_of (header_of (bytes (take 12 (c ∷ cells))))) c.handles

      on : 12 ≤ length (c ∷ cells) → (front more : List (Cell H)) → split request_of allows_handles ((take 12 (c ∷ cells) ++ front) ++ more) ≡ after (front ++ more)
      on long front more = ap (λ x. split request_of allows_handles x) (append_assoc (take 12 (c ∷ cells)) front more) ∙ split-head c cells (front ++ more) long

      settle : 12 ≤ length (c ∷ cells) → (front : List (Cell H)) → ((rest ≡ []) × Splits after front true o × IsError o) ⊎ Splits after front false o
          → ((rest ≡ []) × Splits (split request_of allows_handles) (take 12 (c ∷ cells) ++ front) true o × IsError o) ⊎ Splits (split request_of allows_handles) (take 12 (c ∷ cells) ++ front) false o
      settle long front (inl p) = inl (p.0, (split-head c cells front long ∙ p.1.0, λ next. ap (λ x. x.1) (on long front (next ∷ [])) ∙ p.1.1 next), p.2)
      settle long front (inr f) = inr (λ more. on long front more ∙ f more)

      build : 12 ≤ length (c ∷ cells) → IsCut after (drop 12 (c ∷ cells)) o rest → IsCut (split request_of allows_handles) (c ∷ cells) o rest
      build long k = record {
        front = take 12 (c ∷ cells) ++ k.front;
        whole = sym (take-append-drop 12 (c ∷ cells)) ∙ ap (λ x. take 12 (c ∷ cells) ++ x) k.whole ∙ sym (append_assoc (take 12 (c ∷ cells)) k.front rest);
        settled = settle long k.front k.settled;
      }

      go : (b : Bool) → is_shorter 12 (c ∷ cells) ≡ b → ◌≡◌ {A = Result (Message R H) Error × List (Cell H)} (cond b (Err PartialMessage, []) (after (drop 12 (c ∷ cells)))) (o, rest) → IsCut (split request_of allows_handles) (c ∷ cells) o rest
      go true short cut = all-cut (split request_of allows_handles) (c ∷ cells) o rest e (ap (λ x. x.1) cut) (λ next. header-rest ((c ∷ cells) ++ next ∷ []) (one-more 12 (c ∷ cells) next (shorter-true 12 (c ∷ cells) short))) (error-is PartialMessage o (ap (λ x. x.0) cut))
      go false long cut = build (shorter-false 12 (c ∷ cells) long) (after-cut _ _ c.handles (drop 12 (c ∷ cells)) o rest cut)

  length-bytes : (cells : List (Cell H)) → length (bytes cells) ≡ length cells
  length-bytes [] = refl
  length-bytes (c ∷ cells) = ap (λ n. suc n) (length-bytes cells)

  -- how many bytes a message has behind its header
  size_in : Result (Message R H) Error → ℕ
  size_in (Ok m) = length m.body
  size_in (Err e) = 0

  outcome-size : (r : R) (h : Header) (hs : List H) (cells : List (Cell H)) (m : Message R H) → body_outcome request_of allows_handles r h hs cells ≡ Ok m → length m.body ≡ length cells
  unfolding body_outcome size_in
  outcome-size r h hs cells m e = go (brings_handles cells) e
    where
      go : (b : Bool) → ◌≡◌ {A = Result (Message R H) Error} (cond b (Err InvalidMessage) (Ok (record { request = r; reply = has_bit h.flags 2; need_reply = has_bit h.flags 3; body = bytes cells; handles = hs }))) (Ok m) → length m.body ≡ length cells
      go true other = absurd (cc other)
      go false same = sym (ap (λ o. size_in o) same) ∙ length-bytes cells

  -- a message takes its header and its body of the stream
  pub message-size : (cells : List (Cell H)) (m : Message R H) (rest : List (Cell H)) → split request_of allows_handles cells ≡ (Ok m, rest) → length cells ≡ 12 + length m.body + length rest
  unfolding split split_after split_body
  message-size [] m rest e = absurd (no-message Disconnected m (ap (λ x. x.0) e))
    where
      no-message : (x : Error) (m : Message R H) → ◌≡◌ {A = Result (Message R H) Error} (Err x) (Ok m) → ⊥
      no-message x m other = cc other
  message-size (c ∷ cells) m rest e = header (is_shorter 12 s) refl e
    where
      s : List (Cell H)
      s = c ∷ cells

      h : Header
      h = header_of (bytes (take 12 s))

      lengths : (n : ℕ) (xs : List (Cell H)) → length (take n xs) + length (drop n xs) ≡ length xs
      lengths n xs = sym (length-append (take n xs) (drop n xs)) ∙ ap (λ x. length x) (take-append-drop n xs)

      body : (r : R) (b : Bool) → is_shorter h.size (drop 12 s) ≡ b
          → ◌≡◌ {A = Result (Message R H) Error × List (Cell H)} (cond b (Err InvalidMessage, []) (body_outcome request_of allows_handles r h c.handles (take h.size (drop 12 s)), drop h.size (drop 12 s))) (Ok m, rest)
          → length (drop 12 s) ≡ length m.body + length rest
      body r true t cut = absurd (cc (ap (λ x. x.0) cut))
      body r false t cut = sym (lengths h.size (drop 12 s)) ∙ cc (outcome-size r h c.handles (take h.size (drop 12 s)) m (ap (λ x. x.0) cut), ap (λ x. length x.1) cut)

      wants : (r : R) (b : Bool) → ◌≡◌ {A = Result (Message R H) Error × List (Cell H)} (cond b (split_body request_of allows_handles r h c.handles (drop 12 s)) (Err InvalidMessage, drop 12 s)) (Ok m, rest)
          → length (drop 12 s) ≡ length m.body + length rest
      wants r true cut = body r (is_shorter h.size (drop 12 s)) refl cut
      wants r false cut = absurd (cc (ap (λ x. x.0) cut))

      known : (r : Option R) → split_after request_of allows_handles h r c.handles (drop 12 s) ≡ (Ok m, rest) → length (drop 12 s) ≡ length m.body + length rest
      known None cut = absurd (cc (ap (λ x. x.0) cut))
      known (Some r) cut = wants r (allows_handles r (length c.handles)) cut

      header : (b : Bool) → is_shorter 12 s ≡ b → ◌≡◌ {A = Result (Message R H) Error × List (Cell H)} (cond b (Err PartialMessage, []) (split_after request_of allows_handles h (announced request_of h) c.handles (drop 12 s))) (Ok m, rest)
          → length s ≡ 12 + length m.body + length rest
      header true t cut = absurd (cc (ap (λ x. x.0) cut))
      header false t cut = omega (arith, lengths 12 s, length-take-le 12 s (shorter-false 12 s t), known (announced request_of h) cut)

  -- The first message of a stream is that of a front, whatever follows; the front is its header and its body.
  pub message-front : (cells : List (Cell H)) (m : Message R H) (rest : List (Cell H)) → split request_of allows_handles cells ≡ (Ok m, rest)
      → (front : List (Cell H)) × (cells ≡ front ++ rest) × (length front ≡ 12 + length m.body) × Splits (split request_of allows_handles) front false (Ok m)
  unfolding IsError
  message-front cells m rest e = (k.front, k.whole, size, settled k.settled)
    where
      k : IsCut (split request_of allows_handles) cells (Ok m) rest
      k = split-cut cells (Ok m) rest e

      size : length k.front ≡ 12 + length m.body
      size = omega (arith, message-size cells m rest e, ap (λ x. length x) k.whole, length-append k.front rest)

      settled : ((rest ≡ []) × Splits (split request_of allows_handles) k.front true (Ok m) × IsError (Ok m)) ⊎ Splits (split request_of allows_handles) k.front false (Ok m) → Splits (split request_of allows_handles) k.front false (Ok m)
      settled (inl p) = absurd (cc (p.2.1))
      settled (inr f) = f

  -- The outcome of a stream is that of a front: nothing is left behind it, or what follows makes no difference.
  pub split-front : (cells : List (Cell H)) (o : Result (Message R H) Error) (rest : List (Cell H)) → split request_of allows_handles cells ≡ (o, rest)
      → (front : List (Cell H)) × (cells ≡ front ++ rest) × (((rest ≡ []) × Splits (split request_of allows_handles) front true o) ⊎ Splits (split request_of allows_handles) front false o)
  split-front cells o rest e = (k.front, k.whole, settled k.settled)
    where
      k : IsCut (split request_of allows_handles) cells o rest
      k = split-cut cells o rest e

      settled : ((rest ≡ []) × Splits (split request_of allows_handles) k.front true o × IsError o) ⊎ Splits (split request_of allows_handles) k.front false o
          → ((rest ≡ []) × Splits (split request_of allows_handles) k.front true o) ⊎ Splits (split request_of allows_handles) k.front false o
      settled (inl p) = inl (p.0, p.1)
      settled (inr f) = inr f
