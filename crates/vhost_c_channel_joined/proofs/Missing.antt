-- How much of a message is missing is told by its header.
use Rattle.std.proofs.Common.{◌≡◌, ◌<◌, ◌≤◌, ◌+◌, ◌-◌, ◌^◌, ℕ, Bool, true, false, List, [], ◌∷◌, ◌++◌, length, take, Option, refl, sym, ap, subst, ◌∙◌, length-append, arith}
use Rattle.std.specs.Prelude.{is_some, nat_lt, if◌then◌else◌}
use Rattle.std.proofs.lemmas.Bool.{ltb-true, ltb-false, lt-ltb, le-ltb}
use Rattle.std.proofs.lemmas.List.{take-append-le}
use Rattle.byteorder.specs.Numbers.{little_from-take}
use Rattle.vhost_message.specs.BackendReq.{backend_request_number}
use Rattle.vhost_message.specs.declared.backend_req.BackendReq.{BackendReq}
use Rattle.vhost_message.specs.declared.limits.TheConstants.{MAX_MSG_SIZE}
use Rattle.vhost_message.specs.Header.{Header, header_of, header_text}
use Rattle.vhost_protocol.specs.Split.{announced}
use Rattle.vhost_protocol.specs.Stream.{Cell, bytes}
use Rattle.vhost_protocol.specs.Written.{Written, head_of, payload_text, written_cells, written_text}
use Rattle.vhost_protocol.proofs.TextLaws.{header-read, flags-small}
use Rattle.vhost_link.proofs.Cells.{bytes-append, bytes-carrying, length-bytes}
use Rattle.vhost_link.specs.declared.plain.PlainHandle.{PlainHandle}
use Rattle.vhost_c_common.specs.Incoming.{missing_by, missing_in}
use Rattle.vhost_c_common.specs.declared.incoming.Incoming.{Incoming}
use Rattle.vhost_c_channel_joined.specs.Wire.{HasCome, IsTold}

-- the header is in the first twelve bytes
header-front : (m : ℕ) (xs : List ℕ) → 12 ≤ m → header_of (take m xs) ≡ header_of xs
header-front m xs many i = record { code = little_from-take 0 4 m xs (omega (arith, many)) i; flags = little_from-take 4 4 m xs (omega (arith, many)) i; size = little_from-take 8 4 m xs (omega (arith, many)) i }

header-more : (xs ys : List ℕ) → 12 ≤ length xs → header_of (xs ++ ys) ≡ header_of xs
header-more xs ys many = sym (header-front 12 (xs ++ ys) (omega arith)) ∙ ap header_of (take-append-le 12 xs ys many) ∙ header-front 12 xs (omega arith)

come-header : (came left text : List ℕ) (i : Incoming) → came ++ left ≡ text → HasCome came i → 12 ≤ length came → header_of i.head ≡ header_of text
come-header came left text i whole has many =
    sym (header-front (length came) i.head many) ∙ ap header_of has.head ∙ header-front 12 came (omega arith) ∙ sym (header-more came left many) ∙ ap header_of whole

module _ (w : Written BackendReq PlainHandle) (known : backend_request_number w.request < 2 ^ 32) (small : length (payload_text w.payload) ≤ MAX_MSG_SIZE) where
  abbrev head : Header
  head = head_of backend_request_number w

  abbrev size : ℕ
  size = length (payload_text w.payload)

  text-header : header_of (written_text backend_request_number w) ≡ head
  text-header =
      let few : size < 2 ^ 32 = omega (arith, small) in
      header-more (header_text head) (payload_text w.payload) (omega arith) ∙ header-read head known (flags-small w.reply w.need_reply) few

  text-long : length (written_text backend_request_number w) ≡ 12 + size
  text-long = length-append (header_text head) (payload_text w.payload)

  -- where all of it came, its header did
  pub whole-header : (i : Incoming) → HasCome (bytes (written_cells backend_request_number w)) i → header_of i.head ≡ head
  whole-header i has =
      let text : bytes (written_cells backend_request_number w) ≡ written_text backend_request_number w = bytes-carrying w.handles (written_text backend_request_number w) in
      come-header (written_text backend_request_number w) [] (written_text backend_request_number w ++ []) i refl (subst (λ xs. HasCome xs i) text has) (omega (arith, text-long)) ∙ header-more (written_text backend_request_number w) [] (omega (arith, text-long)) ∙ text-header

  -- before the header is there it is missed, and then what it announces
  told-by : (missing : Incoming → ℕ) → ((i : Incoming) → i.count < 12 → missing i ≡ 12 - i.count) → ((i : Incoming) → 12 ≤ i.count → header_of i.head ≡ head → missing i ≡ 12 + size - i.count) → IsTold (written_cells backend_request_number w) missing
  told-by missing before behind came left i whole has = by (nat_lt i.count 12) refl
    where
      text : bytes came ++ bytes left ≡ written_text backend_request_number w
      text = sym (bytes-append came left) ∙ ap (λ xs. bytes xs) whole ∙ bytes-carrying w.handles (written_text backend_request_number w)

      both : length (bytes came) + length left ≡ 12 + size
      both = ap (λ n. length (bytes came) + n) (sym (length-bytes left)) ∙ sym (length-append (bytes came) (bytes left)) ∙ ap (λ (xs : List ℕ). length xs) text ∙ text-long

      none : (xs : List (Cell PlainHandle)) → length xs ≡ 0 → xs ≡ []
      none [] is = refl
      none (x ∷ xs) is = absurd (omega arith)

      early : (m c a l s : ℕ) → m ≡ 12 - c → c < 12 → c ≡ a → a + l ≡ 12 + s → (m ≤ l) × (m ≡ 0 → ⊥)
      early m c a l s is few at both = (omega arith, λ zero. omega arith)

      late : (m c a l s : ℕ) → m ≡ 12 + s - c → c ≡ a → a + l ≡ 12 + s → (m ≤ l) × (m ≡ 0 → l ≡ 0)
      late m c a l s is at both = (omega arith, λ zero. omega arith)

      by : (b : Bool) → nat_lt i.count 12 ≡ b → (missing i ≤ length left) × (missing i ≡ 0 → left ≡ [])
      by true is =
          let few : i.count < 12 = ltb-true i.count 12 is in
          let e = early (missing i) i.count (length (bytes came)) (length left) size (before i few) few has.count both in
          (e.0, λ zero. absurd (e.1 zero))
      by false is =
          let many : 12 ≤ i.count = ltb-false i.count 12 is in
          let far : 12 ≤ length (bytes came) = subst (λ n. 12 ≤ n) has.count many in
          let l = late (missing i) i.count (length (bytes came)) (length left) size (behind i many (come-header (bytes came) (bytes left) (written_text backend_request_number w) i text has far ∙ text-header)) has.count both in
          (l.0, λ zero. none left (l.1 zero))

  -- a request
  module _ (code : ℕ → Option BackendReq) (heard : is_some (announced code head) ≡ true) where
    abbrev rest : Incoming → ℕ
    rest i = if is_some (announced code (header_of i.head)) then 12 + (header_of i.head).size - i.count else 0

    request-behind : (i : Incoming) → 12 ≤ i.count → header_of i.head ≡ head → missing_by code i ≡ 12 + size - i.count
    request-behind i many is =
        ap (λ b. if b then 12 - i.count else rest i) (le-ltb i.count 12 many)
        ∙ ap {A = Header} (λ h. if is_some (announced code h) then 12 + h.size - i.count else 0) is
        ∙ ap (λ b. if b then 12 + size - i.count else 0) heard

    pub request-told : IsTold (written_cells backend_request_number w) (missing_by code)
    request-told = told-by (missing_by code) (λ i few. ap (λ b. if b then 12 - i.count else rest i) (lt-ltb i.count 12 few)) request-behind

  -- a reply
  abbrev sized : Incoming → ℕ
  sized i = if nat_lt MAX_MSG_SIZE (header_of i.head).size then 0 else 12 + (header_of i.head).size - i.count

  reply-behind : (i : Incoming) → 12 ≤ i.count → header_of i.head ≡ head → missing_in i ≡ 12 + size - i.count
  reply-behind i many is =
      ap (λ b. if b then 12 - i.count else sized i) (le-ltb i.count 12 many)
      ∙ ap {A = Header} (λ h. if nat_lt MAX_MSG_SIZE h.size then 0 else 12 + h.size - i.count) is
      ∙ ap (λ b. if b then 0 else 12 + size - i.count) (le-ltb MAX_MSG_SIZE size small)

  pub reply-told : IsTold (written_cells backend_request_number w) missing_in
  reply-told = told-by missing_in (λ i few. ap (λ b. if b then 12 - i.count else sized i) (lt-ltb i.count 12 few)) reply-behind
