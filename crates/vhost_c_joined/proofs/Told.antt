-- How much of a message is missing is told by its header.
use Rattle.std.proofs.Common.{◌≡◌, ◌<◌, ◌≤◌, ◌+◌, ◌-◌, ◌^◌, ℕ, Bool, true, false, List, [], ◌∷◌, ◌++◌, length, take, Option, refl, sym, ap, subst, ◌∙◌, length-append, arith}
use Rattle.std.specs.Prelude.{not, is_some, nat_lt, if◌then◌else◌}
use Rattle.std.proofs.lemmas.Bool.{ltb-true, ltb-false, lt-ltb, le-ltb}
use Rattle.std.proofs.lemmas.List.{take-append-le}
use Rattle.byteorder.specs.Numbers.{little_from-take}
use Rattle.vhost_message.specs.declared.heard_req.HeardReq.{HeardReq}
use Rattle.vhost_message.specs.declared.limits.TheConstants.{MAX_MSG_SIZE}
use Rattle.vhost_message.specs.HeardReq.{request_number, request_of}
use Rattle.vhost_message.specs.Header.{Header, header_of, header_text, is_valid_header}
use Rattle.vhost_protocol.specs.FrontendCall.{FrontendCall}
use Rattle.vhost_protocol.specs.declared.asked.Awaited.{Awaited}
use Rattle.vhost_protocol.specs.declared.asked.Awaited.TheVariants.{Nobody, Ack, Reply}
use Rattle.vhost_protocol.specs.declared.profile.Profile.TheVariants.{Standard}
use Rattle.vhost_protocol.specs.Split.{announced}
use Rattle.vhost_protocol.specs.Written.{Written, head_of, payload_text, written_text}
use Rattle.vhost_protocol.proofs.TextLaws.{header-read, flags-small, sendable-valid}
use Rattle.vhost_link.specs.declared.plain.PlainHandle.{PlainHandle}
use Rattle.vhost_c_common.specs.Incoming.{missing_by}
use Rattle.vhost_c_common.specs.declared.incoming.Incoming.{Incoming}
use Rattle.vhost_c_frontend.specs.Incoming.{is_sized, least, missing_from}
use Rattle.vhost_c_joined.specs.Wire.{HasCome, IsTold}

-- the header is in the first twelve bytes
header-front : (m : ℕ) (xs : List ℕ) → 12 ≤ m → header_of (take m xs) ≡ header_of xs
header-front m xs many i = record { code = little_from-take 0 4 m xs (omega (arith, many)) i; flags = little_from-take 4 4 m xs (omega (arith, many)) i; size = little_from-take 8 4 m xs (omega (arith, many)) i }

header-more : (xs ys : List ℕ) → 12 ≤ length xs → header_of (xs ++ ys) ≡ header_of xs
header-more xs ys many = sym (header-front 12 (xs ++ ys) (omega arith)) ∙ ap header_of (take-append-le 12 xs ys many) ∙ header-front 12 xs (omega arith)

pub come-header : (came left text : List ℕ) (i : Incoming) → came ++ left ≡ text → HasCome came i → 12 ≤ length came → header_of i.head ≡ header_of text
come-header came left text i whole has many =
    sym (header-front (length came) i.head many) ∙ ap header_of has.head ∙ header-front 12 came (omega arith) ∙ sym (header-more came left many) ∙ ap header_of whole

-- what is missing of a reply behind its header
abbrev pub waits : FrontendCall PlainHandle → Awaited → Incoming → ℕ
waits call awaited i = if not (is_sized Standard call awaited (header_of i.head).size) then 0 else missing_by request_of i

module _ (w : Written HeardReq PlainHandle) (known : request_number w.request < 2 ^ 32) (small : length (payload_text w.payload) ≤ MAX_MSG_SIZE) where
  abbrev head : Header
  head = head_of request_number w

  abbrev size : ℕ
  size = length (payload_text w.payload)

  pub text-header : header_of (written_text request_number w) ≡ head
  text-header =
      let few : size < 2 ^ 32 = omega (arith, small) in
      header-more (header_text head) (payload_text w.payload) (omega arith) ∙ header-read head known (flags-small w.reply w.need_reply) few

  pub text-long : length (written_text request_number w) ≡ 12 + size
  text-long = length-append (header_text head) (payload_text w.payload)

  pub valid-head : is_valid_header head ≡ true
  valid-head = sendable-valid w.reply w.need_reply (request_number w.request) size small

  -- where so much of the body is missed before the header is there, and then what that announces
  pub told-by : (k : ℕ) (missing : Incoming → ℕ) → k ≤ size → ((i : Incoming) → i.count < 12 → missing i ≡ 12 + k - i.count) → ((i : Incoming) → 12 ≤ i.count → header_of i.head ≡ head → missing i ≡ 12 + size - i.count) → IsTold (written_text request_number w) missing
  told-by k missing within before behind came left i whole has = by (nat_lt i.count 12) refl
    where
      both : length came + length left ≡ 12 + size
      both = sym (length-append came left) ∙ ap (λ (xs : List ℕ). length xs) whole ∙ text-long

      none : (xs : List ℕ) → length xs ≡ 0 → xs ≡ []
      none [] is = refl
      none (x ∷ xs) is = absurd (omega arith)

      early : (m c a l s : ℕ) → m ≡ 12 + k - c → c < 12 → c ≡ a → a + l ≡ 12 + s → k ≤ s → (m ≤ l) × (m ≡ 0 → ⊥)
      early m c a l s is few at both within = (omega arith, λ zero. omega arith)

      late : (m c a l s : ℕ) → m ≡ 12 + s - c → c ≡ a → a + l ≡ 12 + s → (m ≤ l) × (m ≡ 0 → l ≡ 0)
      late m c a l s is at both = (omega arith, λ zero. omega arith)

      by : (b : Bool) → nat_lt i.count 12 ≡ b → (missing i ≤ length left) × (missing i ≡ 0 → left ≡ [])
      by true is =
          let few : i.count < 12 = ltb-true i.count 12 is in
          let e = early (missing i) i.count (length came) (length left) size (before i few) few has.count both within in
          (e.0, λ zero. absurd (e.1 zero))
      by false is =
          let many : 12 ≤ i.count = ltb-false i.count 12 is in
          let far : 12 ≤ length came = subst (λ n. 12 ≤ n) has.count many in
          let l = late (missing i) i.count (length came) (length left) size (behind i many (come-header came left (written_text request_number w) i whole has far ∙ text-header)) has.count both in
          (l.0, λ zero. none left (l.1 zero))

  abbrev rest : (ℕ → Option HeardReq) → Incoming → ℕ
  rest code i = if is_some (announced code (header_of i.head)) then 12 + (header_of i.head).size - i.count else 0

  -- behind the header it is what that announces
  pub behind : (code : ℕ → Option HeardReq) → is_some (announced code head) ≡ true → (i : Incoming) → 12 ≤ i.count → header_of i.head ≡ head → missing_by code i ≡ 12 + size - i.count
  behind code heard i many is =
      ap (λ b. if b then 12 - i.count else rest code i) (le-ltb i.count 12 many)
      ∙ ap {A = Header} (λ h. if is_some (announced code h) then 12 + h.size - i.count else 0) is
      ∙ ap (λ b. if b then 12 + size - i.count else 0) heard

  -- a request
  pub request-told : (code : ℕ → Option HeardReq) → is_some (announced code head) ≡ true → IsTold (written_text request_number w) (missing_by code)
  request-told code heard = told-by 0 (missing_by code) (omega arith) (λ i few. ap (λ b. if b then 12 - i.count else rest code i) (lt-ltb i.count 12 few)) (behind code heard)

  -- a reply that has the size of what is awaited
  module _ (call : FrontendCall PlainHandle) (heard : is_some (announced request_of head) ≡ true) where
    sized-behind : (awaited : Awaited) → is_sized Standard call awaited size ≡ true → (i : Incoming) → 12 ≤ i.count → header_of i.head ≡ head → waits call awaited i ≡ 12 + size - i.count
    sized-behind awaited sized i many is =
        ap {A = Header} (λ h. if not (is_sized Standard call awaited h.size) then 0 else missing_by request_of i) is ∙ ap (λ b. if not b then 0 else missing_by request_of i) sized ∙ behind request_of heard i many is

    pub reply-told : (awaited : Awaited) → (awaited ≡ Nobody → ⊥) → least awaited ≤ size → is_sized Standard call awaited size ≡ true → IsTold (written_text request_number w) (missing_from Standard call awaited)
    reply-told Nobody some few sized = absurd (some refl)
    reply-told Ack some few sized = told-by 8 (missing_from Standard call Ack) few (λ i early. ap (λ b. if b then 12 + 8 - i.count else waits call Ack i) (lt-ltb i.count 12 early))
        (λ i many is. ap (λ b. if b then 12 + 8 - i.count else waits call Ack i) (le-ltb i.count 12 many) ∙ sized-behind Ack sized i many is)
    reply-told (Reply s) some few sized = told-by (least (Reply s)) (missing_from Standard call (Reply s)) few (λ i early. ap (λ b. if b then 12 + least (Reply s) - i.count else waits call (Reply s) i) (lt-ltb i.count 12 early))
        (λ i many is. ap (λ b. if b then 12 + least (Reply s) - i.count else waits call (Reply s) i) (le-ltb i.count 12 many) ∙ sized-behind (Reply s) sized i many is)
