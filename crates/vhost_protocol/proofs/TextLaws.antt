-- What is written is read again: numbers, headers, and whole messages.
use Rattle.std.proofs.Common.{◌≡◌, ℕ, suc, ◌^◌, ◌≤◌, ◌<◌, Bool, true, false, cond, List, [], ◌∷◌, ◌++◌, length, Option, Some, Result, Ok, Err, refl, ◌∙◌, ap, arith, lit<}
use Rattle.std.proofs.lemmas.Bool.{le-leb}
use Rattle.byteorder.specs.Numbers.{little_number-reads_back}
use Rattle.vhost_message.specs.declared.limits.TheConstants.{MAX_MSG_SIZE}
use Rattle.vhost_message.specs.Bits.{has_bit}
use Rattle.vhost_message.specs.declared.heard_req.HeardReq.{HeardReq}
use Rattle.vhost_message.specs.declared.heard_req.HeardReq.TheVariants.{OTHER}
use Rattle.vhost_message.specs.HeardReq.{request_number, is_named}
use Rattle.vhost_message.specs.Header.{Header, header_of, header_text, is_valid_header}
use Rattle.vhost_message.specs.Text.{digits}
use Rattle.vhost_protocol.specs.Stream.{Cell, bytes, plain, brings_handles}
use Rattle.vhost_protocol.specs.Error.{Error, PartialMessage}
use Rattle.vhost_protocol.specs.Split.{Message, announced, split, split_after, split_body, body_outcome}
use Rattle.vhost_protocol.specs.Written.{Written, header_flags, head_of, payload_text, written_cells}
use Rattle.vhost_protocol.specs.Joined.{read_as}
use Rattle.vhost_protocol.proofs.SplitLaws.{body-whole, le-shorter}

-- the number of a request that has a name
pub request-small : (r : HeardReq) → is_named r ≡ true → request_number r < 2 ^ 32
request-small (OTHER n) named = absurd (cc named)
request-small _ named = lit< tt

pub bytes-plain : (H : Type 0) (bs : List ℕ) → bytes (plain {H = H} bs) ≡ bs
bytes-plain H [] = refl
bytes-plain H (b ∷ bs) = ap (λ x. b ∷ x) (bytes-plain H bs)

pub length-plain : (H : Type 0) (bs : List ℕ) → length (plain {H = H} bs) ≡ length bs
length-plain H [] = refl
length-plain H (b ∷ bs) = ap (λ n. suc n) (length-plain H bs)

pub plain-bare : (H : Type 0) (bs : List ℕ) → brings_handles (plain {H = H} bs) ≡ false
plain-bare H [] = refl
plain-bare H (b ∷ bs) = plain-bare H bs

-- a header whose numbers fit is read again
pub header-read : (h : Header) → h.code < 2 ^ 32 → h.flags < 2 ^ 32 → h.size < 2 ^ 32 → header_of (header_text h) ≡ h
header-read h code flags size =
    let a = little_number-reads_back 4 h.code (digits 4 h.flags ++ digits 4 h.size) code in
    let b = little_number-reads_back 4 h.flags (digits 4 h.size) flags in
    let c = little_number-reads_back 4 h.size [] size in
    λ i. record { code = a i; flags = b i; size = c i }

-- the flags of a message that is sent
pub flags-small : (a b : Bool) → header_flags a b < 2 ^ 32
flags-small false false = lit< tt
flags-small true false = lit< tt
flags-small false true = lit< tt
flags-small true true = lit< tt

pub sendable-valid : (a b : Bool) (code size : ℕ) → size ≤ MAX_MSG_SIZE → is_valid_header (record { code = code; flags = header_flags a b; size = size }) ≡ true
sendable-valid false false code size h = le-leb size MAX_MSG_SIZE h
sendable-valid true false code size h = le-leb size MAX_MSG_SIZE h
sendable-valid false true code size h = le-leb size MAX_MSG_SIZE h
sendable-valid true true code size h = le-leb size MAX_MSG_SIZE h

module _ {R H : Type 0} (request_of : ℕ → Option R) (allows_handles : R → ℕ → Bool) (number_of : R → ℕ) where
  -- what can be sent: a known request whose handles are allowed, with no more body than allowed
  pub record IsSendable (w : Written R H) : Type 0 where
    pub known : request_of (number_of w.request) ≡ Some w.request
    pub code : number_of w.request < 2 ^ 32
    pub allowed : allows_handles w.request (length w.handles) ≡ true
    pub size : length (payload_text w.payload) ≤ MAX_MSG_SIZE

  head : Written R H → Header
  head w = head_of number_of w

  written-announced : (w : Written R H) → IsSendable w → announced request_of (head w) ≡ Some w.request
  unfolding head
  written-announced w ok = rw (sendable-valid w.reply w.need_reply (number_of w.request) (length (payload_text w.payload)) ok.size) (ok.known)

  written-body : (w : Written R H) (rest : List (Cell H)) → split_body request_of allows_handles w.request (head w) w.handles (plain (payload_text w.payload) ++ rest) ≡ (Ok (read_as w), rest)
  unfolding head body_outcome
  written-body w rest =
      body-whole request_of allows_handles w.request (head w) w.handles (plain (payload_text w.payload)) rest (length-plain H (payload_text w.payload))
      ∙ rw (plain-bare H (payload_text w.payload), bytes-plain H (payload_text w.payload)) (flags-read w.reply w.need_reply)
    where
      flags-read : (a b : Bool) → ◌≡◌ {A = Result (Message R H) Error × List (Cell H)}
          (Ok (record { request = w.request; reply = has_bit (header_flags a b) 2; need_reply = has_bit (header_flags a b) 3; body = payload_text w.payload; handles = w.handles }), rest)
          (Ok (record { request = w.request; reply = a; need_reply = b; body = payload_text w.payload; handles = w.handles }), rest)
      flags-read false false = refl
      flags-read true false = refl
      flags-read false true = refl
      flags-read true true = refl

  -- the cells behind the header
  behind : Written R H → List (Cell H) → List (Cell H)
  behind w rest = plain (payload_text w.payload) ++ rest

  after : Written R H → List (Cell H) → Header → Option R → Result (Message R H) Error × List (Cell H)
  after w rest h r = split_after request_of allows_handles h r w.handles (behind w rest)

  written-header : (w : Written R H) (rest : List (Cell H)) → split request_of allows_handles (written_cells number_of w ++ rest) ≡ after w rest (header_of (header_text (head w))) (announced request_of (header_of (header_text (head w))))
  unfolding split head after behind
  written-header w rest = ap (λ b. cond b (Err PartialMessage, []) (after w rest (header_of (header_text (head w))) (announced request_of (header_of (header_text (head w)))))) (le-shorter 12 (written_cells number_of w ++ rest) (omega arith))

  written-after : (w : Written R H) (rest : List (Cell H)) → IsSendable w → after w rest (head w) (Some w.request) ≡ (Ok (read_as w), rest)
  unfolding split_after after behind
  written-after w rest ok = rw (ok.allowed) (written-body w rest)

  -- a message that is sent is the first of the stream, whatever follows it
  pub written-split : (w : Written R H) (rest : List (Cell H)) → IsSendable w → split request_of allows_handles (written_cells number_of w ++ rest) ≡ (Ok (read_as w), rest)
  unfolding head
  written-split w rest ok = written-header w rest
      ∙ ap (λ h. after w rest h (announced request_of h)) (header-read (head w) ok.code (flags-small w.reply w.need_reply) (omega (arith, ok.size)))
      ∙ ap (λ r. after w rest (head w) r) (written-announced w ok)
      ∙ written-after w rest ok
