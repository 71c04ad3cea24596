-- What a header and the body behind it are of a stream: the first message, or why there is none.
use Rattle.std.proofs.Common.{◌≡◌, ℕ, ◌<◌, Bool, true, false, cond, ◌&&◌, List, [], ◌∷◌, ◌++◌, length, Option, Some, None, Result, Ok, Err, refl, ◌∙◌, ap, append_assoc, arith}
use Rattle.std.specs.Prelude.{is_some}
use Rattle.vhost_message.specs.Bits.{has_bit}
use Rattle.vhost_message.specs.Header.{Header, header_of, is_valid_header}
use Rattle.vhost_protocol.specs.Stream.{Cell, bytes, first_handles, brings_handles, is_shorter}
use Rattle.vhost_protocol.specs.Error.{Error, InvalidMessage, Disconnected, PartialMessage}
use Rattle.vhost_protocol.specs.Split.{Message, announced, split, split_after, split_body, body_outcome, Splits}
use Rattle.vhost_protocol.proofs.SplitLaws.{split-on, body-whole, body-rest, header-rest, one-more, lt-shorter}

-- the header in some cells
abbrev pub head_in : {H : Type 0} → List (Cell H) → Header
head_in cells = header_of (bytes cells)

-- the message of a header and a body
abbrev pub message_in : {R H : Type 0} → R → List (Cell H) → List (Cell H) → Message R H
message_in r cs ds = record { request = r; reply = has_bit (head_in cs).flags 2; need_reply = has_bit (head_in cs).flags 3; body = bytes ds; handles = first_handles cs }

-- twelve cells with a valid header that announces this request
pub record Announces {R H : Type 0} (request_of : ℕ → Option R) (cs : List (Cell H)) (r : R) : Type 0 where
  pub long : length cs ≡ 12
  pub valid : is_valid_header (head_in cs) ≡ true
  pub code : request_of (head_in cs).code ≡ Some r

known : {R : Type 0} (request_of : ℕ → Option R) (h : Header) (r : R) → is_valid_header h ≡ true → request_of h.code ≡ Some r → announced request_of h ≡ Some r
known request_of h r valid code = ap (λ b. cond b (request_of h.code) None) valid ∙ code

unknown : {R : Type 0} (request_of : ℕ → Option R) (h : Header) → (is_some (request_of h.code) && is_valid_header h) ≡ false → announced request_of h ≡ None
unknown {R} request_of h bad = go (is_valid_header h) (request_of h.code) bad
  where
    go : (valid : Bool) (code : Option R) → (is_some code && valid) ≡ false → cond valid code None ≡ None
    go true None e = refl
    go true (Some r) e = absurd (cc e)
    go false code e = refl

module _ {R H : Type 0} (request_of : ℕ → Option R) (allows_handles : R → ℕ → Bool) where
  -- a stream that begins with twelve cells goes on after them
  begins : (cs tail : List (Cell H)) → length cs ≡ 12 → split request_of allows_handles (cs ++ tail)
      ≡ split_after request_of allows_handles (head_in cs) (announced request_of (head_in cs)) (first_handles cs) tail
  begins [] tail len = absurd (omega arith)
  begins (c ∷ eleven) tail len = split-on request_of allows_handles c eleven tail (omega arith)

  -- ---- no message

  pub no-byte : Splits (split {H = H} request_of allows_handles) [] true (Err Disconnected)
  unfolding split
  no-byte = (refl, λ next. refl)

  pub part-of-header : (cs : List (Cell H)) → 0 < length cs → length cs < 12 → Splits (split request_of allows_handles) cs true (Err PartialMessage)
  unfolding split
  part-of-header [] some few = absurd (omega arith)
  part-of-header (c ∷ cs) some few =
      let short : is_shorter 12 (c ∷ cs) ≡ true = lt-shorter 12 (c ∷ cs) few in
      (rw short refl, λ next. header-rest request_of allows_handles ((c ∷ cs) ++ next ∷ []) (one-more 12 (c ∷ cs) next few))

  pub bad-header : (cs : List (Cell H)) → length cs ≡ 12 → (is_some (request_of (head_in cs).code) && is_valid_header (head_in cs)) ≡ false
      → Splits (split request_of allows_handles) cs false (Err InvalidMessage)
  unfolding split_after
  bad-header cs len bad rest = begins cs rest len ∙ ap (λ r. split_after request_of allows_handles (head_in cs) r (first_handles cs) rest) (unknown request_of (head_in cs) bad)

  goes-on : (cs tail : List (Cell H)) (r : R) → Announces request_of cs r → split request_of allows_handles (cs ++ tail)
      ≡ cond (allows_handles r (length (first_handles cs))) (split_body request_of allows_handles r (head_in cs) (first_handles cs) tail) (Err InvalidMessage, tail)
  unfolding split_after
  goes-on cs tail r a = begins cs tail a.long ∙ ap (λ x. split_after request_of allows_handles (head_in cs) x (first_handles cs) tail) (known request_of (head_in cs) r a.valid a.code)

  pub unwanted-handles : (cs : List (Cell H)) (r : R) → Announces request_of cs r → allows_handles r (length (first_handles cs)) ≡ false → Splits (split request_of allows_handles) cs false (Err InvalidMessage)
  unwanted-handles cs r a other rest = goes-on cs rest r a ∙ rw other refl

  reads-body : (cs tail : List (Cell H)) (r : R) → Announces request_of cs r → allows_handles r (length (first_handles cs)) ≡ true
      → split request_of allows_handles (cs ++ tail) ≡ split_body request_of allows_handles r (head_in cs) (first_handles cs) tail
  reads-body cs tail r a wants = goes-on cs tail r a ∙ rw wants refl

  pub cut-body : (cs ds : List (Cell H)) (r : R) → Announces request_of cs r → allows_handles r (length (first_handles cs)) ≡ true → length ds < (head_in cs).size
      → Splits (split request_of allows_handles) (cs ++ ds) true (Err InvalidMessage)
  unfolding split_body
  cut-body cs ds r a wants few =
      let short : is_shorter (head_in cs).size ds ≡ true = lt-shorter (head_in cs).size ds few in (
        reads-body cs ds r a wants ∙ rw short refl,
        λ next. ap (λ xs. (split request_of allows_handles xs).1) (append_assoc cs ds (next ∷ [])) ∙ ap (λ x. x.1) (reads-body cs (ds ++ next ∷ []) r a wants)
            ∙ body-rest request_of allows_handles r (head_in cs) (first_handles cs) (ds ++ next ∷ []) (one-more (head_in cs).size ds next few),
      )

  whole-body : (cs ds : List (Cell H)) (r : R) (o : Result (Message R H) Error) → Announces request_of cs r → allows_handles r (length (first_handles cs)) ≡ true → length ds ≡ (head_in cs).size
      → body_outcome request_of allows_handles r (head_in cs) (first_handles cs) ds ≡ o → Splits (split request_of allows_handles) (cs ++ ds) false o
  whole-body cs ds r o a wants all e rest = ap (λ xs. split request_of allows_handles xs) (append_assoc cs ds rest) ∙ reads-body cs (ds ++ rest) r a wants
      ∙ body-whole request_of allows_handles r (head_in cs) (first_handles cs) ds rest all ∙ ap (λ x. (x, rest)) e

  body-handles : (h : Header) (r : R) (hs : List H) (ds : List (Cell H)) → brings_handles ds ≡ true → body_outcome request_of allows_handles r h hs ds ≡ Err InvalidMessage
  unfolding body_outcome
  body-handles h r hs ds e = rw e refl

  pub handles-in-body : (cs ds : List (Cell H)) (r : R) → Announces request_of cs r → allows_handles r (length (first_handles cs)) ≡ true → length ds ≡ (head_in cs).size → brings_handles ds ≡ true
      → Splits (split request_of allows_handles) (cs ++ ds) false (Err InvalidMessage)
  handles-in-body cs ds r a wants all bring = whole-body cs ds r (Err InvalidMessage) a wants all (body-handles (head_in cs) r (first_handles cs) ds bring)

  body-message : (cs ds : List (Cell H)) (r : R) → brings_handles ds ≡ false → body_outcome request_of allows_handles r (head_in cs) (first_handles cs) ds ≡ Ok (message_in r cs ds)
  unfolding body_outcome
  body-message cs ds r e = rw e refl

  pub whole-message : (cs ds : List (Cell H)) (r : R) → Announces request_of cs r → allows_handles r (length (first_handles cs)) ≡ true → length ds ≡ (head_in cs).size → brings_handles ds ≡ false
      → Splits (split request_of allows_handles) (cs ++ ds) false (Ok (message_in r cs ds))
  whole-message cs ds r a wants all none = whole-body cs ds r (Ok (message_in r cs ds)) a wants all (body-message cs ds r none)
