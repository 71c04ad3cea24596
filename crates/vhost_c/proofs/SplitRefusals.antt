-- Which errors a request is that came at least up to its header, and is none.
use Rattle.std.proofs.Common.{◌≡◌, ◌<◌, ◌≤◌, ◌+◌, ◌-◌, ℕ, Bool, true, false, List, [], ◌∷◌, length, take, drop, Option, Some, None, Result, Ok, Err, refl, sym, subst, arith}
use Rattle.std.specs.Prelude.{⊤, nat_lt, is_some, if◌then◌else◌}
use Rattle.std.proofs.lemmas.Bool.{ltb-true, ltb-false}
use Rattle.vhost_message.specs.declared.limits.TheConstants.{MSG_HEADER_SIZE}
use Rattle.vhost_message.specs.Header.{Header, header_of}
use Rattle.vhost_protocol.specs.Error.{Error, InvalidMessage, PartialMessage}
use Rattle.vhost_protocol.specs.Split.{Message, announced, split, split_after, split_body, body_outcome}
use Rattle.vhost_protocol.specs.Stream.{Cell, bytes, brings_handles, is_shorter}
use Rattle.vhost_protocol.proofs.SplitLaws.{le-shorter}
use Rattle.vhost_c_common.specs.Incoming.{missing_by}
use Rattle.vhost_c_common.specs.declared.incoming.Incoming.{Incoming}

module _ {R H : Type 0} (request_of : ℕ → Option R) (allows_handles : R → ℕ → Bool) where
  -- it is a message, or an invalid one
  abbrev Fine : Result (Message R H) Error → Type 0
  Fine (Ok m) = ⊤
  Fine (Err e) = e ≡ InvalidMessage

  abbrev Parted : Result (Message R H) Error × List (Cell H) → Type 0
  Parted x = Fine x.0

  either : (b : Bool) (x y : Result (Message R H) Error) → Fine x → Fine y → Fine (if b then x else y)
  either true x y p q = p
  either false x y p q = q

  either-part : (b : Bool) (x y : Result (Message R H) Error × List (Cell H)) → Parted x → Parted y → Parted (if b then x else y)
  either-part true x y p q = p
  either-part false x y p q = q

  body-fine : (r : R) (h : Header) (hs : List H) (cells : List (Cell H)) → Fine (body_outcome request_of allows_handles r h hs cells)
  unfolding body_outcome
  body-fine r h hs cells = either (brings_handles cells) _ _ refl tt

  cut-fine : (r : R) (h : Header) (hs : List H) (cells : List (Cell H)) → Parted (split_body request_of allows_handles r h hs cells)
  unfolding split_body
  cut-fine r h hs cells = either-part (is_shorter h.size cells) (Err InvalidMessage, []) (body_outcome request_of allows_handles r h hs (take h.size cells), drop h.size cells) refl (body-fine r h hs (take h.size cells))

  after-fine : (h : Header) (o : Option R) (hs : List H) (cells : List (Cell H)) → Parted (split_after request_of allows_handles h o hs cells)
  unfolding split_after
  after-fine h None hs cells = refl
  after-fine h (Some r) hs cells = either-part (allows_handles r (length hs)) (split_body request_of allows_handles r h hs cells) (Err InvalidMessage, cells) (cut-fine r h hs cells) refl

  split-fine : (cells : List (Cell H)) → 12 ≤ length cells → Parted (split request_of allows_handles cells)
  unfolding split
  split-fine [] many = absurd (omega (arith, many))
  split-fine (c ∷ cells) many = go (is_shorter MSG_HEADER_SIZE (c ∷ cells)) (le-shorter 12 (c ∷ cells) many)
    where
      h : Header
      h = header_of (bytes (take MSG_HEADER_SIZE (c ∷ cells)))

      go : (b : Bool) → b ≡ false → Parted (if b then (Err PartialMessage, []) else split_after request_of allows_handles h (announced request_of h) c.handles (drop MSG_HEADER_SIZE (c ∷ cells)))
      go true is = absurd (cc is)
      go false is = after-fine h (announced request_of h) c.handles (drop MSG_HEADER_SIZE (c ∷ cells))

  pub split-refused : (cells rest : List (Cell H)) (e : Error) → 12 ≤ length cells → split request_of allows_handles cells ≡ (Err e, rest) → e ≡ InvalidMessage
  split-refused cells rest e many is = subst (λ x. Parted x) is (split-fine cells many)

-- no byte of its header is missing
pub whole-head : {R : Type 0} (code : ℕ → Option R) (i : Incoming) → missing_by code i ≡ 0 → 12 ≤ i.count
whole-head code i none = by (nat_lt i.count MSG_HEADER_SIZE) refl none
  where
    behind : ℕ
    behind = if is_some (announced code (header_of i.head)) then MSG_HEADER_SIZE + (header_of i.head).size - i.count else 0

    by : (b : Bool) → nat_lt i.count MSG_HEADER_SIZE ≡ b → (if b then MSG_HEADER_SIZE - i.count else behind) ≡ 0 → 12 ≤ i.count
    by true few zero = let short : i.count < 12 = ltb-true i.count 12 few in absurd (omega (arith, short, zero))
    by false far zero = ltb-false i.count 12 far
