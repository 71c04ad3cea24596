-- What a backend served is told to its frontend by its header.
use Rattle.std.proofs.Common.{◌≡◌, ◌⊎◌, ◌<◌, ◌≤◌, ◌+◌, ◌-◌, inl, inr, ℕ, true, List, [], ◌∷◌, ◌++◌, length, Some, refl, sym, ap, subst, ◌∙◌, length-append, arith, lit<}
use Rattle.std.specs.Prelude.{if◌then◌else◌}
use Rattle.std.proofs.lemmas.Bool.{lt-ltb}
use Rattle.vhost_message.specs.Header.{Header, header_of, header_text}
use Rattle.vhost_message.specs.declared.heard_req.HeardReq.{HeardReq}
use Rattle.vhost_message.specs.declared.limits.TheConstants.{MAX_MSG_SIZE, MAX_MSG_TEXT}
use Rattle.vhost_message.specs.HeardReq.{request_number, is_named}
use Rattle.vhost_protocol.specs.AnswerTable.{Answered, answer}
use Rattle.vhost_protocol.specs.declared.asked.Awaited.{Awaited}
use Rattle.vhost_protocol.specs.declared.asked.Awaited.TheVariants.{Nobody, Ack, Reply}
use Rattle.vhost_protocol.specs.declared.profile.Profile.TheVariants.{Standard}
use Rattle.vhost_protocol.specs.FrontendCall.{FrontendCall, Frontend}
use Rattle.vhost_protocol.specs.Heard.{IsAwaitedBy, IsGoodReply, shape_of}
use Rattle.vhost_protocol.specs.Served.{Served, Silent, Acknowledged, Replied}
use Rattle.vhost_protocol.specs.Stream.{carrying}
use Rattle.vhost_protocol.specs.Written.{Written, Payload, U64, head_of, payload_text, reply_to, written_text}
use Rattle.vhost_protocol.proofs.TakeLaws.{reply-known}
use Rattle.vhost_protocol.proofs.TextLaws.{request-small}
use Rattle.vhost_link.specs.declared.plain.PlainHandle.{PlainHandle}
use Rattle.vhost_backend_req_handler.specs.Serving.{reply_cells}
use Rattle.vhost_c_common.specs.declared.incoming.Incoming.{Incoming}
use Rattle.vhost_c_frontend.specs.Incoming.{is_sized, least, missing_from}
use Rattle.vhost_c_joined.specs.Wire.{HasCome, IsTold}
use Rattle.vhost_c_joined.proofs.Told.{come-header, reply-told, text-header, waits}
use Rattle.vhost_c_joined.proofs.Sizes.{HasSize, reply-size}

-- the text of what was served, and its handles
abbrev pub handles_in : Served PlainHandle → List PlainHandle
handles_in (Replied payload hs) = hs
handles_in _ = []

abbrev pub text_in : HeardReq → Served PlainHandle → List ℕ
text_in r Silent = []
text_in r (Acknowledged agreed) = written_text request_number (reply_to {H = PlainHandle} r (U64 (if agreed then 0 else 1)) [])
text_in r (Replied payload hs) = written_text request_number (reply_to r payload hs)

pub as-cells : (r : HeardReq) (served : Served PlainHandle) → reply_cells r served ≡ carrying (handles_in served) (text_in r served)
as-cells r Silent = refl
as-cells r (Acknowledged agreed) = refl
as-cells r (Replied payload hs) = refl

-- How much of it is missing is told, unless nothing was written; and it has the size that is waited for.
pub record IsHeardBy (call : FrontendCall PlainHandle) (awaited : Awaited) (text : List ℕ) : Type 0 where
  pub few : length text ≤ MAX_MSG_TEXT
  pub told : (text ≡ []) ⊎ IsTold text (missing_from Standard call awaited)
  pub sized : (i : Incoming) → HasCome text i → missing_from Standard call awaited i ≡ 0 → is_sized Standard call awaited (header_of i.head).size ≡ true

-- a reply
module _ (call : FrontendCall PlainHandle) (awaited : Awaited) (r : HeardReq) (payload : Payload) (hs : List PlainHandle) (named : is_named r ≡ true) (some : awaited ≡ Nobody → ⊥) where
  abbrev w : Written HeardReq PlainHandle
  w = reply_to r payload hs

  written-heard : length (payload_text payload) ≤ MAX_MSG_SIZE → least awaited ≤ length (payload_text payload) → is_sized Standard call awaited (length (payload_text payload)) ≡ true → IsHeardBy call awaited (written_text request_number w)
  written-heard small more sized =
      let long : length (written_text request_number w) ≡ 12 + length (payload_text payload) = length-append (header_text (head_of request_number w)) (payload_text payload) in
      record {
        few = omega (arith, long, small);
        told = inr (reply-told w (request-small r named) small call (reply-known r payload hs named small) awaited some more sized);
        sized = λ i has none.
            let far : 12 ≤ length (written_text request_number w) = omega (arith, long) in
            let is : header_of i.head ≡ head_of request_number w = come-header (written_text request_number w) [] (written_text request_number w) i (nothing-more (written_text request_number w)) has far ∙ text-header w (request-small r named) small in
            ap {A = Header} (λ h. is_sized Standard call awaited h.size) is ∙ sized;
      }
    where
      nothing-more : (xs : List ℕ) → xs ++ [] ≡ xs
      nothing-more [] = refl
      nothing-more (x ∷ xs) = ap (λ ys. x ∷ ys) (nothing-more xs)

-- nothing
silent-sized : (call : FrontendCall PlainHandle) (awaited : Awaited) (i : Incoming) → i.count ≡ 0 → missing_from Standard call awaited i ≡ 0 → is_sized Standard call awaited (header_of i.head).size ≡ true
silent-sized call Nobody i none whole = refl
silent-sized call Ack i none whole = absurd (early (missing_from Standard call Ack i) i.count (ap (λ b. if b then 12 + 8 - i.count else waits call Ack i) (lt-ltb i.count 12 (few i.count none))) none whole)
  where
    few : (c : ℕ) → c ≡ 0 → c < 12
    few c is = omega arith

    early : (m c : ℕ) → m ≡ 12 + 8 - c → c ≡ 0 → m ≡ 0 → ⊥
    early m c is none whole = omega arith
silent-sized call (Reply s) i none whole = absurd (early (missing_from Standard call (Reply s) i) i.count (least (Reply s)) (ap (λ b. if b then 12 + least (Reply s) - i.count else waits call (Reply s) i) (lt-ltb i.count 12 (few i.count none))) none whole)
  where
    few : (c : ℕ) → c ≡ 0 → c < 12
    few c is = omega arith

    early : (m c k : ℕ) → m ≡ 12 + k - c → c ≡ 0 → m ≡ 0 → ⊥
    early m c k is none whole = omega arith

-- what was served, where the answer table knows it
pub heard-by : (call : FrontendCall PlainHandle) (awaited : Awaited) (g : Frontend) (r : HeardReq) (served : Served PlainHandle) (a : Answered PlainHandle) → is_named r ≡ true → IsAwaitedBy call awaited → IsGoodReply call served → answer call awaited g served ≡ Some a → IsHeardBy call awaited (text_in r served)
heard-by call awaited g r Silent a named same good known = record { few = omega arith; told = inl refl; sized = λ i has none. silent-sized call awaited i has.count none }
heard-by call Ack g r (Acknowledged agreed) a named same good known = written-heard call Ack r (U64 (if agreed then 0 else 1)) [] named (λ is. cc is) (lit< tt) (omega arith) refl
heard-by call (Reply shape) g r (Replied payload hs) a named same good known =
    let size : HasSize call shape (length (payload_text payload)) = subst (λ s. HasSize call s (length (payload_text payload))) (sym same) (reply-size call (shape_of call) payload hs good.0 good.1) in
    written-heard call (Reply shape) r payload hs named (λ is. cc is) size.small size.more size.sized
heard-by call _ g r _ a named same good known = absurd (cc known)
