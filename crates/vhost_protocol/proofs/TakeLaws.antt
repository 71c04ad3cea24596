-- A frontend takes from the stream what the handler served, and nothing else.
use Rattle.std.proofs.Common.{◌≡◌, ℕ, ◌^◌, ◌≤◌, ◌<◌, Bool, true, false, not, ◌&&◌, cond, List, [], ◌++◌, length, Some, None, Ok, Err, refl, sym, ◌∙◌, ap, arith, is_some, lit<}
use Rattle.std.specs.Prelude.{if◌then◌else◌, ◌==◌}
use Rattle.std.proofs.lemmas.Bool.{eq-eqb}
use Rattle.std.proofs.lemmas.List.{append-nil}
use Rattle.byteorder.specs.Numbers.{little_number-reads_back}
use Rattle.vhost_message.specs.declared.limits.TheConstants.{MAX_MSG_SIZE}
use Rattle.vhost_message.specs.Bits.{has_bit}
use Rattle.vhost_message.specs.declared.heard_req.HeardReq.{HeardReq}
use Rattle.vhost_message.specs.HeardReq.{request_of, request_number, is_named, request_of-request_number}
use Rattle.vhost_message.specs.Header.{Header}
use Rattle.vhost_message.specs.Records.{u64_at}
use Rattle.vhost_message.specs.Text.{digits}
use Rattle.vhost_protocol.specs.Stream.{Cell}
use Rattle.vhost_protocol.specs.Error.{InvalidParam, InvalidMessage}
use Rattle.vhost_protocol.specs.Written.{Payload, Empty, U64, Written, head_of, payload_text, written_cells, reply_to}
use Rattle.vhost_protocol.specs.Served.{Acknowledged, Replied, reply, cells_of}
use Rattle.vhost_protocol.specs.FrontendCall.{FrontendCall, SetMemTable, GetConfig, Frontend}
use Rattle.vhost_protocol.specs.declared.asked.Shape.{Shape}
use Rattle.vhost_protocol.specs.declared.asked.Awaited.TheVariants.{Ack, Reply}
use Rattle.vhost_protocol.specs.declared.asked.Shape.TheVariants as shape
use Rattle.vhost_protocol.specs.AnswerTable.{answered, answer}
use Rattle.vhost_protocol.specs.declared.profile.Profile.{Profile}
use Rattle.vhost_protocol.specs.declared.profile.Profile.TheVariants.{Vhost, Standard}
use Rattle.vhost_protocol.specs.ReplySplit.{Received, reply_split, sized_split}
use Rattle.vhost_protocol.specs.Take.{record_size, is_valid_record, payload_of, room, is_sized, is_known, answers, reply_cut, understood, understood_ack, take_reply, take}
use Rattle.vhost_protocol.specs.Laws.{IsShort, TakesNumber, TakesEmpty}
use Rattle.vhost_protocol.proofs.TextLaws.{request-small, sendable-valid}
use Rattle.vhost_protocol.proofs.ReplyLaws.{reply-read}
use Rattle.vhost_protocol.proofs.WholeLaws.{whole-read, sized-read}

-- a reply's header is known
pub reply-known : {H : Type 0} (r : HeardReq) (payload : Payload) (handles : List H) → is_named r ≡ true → length (payload_text payload) ≤ MAX_MSG_SIZE
    → is_known (head_of request_number (reply_to r payload handles)) ≡ true
reply-known r payload handles named small =
    ap (λ b. is_some (cond b (request_of (request_number r)) None)) (sendable-valid true false (request_number r) (length (payload_text payload)) small)
    ∙ ap (λ x. is_some x) (request_of-request_number r named)

-- a reply answers each header of its code that was sent without REPLY
pub reply-answers : {H : Type 0} (r : HeardReq) (payload : Payload) (handles : List H) (sent : Header) → is_named r ≡ true
    → sent.code ≡ request_number r → has_bit sent.flags 2 ≡ false → answers sent (head_of request_number (reply_to r payload handles)) ≡ true
reply-answers r payload handles sent named code flag =
    ap (λ x. is_some x && request_number r == sent.code && true && not (has_bit sent.flags 2)) (request_of-request_number r named)
    ∙ ap (λ b. b && true && not (has_bit sent.flags 2)) (eq-eqb (request_number r) sent.code (sym code))
    ∙ ap (λ b. not b) flag

module _ (H : Type 0) where
  -- what a reply to a request is received as
  abbrev pub the_reply : HeardReq → Payload → List H → List ℕ → List ℕ → Received H
  the_reply r payload handles body more = record { header = head_of request_number (reply_to r payload handles); body = body; payload = more; handles = handles }

  -- the one shape whose reply may have any size has nothing behind its record
  abbrev pub IsAlone : Shape → List ℕ → Type 0
  IsAlone shape.Log more = more ≡ []
  IsAlone _ more = Unit {0}

  -- A payload that the call's reply may have: a record of the shape, and as much behind it as there is room for.
  pub record IsReadable (call : FrontendCall H) (shape : Shape) (r : HeardReq) (payload : Payload) (handles : List H) : Type 0 where
    pub named : is_named r ≡ true
    pub body : List ℕ
    pub more : List ℕ
    pub text : payload_text payload ≡ body ++ more
    pub size : length body ≡ record_size shape
    pub rest : length more ≡ room call
    pub alone : IsAlone shape more
    pub small : length (payload_text payload) ≤ MAX_MSG_SIZE
    pub valid : is_valid_record shape body ≡ true
    pub read : payload_of shape body more ≡ payload
    pub sized : is_sized call (the_reply r payload handles body more) ≡ true

  -- the reply is cut from the stream as it was written
  pub split-cut : (call : FrontendCall H) (shape : Shape) (r : HeardReq) (payload : Payload) (handles : List H) (rest : List (Cell H)) (k : IsReadable call shape r payload handles)
      → reply_split is_known (record_size shape) (is_valid_record shape) (room call) (written_cells request_number (reply_to r payload handles) ++ rest)
      ≡ (Ok (the_reply r payload handles k.body k.more), rest)
  split-cut call shape r payload handles rest k =
      let w : Written HeardReq H = reply_to r payload handles in
      ap (λ n. reply_split is_known n (is_valid_record shape) (room call) (written_cells request_number w ++ rest)) (sym k.size)
      ∙ ap (λ n. reply_split is_known (length (k.body)) (is_valid_record shape) n (written_cells request_number w ++ rest)) (sym k.rest)
      ∙ reply-read request_number is_known (is_valid_record shape) w k.body k.more rest k.text (request-small r k.named) (omega (arith, k.small)) (reply-known r payload handles k.named k.small) k.valid

  -- the same by its header
  pub whole-cut : (call : FrontendCall H) (shape : Shape) (r : HeardReq) (payload : Payload) (handles : List H) (rest : List (Cell H)) (k : IsReadable call shape r payload handles)
      → sized_split is_known (record_size shape) (is_valid_record shape) (room call) (written_cells request_number (reply_to r payload handles) ++ rest)
      ≡ (Ok (the_reply r payload handles k.body k.more), rest)
  whole-cut call shape r payload handles rest k =
      let w : Written HeardReq H = reply_to r payload handles in
      ap (λ n. sized_split is_known n (is_valid_record shape) (room call) (written_cells request_number w ++ rest)) (sym k.size)
      ∙ ap (λ n. sized_split is_known (length (k.body)) (is_valid_record shape) n (written_cells request_number w ++ rest)) (sym k.rest)
      ∙ sized-read request_number is_known (is_valid_record shape) w k.body k.more rest true k.text (request-small r k.named) (omega (arith, k.small)) (reply-known r payload handles k.named k.small) k.valid

  -- the log's, of whatever size
  log-cut : (call : FrontendCall H) (r : HeardReq) (payload : Payload) (handles : List H) (rest : List (Cell H)) (k : IsReadable call shape.Log r payload handles)
      → reply_cut shape.Log Standard (room call) (written_cells request_number (reply_to r payload handles) ++ rest) ≡ (Ok (the_reply r payload handles k.body k.more), rest)
  log-cut call r payload handles rest k =
      whole-read request_number is_known (reply_to r payload handles) rest (request-small r k.named) (omega (arith, k.small)) (reply-known r payload handles k.named k.small)
      ∙ ap (λ text. (Ok (the_reply r payload handles text []), rest)) (k.text ∙ ap (λ more. k.body ++ more) k.alone ∙ append-nil (k.body))
      ∙ ap (λ more. (Ok (the_reply r payload handles k.body more), rest)) (sym k.alone)

  base-cut : (call : FrontendCall H) (r : HeardReq) (payload : Payload) (handles : List H) (rest : List (Cell H)) (k : IsReadable call shape.Log r payload handles)
      → reply_cut shape.Log Vhost (room call) (written_cells request_number (reply_to r payload handles) ++ rest) ≡ (Ok (the_reply r payload handles k.body k.more), rest)
  base-cut call r payload handles rest k =
      let w : Written HeardReq H = reply_to r payload handles in
      ap (λ more. reply_split is_known 16 (is_valid_record shape.Log) (length more) (written_cells request_number w ++ rest)) (sym k.alone)
      ∙ ap (λ n. reply_split is_known 16 (is_valid_record shape.Log) n (written_cells request_number w ++ rest)) k.rest
      ∙ split-cut call shape.Log r payload handles rest k

  -- by each profile
  pub reply-cut : (profile : Profile) (call : FrontendCall H) (shape : Shape) (r : HeardReq) (payload : Payload) (handles : List H) (rest : List (Cell H)) (k : IsReadable call shape r payload handles)
      → reply_cut shape profile (room call) (written_cells request_number (reply_to r payload handles) ++ rest) ≡ (Ok (the_reply r payload handles k.body k.more), rest)
  reply-cut Vhost call shape.Log r payload handles rest k = base-cut call r payload handles rest k
  reply-cut Vhost call _ r payload handles rest k = split-cut call _ r payload handles rest k
  reply-cut Standard call shape.Log r payload handles rest k = log-cut call r payload handles rest k
  reply-cut Standard call _ r payload handles rest k = whole-cut call _ r payload handles rest k

  -- a reply that answers is understood as what was served
  pub reply-understood : (call : FrontendCall H) (shape : Shape) (sent : Header) (f : Frontend) (r : HeardReq) (payload : Payload) (handles : List H) (k : IsReadable call shape r payload handles)
      → sent.code ≡ request_number r → has_bit sent.flags 2 ≡ false
      → understood call (Reply shape) sent f (Ok (the_reply r payload handles k.body k.more)) ≡ answer call (Reply shape) f (Replied payload handles)
  reply-understood call shape sent f r payload handles k code flag =
      ap (λ b. cond (b && is_sized call (the_reply r payload handles k.body k.more)) (answer call (Reply shape) f (Replied (payload_of shape k.body k.more) handles)) (Some (answered f (Err InvalidMessage)))) (reply-answers r payload handles sent k.named code flag)
      ∙ ap (λ b. cond b (answer call (Reply shape) f (Replied (payload_of shape k.body k.more) handles)) (Some (answered f (Err InvalidMessage)))) k.sized
      ∙ ap (λ p. answer call (Reply shape) f (Replied p handles)) k.read

  -- every call but one reads its reply by the shape alone
  abbrev pub IsPlainly : FrontendCall H → Type 0
  IsPlainly (GetConfig offset size flags buffer) = ⊥
  IsPlainly _ = Unit {0}

  -- what is awaited by its shape alone
  plainly : (call : FrontendCall H) (shape : Shape) (sent : Header) (f : Frontend) (cells : List (Cell H)) → IsPlainly call
      → let cut = reply_cut shape f.profile (room call) cells in take_reply call shape sent f cells ≡ (understood call (Reply shape) sent f cut.0, cut.1)
  plainly (GetConfig offset size flags buffer) shape sent f cells plain = absurd plain
  plainly _ shape sent f cells plain = refl

  -- the reply that was served is taken, and what follows it is left
  pub take-replied : (call : FrontendCall H) (shape : Shape) (sent : Header) (f : Frontend) (r : HeardReq) (payload : Payload) (handles : List H) (rest : List (Cell H))
      → IsPlainly call → IsReadable call shape r payload handles → sent.code ≡ request_number r → has_bit sent.flags 2 ≡ false
      → take call (Reply shape) sent f (cells_of request_number (reply r (Replied payload handles)) ++ rest) ≡ (answer call (Reply shape) f (Replied payload handles), rest)
  take-replied call shape sent f r payload handles rest plain k code flag =
      let cells : List (Cell H) = written_cells request_number (reply_to r payload handles) ++ rest in
      ap (λ b. cond b (Some (answered f (Err InvalidParam)), cells) (take_reply call shape sent f cells)) flag
      ∙ plainly call shape sent f cells plain
      ∙ ap (λ cut. (understood call (Reply shape) sent f cut.0, cut.1)) (reply-cut f.profile call shape r payload handles rest k)
      ∙ ap (λ x. (x, rest)) (reply-understood call shape sent f r payload handles k code flag)

  -- an acknowledgement is cut from the stream as it was written
  ack-cut : (profile : Profile) (r : HeardReq) (agreed : Bool) (rest : List (Cell H)) → is_named r ≡ true
      → reply_cut shape.U64 profile 0 (cells_of request_number (reply r (Acknowledged agreed)) ++ rest) ≡ (Ok (the_reply r (U64 (if agreed then 0 else 1)) [] (digits 8 (if agreed then 0 else 1)) []), rest)
  ack-cut Vhost r agreed rest named =
      let n : ℕ = if agreed then 0 else 1 in
      reply-read request_number is_known (is_valid_record shape.U64) (reply_to r (U64 n) []) (digits 8 n) [] rest refl (request-small r named) (lit< tt) (reply-known {H = H} r (U64 n) [] named (omega arith)) refl
  ack-cut Standard r agreed rest named =
      let n : ℕ = if agreed then 0 else 1 in
      sized-read request_number is_known (is_valid_record shape.U64) (reply_to r (U64 n) []) (digits 8 n) [] rest true refl (request-small r named) (lit< tt) (reply-known {H = H} r (U64 n) [] named (omega arith)) refl

  ack-told : (call : FrontendCall H) (f : Frontend) (agreed : Bool)
      → answer call Ack f (Acknowledged (u64_at 0 (digits 8 (if agreed then 0 else 1)) == 0)) ≡ answer call Ack f (Acknowledged agreed)
  ack-told call f true = refl
  ack-told call f false = refl

  -- an acknowledgement is taken, and what follows it is left
  pub take-acknowledged : (call : FrontendCall H) (sent : Header) (f : Frontend) (r : HeardReq) (agreed : Bool) (rest : List (Cell H))
      → sent.code ≡ request_number r → has_bit sent.flags 2 ≡ false → is_named r ≡ true
      → take call Ack sent f (cells_of request_number (reply r (Acknowledged agreed)) ++ rest) ≡ (answer call Ack f (Acknowledged agreed), rest)
  take-acknowledged call sent f r agreed rest code flag named =
      let n : ℕ = if agreed then 0 else 1 in
      ap (λ cut. (understood call Ack sent f cut.0, cut.1)) (ack-cut f.profile r agreed rest named)
      ∙ ap (λ b. (cond b (understood_ack call f (the_reply r (U64 n) [] (digits 8 n) [])) (Some (answered f (Err InvalidMessage))), rest)) (reply-answers {H = H} r (U64 n) [] sent named code flag)
      ∙ ap (λ x. (x, rest)) (ack-told call f agreed)

  -- ---- replies without payload

  pub short-plainly : (call : FrontendCall H) → IsShort call → IsPlainly call
  short-plainly (GetConfig offset size flags buffer) short = absurd short
  short-plainly _ short = tt

  pub short-room : (call : FrontendCall H) → IsShort call → 0 ≡ room call
  short-room (SetMemTable infos) short = absurd short
  short-room (GetConfig offset size flags buffer) short = absurd short
  short-room _ short = refl

  pub short-sized : (call : FrontendCall H) (r : Received H) → IsShort call → is_sized call r ≡ true
  short-sized (SetMemTable infos) r short = absurd short
  short-sized (GetConfig offset size flags buffer) r short = absurd short
  short-sized _ r short = refl

  pub readable-number : (call : FrontendCall H) (r : HeardReq) (n : ℕ) (handles : List H) → IsShort call → n < 2 ^ 64 → is_named r ≡ true → IsReadable call shape.U64 r (U64 n) handles
  readable-number call r n handles short fits named = record {
    named = named;
    body = digits 8 n;
    more = [];
    text = refl;
    size = refl;
    rest = short-room call short;
    alone = tt;
    small = lit< tt;
    valid = refl;
    read = ap (λ k. U64 k) (little_number-reads_back 8 n [] fits);
    sized = short-sized call (the_reply r (U64 n) handles (digits 8 n) []) short;
  }

  pub readable-empty : (call : FrontendCall H) (r : HeardReq) (handles : List H) → IsShort call → is_named r ≡ true → IsReadable call shape.Empty r Empty handles
  readable-empty call r handles short named = record {
    named = named;
    body = [];
    more = [];
    text = refl;
    size = refl;
    rest = short-room call short;
    alone = tt;
    small = omega arith;
    valid = refl;
    read = refl;
    sized = short-sized call (the_reply r Empty handles [] []) short;
  }

  pub take-number : TakesNumber H
  take-number call sent f r short of_r n handles fits rest =
      take-replied call shape.U64 sent f r (U64 n) handles rest (short-plainly call short) (readable-number call r n handles short fits of_r.2) of_r.0 of_r.1

  pub take-empty : TakesEmpty H
  take-empty call sent f r short of_r handles rest =
      take-replied call shape.Empty sent f r Empty handles rest (short-plainly call short) (readable-empty call r handles short of_r.2) of_r.0 of_r.1
