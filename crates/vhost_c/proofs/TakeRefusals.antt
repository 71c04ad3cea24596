-- Which errors an answer may be.
use Rattle.std.proofs.Common.{◌≡◌, ℕ, ◌+◌, Bool, true, false, ◌&&◌, List, [], ◌∷◌, ◌++◌, length, take as front, drop, Option, Some, None, Result, Ok, Err, inl, inr, refl, sym, subst}
use Rattle.std.specs.Prelude.{⊤, ◌==◌, nat_le, not, if◌then◌else◌}
use Rattle.vhost_message.specs.declared.limits.TheConstants.{MSG_HEADER_SIZE, VHOST_USER_MAX_VRINGS}
use Rattle.vhost_message.specs.declared.error.Error as declared
use Rattle.vhost_message.specs.declared.postcopy.PostcopyState.TheVariants.{End as Over}
use Rattle.vhost_message.specs.declared.records.config.VhostUserConfig.{VhostUserConfig}
use Rattle.vhost_message.specs.declared.records.inflight.VhostUserInflight.{VhostUserInflight}
use Rattle.vhost_message.specs.Bits.{has_bit}
use Rattle.vhost_message.specs.Header.{Header, header_of}
use Rattle.vhost_message.specs.Records.{u64_at}
use Rattle.vhost_protocol.specs.AnswerTable.{Answered, answered, alone, with_one, one_or_none, only_if, config_reply, state_reply, inflight_reply, end_reply, changed, from_reply, answer}
use Rattle.vhost_protocol.specs.Ask.{config}
use Rattle.vhost_protocol.specs.Error.{Error, InvalidParam, InvalidMessage, PartialMessage, IncorrectFds, BackendInternalError, seen}
use Rattle.vhost_protocol.specs.FrontendCall.{FrontendCall, GetQueueNum, GetConfig, Value, Nothing, Number, ConfigOf, InflightOf, StateHandle, Frontend}
use Rattle.vhost_protocol.specs.Profile.{is_standard}
use Rattle.vhost_protocol.specs.ReplySplit.{Received, received, reply_split, bare_or_reply, not_bare, is_bare_reply, whole_split, has_size, has_config_size, is_right, apart, parted, then_made, is_empty_reply, parted_or_none}
use Rattle.vhost_protocol.specs.Served.{Acknowledged}
use Rattle.vhost_protocol.specs.Session.{is_listen}
use Rattle.vhost_protocol.specs.Split.{Splits}
use Rattle.vhost_protocol.specs.Stream.{Cell, first_handles, bytes, is_shorter}
use Rattle.vhost_protocol.specs.Take.{is_known, answers, is_sized, is_valid_record, record_size, payload_of, room, reply_cut, config_cut, understood, understood_ack, understood_config, take, take_reply, take_config}
use Rattle.vhost_protocol.specs.Written.{Payload, Empty, U64, ConfigBytes}
use Rattle.vhost_protocol.specs.declared.asked.Awaited.{Awaited}
use Rattle.vhost_protocol.specs.declared.asked.Awaited.TheVariants.{Nobody, Ack, Reply}
use Rattle.vhost_protocol.specs.declared.asked.Shape.{Shape}
use Rattle.vhost_protocol.specs.declared.asked.Shape.TheVariants as shape
use Rattle.vhost_protocol.specs.declared.profile.Profile.{Profile}
use Rattle.vhost_protocol.specs.declared.profile.Profile.TheVariants.{Vhost, Standard}
use Rattle.vhost_link.specs.declared.plain.PlainHandle.{PlainHandle}
use Rattle.vhost_frontend_core.specs.Taking.{unread, read}
use Rattle.vhost_frontend_core.specs.ValueHalves.{TakesResult}
use Rattle.vhost_c_common.specs.Number.{error_number}
use Rattle.vhost_c_common.specs.View.{End, IsUncut}
use Rattle.vhost_c_common.proofs.Wants.{IsWant, list_away, by_link, broke_before, failed}
use Rattle.vhost_c.specs.Calls.{is_named}
use Rattle.vhost_c.specs.Program.{refusals}
use Rattle.vhost_c.specs.declared.program.ProgramCall.TheVariants.{Take}
use Rattle.vhost_c.proofs.AskRefusals.{seen_number, is-seen}

-- a number that taking may answer
abbrev pub IsOfTake : ℕ → Type 0
IsOfTake n = is_named (refusals Take) n ≡ true

abbrev Fine : {A : Type 0} → Result A Error → Type 0
Fine (Ok a) = ⊤
Fine (Err e) = IsOfTake (seen_number e)

either-error : (b : Bool) (d e : Error) → IsOfTake (seen_number d) → IsOfTake (seen_number e) → IsOfTake (seen_number (if b then d else e))
either-error true d e p q = p
either-error false d e p q = q

ended-fine : (H : Type 0) (f g : Frontend) (b : Bool) → Fine {A = Value H} (if b then answered f (Ok Nothing) else answered g (Err BackendInternalError)).result
ended-fine H f g true = tt
ended-fine H f g false = refl

module _ {H : Type 0} where
  -- ---- the table's words

  alone-fine : (hs : List H) (r : Result (Value H) Error) → Fine r → Fine (alone hs r)
  alone-fine [] r n = n
  alone-fine (h ∷ hs) r n = refl

  only-fine : (b : Bool) (e : Error) (v : Value H) → IsOfTake (seen_number e) → Fine (only_if b e v)
  only-fine true e v n = tt
  only-fine false e v n = n

  unless-fine : (b : Bool) (e : Error) (r : Result (Value H) Error) → IsOfTake (seen_number e) → Fine r → Fine (if b then Err e else r)
  unless-fine true e r p q = p
  unless-fine false e r p q = q

  one-fine : (hs : List H) (value : H → Value H) → Fine (with_one hs value)
  one-fine [] value = refl
  one-fine (h ∷ []) value = tt
  one-fine (h ∷ g ∷ hs) value = refl

  perhaps-fine : (f : Frontend) (hs : List H) (value : H → Value H) → Fine (one_or_none f hs value)
  perhaps-fine f [] value = either-error (is_standard f.profile) BackendInternalError InvalidMessage refl refl
  perhaps-fine f (h ∷ hs) value = one-fine (h ∷ hs) value

  inflight-fine : (f : Frontend) (i : VhostUserInflight) (hs : List H) → Fine (inflight_reply f i hs)
  inflight-fine f i [] = either-error (is_standard f.profile && i.mmap_size == 0) BackendInternalError InvalidMessage refl refl
  inflight-fine f i (h ∷ hs) = one-fine (h ∷ hs) (InflightOf i)

  changed-fine : (f g : Frontend) (r : Result (Value H) Error) → Fine r → Fine (changed f g r).result
  changed-fine f g (Ok v) n = tt
  changed-fine f g (Err e) n = n

  state-fine : (n : ℕ) (hs : List H) → Fine (state_reply n hs)
  state-fine n [] = only-fine (n == 0x100) BackendInternalError (StateHandle None) refl
  state-fine n (h ∷ []) = only-fine (n == 0) BackendInternalError (StateHandle (Some h)) refl
  state-fine n (h ∷ g ∷ hs) = either-error (n == 0) IncorrectFds BackendInternalError refl refl

  end-fine : (f : Frontend) (n : ℕ) (hs : List H) → Fine (end_reply f n hs).result
  end-fine f n [] = ended-fine H (record f { postcopy = Over }) (if is_listen f.postcopy then record f { postcopy = Over } else f) (n == 0)
  end-fine f n (h ∷ hs) = refl

  config-fine : (asked : VhostUserConfig) (buffer : List ℕ) (hs : List H) (c : VhostUserConfig) (bs : List ℕ) → Fine (config_reply asked buffer hs c bs)
  config-fine asked [] hs c bs = refl
  config-fine asked (b ∷ buffer) hs c bs =
      let empty : Bool = c.size == 0 && length bs == 0 in
      let same : Bool = c.offset == asked.offset && c.size == asked.size && c.size == length (b ∷ buffer) in
      alone-fine hs (if empty then Err BackendInternalError else only_if same InvalidMessage (ConfigOf c bs)) (unless-fine empty BackendInternalError (only_if same InvalidMessage (ConfigOf c bs)) refl (only-fine same InvalidMessage (ConfigOf c bs) refl))

  abbrev SomeFine : Option (Answered H) → Type 0
  SomeFine None = ⊤
  SomeFine (Some a) = Fine a.result

  queues-fine : (f : Frontend) (n : ℕ) (hs : List H) (b : Bool) → Fine {A = Value H} (if b then changed f (record f { max_queue_num = n }) (alone hs (Ok (Number n))) else answered f (Err InvalidMessage)).result
  queues-fine f n hs true = changed-fine f _ _ (alone-fine hs _ tt)
  queues-fine f n hs false = refl

  area-fine : (b : Bool) (r : Result (Value H) Error) → Fine r → Fine (if b then r else Err InvalidMessage)
  area-fine true r n = n
  area-fine false r n = refl

  ruleset replies = (alone-fine, only-fine, perhaps-fine, inflight-fine, changed-fine, state-fine, end-fine, area-fine)

  reply-fine : (call : FrontendCall H) (f : Frontend) (payload : Payload) (hs : List H) → SomeFine (from_reply call f payload hs)
  reply-fine (GetConfig offset size flags buffer) f (ConfigBytes c bs) hs = config-fine (config offset size flags) buffer hs c bs
  reply-fine GetQueueNum f (U64 n) hs = queues-fine f n hs (nat_le n VHOST_USER_MAX_VRINGS)
  reply-fine _ f Empty hs = search replies
  reply-fine _ f payload hs = search replies

  -- ---- what was received

  agreed-fine : (call : FrontendCall H) (f : Frontend) (agreed : Bool) → SomeFine (answer call Ack f (Acknowledged agreed))
  agreed-fine call f true = tt
  agreed-fine call f false = refl

  if-fine : (b : Bool) (x : Option (Answered H)) (a : Answered H) → SomeFine x → Fine a.result → SomeFine (if b then x else Some a)
  if-fine true x a y n = y
  if-fine false x a y n = n

  ack-fine : (call : FrontendCall H) (f : Frontend) (r : Received H) → SomeFine (understood_ack call f r)
  ack-fine call f r = if-fine (length r.handles == 0) _ (answered f (Err InvalidMessage)) (agreed-fine call f (u64_at 0 r.body == 0)) refl

  understood-fine : (call : FrontendCall H) (awaited : Awaited) (sent : Header) (f : Frontend) (r : Result (Received H) Error) → Fine r → SomeFine (understood call awaited sent f r)
  understood-fine call awaited sent f (Err e) n = n
  understood-fine call Nobody sent f (Ok r) n = tt
  understood-fine call Ack sent f (Ok r) n = if-fine (answers sent r.header) _ (answered f (Err InvalidMessage)) (ack-fine call f r) refl
  understood-fine call (Reply s) sent f (Ok r) n = if-fine (answers sent r.header && is_sized call r) _ (answered f (Err InvalidMessage)) (reply-fine call f (payload_of s r.body r.payload) r.handles) refl

  -- the first of a pair
  abbrev Parted : {A : Type 0} → Result A Error × List (Cell H) → Type 0
  Parted x = Fine x.0

  either-fine : {A : Type 0} (b : Bool) (x y : Result A Error × List (Cell H)) → Parted x → Parted y → Parted (if b then x else y)
  either-fine true x y p q = p
  either-fine false x y p q = q

  received-fine : (h : Header) (valid : List ℕ → Bool) (hs : List H) (body : List ℕ) (n : ℕ) (cells : List (Cell H)) → Parted (received is_known h valid hs body n cells)
  unfolding received
  received-fine h valid hs body n cells = either-fine (is_known h && valid body) (Ok (record { header = h; body = body; payload = bytes (front n cells); handles = hs }), drop n cells) (Err InvalidMessage, drop n cells) tt refl

  cut-fine : (size : ℕ) (valid : List ℕ → Bool) (n : ℕ) (cells : List (Cell H)) → Parted (reply_split is_known size valid n cells)
  unfolding reply_split
  cut-fine size valid n cells =
      let h : Header = header_of (bytes (front MSG_HEADER_SIZE cells)) in
      let body : List ℕ = bytes (front size (drop MSG_HEADER_SIZE cells)) in
      let rest : List (Cell H) = drop size (drop MSG_HEADER_SIZE cells) in
      either-fine (is_shorter (MSG_HEADER_SIZE + size) cells) (Err PartialMessage, []) (received is_known h valid (first_handles cells) body n rest) refl (received-fine h valid (first_handles cells) body n rest)

  whole-fine : (is_awaited : Header → Bool) (cells : List (Cell H)) → Parted (whole_split is_awaited cells)
  unfolding whole_split
  whole-fine is_awaited cells =
      let h : Header = header_of (bytes (front MSG_HEADER_SIZE cells)) in
      let behind : List (Cell H) = drop MSG_HEADER_SIZE cells in
      let found : Result (Received H) Error × List (Cell H) = (Ok (record { header = h; body = bytes (front h.size behind); payload = []; handles = first_handles cells }), drop h.size behind) in
      let known : Result (Received H) Error × List (Cell H) = if is_shorter h.size behind then (Err PartialMessage, []) else found in
      either-fine (is_shorter MSG_HEADER_SIZE cells) (Err PartialMessage, []) (if not (is_awaited h) then (Err InvalidMessage, behind) else known) refl
      (either-fine (not (is_awaited h)) (Err InvalidMessage, behind) known refl (either-fine (is_shorter h.size behind) (Err PartialMessage, []) found refl tt))

  parted-fine : (size : ℕ) (valid : List ℕ → Bool) (n : ℕ) (x : Result (Received H) Error × List (Cell H)) → Parted x → Parted (then_made is_known (parted is_known size valid n) x)
  parted-fine size valid n (Ok r, rest) fine = go (is_right is_known size valid n r)
    where
      go : (b : Bool) → Fine (if b then Ok (apart is_known size r) else Err InvalidMessage)
      go true = tt
      go false = refl
  parted-fine size valid n (Err e, rest) fine = fine

  -- by each profile
  by-profile : (s : Shape) (p : Profile) (n : ℕ) (cells : List (Cell H)) → Parted (reply_cut s p n cells)
  by-profile shape.Log Vhost n cells = cut-fine 16 (is_valid_record shape.Log) 0 cells
  by-profile shape.Log Standard n cells = whole-fine is_known cells
  by-profile s Vhost n cells = cut-fine (record_size s) (is_valid_record s) n cells
  by-profile s Standard n cells = parted-fine (record_size s) (is_valid_record s) n (whole_split (has_size is_known (record_size s + n)) cells) (whole-fine (has_size is_known (record_size s + n)) cells)

  none-fine : (call : FrontendCall H) (sent : Header) (f : Frontend) (n : ℕ) (x : Result (Received H) Error × List (Cell H)) → Parted x
      → SomeFine (understood_config call sent f (then_made is_known (parted_or_none is_known (answers sent) (is_valid_record shape.Config) n) x).0)
  none-fine call sent f n (Ok r, rest) fine = go (is_empty_reply is_known (answers sent) r) (is_right is_known 12 (is_valid_record shape.Config) n r)
    where
      go : (a b : Bool) → SomeFine (understood_config call sent f (if a then Ok None else if b then Ok (Some (apart is_known 12 r)) else Err InvalidMessage))
      go true b = refl
      go false true = understood-fine call (Reply shape.Config) sent f (Ok (apart is_known 12 r)) tt
      go false false = refl
  none-fine call sent f n (Err e, rest) fine = fine

  bare-fine : (call : FrontendCall H) (sent : Header) (f : Frontend) (x : Result (Received H) Error × List (Cell H)) → Parted x → SomeFine (understood_config call sent f (not_bare is_known x).0)
  bare-fine call sent f (Ok r, rest) fine = understood-fine call (Reply shape.Config) sent f (Ok r) tt
  bare-fine call sent f (Err e, rest) fine = fine

  either-taken : (call : FrontendCall H) (sent : Header) (f : Frontend) (b : Bool) (x y : Result (Option (Received H)) Error × List (Cell H)) → SomeFine (understood_config call sent f x.0) → SomeFine (understood_config call sent f y.0)
      → (λ (z : Result (Option (Received H)) Error × List (Cell H)). SomeFine (understood_config call sent f z.0)) (if b then x else y)
  either-taken call sent f true x y p q = p
  either-taken call sent f false x y p q = q

  bytes-taken : (call : FrontendCall H) (p : Profile) (n : ℕ) (sent : Header) (f : Frontend) (cells : List (Cell H)) → SomeFine (understood_config call sent f (config_cut p sent n cells).0)
  unfolding bare_or_reply
  bytes-taken call Standard n sent f cells = none-fine call sent f n (whole_split (has_config_size is_known n) cells) (whole-fine (has_config_size is_known n) cells)
  bytes-taken call Vhost n sent f cells =
      let split : Result (Received H) Error × List (Cell H) = reply_split is_known 12 (is_valid_record shape.Config) n cells in
      either-taken call sent f (is_shorter (MSG_HEADER_SIZE + 12) cells) (Err PartialMessage, []) (if is_bare_reply is_known (answers sent) cells then (Ok None, drop (MSG_HEADER_SIZE + 12) cells) else not_bare is_known split) refl
      (either-taken call sent f (is_bare_reply is_known (answers sent) cells) (Ok None, drop (MSG_HEADER_SIZE + 12) cells) (not_bare is_known split) refl (bare-fine call sent f split (cut-fine 12 (is_valid_record shape.Config) n cells)))

  config-taken : (call : FrontendCall H) (buffer : List ℕ) (sent : Header) (f : Frontend) (cells : List (Cell H)) → SomeFine (take_config call buffer sent f cells).0
  config-taken call [] sent f cells = refl
  config-taken call (b ∷ buffer) sent f cells = bytes-taken call f.profile (length (b ∷ buffer)) sent f cells

  reply-taken : (call : FrontendCall H) (s : Shape) (sent : Header) (f : Frontend) (cells : List (Cell H)) → SomeFine (take_reply call s sent f cells).0
  reply-taken (GetConfig offset size flags buffer) s sent f cells = config-taken (GetConfig offset size flags buffer) buffer sent f cells
  reply-taken call s sent f cells = understood-fine call (Reply s) sent f _ (by-profile s f.profile (room call) cells)

  either : (b : Bool) (x y : Option (Answered H) × List (Cell H)) → SomeFine x.0 → SomeFine y.0 → (λ (z : Option (Answered H) × List (Cell H)). SomeFine z.0) (if b then x else y)
  either true x y p q = p
  either false x y p q = q

  taken-fine : (call : FrontendCall H) (awaited : Awaited) (sent : Header) (f : Frontend) (cells : List (Cell H)) → SomeFine (take call awaited sent f cells).0
  taken-fine call Nobody sent f cells = tt
  taken-fine call Ack sent f cells = understood-fine call Ack sent f _ (by-profile shape.U64 f.profile 0 cells)
  taken-fine call (Reply s) sent f cells = either (has_bit sent.flags 2) (Some (answered f (Err InvalidParam)), cells) (take_reply call s sent f cells) refl (reply-taken call s sent f cells)

  -- what was read of a stream
  told : (call : FrontendCall H) (awaited : Awaited) (sent : Header) (f f' : Frontend) (result : Result (Value H) Error) (cells : List (Cell H)) (ended : Bool) → Splits (take call awaited sent f) cells ended (Some (answered f' result)) → Fine result
  told call awaited sent f f' result cells true splits = subst (λ x. SomeFine x.0) splits.0 (taken-fine call awaited sent f cells)
  told call awaited sent f f' result cells false splits = subst (λ x. SomeFine x.0) (splits []) (taken-fine call awaited sent f (cells ++ []))

of-want : (old : End) (e : declared.Error) → IsWant old e → IsOfTake (seen_number (seen e))
of-want old _ (list_away away) = refl
of-want old _ by_link = refl
of-want old _ (broke_before broken) = refl

-- the answer of a call, if it is an error, is one of them
answer-fine : (call : FrontendCall PlainHandle) (awaited : Awaited) (sent : Header) (old : End) (f : Frontend) (result : Result (Value PlainHandle) Error) (new : End) (f' : Frontend) → TakesResult call awaited sent old f result new f' → IsUncut old → Fine result
answer-fine call awaited sent old f result new f' (inl (unread is)) u = subst (λ x. SomeFine x.0) (is []) (taken-fine call awaited sent f [])
answer-fine call awaited sent old f result new f' (inl (read h)) u = told call awaited sent f f' result h.hears.cells h.hears.ended h.hears.splits
answer-fine call awaited sent old f result new f' (inr x) u = subst (λ r. Fine r) (sym x.2) (of-want old x.1 (failed old new true x.1 x.3 u).1)

pub take-refused : (call : FrontendCall PlainHandle) (awaited : Awaited) (sent : Header) (old : End) (f : Frontend) (e : declared.Error) (new : End) (f' : Frontend) → TakesResult call awaited sent old f (Err (seen e)) new f' → IsUncut old → IsOfTake (error_number e)
take-refused call awaited sent old f e new f' takes u = subst IsOfTake (is-seen e) (answer-fine call awaited sent old f (Err (seen e)) new f' takes u)
