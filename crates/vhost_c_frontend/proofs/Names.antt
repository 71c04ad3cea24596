-- An answer names no handle but those that came on the first byte of its reply.
use Rattle.std.proofs.Common.{◌≡◌, ℕ, zero, suc, ◌+◌, Bool, true, false, ◌&&◌, List, [], ◌∷◌, ◌++◌, length, take as front, drop, replicate, append_assoc, Option, Some, None, Result, Ok, Err, inl, inr, refl, sym, ap, subst, ◌∙◌}
use Rattle.std.specs.Prelude.{⊤, ◌==◌, nat_le, not, if◌then◌else◌}
use Rattle.std.proofs.lemmas.List.{append-nil}
use Rattle.vhost_message.specs.declared.limits.TheConstants.{MSG_HEADER_SIZE, VHOST_USER_MAX_VRINGS}
use Rattle.vhost_message.specs.declared.postcopy.PostcopyState.TheVariants.{End as Over}
use Rattle.vhost_message.specs.declared.records.config.VhostUserConfig.{VhostUserConfig}
use Rattle.vhost_message.specs.declared.records.inflight.VhostUserInflight.{VhostUserInflight}
use Rattle.vhost_message.specs.Bits.{has_bit}
use Rattle.vhost_message.specs.Header.{Header, header_of}
use Rattle.vhost_message.specs.Records.{u64_at}
use Rattle.vhost_protocol.specs.AnswerTable.{Answered, answered, plain_value, alone, with_one, one_or_none, only_if, config_reply, state_reply, inflight_reply, end_reply, changed, from_reply, answer}
use Rattle.vhost_protocol.specs.Ask.{config}
use Rattle.vhost_protocol.specs.Error.{Error, InvalidParam, InvalidMessage, PartialMessage, BackendInternalError}
use Rattle.vhost_protocol.specs.FrontendCall.{FrontendCall, GetQueueNum, SetMemTable, GetConfig, AddMemRegion, Value, Nothing, Number, ConfigOf, InflightOf, StateHandle, Frontend}
use Rattle.vhost_protocol.specs.ReplySplit.{Received, received, reply_split, bare_or_reply, not_bare, is_bare_reply, whole_split, has_size, has_config_size, is_right, apart, parted, then_made, is_empty_reply, parted_or_none}
use Rattle.vhost_protocol.specs.Served.{Acknowledged}
use Rattle.vhost_protocol.specs.Session.{is_listen}
use Rattle.vhost_protocol.specs.Split.{Splits}
use Rattle.vhost_protocol.specs.Stream.{Cell, Item, End, items, heard, first_handles, bytes, is_shorter}
use Rattle.vhost_protocol.specs.Take.{is_known, answers, is_sized, is_valid_record, record_size, payload_of, room, reply_cut, config_cut, understood, understood_ack, understood_config, take, take_reply, take_config}
use Rattle.vhost_protocol.specs.Written.{Payload, Empty, U64, ConfigBytes}
use Rattle.vhost_protocol.specs.declared.asked.Awaited.{Awaited}
use Rattle.vhost_protocol.specs.declared.profile.Profile.{Profile}
use Rattle.vhost_protocol.specs.declared.profile.Profile.TheVariants.{Vhost, Standard}
use Rattle.vhost_protocol.specs.declared.asked.Awaited.TheVariants.{Nobody, Ack, Reply}
use Rattle.vhost_protocol.specs.declared.asked.Shape.{Shape}
use Rattle.vhost_protocol.specs.declared.asked.Shape.TheVariants as shape
use Rattle.vhost_link.specs.Ends.{Ends}
use Rattle.vhost_link.specs.Mem.{HandsFront}
use Rattle.vhost_link.specs.declared.plain.PlainHandle.{PlainHandle}
use Rattle.vhost_connection.specs.Memory.{stream, TalksLaw}
use Rattle.vhost_connection.specs.Talk.{State}
use Rattle.vhost_frontend_core.specs.Taking.{unread, read}
use Rattle.vhost_frontend_core.specs.ValueHalves.{TakesResult}
use Rattle.vhost_c_frontend.specs.Names.{handles_of, Names}

module _ {H : Type 0} where
  -- ---- the table's words

  alone-named : (hs came : List H) (r : Result (Value H) Error) → Names came r → Names came (alone hs r)
  alone-named [] came r n = n
  alone-named (h ∷ hs) came r n = tt

  only-named : (came : List H) (b : Bool) (e : Error) (v : Value H) → Names came (Ok v) → Names came (only_if b e v)
  only-named came true e v n = n
  only-named came false e v n = tt

  unless-named : (came : List H) (b : Bool) (e : Error) (r : Result (Value H) Error) → Names came r → Names came (if b then Err e else r)
  unless-named came true e r n = tt
  unless-named came false e r n = n

  one-named : (hs : List H) (value : H → Value H) → ((h : H) → handles_of (value h) ≡ h ∷ []) → Names hs (with_one hs value)
  one-named [] value is = tt
  one-named (h ∷ []) value is = inr (is h)
  one-named (h ∷ g ∷ hs) value is = tt

  perhaps-named : (f : Frontend) (hs : List H) (value : H → Value H) → ((h : H) → handles_of (value h) ≡ h ∷ []) → Names hs (one_or_none f hs value)
  perhaps-named f [] value is = tt
  perhaps-named f (h ∷ hs) value is = one-named (h ∷ hs) value is

  inflight-named : (f : Frontend) (i : VhostUserInflight) (hs : List H) → Names hs (inflight_reply f i hs)
  inflight-named f i [] = tt
  inflight-named f i (h ∷ hs) = one-named (h ∷ hs) (InflightOf i) (λ h. refl)

  changed-named : (came : List H) (f g : Frontend) (r : Result (Value H) Error) → Names came r → Names came (changed f g r).result
  changed-named came f g (Ok v) n = n
  changed-named came f g (Err e) n = tt

  state-named : (n : ℕ) (hs : List H) → Names hs (state_reply n hs)
  state-named n [] = only-named [] (n == 0x100) BackendInternalError (StateHandle None) (inl refl)
  state-named n (h ∷ []) = only-named (h ∷ []) (n == 0) BackendInternalError (StateHandle (Some h)) (inr refl)
  state-named n (h ∷ g ∷ hs) = tt

  ended-named : (f g : Frontend) (came : List H) (b : Bool) → Names came (if b then answered f (Ok Nothing) else answered g (Err BackendInternalError)).result
  ended-named f g came true = inl refl
  ended-named f g came false = tt

  end-named : (f : Frontend) (n : ℕ) (hs : List H) → Names hs (end_reply f n hs).result
  end-named f n [] = ended-named (record f { postcopy = Over }) (if is_listen f.postcopy then record f { postcopy = Over } else f) [] (n == 0)
  end-named f n (h ∷ hs) = tt

  config-named : (asked : VhostUserConfig) (buffer : List ℕ) (hs : List H) (c : VhostUserConfig) (bs : List ℕ) → Names hs (config_reply asked buffer hs c bs)
  config-named asked [] hs c bs = tt
  config-named asked (b ∷ buffer) hs c bs =
      let empty : Bool = c.size == 0 && length bs == 0 in
      let same : Bool = c.offset == asked.offset && c.size == asked.size && c.size == length (b ∷ buffer) in
      alone-named hs hs (if empty then Err BackendInternalError else only_if same InvalidMessage (ConfigOf c bs)) (unless-named hs empty BackendInternalError (only_if same InvalidMessage (ConfigOf c bs)) (only-named hs same InvalidMessage (ConfigOf c bs) (inl refl)))

  -- an answer, if there is one, names so
  abbrev SomeNames : List H → Option (Answered H) → Type 0
  SomeNames came None = ⊤
  SomeNames came (Some a) = Names came a.result

  queues-named : (f : Frontend) (n : ℕ) (hs : List H) (b : Bool) → Names hs (if b then changed f (record f { max_queue_num = n }) (alone hs (Ok (Number n))) else answered f (Err InvalidMessage)).result
  queues-named f n hs true = changed-named hs f _ _ (alone-named hs hs _ (inl refl))
  queues-named f n hs false = tt

  area-named : (hs : List H) (b : Bool) (r : Result (Value H) Error) → Names hs r → Names hs (if b then r else Err InvalidMessage)
  area-named hs true r n = n
  area-named hs false r n = tt

  nothing-named : (came : List H) (v : Value H) → handles_of v ≡ [] → Names came (Ok v)
  nothing-named came v is = inl is

  ruleset replies = (nothing-named, changed-named, alone-named, only-named, perhaps-named, area-named, inflight-named, state-named, end-named)

  reply-named : (call : FrontendCall H) (f : Frontend) (payload : Payload) (hs : List H) → SomeNames hs (from_reply call f payload hs)
  reply-named (GetConfig offset size flags buffer) f (ConfigBytes c bs) hs = config-named (config offset size flags) buffer hs c bs
  reply-named GetQueueNum f (U64 n) hs = queues-named f n hs (nat_le n VHOST_USER_MAX_VRINGS)
  reply-named _ f Empty hs = search replies
  reply-named _ f payload hs = search replies

  -- ---- what was received

  plain-named : (call : FrontendCall H) → handles_of (plain_value call) ≡ []
  plain-named (SetMemTable infos) = refl
  plain-named (AddMemRegion info) = refl
  plain-named _ = refl

  agreed-named : (call : FrontendCall H) (f : Frontend) (came : List H) (agreed : Bool) → SomeNames came (answer call Ack f (Acknowledged agreed))
  agreed-named call f came true = inl (plain-named call)
  agreed-named call f came false = tt

  if-named : (came : List H) (b : Bool) (x : Option (Answered H)) (a : Answered H) → SomeNames came x → Names came a.result → SomeNames came (if b then x else Some a)
  if-named came true x a y n = y
  if-named came false x a y n = n

  ack-named : (call : FrontendCall H) (f : Frontend) (came : List H) (r : Received H) → SomeNames came (understood_ack call f r)
  ack-named call f came r = if-named came (length r.handles == 0) _ (answered f (Err InvalidMessage)) (agreed-named call f came (u64_at 0 r.body == 0)) tt

  -- what was received has these handles
  abbrev Has : List H → Result (Received H) Error → Type 0
  Has came (Ok r) = r.handles ≡ came
  Has came (Err e) = ⊤

  understood-named : (call : FrontendCall H) (awaited : Awaited) (sent : Header) (f : Frontend) (came : List H) (r : Result (Received H) Error) → Has came r → SomeNames came (understood call awaited sent f r)
  understood-named call awaited sent f came (Err e) has = tt
  understood-named call Nobody sent f came (Ok r) has = tt
  understood-named call Ack sent f came (Ok r) has = if-named came (answers sent r.header) _ (answered f (Err InvalidMessage)) (ack-named call f came r) tt
  understood-named call (Reply s) sent f came (Ok r) has =
      if-named came (answers sent r.header && is_sized call r) _ (answered f (Err InvalidMessage)) (subst (λ hs. SomeNames hs (from_reply call f (payload_of s r.body r.payload) r.handles)) has (reply-named call f (payload_of s r.body r.payload) r.handles)) tt

  either-has : (came : List H) (b : Bool) (x y : Result (Received H) Error × List (Cell H)) → Has came x.0 → Has came y.0 → (λ (z : Result (Received H) Error × List (Cell H)). Has came z.0) (if b then x else y)
  either-has came true x y p q = p
  either-has came false x y p q = q

  received-has : (h : Header) (valid : List ℕ → Bool) (hs : List H) (body : List ℕ) (n : ℕ) (cells : List (Cell H)) → Has hs (received is_known h valid hs body n cells).0
  unfolding received
  received-has h valid hs body n cells = either-has hs (is_known h && valid body) (Ok (record { header = h; body = body; payload = bytes (front n cells); handles = hs }), drop n cells) (Err InvalidMessage, drop n cells) refl tt

  cut-has : (size : ℕ) (valid : List ℕ → Bool) (n : ℕ) (cells : List (Cell H)) → Has (first_handles cells) (reply_split is_known size valid n cells).0
  unfolding reply_split
  cut-has size valid n cells =
      let h : Header = header_of (bytes (front MSG_HEADER_SIZE cells)) in
      let body : List ℕ = bytes (front size (drop MSG_HEADER_SIZE cells)) in
      let rest : List (Cell H) = drop size (drop MSG_HEADER_SIZE cells) in
      either-has (first_handles cells) (is_shorter (MSG_HEADER_SIZE + size) cells) (Err PartialMessage, []) (received is_known h valid (first_handles cells) body n rest) tt (received-has h valid (first_handles cells) body n rest)

  -- the same by its header
  whole-has : (is_awaited : Header → Bool) (cells : List (Cell H)) → Has (first_handles cells) (whole_split is_awaited cells).0
  unfolding whole_split
  whole-has is_awaited cells =
      let h : Header = header_of (bytes (front MSG_HEADER_SIZE cells)) in
      let behind : List (Cell H) = drop MSG_HEADER_SIZE cells in
      let came : List H = first_handles cells in
      let found : Result (Received H) Error × List (Cell H) = (Ok (record { header = h; body = bytes (front h.size behind); payload = []; handles = came }), drop h.size behind) in
      let known : Result (Received H) Error × List (Cell H) = if is_shorter h.size behind then (Err PartialMessage, []) else found in
      either-has came (is_shorter MSG_HEADER_SIZE cells) (Err PartialMessage, []) (if not (is_awaited h) then (Err InvalidMessage, behind) else known) tt
      (either-has came (not (is_awaited h)) (Err InvalidMessage, behind) known tt (either-has came (is_shorter h.size behind) (Err PartialMessage, []) found tt refl))

  parted-has : (size : ℕ) (valid : List ℕ → Bool) (n : ℕ) (came : List H) (x : Result (Received H) Error × List (Cell H)) → Has came x.0 → Has came (then_made is_known (parted is_known size valid n) x).0
  parted-has size valid n came (Ok r, rest) has = go (is_right is_known size valid n r)
    where
      go : (b : Bool) → Has came (if b then Ok (apart is_known size r) else Err InvalidMessage)
      go true = has
      go false = tt
  parted-has size valid n came (Err e, rest) has = tt

  -- by each profile
  reply-has : (s : Shape) (p : Profile) (n : ℕ) (cells : List (Cell H)) → Has (first_handles cells) (reply_cut s p n cells).0
  reply-has shape.Log Vhost n cells = cut-has 16 (is_valid_record shape.Log) 0 cells
  reply-has shape.Log Standard n cells = whole-has is_known cells
  reply-has s Vhost n cells = cut-has (record_size s) (is_valid_record s) n cells
  reply-has s Standard n cells = parted-has (record_size s) (is_valid_record s) n (first_handles cells) (whole_split (has_size is_known (record_size s + n)) cells) (whole-has (has_size is_known (record_size s + n)) cells)

  none-named : (call : FrontendCall H) (sent : Header) (f : Frontend) (n : ℕ) (came : List H) (x : Result (Received H) Error × List (Cell H)) → Has came x.0
      → SomeNames came (understood_config call sent f (then_made is_known (parted_or_none is_known (answers sent) (is_valid_record shape.Config) n) x).0)
  none-named call sent f n came (Ok r, rest) has = go (is_empty_reply is_known (answers sent) r) (is_right is_known 12 (is_valid_record shape.Config) n r)
    where
      go : (a b : Bool) → SomeNames came (understood_config call sent f (if a then Ok None else if b then Ok (Some (apart is_known 12 r)) else Err InvalidMessage))
      go true b = tt
      go false true = understood-named call (Reply shape.Config) sent f came (Ok (apart is_known 12 r)) has
      go false false = tt
  none-named call sent f n came (Err e, rest) has = tt

  bare-named : (call : FrontendCall H) (sent : Header) (f : Frontend) (came : List H) (x : Result (Received H) Error × List (Cell H)) → Has came x.0 → SomeNames came (understood_config call sent f (not_bare is_known x).0)
  bare-named call sent f came (Ok r, rest) has = understood-named call (Reply shape.Config) sent f came (Ok r) has
  bare-named call sent f came (Err e, rest) has = tt

  either-taken : (call : FrontendCall H) (sent : Header) (f : Frontend) (came : List H) (b : Bool) (x y : Result (Option (Received H)) Error × List (Cell H)) → SomeNames came (understood_config call sent f x.0) → SomeNames came (understood_config call sent f y.0)
      → (λ (z : Result (Option (Received H)) Error × List (Cell H)). SomeNames came (understood_config call sent f z.0)) (if b then x else y)
  either-taken call sent f came true x y p q = p
  either-taken call sent f came false x y p q = q

  bytes-taken : (call : FrontendCall H) (p : Profile) (room : ℕ) (sent : Header) (f : Frontend) (cells : List (Cell H)) → SomeNames (first_handles cells) (understood_config call sent f (config_cut p sent room cells).0)
  unfolding bare_or_reply
  bytes-taken call Standard room sent f cells = none-named call sent f room (first_handles cells) (whole_split (has_config_size is_known room) cells) (whole-has (has_config_size is_known room) cells)
  bytes-taken call Vhost room sent f cells =
      let split : Result (Received H) Error × List (Cell H) = reply_split is_known 12 (is_valid_record shape.Config) room cells in
      let came : List H = first_handles cells in
      either-taken call sent f came (is_shorter (MSG_HEADER_SIZE + 12) cells) (Err PartialMessage, []) (if is_bare_reply is_known (answers sent) cells then (Ok None, drop (MSG_HEADER_SIZE + 12) cells) else not_bare is_known split) tt
      (either-taken call sent f came (is_bare_reply is_known (answers sent) cells) (Ok None, drop (MSG_HEADER_SIZE + 12) cells) (not_bare is_known split) tt (bare-named call sent f came split (cut-has 12 (is_valid_record shape.Config) room cells)))

  config-taken : (call : FrontendCall H) (buffer : List ℕ) (sent : Header) (f : Frontend) (cells : List (Cell H)) → SomeNames (first_handles cells) (take_config call buffer sent f cells).0
  config-taken call [] sent f cells = tt
  config-taken call (b ∷ buffer) sent f cells = bytes-taken call f.profile (length (b ∷ buffer)) sent f cells

  reply-taken : (call : FrontendCall H) (s : Shape) (sent : Header) (f : Frontend) (cells : List (Cell H)) → SomeNames (first_handles cells) (take_reply call s sent f cells).0
  reply-taken (GetConfig offset size flags buffer) s sent f cells = config-taken (GetConfig offset size flags buffer) buffer sent f cells
  reply-taken call s sent f cells = understood-named call (Reply s) sent f (first_handles cells) _ (reply-has s f.profile (room call) cells)

  either : (b : Bool) (came : List H) (x y : Option (Answered H) × List (Cell H)) → SomeNames came x.0 → SomeNames came y.0 → (λ (z : Option (Answered H) × List (Cell H)). SomeNames came z.0) (if b then x else y)
  either true came x y p q = p
  either false came x y p q = q

  -- what a call takes of a stream names no handle but those on the first byte
  taken-named : (call : FrontendCall H) (awaited : Awaited) (sent : Header) (f : Frontend) (cells : List (Cell H)) → SomeNames (first_handles cells) (take call awaited sent f cells).0
  taken-named call Nobody sent f cells = inl (plain-named call)
  taken-named call Ack sent f cells = understood-named call Ack sent f (first_handles cells) _ (reply-has shape.U64 f.profile 0 cells)
  taken-named call (Reply s) sent f cells = either (has_bit sent.flags 2) (first_handles cells) (Some (answered f (Err InvalidParam)), cells) (take_reply call s sent f cells) tt (reply-taken call s sent f cells)

  -- ---- the front of a stream

  -- a result that names what came where nothing came names nothing
  from-none : (came : List H) (r : Result (Value H) Error) → Names [] r → Names came r
  from-none came (Ok v) (inl n) = inl n
  from-none came (Ok v) (inr n) = inl n
  from-none came (Err e) n = tt

  at-front : (cells rest : List (Cell H)) (r : Result (Value H) Error) → Names (first_handles cells) r → Names (first_handles (cells ++ rest)) r
  at-front [] rest r n = from-none _ r n
  at-front (c ∷ cells) rest r n = n

  -- cells that were handed on stood at the front
  peel : (cells : List (Cell H)) (later : List (Item H)) (some : List (Cell H)) (n : ℕ) → items cells ++ later ≡ items some ++ replicate n End → (rest : List (Cell H)) × (some ≡ cells ++ rest)
  peel [] later some n is = (some, refl)
  peel (c ∷ cells) later [] zero is = absurd cc
  peel (c ∷ cells) later [] (suc n) is = absurd cc
  peel (c ∷ cells) later (x ∷ some) n is =
      let (rest, front) = peel cells later some n (let e : items cells ++ later ≡ items some ++ replicate n End = cc in e) in
      let same : x ≡ c = cc in (rest, ap (λ y. y ∷ some) same ∙ ap (λ xs. c ∷ xs) front)

-- the cells that were handed on stood at the front
from-hands : {H : Type 0} (cells : List (Cell H)) (later : List (Item H)) (before left : List (Cell H)) → HandsFront before (items cells ++ later) left → (rest : List (Cell H)) × (before ≡ cells ++ rest)
from-hands cells later before left h =
    let (rest, is) = peel cells later h.cells h.ends h.order in (rest ++ left, h.front ∙ ap (λ xs. xs ++ left) is ∙ append_assoc cells rest left)

fronted : {H : Type 0} (cells : List (Cell H)) (ended : Bool) (before left : List (Cell H)) → HandsFront before (heard cells ended) left → (rest : List (Cell H)) × (before ≡ cells ++ rest)
fronted cells true before left hands = from-hands cells (End ∷ []) before left hands
fronted cells false before left hands = from-hands cells [] before left (subst (λ is. HandsFront before is left) (sym (append-nil (items cells))) hands)

-- what was read of the stream names so
told : {H : Type 0} (call : FrontendCall H) (awaited : Awaited) (sent : Header) (f f' : Frontend) (result : Result (Value H) Error) (cells : List (Cell H)) (ended : Bool) → Splits (take call awaited sent f) cells ended (Some (answered f' result)) → Names (first_handles cells) result
told call awaited sent f f' result cells true splits = subst (λ x. SomeNames (first_handles cells) x.0) splits.0 (taken-named call awaited sent f cells)
told call awaited sent f f' result cells false splits =
    subst (λ cs. Names (first_handles cs) result) (append-nil cells) (subst (λ x. SomeNames (first_handles (cells ++ [])) x.0) (splits []) (taken-named call awaited sent f (cells ++ [])))

-- the answer of a call names no handle but those on the first byte that waits
pub names : TalksLaw → (call : FrontendCall PlainHandle) (awaited : Awaited) (sent : Header) (old : State Ends PlainHandle) (f : Frontend) (result : Result (Value PlainHandle) Error) (new : State Ends PlainHandle) (f' : Frontend)
    → TakesResult call awaited sent old f result new f' → Names (first_handles (stream old)) result
names law call awaited sent old f result new f' (inl (unread is)) = subst (λ x. SomeNames (first_handles (stream old)) x.0) (is (stream old)) (taken-named call awaited sent f (stream old))
names law call awaited sent old f result new f' (inl (read h)) =
    let cells = h.hears.cells in
    let (rest, is) = fronted cells h.hears.ended (stream old) (stream new) (law old new _ h.hears.serves.talks).0 in
    subst (λ cs. Names (first_handles cs) result) (sym is) (at-front cells rest result (told call awaited sent f f' result cells h.hears.ended h.hears.splits))
names law call awaited sent old f result new f' (inr x) = subst (λ r. Names (first_handles (stream old)) r) (sym x.2) tt
