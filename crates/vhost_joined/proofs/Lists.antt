-- The lists of an answer are no longer than those of its call.
use Rattle.std.proofs.Common.{◌≡◌, ℕ, ◌+◌, ◌==◌, ◌&&◌, Bool, true, false, cond, List, [], ◌∷◌, ◌++◌, length, map, Option, Some, None, Result, Ok, Err, IfSome, refl, sym, subst, inl, inr, arith}
use Rattle.std.proofs.lemmas.Bool.{eqb-true}
use Rattle.std.specs.Prelude.{⊤, nat_le, bit_and}
use Rattle.vhost_message.specs.Header.{Header}
use Rattle.vhost_message.specs.Bits.{has_bit}
use Rattle.vhost_message.specs.Records.{u64_at}
use Rattle.vhost_message.specs.declared.postcopy.PostcopyState.TheVariants.{End}
use Rattle.vhost_message.specs.declared.records.config.VhostUserConfig.{VhostUserConfig}
use Rattle.vhost_message.specs.declared.records.inflight.VhostUserInflight.{VhostUserInflight}
use Rattle.vhost_message.specs.declared.records.memory.VhostUserMemoryRegion.{VhostUserMemoryRegion}
use Rattle.vhost_protocol.specs.AnswerTable.{Answered, answered, answer, plain_value, alone, with_one, one_or_none, only_if, is_same_range, are_same_ranges, bases_in as bases_of, config_reply, changed, inflight_reply, queues_reply, state_reply, end_reply, from_reply}
use Rattle.vhost_protocol.specs.Ask.{regions_in as ranges_in, config}
use Rattle.vhost_protocol.specs.declared.asked.Awaited.{Awaited}
use Rattle.vhost_protocol.specs.declared.asked.Awaited.TheVariants.{Nobody, Ack, Reply}
use Rattle.vhost_protocol.specs.declared.asked.Shape.{Shape}
use Rattle.vhost_protocol.specs.declared.asked.Shape.TheVariants as shape
use Rattle.vhost_protocol.specs.Error.{Error, InvalidParam, InvalidMessage, IncorrectFds, BackendInternalError, seen}
use Rattle.vhost_protocol.specs.FrontendCall.{FrontendCall, GetFeatures, GetProtocolFeatures, GetQueueNum, SetMemTable, SetLogBase, GetVringBase, GetConfig, GetSharedObject, GetInflightFd, GetMaxMemSlots, AddMemRegion, GetShmemConfig, SetDeviceStateFd, CheckDeviceState, PostcopyAdvise, PostcopyEnd, Value, Nothing, Number, Bases, Base, ConfigOf, HandleOf, InflightOf, StateHandle, Info, Frontend}
use Rattle.vhost_protocol.specs.Profile.{is_standard}
use Rattle.vhost_protocol.specs.ReplySplit.{Received}
use Rattle.vhost_protocol.specs.Served.{Acknowledged}
use Rattle.vhost_protocol.specs.Session.{is_listen}
use Rattle.vhost_protocol.specs.Split.{Splits}
use Rattle.vhost_protocol.specs.Stream.{Cell}
use Rattle.vhost_protocol.specs.Take.{take, take_reply, take_config, understood, understood_ack, understood_config, is_sized, room, answers, reply_cut, config_cut, payload_of}
use Rattle.vhost_protocol.specs.Written.{Payload, Empty, U64, Regions, OneRegion, Shmem, RingState, ConfigBytes, InflightArea, LogArea}
use Rattle.vhost_link.specs.declared.plain.PlainHandle.{PlainHandle}
use Rattle.vhost_link.specs.Ends.{Ends}
use Rattle.vhost_connection.specs.Talk.{State}
use Rattle.vhost_frontend_core.specs.Taking.{unread, read}
use Rattle.vhost_frontend_core.specs.ValueHalves.{TakesResult}
use Rattle.vhost_joined.specs.Lists.{bases_in, bytes_in, records_in, IsListedFor}

second : (a b : Bool) → (a && b) ≡ true → b ≡ true
second true b e = e
second false b e = absurd (cc e)

same-long : (xs ys : List VhostUserMemoryRegion) → are_same_ranges xs ys ≡ true → length ys ≡ length xs
same-long [] [] e = refl
same-long [] (y ∷ ys) e = absurd (cc e)
same-long (x ∷ xs) [] e = absurd (cc e)
same-long (x ∷ xs) (y ∷ ys) e = let same = same-long xs ys (second (is_same_range x y) (are_same_ranges xs ys) e) in omega (arith, same)

long-map : {A B : Type 0} (f : A → B) (xs : List A) → length (map f xs) ≡ length xs
long-map f [] = refl
long-map f (x ∷ xs) = let same = long-map f xs in omega (arith, same)

module _ (H : Type 0) (call : FrontendCall H) where
  -- of an answer, if there is one
  abbrev Listed : Option (Answered H) → Type 0
  Listed o = IfSome o (λ a. IsListedFor call a.result)

  -- an answer without a list
  pub without : (r : Result (Value H) Error) → bases_in r ≡ 0 → bytes_in r ≡ 0 → records_in r ≡ 0 → IsListedFor call r
  without r e k n = (omega (arith, e), omega (arith, k), omega (arith, n))

  failed : (e : Error) → IsListedFor call (Err e)
  failed e = without (Err e) refl refl refl

  listed-alone : (hs : List H) (r : Result (Value H) Error) → IsListedFor call r → IsListedFor call (alone hs r)
  listed-alone [] r l = l
  listed-alone (h ∷ hs) r l = failed InvalidMessage

  listed-only : (b : Bool) (e : Error) (v : Value H) → (b ≡ true → IsListedFor call (Ok v)) → IsListedFor call (only_if b e v)
  listed-only true e v l = l refl
  listed-only false e v l = failed e

  listed-one : (hs : List H) (v : H → Value H) → ((h : H) → IsListedFor call (Ok (v h))) → IsListedFor call (with_one hs v)
  listed-one [] v l = failed InvalidMessage
  listed-one (h ∷ []) v l = l h
  listed-one (h ∷ g ∷ hs) v l = failed IncorrectFds

  listed-or-none : (f : Frontend) (hs : List H) (v : H → Value H) → ((h : H) → IsListedFor call (Ok (v h))) → IsListedFor call (one_or_none f hs v)
  listed-or-none f [] v l = failed (cond (is_standard f.profile) BackendInternalError InvalidMessage)
  listed-or-none f (h ∷ hs) v l = listed-one (h ∷ hs) v l

  listed-area : (f : Frontend) (i : VhostUserInflight) (hs : List H) → ((h : H) → IsListedFor call (Ok (InflightOf i h))) → IsListedFor call (inflight_reply f i hs)
  listed-area f i [] l = failed (cond (is_standard f.profile && i.mmap_size == 0) BackendInternalError InvalidMessage)
  listed-area f i (h ∷ hs) l = listed-one (h ∷ hs) (InflightOf i) l

  listed-end : (f : Frontend) (n : ℕ) (hs : List H) → IsListedFor call (end_reply f n hs).result
  listed-end f n [] = go (n == 0)
    where
      go : (b : Bool) → IsListedFor call (cond b (answered (record f { postcopy = End }) (Ok Nothing)) (answered (cond (is_listen f.postcopy) (record f { postcopy = End }) f) (Err BackendInternalError))).result
      go true = without (Ok Nothing) refl refl refl
      go false = failed BackendInternalError
  listed-end f n (h ∷ hs) = failed InvalidMessage

  listed-changed : (f g : Frontend) (r : Result (Value H) Error) → IsListedFor call r → IsListedFor call (changed f g r).result
  listed-changed f g (Ok v) l = l
  listed-changed f g (Err e) l = l

  listed-queues : (f : Frontend) (n : ℕ) (r : Result (Value H) Error) → IsListedFor call r → IsListedFor call (queues_reply f n r).result
  listed-queues f n r l = go (nat_le n 0x8000)
    where
      go : (b : Bool) → IsListedFor call (cond b (changed f (record f { max_queue_num = n }) r) (answered f (Err InvalidMessage))).result
      go true = listed-changed f (record f { max_queue_num = n }) r l
      go false = failed InvalidMessage

  listed-state : (n : ℕ) (hs : List H) → IsListedFor call (state_reply n hs)
  listed-state n [] = listed-only (n == 0x100) BackendInternalError (StateHandle None) (λ _. without (Ok (StateHandle None)) refl refl refl)
  listed-state n (h ∷ []) = listed-only (n == 0) BackendInternalError (StateHandle (Some h)) (λ _. without (Ok (StateHandle (Some h))) refl refl refl)
  listed-state n (h ∷ g ∷ hs) = failed (cond (n == 0) IncorrectFds BackendInternalError)

  listed-if : (b : Bool) (x y : Option (Answered H)) → (b ≡ true → Listed x) → Listed y → Listed (cond b x y)
  listed-if true x y l k = l refl
  listed-if false x y l k = k

  listed-valid : (b : Bool) (r : Result (Value H) Error) (e : Error) → IsListedFor call r → IsListedFor call (cond b r (Err e))
  listed-valid true r e l = l
  listed-valid false r e l = failed e

-- the bytes of the configuration space fill the buffer
abbrev Fills : {H : Type 0} → FrontendCall H → Payload → Type 0
Fills (GetConfig offset size flags buffer) (ConfigBytes c bytes) = length bytes ≡ length buffer
Fills _ _ = ⊤

module _ (H : Type 0) where
  number : (call : FrontendCall H) (n : ℕ) → IsListedFor call (Ok (Number n))
  number call n = without H call (Ok (Number n)) refl refl refl

  table-listed : (infos : List (Info H)) (f : Frontend) (rs : List VhostUserMemoryRegion) (hs : List H) → Listed H (SetMemTable infos) (from_reply (SetMemTable infos) f (Regions rs) hs)
  table-listed infos f rs hs =
      listed-alone H (SetMemTable infos) hs _ (listed-only H (SetMemTable infos) (are_same_ranges (ranges_in infos) rs) InvalidMessage (Bases (Some (bases_of rs)))
      (λ e. let same = same-long (ranges_in infos) rs e in let all = long-map (λ (i : Info H). i.region) infos in let places = long-map (λ (r : VhostUserMemoryRegion). r.user_addr) rs in (omega (arith, same, all, places), omega arith, omega arith)))

  abbrev part : (offset size flags : ℕ) (buffer : List ℕ) → FrontendCall H
  part offset size flags buffer = GetConfig offset size flags buffer

  config-listed : (offset size flags : ℕ) (buffer : List ℕ) (f : Frontend) (c : VhostUserConfig) (bytes : List ℕ) (hs : List H) → length bytes ≡ length buffer
      → IsListedFor (part offset size flags buffer) (config_reply (config offset size flags) buffer hs c bytes)
  config-listed offset size flags [] f c bytes hs e = failed H (part offset size flags []) InvalidParam
  config-listed offset size flags (b ∷ buffer) f c bytes hs e = listed-alone H (part offset size flags (b ∷ buffer)) hs _ (go (c.size == 0 && length bytes == 0))
    where
      go : (t : Bool) → IsListedFor (part offset size flags (b ∷ buffer)) (cond t (Err BackendInternalError) (only_if (c.offset == offset && c.size == size && c.size == length (b ∷ buffer)) InvalidMessage (ConfigOf c bytes)))
      go true = failed H (part offset size flags (b ∷ buffer)) BackendInternalError
      go false = listed-only H (part offset size flags (b ∷ buffer)) _ InvalidMessage (ConfigOf c bytes) (λ _. (omega arith, omega (arith, e), omega arith))

  from-listed : (call : FrontendCall H) (f : Frontend) (p : Payload) (hs : List H) → Fills call p → Listed H call (from_reply call f p hs)
  from-listed GetFeatures f (U64 n) hs fits = listed-changed H GetFeatures f (record f { offered = n }) (alone hs (Ok (Number n))) (listed-alone H GetFeatures hs _ (number GetFeatures n))
  from-listed GetProtocolFeatures f (U64 n) hs fits = listed-alone H GetProtocolFeatures hs _ (number GetProtocolFeatures (bit_and n 0x7FFFFF))
  from-listed GetQueueNum f (U64 n) hs fits = listed-queues H GetQueueNum f n (alone hs (Ok (Number n))) (listed-alone H GetQueueNum hs _ (number GetQueueNum n))
  from-listed (SetMemTable infos) f (Regions rs) hs fits = table-listed infos f rs hs
  from-listed (SetLogBase base region) f (LogArea l) hs fits = listed-alone H (SetLogBase base region) hs _ (listed-only H (SetLogBase base region) _ InvalidMessage Nothing (λ _. without H (SetLogBase base region) (Ok Nothing) refl refl refl))
  from-listed (GetVringBase i) f (RingState v) hs fits = listed-alone H (GetVringBase i) hs _ (number (GetVringBase i) v.num)
  from-listed (GetConfig offset size flags buffer) f (ConfigBytes c bytes) hs fits = config-listed offset size flags buffer f c bytes hs fits
  from-listed (GetSharedObject name) f Empty hs fits = listed-or-none H (GetSharedObject name) f hs HandleOf (λ h. without H (GetSharedObject name) (Ok (HandleOf h)) refl refl refl)
  from-listed (GetInflightFd asked) f (InflightArea i) hs fits = listed-valid H (GetInflightFd asked) _ _ InvalidMessage (listed-area H (GetInflightFd asked) f i hs (λ h. without H (GetInflightFd asked) (Ok (InflightOf i h)) refl refl refl))
  from-listed GetMaxMemSlots f (U64 n) hs fits = listed-alone H GetMaxMemSlots hs _ (number GetMaxMemSlots n)
  from-listed (AddMemRegion info) f (OneRegion r) hs fits = listed-alone H (AddMemRegion info) hs _ (listed-only H (AddMemRegion info) _ InvalidMessage _ (λ _. without H (AddMemRegion info) (Ok (Base (Some (r.region.user_addr)))) refl refl refl))
  from-listed GetShmemConfig f (Shmem c) hs fits = listed-alone H GetShmemConfig hs _ (omega arith, omega arith, omega arith)
  from-listed (SetDeviceStateFd t h) f (U64 n) hs fits = listed-state H (SetDeviceStateFd t h) n hs
  from-listed CheckDeviceState f (U64 n) hs fits = listed-alone H CheckDeviceState hs _ (listed-only H CheckDeviceState (n == 0) BackendInternalError Nothing (λ _. without H CheckDeviceState (Ok Nothing) refl refl refl))
  from-listed PostcopyAdvise f Empty hs fits = listed-changed H PostcopyAdvise f _ (one_or_none f hs HandleOf) (listed-or-none H PostcopyAdvise f hs HandleOf (λ h. without H PostcopyAdvise (Ok (HandleOf h)) refl refl refl))
  from-listed PostcopyEnd f (U64 n) hs fits = listed-end H PostcopyEnd f n hs
  from-listed _ f _ hs fits = tt

  plain-listed : (call : FrontendCall H) → IsListedFor call (Ok (plain_value call))
  plain-listed (SetMemTable infos) = without H (SetMemTable infos) (Ok (Bases None)) refl refl refl
  plain-listed (AddMemRegion info) = without H (AddMemRegion info) (Ok (Base None)) refl refl refl
  plain-listed call = without H call (Ok (plain_value call)) refl refl refl

  fills : (call : FrontendCall H) (s : Shape) (r : Received H) → is_sized call r ≡ true → Fills call (payload_of s r.body r.payload)
  fills (GetConfig offset size flags buffer) shape.Config r e = eqb-true (length r.payload) (length buffer) (second (r.header.size == 12 + length buffer) (length r.payload == length buffer) e)
  fills (GetConfig offset size flags buffer) _ r e = tt
  fills _ s r e = tt

  ack-listed : (call : FrontendCall H) (f : Frontend) (r : Received H) → Listed H call (understood_ack call f r)
  ack-listed call f r = listed-if H call (length r.handles == 0) _ _ (λ _. go (u64_at 0 r.body == 0)) (failed H call InvalidMessage)
    where
      go : (agreed : Bool) → Listed H call (answer call Ack f (Acknowledged agreed))
      go true = plain-listed call
      go false = failed H call BackendInternalError

  understood-listed : (call : FrontendCall H) (awaited : Awaited) (sent : Header) (f : Frontend) (r : Result (Received H) Error) → Listed H call (understood call awaited sent f r)
  understood-listed call awaited sent f (Err e) = failed H call e
  understood-listed call Nobody sent f (Ok r) = tt
  understood-listed call Ack sent f (Ok r) = listed-if H call (answers sent r.header) _ _ (λ _. ack-listed call f r) (failed H call InvalidMessage)
  understood-listed call (Reply shape) sent f (Ok r) =
      listed-if H call (answers sent r.header && is_sized call r) _ _ (λ e. from-listed call f (payload_of shape r.body r.payload) r.handles (fills call shape r (second (answers sent r.header) (is_sized call r) e))) (failed H call InvalidMessage)

  config-understood : (call : FrontendCall H) (sent : Header) (f : Frontend) (r : Result (Option (Received H)) Error) → Listed H call (understood_config call sent f r)
  config-understood call sent f (Ok (Some r)) = understood-listed call (Reply shape.Config) sent f (Ok r)
  config-understood call sent f (Ok None) = failed H call BackendInternalError
  config-understood call sent f (Err e) = failed H call e

  config-taken : (call : FrontendCall H) (buffer : List ℕ) (sent : Header) (f : Frontend) (cells : List (Cell H)) → Listed H call (take_config call buffer sent f cells).0
  config-taken call [] sent f cells = failed H call InvalidParam
  config-taken call (b ∷ buffer) sent f cells = config-understood call sent f (config_cut f.profile sent (length (b ∷ buffer)) cells).0

  reply-taken : (call : FrontendCall H) (s : Shape) (sent : Header) (f : Frontend) (cells : List (Cell H)) → Listed H call (take_reply call s sent f cells).0
  reply-taken (GetConfig offset size flags buffer) s sent f cells = config-taken (part offset size flags buffer) buffer sent f cells
  reply-taken call s sent f cells = understood-listed call (Reply s) sent f (reply_cut s f.profile (room call) cells).0

  taken-listed : (call : FrontendCall H) (awaited : Awaited) (sent : Header) (f : Frontend) (cells : List (Cell H)) → Listed H call (take call awaited sent f cells).0
  taken-listed call Nobody sent f cells = plain-listed call
  taken-listed call Ack sent f cells = understood-listed call Ack sent f (reply_cut shape.U64 f.profile 0 cells).0
  taken-listed call (Reply s) sent f cells = go (has_bit sent.flags 2) (take_reply call s sent f cells) (reply-taken call s sent f cells)
    where
      go : (b : Bool) (x : Option (Answered H) × List (Cell H)) → Listed H call x.0 → Listed H call (cond b (Some (answered f (Err InvalidParam)), cells) x).0
      go true x l = failed H call InvalidParam
      go false x l = l

  split-listed : (call : FrontendCall H) (awaited : Awaited) (sent : Header) (f : Frontend) (cells : List (Cell H)) (ended : Bool) (x : Option (Answered H)) → Splits (take call awaited sent f) cells ended x → Listed H call x
  split-listed call awaited sent f cells true x s = subst (λ (r : Option (Answered H) × List (Cell H)). Listed H call r.0) s.0 (taken-listed call awaited sent f cells)
  split-listed call awaited sent f cells false x s = subst (λ (r : Option (Answered H) × List (Cell H)). Listed H call r.0) (s []) (taken-listed call awaited sent f (cells ++ []))

-- whatever became of the half that takes
pub result-listed : (call : FrontendCall PlainHandle) (awaited : Awaited) (sent : Header) (old : State Ends PlainHandle) (f : Frontend) (result : Result (Value PlainHandle) Error) (new : State Ends PlainHandle) (f' : Frontend)
    → TakesResult call awaited sent old f result new f' → IsListedFor call result
result-listed call awaited sent old f result new f' (inl (unread here)) = subst (λ (r : Option (Answered PlainHandle) × List (Cell PlainHandle)). Listed PlainHandle call r.0) (here []) (taken-listed PlainHandle call awaited sent f [])
result-listed call awaited sent old f result new f' (inl (read h)) = split-listed PlainHandle call awaited sent f h.hears.cells h.hears.ended _ h.hears.splits
result-listed call awaited sent old f result new f' (inr (same, e, is, fails)) = subst (λ (r : Result (Value PlainHandle) Error). IsListedFor call r) (sym is) (failed PlainHandle call (seen e))

-- nothing was sent for the call, or its half that asks failed
pub nothing-listed : (call : FrontendCall PlainHandle) (result : Result (Value PlainHandle) Error) → result ≡ Ok Nothing → IsListedFor call result
nothing-listed call result is = subst (λ (r : Result (Value PlainHandle) Error). IsListedFor call r) (sym is) (without PlainHandle call (Ok Nothing) refl refl refl)

pub error-listed : (call : FrontendCall PlainHandle) (result : Result (Value PlainHandle) Error) (e : Error) → result ≡ Err e → IsListedFor call result
error-listed call result e is = subst (λ (r : Result (Value PlainHandle) Error). IsListedFor call r) (sym is) (failed PlainHandle call e)
