-- What each call of an endpoint does, by its result.
use Rattle.std.specs.Prelude.{◌≡◌, ℕ, ◌+◌, ◌<◌, ◌≤◌, List, [], length, take, drop, min, Option, Some, None, Bool, true, false, ◌&&◌, not, nat_lt, Result, Ok, Err, Vec}
use Rattle.std.specs.Global.{Global}
use Rattle.std.specs.Borrow.{Bor}
use Rattle.vhost_message.specs.declared.cause.IoCause.{IoCause}
use Rattle.vhost_message.specs.Cause.{error_of}
use Rattle.vhost_message.specs.declared.error.Error.{Error}
use Rattle.vhost_message.specs.declared.error.Error.TheVariants.{InvalidMessage, PartialMessage, Disconnected}
use Rattle.vhost_protocol.specs.Stream.{Cell, carrying, bytes, first_handles, has_some, brings_handles, heard}
use Rattle.vhost_link.specs.Law.{Event, Taken, Refused, nothing}
use Rattle.vhost_connection.specs.Pass.{sends, receives, WentAtOnce, WentNot}
use Rattle.vhost_connection.specs.Talk.{State, Serves, Trouble, Never, IfSound}
use Rattle.vhost_connection.specs.Came.{Begins, GoesOn, Alone, TakesIn, keeps, behind}

-- A text goes out, all of it; or a front of it, and then trouble.
abbrev pub Sends : {L H : Type 0} → (L → Event H → L → Type 0) → State L H → List (Cell H) → Result (Unit {0}) Error → State L H → Type 0
Sends event old text (Ok _) new = (r : ℕ) × Serves event old old.budget (sends text r) new × (new.list ≡ old.list) × (new.left ≡ old.left)
Sends event old text (Err e) new = (n r : ℕ) × Trouble event old old.budget Never false (sends (take n text) r) e new × (old.broken ≡ None → n < length text)

-- A text goes out by one call of the link, or nothing of it.
abbrev pub ByOneCall : {L H : Type 0} → (L → Event H → L → Type 0) → State L H → List (Cell H) → Result (Unit {0}) Error → State L H → Type 0
ByOneCall event old text (Ok _) new = WentAtOnce event old.link text new.link
ByOneCall event old text (Err e) new = WentNot event old.link new.link

-- All the bytes of some pieces go out, and are counted.
abbrev pub SendsAll : {L H : Type 0} → (L → Event H → L → Type 0) → State L H → List (Cell H) → Result ℕ Error → State L H → Type 0
SendsAll event old text (Ok n) new = (n ≡ length text) × Sends event old text (Ok tt) new
SendsAll event old text (Err e) new = Sends event old text (Err e) new

-- One call of the link, and nothing else: it takes a front of the bytes, with the handles on the first; or it fails, or the endpoint was broken. Without a byte it is not called.
abbrev pub SendsOnce : {L H : Type 0} → (L → Event H → L → Type 0) → State L H → List H → List ℕ → Result ℕ Error → State L H → Type 0
SendsOnce event old handles bytes (Ok n) new = Serves event old 0 (sends (carrying handles (take n bytes)) 0) new × (n ≤ length bytes) × (new ≡ record old { link = new.link; faulted = false })
    × (0 < length bytes → (0 < n) × event old.link (Taken (carrying handles (take n bytes))) new.link) × (bytes ≡ [] → new.link ≡ old.link)
SendsOnce event old handles bytes (Err e) new = Trouble event old 0 Never false nothing e new × (old.broken ≡ None → new ≡ record old { link = new.link; faulted = true })
    × (old.broken ≡ None → (0 < length bytes) × (c : IoCause) × (e ≡ error_of c) × event old.link (Refused c) new.link)

-- the handles of a message are given where there are any
abbrev pub HandsOver : {H : Type 0} → Option (Vec H Global) → List H → Type 0
HandsOver None handles = handles ≡ []
HandsOver (Some v) handles = (v.items ≡ handles) × (has_some handles ≡ true)

-- A message is refused: the end came within its head of so many bytes, or the head does not pass its test.
pub data IsNoMessage {H : Type 0} (head : ℕ) (test : List ℕ → Bool) (cs : List (Cell H)) : Error → Type 0 where
  too_few : length cs < head → IsNoMessage head test cs PartialMessage
  not_valid : head ≤ length cs → test (bytes cs) ≡ false → IsNoMessage head test cs InvalidMessage

-- So is a header, and an end before its first byte is told from others.
pub data IsNoHeader {H : Type 0} (test : List ℕ → Bool) (cs : List (Cell H)) : Error → Type 0 where
  no_cell : cs ≡ [] → IsNoHeader test cs Disconnected
  no_header : {e : Error} → 0 < length cs → IsNoMessage 12 test cs e → IsNoHeader test cs e

-- A header is read from 12 cells, is valid, and comes with the handles of the first.
abbrev pub IsHeader : {M X H : Type 0} → (List ℕ → M) → (M → Bool) → (X → List H → Type 0) → List (Cell H) → M × X → Type 0
IsHeader read valid hands cs x = (length cs ≡ 12) × (x.0 ≡ read (bytes cs)) × (valid x.0 ≡ true) × hands x.1 (first_handles cs)

-- A header comes in. What lies behind it may take the retries that are left.
abbrev pub ReadsHeader : {M L H : Type 0} → (L → Event H → L → Type 0) → (List ℕ → M) → (M → Bool) → State L H → Result (M × Option (Vec H Global)) Error → State L H → Type 0
ReadsHeader {H} event read valid old r new = (cs : List (Cell H)) × TakesIn event old Begins 12 cs (keeps cs r) (IsHeader read valid HandsOver cs) (IsNoHeader (λ bs. valid (read bs)) cs) r new

-- bytes of a body are refused where one of them brought handles
abbrev pub BroughtHandles : {H : Type 0} → List (Cell H) → Error → Type 0
BroughtHandles cs e = (e ≡ InvalidMessage) × (brings_handles cs ≡ true)

-- `recv_data`: so many bytes of a body come in, or fewer and then the end
abbrev pub ReadsData : {L H : Type 0} → (L → Event H → L → Type 0) → State L H → ℕ → Result (ℕ × Bor (List ℕ)) Error → State L H → Type 0
ReadsData {H} event old len r new = (cs : List (Cell H)) × TakesIn event old GoesOn len cs old.list (λ x. (brings_handles cs ≡ false) × (x.0 ≡ length cs) × (x.1.now ≡ bytes cs)) (BroughtHandles cs) r new

-- the test of a header and of a record of so many bytes behind it
abbrev pub is_sound : {M T : Type 0} → (List ℕ → M) → (M → Bool) → ℕ → (List ℕ → T) → (T → Bool) → List ℕ → Bool
is_sound read valid size read_body valid_body bs = valid (read (take 12 bs)) && valid_body (read_body (take size (drop 12 bs)))

-- Header and record are read from the cells, are valid, and come with the handles of the first.
abbrev pub IsMessage : {M T H : Type 0} → (List ℕ → M) → (M → Bool) → ℕ → (List ℕ → T) → (T → Bool) → List (Cell H) → M → T → Option (Vec H Global) → Type 0
IsMessage read valid size read_body valid_body cs h t handles =
    (h ≡ read (take 12 (bytes cs))) × (valid h ≡ true) × (t ≡ read_body (take size (drop 12 (bytes cs)))) × (valid_body t ≡ true) × HandsOver handles (first_handles cs)

-- A header and a record of so many bytes come in, whatever the size in the header.
abbrev pub ReadsBody : {M T L H : Type 0} → (L → Event H → L → Type 0) → (List ℕ → M) → (M → Bool) → ℕ → (List ℕ → T) → (T → Bool) → State L H
    → Result (M × T × Option (Vec H Global)) Error → State L H → Type 0
ReadsBody {H} event read valid size read_body valid_body old r new = (cs : List (Cell H)) × TakesIn event old Alone (12 + size) cs (keeps cs r)
    (λ x. (length cs ≡ 12 + size) × IsMessage read valid size read_body valid_body cs x.0 x.1 x.2) (IsNoMessage (12 + size) (is_sound read valid size read_body valid_body) cs) r new

-- A header comes in, and then what fits into the room, up to the end.
abbrev pub ReadsInto : {M L H : Type 0} → (L → Event H → L → Type 0) → (List ℕ → M) → (M → Bool) → State L H → List ℕ → Result (M × ℕ × Option (Vec H Global)) Error → List ℕ → State L H → Type 0
ReadsInto {H} event read valid old before r after new = (cs : List (Cell H)) × (after ≡ behind 12 cs before) × TakesIn event old Alone (12 + length before) cs (keeps cs r)
    (λ x. (length cs ≡ 12 + x.1) × (x.0 ≡ read (take 12 (bytes cs))) × (valid x.0 ≡ true) × HandsOver x.2 (first_handles cs)) (IsNoMessage 12 (λ bs. valid (read (take 12 bs))) cs) r new

-- what a header, a record and so many bytes behind them do, of the cells that came
abbrev pub TakesPayload : {M T L H : Type 0} → (L → Event H → L → Type 0) → (List ℕ → M) → (M → Bool) → ℕ → (List ℕ → T) → (T → Bool) → State L H → (room : ℕ) → List (Cell H)
    → Result (M × T × ℕ × Option (Vec H Global)) Error → State L H → Type 0
TakesPayload event read valid size read_body valid_body old room cs r = TakesIn event old Alone (12 + size + room) cs (keeps cs r)
    (λ x. (length cs ≡ 12 + size + x.2) × IsMessage read valid size read_body valid_body cs x.0 x.1 x.3) (IsNoMessage (12 + size) (is_sound read valid size read_body valid_body) cs) r

-- A header and a record of so many bytes come in, whatever the size in the header, and then what fits into the room, up to the end.
abbrev pub ReadsPayload : {M T L H : Type 0} → (L → Event H → L → Type 0) → (List ℕ → M) → (M → Bool) → ℕ → (List ℕ → T) → (T → Bool) → State L H → List ℕ
    → Result (M × T × ℕ × Option (Vec H Global)) Error → List ℕ → State L H → Type 0
ReadsPayload {H} event read valid size read_body valid_body old before r after new =
    (cs : List (Cell H)) × (after ≡ behind (12 + size) cs before) × TakesPayload event read valid size read_body valid_body old (length before) cs r new

-- One call of the link handed out these cells, or told the end; of no bytes it was not asked.
pub record CameOnce {L H : Type 0} (event : L → Event H → L → Type 0) (old : State L H) (len : ℕ) (cs : List (Cell H)) (new : State L H) : Type 0 where
  pub serves : Serves event old 0 (receives (heard cs (nat_lt (length cs) (min 1 len))) 0) new
  pub within : length cs ≤ len
  -- only the first of them brings handles
  pub alone : brings_handles (drop 1 cs) ≡ false
  pub left : new.left ≡ old.left
  pub list : 0 < len → new.list ≡ not (has_some (first_handles cs))
  pub unasked : len ≡ 0 → new ≡ record old { faulted = false }

-- `recv_into_buf`: no fault breaks the endpoint, since nothing had moved
abbrev pub ReadsOnce : {L H : Type 0} → (L → Event H → L → Type 0) → State L H → ℕ → Result (ℕ × Bor (List ℕ)) Error → Option (Vec H Global) → State L H → Type 0
ReadsOnce {H} event old len (Ok x) given new = (cs : List (Cell H)) × CameOnce event old len cs new × (x.0 ≡ length cs) × (x.1.now ≡ bytes cs) × HandsOver given (first_handles cs)
ReadsOnce event old len (Err e) given new = Trouble event old 0 IfSound false nothing e new
