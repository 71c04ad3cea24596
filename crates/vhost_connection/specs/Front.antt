-- What the calls that receive a message have in common.
use Rattle.std.specs.Prelude.{◌≡◌, ℕ, ◌+◌, ◌-◌, List, ◌++◌, length, take, drop, min, Bool, true, false, if◌then◌else◌, Option, Vec, Result, Ok, Err, is_err}
use Rattle.std.specs.Global.{Global}
use Rattle.vhost_message.specs.declared.error.Error.{Error}
use Rattle.vhost_protocol.specs.Stream.{Cell, bytes, first_handles, brings_handles, has_some}
use Rattle.vhost_link.specs.Law.{Event, nothing}
use Rattle.vhost_connection.specs.Talk.{State, Trouble, IfSound}
use Rattle.vhost_connection.specs.Calls.{BroughtHandles, IsHeader, IsNoHeader, CameOnce, HandsOver}
use Rattle.vhost_connection.specs.Came.{Came, CutShort, Begins, GoesOn, Alone, TakesIn, behind}
use Rattle.vhost_connection.specs.declared.list.Front.{Front}

-- Of these cells so many bytes lie at the front of the text, and so many are behind them; the handles are those of the first.
pub record IsFront {H : Type 0} (len : ℕ) (cs : List (Cell H)) (count more : ℕ) (hs : List H) (text : List ℕ) : Type 0 where
  pub counted : count ≡ min len (length cs)
  pub rest : more ≡ length cs - len
  pub first : hs ≡ first_handles cs
  pub bytes : take count text ≡ take len (bytes cs)

-- A front came, and so many retries are left, should there be more to come: with these the endpoint has begun a message.
pub record ComesFront {L H : Type 0} (event : L → Event H → L → Type 0) (old : State L H) (len room : ℕ) (cs : List (Cell H)) (x : Front H) (text : List ℕ) (new : State L H) : Type 0 where
  pub front : IsFront len cs x.count x.more x.list.items text
  pub begins : Came event old Begins (len + room) cs false (record new { left = x.left })

-- The front of a message comes in, and then what fits into the room. The list of handles is given away.
abbrev pub ReadsParts : {L H : Type 0} → (L → Event H → L → Type 0) → State L H → ℕ → List ℕ → Result (Front H) Error → List ℕ → List ℕ → State L H → Type 0
ReadsParts {H} event old len before r text after new =
    (cs : List (Cell H)) × (after ≡ behind len cs before) × TakesIn event old Alone (len + length before) cs false (λ x. ComesFront event old len (length before) cs x text new) (λ e. ⊥) r new

abbrev pub ReadsFront : {L H : Type 0} → (L → Event H → L → Type 0) → State L H → ℕ → Result (Front H) Error → List ℕ → State L H → Type 0
ReadsFront {H} event old len r text new = (cs : List (Cell H)) × TakesIn event old Alone len cs false (λ x. ComesFront event old len 0 cs x text new) (λ e. ⊥) r new

-- `recv_header`, before its handles are given
abbrev pub ReadsHead : {M L H : Type 0} → (L → Event H → L → Type 0) → (List ℕ → M) → (M → Bool) → State L H → Result (M × Front H) Error → State L H → Type 0
ReadsHead {H} event read valid old r new =
    (cs : List (Cell H)) × TakesIn event old Begins 12 cs (is_err r) (IsHeader read valid (λ front hs. front.list.items ≡ hs) cs) (IsNoHeader (λ bs. valid (read bs)) cs) r new

-- `recv_data`, whose bytes lie at the front of the text
abbrev pub ReadsCount : {L H : Type 0} → (L → Event H → L → Type 0) → State L H → ℕ → Result ℕ Error → List ℕ → State L H → Type 0
ReadsCount {H} event old len r text new = (cs : List (Cell H)) × TakesIn event old GoesOn len cs old.list (λ n. (brings_handles cs ≡ false) × (n ≡ length cs) × (take n text ≡ bytes cs)) (BroughtHandles cs) r new

-- `recv_into_buf`, likewise
abbrev pub ReadsCountOnce : {L H : Type 0} → (L → Event H → L → Type 0) → State L H → ℕ → Result (ℕ × Option (Vec H Global)) Error → List ℕ → State L H → Type 0
ReadsCountOnce {H} event old len (Ok x) text new = (cs : List (Cell H)) × CameOnce event old len cs new × (x.0 ≡ length cs) × (take x.0 text ≡ bytes cs) × HandsOver x.1 (first_handles cs)
ReadsCountOnce event old len (Err e) text new = Trouble event old 0 IfSound false nothing e new

-- the list of handles is given away where there are handles in it
abbrev pub gives : {L H : Type 0} → State L H → List H → State L H
gives old hs = if has_some hs then old else record old { list = true }

-- Behind the front of a message more comes into the room, with the retries that its front has left; what was left for other bodies stays.
abbrev pub ReadsMore : {L H : Type 0} → (L → Event H → L → Type 0) → State L H → (left : ℕ) → List ℕ → Result ℕ Error → List ℕ → State L H → Type 0
ReadsMore {H} event old left before (Ok n) after new = (cs : List (Cell H)) × (after ≡ bytes cs ++ drop (length cs) before) × (n ≡ length cs) × (new.left ≡ old.left)
    × (rest : ℕ) × Came event (record old { left = left }) GoesOn (length before) cs old.list (record new { left = rest })
ReadsMore {H} event old left before (Err e) after new = (cs : List (Cell H)) × (after ≡ bytes cs ++ drop (length cs) before) × CutShort event (record old { left = left }) GoesOn (length before) cs e new
