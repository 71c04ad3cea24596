-- The theorem in five statements; each is the contract of one function of src/headline.rt. They are made of vhost_protocol's definitions.
pub mod Words
use Words.*

-- no link and no allocation stopped the run
abbrev pub NothingStopped : {Dev : Type 0} → View Dev → Type 0
NothingStopped run = run.stopped ≡ Some Premise → ⊥

-- Over an endpoint this came, with the ends of streams that its link told, and this was written; no call of the link failed for good.
abbrev pub Carries : {L H : Type 0} → (L → Event H → L → Type 0) → State L H → List (Item H) → List (Cell H) → State L H → Type 0
Carries event old came written new = (retries : ℕ) × Talks event old (move came written retries 0) new

-- the session is as it was, or has ended since it could not answer whoever waits
abbrev pub Stays : Session → Session → Type 0
Stays s t = (t ≡ s) ⊎ (t ≡ record s { failed = Some (pos 71) })

-- Why a call was not served, whatever the device answers: the session had ended, or the endpoint was poisoned, before it; there was no memory for its list of handles, and nothing changed; or its link met a fault.
pub data NotServed {L H Dev : Type 0} (old : State L H) (s : Session) (d : Dev) (result : Result ⊤ Error) (new : State L H) (s' : Session) (d' : Dev) : Type 0 where
  over : (n : ℤ) → s.failed ≡ Some n → NotServed old s d result new s' d'
  poisoned : (c : IoCause) → old.broken ≡ Some c → NotServed old s d result new s' d'
  no_memory : old.list ≡ false → result ≡ Err OutOfMemory → new ≡ record old { faulted = false } → s' ≡ s → d' ≡ d → NotServed old s d result new s' d'
  fault : new.faulted ≡ true → NotServed old s d result new s' d'

-- The device is called once, for a request that came whole, and moves by its own relation; or it is not called.
abbrev pub CallsAtMostOnce : {L H B G Dev : Type 0} → (L → Event H → L → Type 0) → (Dev → (c : Call H B G) → Answer c → Dev → Type 0) → State L H → Session → Dev → Session → Dev → Type 0
CallsAtMostOnce {L} {H} {B} {G} event gives old s d s' d' =
    ((m : Message HeardReq H) × (read : State L H) × Hears event (split (heard_in s) allows_handles) old (Ok m) read × (c : Call H B G) × (a : Answer c) × gives d c a d')
    ⊎ ((d' ≡ d) × Stays s s')

-- Any endpoint and any session.
module _ {L H B G Dev : Type 0} (event : L → Event H → L → Type 0) (gives : Dev → (c : Call H B G) → Answer c → Dev → Type 0) (opens_backend : H → Result B SeenError → Type 0) (opens_gpu : H → Result G SeenError → Type 0) where
  -- Many requests of one stream, in its order, and what was written in theirs. Under Standard whoever waits is answered once, or the session has ended; nobody else is answered.
  pub record IsRun (old : State L H) (s : Session) (d : Dev) (answers : List (Result ⊤ Error)) (new : State L H) (s' : Session) (d' : Dev) : Type 0 where
    pub came : List (Item H)
    pub written : List (Cell H)
    pub carries : Carries event old came written new
    pub run : HandlesRequests (fitting gives) opens_backend opens_gpu s d (map (λ a. seen_result a) answers) came written s' d'
    pub waits : s.profile ≡ Standard → AllAnswered s (map (λ a. seen_result a) answers) came written s'

  -- a run up to a call that was not served; behind it calls may come that are served, or not
  pub record IsRunUntil (old : State L H) (s : Session) (d : Dev) (answers : List (Result ⊤ Error)) : Type 0 where
    pub served : List (Result ⊤ Error)
    pub answer : Result ⊤ Error
    pub later : List (Result ⊤ Error)
    pub all : answers ≡ served ++ answer ∷ later
    pub mid : State L H
    pub mid_session : Session
    pub mid_device : Dev
    pub run : IsRun old s d served mid mid_session mid_device
    pub next : State L H
    pub next_session : Session
    pub next_device : Dev
    pub fails : NotServed mid mid_session mid_device answer next next_session next_device
    pub device : CallsAtMostOnce event gives mid mid_session mid_device next_session next_device

-- Any link, any device behind a backend, and both after some calls. A device is whatever relation `gives` its answers.
module _ {L H Dev : Type 0} (event : L → Event H → L → Type 0) (opens : L → H → Result L IoCause → Type 0) (kinds : H → Result Kind IoCause → Type 0)
    (gives : Dev → (c : Call H (Backend L H) (GpuBackend L H)) → Answer c → Dev → Type 0) (old : SessionCore L H) (d : Dev) (new : SessionCore L H) (d' : Dev) where
  -- a handle is opened as a channel to the frontend, or to a display
  abbrev pub to_backend : H → Result (Backend L H) SeenError → Type 0
  to_backend h opened = OpensAsBackend opens kinds (endpoint_of old).budget h opened

  abbrev pub to_gpu : H → Result (GpuBackend L H) SeenError → Type 0
  to_gpu h opened = OpensAsGpu opens kinds (endpoint_of old).budget h opened

  -- ---- 1. Safe and total

  -- Whatever bytes and handles come, and however they are cut: one call returns, and this holds.
  pub record SafeAndTotal (result : Result ⊤ Error) : Type 0 where
    -- a session that has ended says so, and nothing changes
    pub ended : (n : ℤ) → (session_in old).failed ≡ Some n → (result ≡ Err (SocketBroken (Raw n))) × (endpoint_of new ≡ endpoint_of old) × (session_in new ≡ session_in old) × (d' ≡ d)
    -- a poisoned endpoint says why, and nothing changes
    pub poisoned : (session_in old).failed ≡ None → (c : IoCause) → (endpoint_of old).broken ≡ Some c → Unserved (endpoint_of old) (session_in old) d c result (endpoint_of new) (session_in new) d'
    -- an I/O error is the answer, and poisons the endpoint if a byte had moved before it
    pub failed : (session_in old).failed ≡ None → (endpoint_of new).faulted ≡ true → MeetsFault event (endpoint_of old) result (endpoint_of new)
    -- nothing else poisons it
    pub sound : (endpoint_of new).faulted ≡ false → (endpoint_of new).broken ≡ (endpoint_of old).broken
    -- the device is called once, for a request that came whole, and moves by its own relation; or it is not called
    pub device : CallsAtMostOnce event gives (endpoint_of old) (session_in old) d (session_in new) d'

  -- ---- 2. Each call meets its row

  -- One request came whole, or the stream had none there. The row of the table says how the device was called, what was answered and written, and the next session.
  abbrev pub MeetsItsRow : Result ⊤ Error → Type 0
  MeetsItsRow result = (came : List (Item H)) × (written : List (Cell H)) × Carries event (endpoint_of old) came written (endpoint_of new)
      × HandlesRequest (fitting gives) to_backend to_gpu (session_in old) d came (seen_result result) written (session_in new) d'

  -- so does each call that is served
  abbrev pub MeetsItsRowOrFails : Result ⊤ Error → Type 0
  MeetsItsRowOrFails result = MeetsItsRow result ⊎ NotServed (endpoint_of old) (session_in old) d result (endpoint_of new) (session_in new) d'

  -- ---- 3. Whole runs

  -- So many answers. They are a run, as far as the calls were served.
  abbrev pub RunsAsServed : ℕ → List (Result ⊤ Error) → Type 0
  RunsAsServed count answers = (length answers ≡ count)
      × (IsRun event gives to_backend to_gpu (endpoint_of old) (session_in old) d answers (endpoint_of new) (session_in new) d' ⊎ IsRunUntil event gives to_backend to_gpu (endpoint_of old) (session_in old) d answers)

-- ---- 4. Lockstep

-- The answers of a frontend's calls, joined to a backend, are a run of the protocol from two new sides to those of now.
pub record IsInStep {Dev : Type 0} (gives : Gives Dev) (profile : Profile) (queues : ℕ) (device : Dev) (calls : List FrontendCall) (answers : List FrontendAnswer) (now : View Dev) : Type 0 where
  pub run : JoinedRun gives opens_backend opens_gpu (record (new_frontend queues) { profile = profile }) (record fresh { profile = profile }) device (entries calls answers) now.frontend now.session now.device
  pub nothing_left : (now.to_handler ≡ []) × (now.to_frontend ≡ [])
  pub agree : now.stopped ≡ None → AgreeOn now.frontend now.session
  -- under Standard it stops only where the session has ended
  pub ends : profile ≡ Standard → now.stopped ≡ Some Table → is_some now.session.failed ≡ true

-- ---- 5. Threads and ring

-- The log of callers in many threads is what one caller alone would have been answered, in some order that keeps that of each.
abbrev pub IsLegalLog : {Dev : Type 0} → Gives Dev → Recording Dev → Type 0
IsLegalLog gives r = IsLegal gives opens_backend opens_gpu r.queues (is_broken r.joined.stopped) r.entries r.joined.frontend r.joined.session r.joined.device
