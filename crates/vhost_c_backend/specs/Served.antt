-- What the calls of a session do that serves.
use Rattle.std.specs.Prelude.{◌≡◌, ℕ, ℤ, Bool, true, false, ◌||◌, ◌==◌, nat_lt, List, ◌++◌, Contains, Option, Some, None, Result, Ok, Err, ⊤, is_some, if◌then◌else◌}
use Rattle.vhost_message.specs.declared.limits.TheConstants.{MSG_HEADER_SIZE}
use Rattle.vhost_message.specs.declared.error.Error.TheVariants.{InvalidParam}
use Rattle.vhost_protocol.specs.declared.profile.Profile.{Profile}
use Rattle.vhost_protocol.specs.declared.profile.Profile.TheVariants.{Standard}
use Rattle.vhost_protocol.specs.Session.{Session, fresh, heard_in}
use Rattle.vhost_protocol.specs.Stream.{Cell}
use Rattle.vhost_link.specs.declared.plain.PlainHandle.{PlainHandle}
use Rattle.vhost_connection.specs.Memory.{stream}
use Rattle.vhost_backend_req_handler.specs.Core.{endpoint_of, session_in}
use Rattle.vhost_backend_req_handler.specs.declared.halves.Pending.{Pending}
use Rattle.vhost_backend_req_handler.specs.declared.service.Service.{Service}
use Rattle.vhost_c_common.specs.Held.{Abandons, Claimed, Gets, HandsLoose, HoldsNone, claimable}
use Rattle.vhost_c_common.specs.Incoming.{missing_by}
use Rattle.vhost_c_common.specs.Number.{error_number}
use Rattle.vhost_c_common.specs.View as session
use Rattle.vhost_c_common.specs.View.{View, IsEmpty, view_of}
use Rattle.vhost_c_common.specs.declared.refusal.Refusal.{Refusal}
use Rattle.vhost_c_common.specs.declared.refusal.Refusal.TheVariants.{Protocol, NotReplied, OtherCall}
use Rattle.vhost_c_backend.specs.declared.replies.Form.{Form}
use Rattle.vhost_c_backend.specs.declared.served.Served.{Served}

-- what is to be sent: bytes, each with the descriptors that go with it
abbrev pub queued : Served → List (Cell PlainHandle)
queued s = s.outgoing.link.pending ++ (endpoint_of s.core).link.sent

-- what came, and was not read
abbrev pub arrived : Served → List (Cell PlainHandle)
arrived s = stream (endpoint_of s.core)

-- what is remembered of the frontend
abbrev pub remembers : Served → Session
remembers s = session_in s.core

-- whether a call is to be replied to
abbrev pub has_call : Served → Bool
has_call s = is_some s.core.pending

-- how many bytes can be told to be missing of the next request
abbrev pub missing_of_request : Served → ℕ
missing_of_request s = missing_by (heard_in (remembers s)) s.incoming

-- the same: none where a call is to be replied to
abbrev pub missing_of : Served → ℕ
missing_of s = if has_call s then 0 else missing_of_request s

-- whether nothing came of the next request: what comes now comes with its first byte
abbrev pub is_first : Served → Bool
is_first s = s.incoming.count == 0

-- it, as the contracts of all sessions see one: with the call that is to be replied to, its body, what is remembered, which feature the last request lacked, and in which form that call is replied to
abbrev pub view : Served → View (Option (Pending PlainHandle) × List ℕ × Service × ℕ × Form)
view s = view_of s.outgoing (endpoint_of s.core) s.incoming (s.core.pending, s.core.body.value, s.core.service, s.inactive, s.form)

-- what a session answers to bytes of a request: no more may come than are missing
abbrev pub Receiving : List ℕ → List ℤ → Served → Result ⊤ Refusal → Served → Type 0
Receiving bytes fds s outcome s' = session.Receiving (missing_of s) bytes fds (view s) outcome (view s')

-- what becomes of the descriptors that come with them
abbrev pub Getting : List ℤ → Served → Result ⊤ Refusal → Served → Type 0
Getting fds s outcome s' = Gets fds (is_first s) s.held outcome s'.held

-- what it answers where it is to hand out what is to be sent
abbrev pub Sending : List ℕ → List ℤ → ℕ × ℕ → Served → Result ⊤ Refusal → Served → Type 0
Sending bytes fds count s outcome s' = session.Sending bytes fds count (view s) outcome (view s')

-- what it means that the stream ended: between two requests, in a header, in a body
abbrev pub end_number : Served → ℕ
end_number s = if s.incoming.count == 0 || missing_of s == 0 then 10 else if nat_lt s.incoming.count MSG_HEADER_SIZE then 9 else 5

-- what a new session remembers: it keeps to the specification, as real frontends do
abbrev pub new_session : Session
new_session = record fresh { profile = Standard }

-- A new session: it is sound and empty, no call is to be replied to, no request lacked a feature, no descriptor is held.
pub record IsNew (s : Served) : Type 0 where
  pub empty : IsEmpty (view s)
  pub memory : remembers s ≡ new_session
  pub idle : has_call s ≡ false
  pub inactive : s.inactive ≡ 0
  pub held : HoldsNone s.held

-- It has this profile from now on; nothing else changed.
pub record Chose (profile : Profile) (old new : Served) : Type 0 where
  pub memory : remembers new ≡ record (remembers old) { profile = profile }
  pub end : endpoint_of new.core ≡ endpoint_of old.core
  pub queue : queued new ≡ queued old
  pub came : arrived new ≡ arrived old
  pub incoming : new.incoming ≡ old.incoming
  pub idle : has_call new ≡ false
  pub inactive : new.inactive ≡ old.inactive
  pub held : new.held ≡ old.held

-- what a session answers where its profile is chosen: it is one, and no call is to be replied to
abbrev pub Choosing : Option Profile → Served → Result ⊤ Refusal → Served → Type 0
Choosing (Some profile) s (Ok done) s' = Chose profile s s'
Choosing (Some profile) s (Err NotReplied) s' = (has_call s ≡ true) × (s' ≡ s)
Choosing None s (Err (Protocol InvalidParam)) s' = s' ≡ s
Choosing profile s _ s' = ⊥

-- what is answered to the end of the stream
abbrev pub Ending : Served → Result ⊤ Refusal → Served → Type 0
Ending s (Err (Protocol e)) s' = (error_number e ≡ end_number s) × (s' ≡ s)
Ending s _ s' = ⊥

-- what it answers to a claim of a descriptor: it came with the call that is to be replied to, and is the caller's now; or there is no such call, or it has none of that number that was not claimed
abbrev pub Claiming : ℤ → Served → Result ⊤ Refusal → Served → Type 0
Claiming fd s (Ok done) s' = (has_call s ≡ true) × Claimed fd s.held s'.held × (s' ≡ record s { held = s'.held })
Claiming fd s (Err OtherCall) s' = (has_call s ≡ true → ¬ (Contains (claimable s.held) fd)) × (s' ≡ s)
Claiming fd s _ s' = ⊥

-- what a call of C does that hands out descriptors that nobody will claim
abbrev pub LettingGo : List ℤ → ℕ → List ℤ → Served → Result ⊤ Refusal → Served → Type 0
LettingGo before count after s (Ok done) s' = HandsLoose s.held before count after s'.held × (s' ≡ record s { held = s'.held })
LettingGo before count after s (Err r) s' = ⊥

-- what a call of C does after which the rest of a request will never come
abbrev pub Abandoning : Served → Result ⊤ Refusal → Served → Type 0
Abandoning s (Ok done) s' = Abandons (has_call s) s.held s'.held × (s' ≡ record s { held = s'.held })
Abandoning s (Err r) s' = ⊥
