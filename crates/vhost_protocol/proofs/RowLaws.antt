-- A fact of all rows: what holds of the session before a step holds of it after.
use Rattle.std.proofs.Common.{◌≡◌, ℕ, length, Bool, true, false, cond, List, [], Option, Some, None, Result, Ok, Err, refl}
use Rattle.std.specs.Prelude.{◌==◌}
use Rattle.vhost_message.specs.declared.heard_req.HeardReq.{HeardReq}
use Rattle.vhost_message.specs.declared.heard_req.HeardReq.TheVariants.{SET_MEM_TABLE}
use Rattle.vhost_message.specs.declared.postcopy.PostcopyState.{PostcopyState}
use Rattle.vhost_message.specs.declared.records.config.VhostUserConfig.{VhostUserConfig}
use Rattle.vhost_message.specs.declared.records.inflight.VhostUserInflight.{VhostUserInflight}
use Rattle.vhost_message.specs.declared.records.memory.VhostUserMemoryRegion.{VhostUserMemoryRegion}
use Rattle.vhost_message.specs.declared.records.memory.VhostUserSingleMemoryRegion.{VhostUserSingleMemoryRegion}
use Rattle.vhost_protocol.specs.Agreement.{lasting, KeepsMark, RowsKeepMark}
use Rattle.vhost_protocol.specs.Error.{Error, BackendInternalError}
use Rattle.vhost_protocol.specs.Split.{Message}
use Rattle.vhost_protocol.specs.Session.{Session}
use Rattle.vhost_protocol.specs.Step.{Refusal, Step, ◌>>=◌, ◌>>◌, replied, replied_or_silent, failed_with}
use Rattle.vhost_protocol.specs.Answered.{with_handle, with_inflight, with_state, with_check, with_features, with_config, with_base, with_bases, if_agreed, rebased}
use Rattle.vhost_protocol.specs.Written.{Payload, ConfigBytes, Regions}

module _ (H B G : Type 0) where
  keeps-then : (s : Session) (t : Result (Unit {0}) (Refusal H)) (next : Step H B G) → KeepsMark s next → KeepsMark s (t >> next)
  keeps-then s (Ok u) next h = h
  keeps-then s (Err r) next h = tt

  keeps-bind : (A : Type 0) (s : Session) (t : Result A (Refusal H)) (next : A → Step H B G) → ((a : A) → KeepsMark s (next a)) → KeepsMark s (t >>= next)
  keeps-bind A s (Ok a) next h = h a
  keeps-bind A s (Err r) next h = tt

  keeps-if : (s : Session) (b : Bool) (x y : Step H B G) → KeepsMark s x → KeepsMark s y → KeepsMark s (cond b x y)
  keeps-if s true x y h k = h
  keeps-if s false x y h k = k

  -- the outcomes that go by cases on the answer
  keeps-replied_or_silent : (A : Type 0) (s : Session) (payload : A → Payload) (a : Result A Error) → lasting (replied_or_silent {H = H} s payload a).session ≡ lasting s
  keeps-replied_or_silent A s payload (Ok a) = refl
  keeps-replied_or_silent A s payload (Err e) = refl

  keeps-with_handle : (s t : Session) (a : Result H Error) → lasting t ≡ lasting s → lasting (with_handle t a).session ≡ lasting s
  keeps-with_handle s t (Ok a) h = h
  keeps-with_handle s t (Err e) h = h

  keeps-with_inflight : (s : Session) (a : Result (VhostUserInflight × H) Error) → lasting (with_inflight s a).session ≡ lasting s
  keeps-with_inflight s (Ok a) = refl
  keeps-with_inflight s (Err e) = refl

  keeps-with_state : (s : Session) (a : Result (Option H) Error) → lasting (with_state s a).session ≡ lasting s
  keeps-with_state s (Ok (Some h)) = refl
  keeps-with_state s (Ok None) = refl
  keeps-with_state s (Err e) = refl

  keeps-with_check : (s : Session) (a : Result (Unit {0}) Error) → lasting (with_check {H = H} s a).session ≡ lasting s
  keeps-with_check s (Ok u) = refl
  keeps-with_check s (Err e) = refl

  keeps-with_features : (s : Session) (a : Result ℕ Error) → lasting (with_features {H = H} s a).session ≡ lasting s
  keeps-with_features s (Ok a) = refl
  keeps-with_features s (Err e) = refl

  keeps-with_config : (s : Session) (c : VhostUserConfig) (a : Result (List ℕ) Error) → lasting (with_config {H = H} s c a).session ≡ lasting s
  keeps-with_config s c (Ok bytes) = go (length bytes == c.size)
    where
      go : (b : Bool) → lasting (cond b (replied {H = H} s (ConfigBytes c bytes) []) (replied s (ConfigBytes (record c { size = 0 }) []) [])).session ≡ lasting s
      go true = refl
      go false = refl
  keeps-with_config s c (Err e) = refl

  keeps-with_base : (s : Session) (m : Message HeardReq H) (r : VhostUserSingleMemoryRegion) (a : Result (Option ℕ) Error) → lasting (with_base s m r a).session ≡ lasting s
  keeps-with_base s m r (Ok (Some base)) = refl
  keeps-with_base s m r (Ok None) = refl
  keeps-with_base s m r (Err e) = refl

  keeps-with_bases : (s : Session) (m : Message HeardReq H) (regions : List VhostUserMemoryRegion) (a : Result (Option (List ℕ)) Error) → lasting (with_bases s m regions a).session ≡ lasting s
  keeps-with_bases s m regions (Ok (Some bases)) = go (length bases == length regions)
    where
      go : (b : Bool) → lasting (cond b (replied s (Regions (rebased regions bases)) []) (failed_with s m BackendInternalError)).session ≡ lasting s
      go true = refl
      go false = refl
  keeps-with_bases s m regions (Ok None) = refl
  keeps-with_bases s m regions (Err e) = refl

  keeps-if_agreed : (A : Type 0) (s : Session) (p : PostcopyState) (a : Result A Error) → lasting (if_agreed s p a) ≡ lasting s
  keeps-if_agreed A s p (Ok a) = refl
  keeps-if_agreed A s p (Err e) = refl

  ruleset kept = (keeps-then, keeps-bind, keeps-if, keeps-replied_or_silent, keeps-with_handle, keeps-with_inflight, keeps-with_state, keeps-with_check, keeps-with_features, keeps-with_config, keeps-with_base, keeps-with_bases, keeps-if_agreed)

  pub rows-keep : RowsKeepMark H B G
  rows-keep SET_MEM_TABLE s m = search kept depth 12
  rows-keep _ s m = search kept depth 12
