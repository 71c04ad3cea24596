-- Each call sends what can be sent.
use Rattle.std.proofs.Common.{◌≡◌, ℕ, suc, ◌+◌, ◌≤◌, Bool, true, false, cond, ◌&&◌, ◌||◌, List, [], ◌∷◌, length, Option, Some, None, Result, Ok, Err, refl, arith}
use Rattle.std.specs.Prelude.{nat_le, ◌==◌}
use Rattle.std.specs.List.{list_all, filter_map}
use Rattle.std.proofs.lemmas.Bool.{leb-true}
use Rattle.std.proofs.lemmas.List.{length-map}
use Rattle.vhost_message.specs.declared.limits.TheConstants.{MAX_ATTACHED_FD_ENTRIES, MAX_MEM_REGIONS, MAX_MSG_SIZE}
use Rattle.vhost_message.specs.declared.heard_req.HeardReq.TheVariants.{SET_MEM_TABLE, ADD_MEM_REG, GET_CONFIG, SET_CONFIG, GET_SHARED_OBJECT}
use Rattle.vhost_message.specs.declared.records.memory.VhostUserMemoryRegion.{VhostUserMemoryRegion}
use Rattle.vhost_message.specs.declared.records.shared.VhostUserSharedMsg.{VhostUserSharedMsg}
use Rattle.vhost_protocol.specs.Ask.{Asked, ask, param, message, config, regions_in, handles_in, is_usable, given, asks, asks_unacknowledged, sends, ◌>>◌, ◌>>=◌}
use Rattle.vhost_protocol.specs.declared.asked.Shape.TheVariants as shape
use Rattle.vhost_protocol.specs.Codes.{allows_handles}
use Rattle.vhost_protocol.specs.Error.{Error}
use Rattle.vhost_protocol.specs.FrontendCall.{FrontendCall, SetMemTable, SetLogBase, SetVringCall, SetVringKick, SetVringErr, GetConfig, SetConfig, GetSharedObject, PostcopyAckMemRegions, SetHdrFlags, Info, Frontend}
use Rattle.vhost_protocol.specs.Heard.{IsSendable, AsksSendable, SendsWhole}
use Rattle.vhost_protocol.specs.Session.{is_listen}
use Rattle.vhost_protocol.specs.Written.{ObjectName, Written, Regions, ConfigBytes, payload_text}
use Rattle.vhost_message.specs.declared.heard_req.HeardReq.{HeardReq}
use Rattle.vhost_message.specs.HeardReq.{is_named}
use Rattle.vhost_protocol.proofs.RegionLaws.{regions-length}

module _ (H : Type 0) where
  whole-then : (x : Result (Unit {0}) Error) (next : Asked H) → AsksSendable next → AsksSendable (x >> next)
  whole-then (Ok u) next h = h
  whole-then (Err e) next h = tt

  whole-given : (A : Type 0) (x : Option A) (next : A → Asked H) → ((a : A) → AsksSendable (next a)) → AsksSendable (given x >>= next)
  whole-given A (Some a) next h = h a
  whole-given A None next h = tt

  whole-cond : (b : Bool) (x y : Asked H) → AsksSendable x → AsksSendable y → AsksSendable (cond b x y)
  whole-cond true x y h k = h
  whole-cond false x y h k = k

  -- a message of a fixed length
  whole : (w : Written HeardReq H) → is_named w.request ≡ true → allows_handles w.request (length w.handles) ≡ true → nat_le (length (payload_text w.payload)) MAX_MSG_SIZE ≡ true → nat_le (length w.handles) MAX_ATTACHED_FD_ENTRIES ≡ true → IsSendable w
  whole w named wants size few = record { named = named; allowed = wants; size = leb-true (length (payload_text w.payload)) MAX_MSG_SIZE size; few = leb-true (length w.handles) MAX_ATTACHED_FD_ENTRIES few }

  ruleset wholes = (whole-then, whole-given, whole-cond, whole)

  -- a call whose message has a fixed length
  abbrev IsFixed : FrontendCall H → Type 0
  IsFixed (SetMemTable infos) = ⊥
  IsFixed (GetConfig o n k buffer) = ⊥
  IsFixed (SetConfig o k buffer) = ⊥
  IsFixed (GetSharedObject name) = ⊥
  IsFixed (PostcopyAckMemRegions r) = ⊥
  IsFixed (SetLogBase base region) = ⊥
  IsFixed _ = Unit {0}

  whole-fixed : (f : Frontend) (call : FrontendCall H) → IsFixed call → AsksSendable (ask f call)
  whole-fixed f (SetMemTable infos) fixed = absurd fixed
  whole-fixed f (GetConfig o n k buffer) fixed = absurd fixed
  whole-fixed f (SetConfig o k buffer) fixed = absurd fixed
  whole-fixed f (GetSharedObject name) fixed = absurd fixed
  whole-fixed f (PostcopyAckMemRegions r) fixed = absurd fixed
  whole-fixed f (SetLogBase base region) fixed = absurd fixed
  whole-fixed f (SetVringCall i None) fixed = search wholes depth 12
  whole-fixed f (SetVringCall i (Some h)) fixed = search wholes depth 12
  whole-fixed f (SetVringKick i None) fixed = search wholes depth 12
  whole-fixed f (SetVringKick i (Some h)) fixed = search wholes depth 12
  whole-fixed f (SetVringErr i None) fixed = search wholes depth 12
  whole-fixed f (SetVringErr i (Some h)) fixed = search wholes depth 12
  whole-fixed f (SetHdrFlags flags) fixed = tt
  whole-fixed f _ fixed = search wholes depth 12

  -- ---- calls whose message is as long as their arguments

  whole-known : (b : Bool) (next : Asked H) → (b ≡ true → AsksSendable next) → AsksSendable (param b >> next)
  whole-known true next h = h refl
  whole-known false next h = tt

  both : (a b : Bool) → (a && b) ≡ true → (a ≡ true) × (b ≡ true)
  both true b h = (refl, h)
  both false b h = absurd (cc h)

  handles-few : (infos : List (Info H)) → length (handles_in infos) ≤ length infos
  handles-few [] = omega arith
  handles-few (i ∷ infos) = let rest = handles-few infos in go i.handle rest
    where
      go : (h : Option H) → length (handles_in infos) ≤ length infos → length (filter_map (λ info. info.handle) (record { region = i.region; handle = h } ∷ infos)) ≤ suc (length infos)
      go None rest = omega (arith, rest)
      go (Some h) rest = omega (arith, rest)

  any-handles : (n : ℕ) → allows_handles SET_MEM_TABLE n ≡ true
  any-handles n = go (n == 0)
    where
      go : (b : Bool) → (b || true) ≡ true
      go true = refl
      go false = refl

  whole-table : (f : Frontend) (infos : List (Info H)) → AsksSendable (ask f (SetMemTable infos))
  whole-table f infos = whole-known (nat_le 1 (length infos) && nat_le (length infos) MAX_MEM_REGIONS && list_all is_usable infos) _ sent
    where
      rs : List VhostUserMemoryRegion
      rs = regions_in infos

      table : (reply need_reply : Bool) → length infos ≤ MAX_MEM_REGIONS → IsSendable {H = H} (record { request = SET_MEM_TABLE; reply = reply; need_reply = need_reply; payload = Regions rs; handles = handles_in infos })
      table reply need_reply most = record {
        named = refl;
        allowed = any-handles (length (handles_in infos));
        size = omega (arith, regions-length rs, length-map infos (λ info. info.region), most);
        few = omega (arith, handles-few infos, most);
      }

      sent : (nat_le 1 (length infos) && nat_le (length infos) MAX_MEM_REGIONS && list_all is_usable infos) ≡ true → AsksSendable (cond (is_listen f.postcopy) (asks_unacknowledged f SET_MEM_TABLE (Regions rs) (handles_in infos) shape.Memory) (sends f SET_MEM_TABLE (Regions rs) (handles_in infos)))
      sent usable =
          let most = leb-true (length infos) MAX_MEM_REGIONS (both (nat_le 1 (length infos)) (nat_le (length infos) MAX_MEM_REGIONS) (both (nat_le 1 (length infos) && nat_le (length infos) MAX_MEM_REGIONS) (list_all is_usable infos) usable).0).1 in
          whole-cond (is_listen f.postcopy) _ _ (table _ _ most) (table _ _ most)

  -- a record of configuration space and bytes behind it
  whole-bytes : (w : Written HeardReq H) → is_named w.request ≡ true → allows_handles w.request (length w.handles) ≡ true → nat_le (length w.handles) MAX_ATTACHED_FD_ENTRIES ≡ true → length (payload_text w.payload) ≤ MAX_MSG_SIZE → IsSendable w
  whole-bytes w named wants few size = record { named = named; allowed = wants; size = size; few = leb-true (length w.handles) MAX_ATTACHED_FD_ENTRIES few }

  whole-get_config : (f : Frontend) (o n k : ℕ) (buffer : List ℕ) → AsksSendable {H = H} (ask f (GetConfig o n k buffer))
  whole-get_config f o n k buffer = search (wholes, last) depth 12
    where
      last : AsksSendable {H = H} (param (nat_le (12 + length buffer) MAX_MSG_SIZE) >> asks f GET_CONFIG (ConfigBytes (config o n k) buffer) [] shape.Config)
      last = whole-known (nat_le (12 + length buffer) MAX_MSG_SIZE) (asks f GET_CONFIG (ConfigBytes (config o n k) buffer) [] shape.Config)
          (λ few. whole-bytes (message f GET_CONFIG (ConfigBytes (config o n k) buffer) []) refl refl refl (omega (arith, leb-true (12 + length buffer) MAX_MSG_SIZE few)))

  whole-set_config : (f : Frontend) (o k : ℕ) (buffer : List ℕ) → AsksSendable {H = H} (ask f (SetConfig o k buffer))
  whole-set_config f o k buffer = search (wholes, last) depth 12
    where
      last : AsksSendable {H = H} (param (nat_le (12 + length buffer) MAX_MSG_SIZE) >> sends f SET_CONFIG (ConfigBytes (config o (length buffer) k) buffer) [])
      last = whole-known (nat_le (12 + length buffer) MAX_MSG_SIZE) (sends f SET_CONFIG (ConfigBytes (config o (length buffer) k) buffer) [])
          (λ few. whole-bytes (message f SET_CONFIG (ConfigBytes (config o (length buffer) k) buffer) []) refl refl refl (omega (arith, leb-true (12 + length buffer) MAX_MSG_SIZE few)))

  whole-object : (f : Frontend) (name : VhostUserSharedMsg) → length name.uuid ≡ 16 → AsksSendable {H = H} (ask f (GetSharedObject name))
  whole-object f name sixteen = search (wholes, named) depth 12
    where
      named : (r reply : Bool) → IsSendable {H = H} (record { request = GET_SHARED_OBJECT; reply = r; need_reply = reply; payload = ObjectName name; handles = [] })
      named r reply = record { named = refl; allowed = refl; size = omega (arith, sixteen); few = omega arith }

  -- ---- all calls

  pub sends-whole : SendsWhole H
  sends-whole f (SetMemTable infos) named = whole-table f infos
  sends-whole f (GetConfig o n k buffer) named = whole-get_config f o n k buffer
  sends-whole f (SetConfig o k buffer) named = whole-set_config f o k buffer
  sends-whole f (GetSharedObject name) named = whole-object f name named
  sends-whole f (PostcopyAckMemRegions SET_MEM_TABLE) named = search wholes depth 12
  sends-whole f (PostcopyAckMemRegions ADD_MEM_REG) named = search wholes depth 12
  sends-whole f (PostcopyAckMemRegions _) named = tt
  sends-whole f (SetLogBase base None) named = search wholes depth 12
  sends-whole f (SetLogBase base (Some r)) named = search wholes depth 12
  sends-whole f call named = whole-fixed f call tt
