-- The requests of calls.
use Rattle.std.proofs.Common.{◌≡◌, Bool, true, false, cond, [], Option, Some, None, Result, Ok, Err, refl, subst}
use Rattle.std.specs.Prelude.{⊤}
use Rattle.vhost_message.specs.declared.heard_req.HeardReq.{HeardReq}
use Rattle.vhost_message.specs.declared.heard_req.HeardReq.TheVariants.{SET_MEM_TABLE, ADD_MEM_REG}
use Rattle.vhost_protocol.specs.Ask.{Asked, Sends, ask, param, unacknowledged, is_mapping, given, ◌>>◌, ◌>>=◌}
use Rattle.vhost_protocol.specs.declared.asked.Awaited.{Awaited}
use Rattle.vhost_protocol.specs.declared.asked.Awaited.TheVariants.{Nobody}
use Rattle.vhost_protocol.specs.Error.{Error}
use Rattle.vhost_protocol.specs.FrontendCall.{FrontendCall, Frontend, SetLogBase, PostcopyAckMemRegions}
use Rattle.vhost_protocol.specs.Joined.{is_end}
use Rattle.vhost_protocol.specs.Written.{Written, U64}
use Rattle.vhost_joined.specs.Joined.{ends}

-- what a call becomes ends postcopy where the call does
abbrev EndsAs : {H : Type 0} → Bool → Asked H → Type 0
EndsAs b (Sends w awaited g) = is_end w.request ≡ b
EndsAs b _ = ⊤

module _ (H : Type 0) (b : Bool) where
  ends-then : (x : Result (Unit {0}) Error) (next : Asked H) → EndsAs b next → EndsAs b (x >> next)
  ends-then (Ok u) next h = h
  ends-then (Err e) next h = tt

  ends-given : (A : Type 0) (x : Option A) (next : A → Asked H) → ((a : A) → EndsAs b (next a)) → EndsAs b (given x >>= next)
  ends-given A (Some a) next h = h a
  ends-given A None next h = tt

  ends-cond : (c : Bool) (x y : Asked H) → EndsAs b x → EndsAs b y → EndsAs b (cond c x y)
  ends-cond true x y h k = h
  ends-cond false x y h k = k

ruleset ending = (ends-then, ends-given, ends-cond)

mapping-goes-on : (r : HeardReq) → is_mapping r ≡ true → is_end r ≡ false
mapping-goes-on SET_MEM_TABLE e = refl
mapping-goes-on ADD_MEM_REG e = refl
mapping-goes-on _ e = absurd (cc e)

acknowledged-goes-on : (H : Type 0) (f : Frontend) (r : HeardReq) (b : Bool) → is_mapping r ≡ b → EndsAs {H = H} false (param b >> Sends (unacknowledged f r (U64 0) []) Nobody f)
acknowledged-goes-on H f r true e = mapping-goes-on r e
acknowledged-goes-on H f r false e = tt

asked-ends : {H : Type 0} (f : Frontend) (call : FrontendCall H) → EndsAs (ends call) (ask f call)
asked-ends f (SetLogBase base None) = refl
asked-ends f (SetLogBase base (Some r)) = search ending
asked-ends f (PostcopyAckMemRegions r) = acknowledged-goes-on _ f r (is_mapping r) refl
asked-ends f _ = search ending

pub ends-so : {H : Type 0} (f : Frontend) (call : FrontendCall H) (w : Written HeardReq H) (awaited : Awaited) (g : Frontend) → ask f call ≡ Sends w awaited g → is_end w.request ≡ ends call
ends-so f call w awaited g is = subst (λ (x : Asked _). EndsAs (ends call) x) is (asked-ends f call)
