-- How a session goes: request by request, until one ends it.
use Rattle.std.specs.Prelude.{◌≡◌, ◌<◌, ◌^◌, ℕ, suc, List, Option, Some, None, Result, Ok, Err, ⊤, codes}
use Rattle.vhost_message.specs.declared.error.Error.{Error}
use Rattle.vhost_message.specs.declared.error.Error.TheVariants as error
use Rattle.vhost_sockets.specs.declared.session.Ended.{Ended}

-- the name of an error that ends a session; after any other it goes on
abbrev pub ending : Error → Option (List ℕ)
ending error.Disconnected = Some (codes "Disconnected")
ending error.PartialMessage = Some (codes "PartialMessage")
ending error.InvalidMessage = Some (codes "InvalidMessage")
ending (error.SocketBroken cause) = Some (codes "SocketBroken")
ending (error.SocketError cause) = Some (codes "SocketError")
ending (error.SocketConnect cause) = Some (codes "SocketConnect")
ending (error.SocketRetry cause) = Some (codes "SocketRetry")
ending error.OutOfMemory = Some (codes "OutOfMemory")
ending e = None

-- the same of an answer
abbrev pub ends : Result ⊤ Error → Option (List ℕ)
ends (Ok done) = None
ends (Err e) = ending e

-- A session that is called so.
module _ {C : Type 0} (Calls : C → Result ⊤ Error → C → Type 0) where
  -- so many calls, after each of which it goes on
  pub data Goes (old : C) : ℕ → C → Type 0 where
    begins : Goes old 0 old
    goes_on : {mid new : C} {n : ℕ} (answer : Result ⊤ Error) → Goes old n mid → Calls mid answer new → ends answer ≡ None → Goes old (suc n) new

  -- what ends it: the gate, before a call; or a call
  pub data EndsBy (old : C) (name : List ℕ) (new : C) : Type 0 where
    gate : name ≡ codes "Gate" → new ≡ old → EndsBy old name new
    call : (answer : Result ⊤ Error) → Calls old answer new → ends answer ≡ Some name → EndsBy old name new

  -- A whole session. Its requests are told up to the greatest number of 32 bits.
  pub record IsServed (old : C) (ended : Ended) (new : C) : Type 0 where
    pub count : ℕ
    pub last : C
    pub served : Goes old count last
    pub requests : count < 2 ^ 32 → ended.requests ≡ count
    pub ending : EndsBy last ended.end.now new
