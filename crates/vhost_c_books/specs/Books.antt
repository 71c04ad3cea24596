-- What becomes of the descriptors that come to a session, whichever it is.
use Rattle.std.specs.Prelude.{◌≡◌, ◌+◌, ◌⊎◌, ℕ, ℤ, false, List, [], ◌∷◌, length, min, None, Result, Ok, Err, ⊤}
use Rattle.vhost_link.specs.declared.plain.PlainHandle.{PlainHandle}
use Rattle.vhost_frontend_req_handler.specs.declared.call.FrontendSideCall.{FrontendSideCall}
use Rattle.vhost_c_common.specs.Held.{Balances, HoldsNone, IsSettled, claimable, held_times, let_go, times}
use Rattle.vhost_c_common.specs.declared.held.Held.{Held}
use Rattle.vhost_c_common.specs.declared.refusal.Refusal.{Refusal}
use Rattle.vhost_c_channel.specs.Serving.{IsServed, Request, has_call, remembers}
use Rattle.vhost_c_channel.specs.declared.serving.ChannelServer.{ChannelServer}
use Rattle.vhost_c_books.specs.declared.any_session.AnySession.{AnySession}
use Rattle.vhost_c_books.specs.declared.any_session.AnySession.TheVariants.{Frontend, Channel, Server, Display}
use Rattle.vhost_c_books.specs.declared.any_session.Kind.{Kind}
use Rattle.vhost_c_books.specs.declared.any_session.Kind.TheVariants as kind
use Rattle.vhost_c_books.specs.declared.books.Books.{Books}

-- ---- one of the sessions

-- whose it is
abbrev pub kind_of : AnySession → Kind
kind_of (Frontend s) = kind.Frontend
kind_of (Channel s) = kind.Channel
kind_of (Server s) = kind.Server
kind_of (Display s) = kind.Display

-- the descriptors that it holds
abbrev pub held_by : AnySession → Held
held_by (Frontend s) = s.held
held_by (Channel s) = s.held
held_by (Server s) = s.held
held_by (Display s) = s.held

-- a call is to be replied to, which was read
abbrev pub HasRead : ChannelServer → Type 0
HasRead s = (m : Request) × (c : FrontendSideCall PlainHandle) × IsServed m c s

-- A session that serves is not marked as failed, and a call that is to be replied to was read.
pub record IsServing (s : ChannelServer) : Type 0 where
  pub unmarked : (remembers s).failed ≡ None
  pub call : (has_call s ≡ false) ⊎ HasRead s

-- what is so of each session that its calls made: one that serves is as just said, and nobody may claim what comes to a device's
abbrev pub IsKept : AnySession → Type 0
IsKept (Frontend s) = ⊤
IsKept (Channel s) = claimable s.held ≡ []
IsKept (Server s) = IsServing s
IsKept (Display s) = claimable s.held ≡ []

-- ---- one call

-- each number is held as often as before
abbrev pub HoldsAsOften : Held → Held → Type 0
HoldsAsOften old new = (n : ℤ) → held_times n new ≡ held_times n old

-- The same of one that serves, which is one still.
pub record Serves (old new : ChannelServer) : Type 0 where
  pub held : HoldsAsOften old.held new.held
  pub serving : IsServing new

-- A session is of the same kind after a call; it holds what it held, and what came, but for what went; and it is as calls make one.
pub record Moves (came went : List ℤ) (old new : AnySession) : Type 0 where
  pub kind : kind_of new ≡ kind_of old
  pub held : (n : ℤ) → held_times n (held_by old) + times n came ≡ held_times n (held_by new) + times n went
  pub kept : IsKept new

-- what becomes of descriptors that come: they came, where they are received; else none did
abbrev pub Receives : List ℤ → AnySession → Result ⊤ Refusal → AnySession → Type 0
Receives fds old (Ok done) new = Moves fds [] old new
Receives fds old (Err r) new = Moves [] [] old new

-- what becomes of one that is claimed: it went, where the claim is granted; else none did
abbrev pub Claims : ℤ → AnySession → Result ⊤ Refusal → AnySession → Type 0
Claims fd old (Ok done) new = Moves [] (fd ∷ []) old new
Claims fd old (Err r) new = Moves [] [] old new

-- So many were handed out, as there were or as there was room for, and none that may be claimed.
pub record HandsOn (room n : ℕ) (old new : AnySession) : Type 0 where
  pub own : claimable (held_by new) ≡ claimable (held_by old)
  pub fewer : length (let_go (held_by old)) ≡ length (let_go (held_by new)) + n
  pub count : n ≡ min (length (let_go (held_by old))) room

-- A new session holds none.
pub record IsNew (k : Kind) (s : AnySession) : Type 0 where
  pub kind : kind_of s ≡ k
  pub held : HoldsNone (held_by s)
  pub kept : IsKept s

-- ---- the books

-- Each number came as often as it was claimed, was handed out and is held, by a session of this kind.
pub record IsBalanced (k : Kind) (b : Books) : Type 0 where
  pub kind : kind_of b.session ≡ k
  pub kept : IsKept b.session
  pub each : Balances b.came.items b.claimed.items b.handed.items (held_by b.session)

-- None is held: each number that came was claimed once or handed out once, and none other was.
pub record IsSettledIn (k : Kind) (b : Books) : Type 0 where
  pub kind : kind_of b.session ≡ k
  pub none : HoldsNone (held_by b.session)
  pub each : IsSettled b.came.items b.claimed.items b.handed.items
