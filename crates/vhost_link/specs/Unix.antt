-- What a link over a Unix socket may do.
use Rattle.std.specs.Prelude.{◌≡◌, ℕ, ℤ, List, [], ◌⊎◌, Option, Some, None, Result, Ok, Err, codes, ⊤}
use Rattle.std.specs.IoError.{error_kind, raw_os_error}
use Rattle.std.specs.declared.io.Error.{Error}
use Rattle.std.specs.declared.io.ErrorKind.{ErrorKind}
use Rattle.std.specs.declared.io.ErrorKind.TheVariants.{WouldBlock, Interrupted, ConnectionReset, BrokenPipe, PermissionDenied}
use Rattle.vhost_message.specs.declared.cause.IoCause.{IoCause}
use Rattle.vhost_message.specs.declared.cause.IoCause.TheVariants.{Raw, Named}
use Rattle.vhost_message.specs.declared.errno.TheConstants.{EACCES, EAGAIN, ECONNRESET, EINTR, EPIPE}
use Rattle.vhost_protocol.specs.Stream.{Cell, carrying}
use Rattle.vhost_link.specs.Law.{Event, Handed, Ended, Taken, Refused}
use Rattle.vhost_link.specs.declared.unix.NoHandle.{NoHandle}
use Rattle.vhost_link.specs.declared.unix.UnixLink.{UnixLink}

-- the number that stands for a kind of error
abbrev pub kind_number : ErrorKind → Option ℤ
kind_number WouldBlock = Some EAGAIN
kind_number Interrupted = Some EINTR
kind_number ConnectionReset = Some ECONNRESET
kind_number BrokenPipe = Some EPIPE
kind_number PermissionDenied = Some EACCES
kind_number kind = None

-- the number of an error of the system, or that of its kind
abbrev pub number_in : Option ℤ → ErrorKind → Option ℤ
number_in (Some n) kind = Some n
number_in None kind = kind_number kind

-- this number, or without one the name
abbrev pub IsNumbered : Option ℤ → IoCause → Type 0
IsNumbered (Some n) cause = cause ≡ Raw n
IsNumbered None (Raw n) = ⊥
IsNumbered None (Named name) = name.now ≡ codes "io error"

-- the cause of an error of the system
abbrev pub IsCauseOf : Error → IoCause → Type 0
IsCauseOf e cause = IsNumbered (number_in (raw_os_error e) (error_kind e)) cause

-- a cause that an error of the system may have
abbrev pub IsOfSystem : IoCause → Type 0
IsOfSystem (Raw n) = ⊤
IsOfSystem (Named name) = name.now ≡ codes "io error"

-- a cause that a send or a receive may have: one of the system, or that there were handles to send
abbrev pub IsRefusal : IoCause → Type 0
IsRefusal (Raw n) = ⊤
IsRefusal (Named name) = (name.now ≡ codes "io error") ⊎ (name.now ≡ codes "handles cannot be carried")

-- bytes without handles
abbrev pub AreBare : List (Cell NoHandle) → Type 0
AreBare cells = (bytes : List ℕ) × (cells ≡ carrying [] bytes)

-- The stream of a socket is the system's: what it hands out next is not known, but that no handle comes or goes; and it stays the same socket.
abbrev pub event : UnixLink → Event NoHandle → UnixLink → Type 0
event old (Handed cells) new = AreBare cells × (new ≡ old)
event old Ended new = new ≡ old
event old (Taken cells) new = AreBare cells × (new ≡ old)
event old (Refused cause) new = IsRefusal cause × (new ≡ old)

-- a duplicate is another socket, unless the system refuses it
abbrev pub duplicates : Result UnixLink IoCause → Type 0
duplicates (Ok link) = ⊤
duplicates (Err cause) = IsOfSystem cause
