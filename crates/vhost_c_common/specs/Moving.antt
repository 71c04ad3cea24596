-- Bytes out and in.
use Rattle.std.specs.Prelude.{◌≡◌, ℕ, ℤ, List, [], ◌++◌, ◌≤◌, length, map, take, Some}
use Rattle.vhost_protocol.specs.Stream.{Cell, carrying}
use Rattle.vhost_link.specs.declared.plain.PlainHandle.{PlainHandle}
use Rattle.vhost_c_common.specs.Records.{fd_in, handle_in}

-- A piece was handed out: its bytes and the numbers of its descriptors are at the front of these places, which have room for them, and what is to be sent is less by it. Without a byte, nothing was to be sent.
pub record HandsOut (before after : List (Cell PlainHandle)) (bytes : List ℕ) (fds : List ℤ) (count : ℕ × ℕ) : Type 0 where
  pub handles : List PlainHandle
  pub fits : count.0 ≤ length bytes
  pub piece : before ≡ carrying handles (take count.0 bytes) ++ after
  pub fds_at : take count.1 fds ≡ map fd_in handles
  pub fd_count : count.1 ≡ length handles
  pub end : count.0 ≡ 0 → before ≡ []

-- Bytes were taken in, with the handles of these descriptors on the first.
pub record TakesIn (bytes : List ℕ) (fds : List ℤ) (before after : List (Cell PlainHandle)) : Type 0 where
  pub handles : List PlainHandle
  pub of_fds : map handle_in fds ≡ map Some handles
  pub got : after ≡ before ++ carrying handles bytes
