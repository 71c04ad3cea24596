-- A link, and what was read ahead of it.
use Rattle.std.specs.Prelude.{◌≡◌, ℕ, ◌-◌, ◌<◌, List, [], ◌++◌, length, take, drop, Result, Ok, Err, ⊤}
use Rattle.vhost_message.specs.declared.cause.IoCause.{IoCause}
use Rattle.vhost_protocol.specs.Stream.{Cell, plain}
use Rattle.vhost_link.specs.Law.{Event, HandsOut, Handed, Ended, Taken, Refused}
use Rattle.vhost_connection.specs.declared.buffer.ReadAhead.{ReadAhead}
use Rattle.vhost_connection.specs.declared.buffer.Source.{Source}

-- the bytes that wait; the handles of a receive are those of its first byte, which never waits
abbrev pub waiting : ReadAhead → List ℕ
waiting a = take (a.end - a.start) (drop a.start a.buffer.items)

-- a link, and the bytes that were received of it and wait
pub record Way (L : Type 0) : Type 0 where
  pub link : L
  pub ahead : List ℕ

abbrev pub way : {L : Type 0} → Source L → Way L
way s = record { link = s.link; ahead = waiting s.ahead }

-- These cells are handed out: a front of what waits; or, where nothing waits, a front of what the link hands out, and the rest of it waits.
pub data HandsOn {L H : Type 0} (event : L → Event H → L → Type 0) : Way L → List (Cell H) → Way L → Type 0 where
  waited : {link : L} (front : List ℕ) {rest : List ℕ} → 0 < length front → HandsOn event (record { link = link; ahead = front ++ rest }) (plain front) (record { link = link; ahead = rest })
  asked : {old new : L} {cs : List (Cell H)} (rest : List ℕ) → event old (Handed (cs ++ plain rest)) new → HandsOn event (record { link = old; ahead = [] }) cs (record { link = new; ahead = rest })

-- The link was asked: all that it brings waits, with the handles of its first byte beside it; or it told the end, or failed.
abbrev pub Asks : {L H : Type 0} → (L → Event H → L → Type 0) → L → Result ⊤ IoCause → List ℕ → List H → L → Type 0
Asks event old (Ok u) waits handles new = HandsOut event old (length waits) waits handles new
Asks event old (Err c) waits handles new = event old (Refused c) new × (waits ≡ []) × (handles ≡ [])

-- What a link does with a buffer before it: it is asked only where nothing waits.
abbrev pub reads_ahead : {L H : Type 0} → (L → Event H → L → Type 0) → Way L → Event H → Way L → Type 0
reads_ahead event old (Handed cs) new = HandsOn event old cs new
reads_ahead event old Ended new = event old.link Ended new.link × (old.ahead ≡ []) × (new.ahead ≡ [])
reads_ahead event old (Taken cs) new = event old.link (Taken cs) new.link × (new.ahead ≡ old.ahead)
reads_ahead event old (Refused c) new = event old.link (Refused c) new.link × (new.ahead ≡ old.ahead)
