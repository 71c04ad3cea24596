-- What a message and an answer show.
use Rattle.std.specs.Prelude.{ℕ, List, [], ◌∷◌, ◌++◌, Option, Some, None, codes, decimal}
use Rattle.std.specs.List.{join_by}
use Rattle.vhost_link.specs.declared.plain.PlainHandle.{PlainHandle}
use Rattle.vhost_message.specs.declared.records.config.VhostUserConfig.{VhostUserConfig}
use Rattle.vhost_message.specs.declared.records.inflight.VhostUserInflight.{VhostUserInflight}
use Rattle.vhost_message.specs.declared.records.shmem.VhostUserShMemConfig.{VhostUserShMemConfig}
use Rattle.vhost_frontend_core.specs.declared.values.answer.FrontendAnswer.{FrontendAnswer}
use Rattle.vhost_frontend_core.specs.declared.values.answer.FrontendAnswer.TheVariants.{Failed, Done, Number, Bases, Base, Config, Handle, Inflight, StateHandle, ShmemConfig}
use Rattle.vhost_lines.specs.Numbers.{hex_text, numbers_text, bytes_text}
use Rattle.vhost_lines.specs.Errors.{error_text}

-- a handle by its number
abbrev pub handle_text : PlainHandle → List ℕ
handle_text handle = codes "[" ++ (decimal handle.id ++ codes "]")

-- handles with commas between them, or nothing
abbrev pub handles_text : List PlainHandle → List ℕ
handles_text [] = []
handles_text (handle ∷ handles) = codes "[" ++ (join_by (λ h. decimal h.id) (codes ",") (handle ∷ handles) ++ codes "]")

-- a message, or that there is none
abbrev pub message_text : List ℕ → List PlainHandle → List ℕ
message_text [] handles = codes "-"
message_text (byte ∷ bytes) handles = bytes_text (byte ∷ bytes) ++ handles_text handles

-- words with a space between them
abbrev pub spaced : List (List ℕ) → List ℕ
spaced [] = []
spaced (word ∷ []) = word
spaced (word ∷ next ∷ words) = word ++ (codes " " ++ spaced (next ∷ words))

-- what an option holds, or `none`
abbrev pub option_text : {A : Type 0} → (A → List ℕ) → Option A → List ℕ
option_text text None = codes "none"
option_text text (Some x) = text x

-- a part of the configuration space: offset, size, flags and bytes
abbrev pub part_text : VhostUserConfig → List ℕ → List ℕ
part_text part bytes = spaced (hex_text part.offset ∷ hex_text part.size ∷ hex_text part.flags ∷ bytes_text bytes ∷ [])

-- the buffer for descriptors in flight: size, offset, how many queues of which size, and the handle
abbrev pub area_text : VhostUserInflight → PlainHandle → List ℕ
area_text area handle =
    spaced (hex_text area.mmap_size ∷ hex_text area.mmap_offset ∷ hex_text area.num_queues ∷ hex_text area.queue_size ∷ handle_text handle ∷ [])

-- regions of shared memory: how many, and all sizes
abbrev pub regions_text : VhostUserShMemConfig → List ℕ
regions_text config = spaced (hex_text config.nregions ∷ numbers_text config.memory_sizes ∷ [])

-- an answer
abbrev pub answer_text : FrontendAnswer → List ℕ
answer_text (Failed e) = error_text e
answer_text Done = codes "ok"
answer_text (Number n) = codes "ok " ++ hex_text n
answer_text (Bases bases) = codes "ok " ++ option_text (λ b. numbers_text b.items) bases
answer_text (Base base) = codes "ok " ++ option_text hex_text base
answer_text (Config part bytes) = codes "ok " ++ part_text part bytes.items
answer_text (Handle handle) = codes "ok " ++ handle_text handle
answer_text (Inflight area handle) = codes "ok " ++ area_text area handle
answer_text (StateHandle handle) = codes "ok " ++ option_text handle_text handle
answer_text (ShmemConfig place) = codes "ok " ++ regions_text place.value
