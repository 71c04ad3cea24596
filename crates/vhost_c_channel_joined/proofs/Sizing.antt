-- A screen is given its size, where memory is found.
use Rattle.std.proofs.Common.{◌≡◌, ◌+◌, ℕ, suc, true, List, [], ◌++◌, Option, None, Some, Result, refl, sym, ap, subst, ◌∙◌, append_assoc, arith}
use Rattle.std.specs.Prelude.{⊤, is_some}
use Rattle.std.proofs.lemmas.List.{append-nil}
use Rattle.vhost_message.specs.declared.io_error.IoError as io
use Rattle.vhost_message.specs.declared.io_error.IoError.TheVariants as place
use Rattle.vhost_gpu_message.specs.declared.records.scanout.VhostUserGpuScanout.{VhostUserGpuScanout}
use Rattle.vhost_protocol.specs.Error.{Error, OutOfMemory}
use Rattle.vhost_protocol.specs.Gpu.{GpuCall, SetScanout, gpu_row, gpu_head, gpu_cells, gpu_refusal, sent_by}
use Rattle.vhost_protocol.specs.IoError.{IoError, In, seen_io}
use Rattle.vhost_protocol.specs.Stream.{Cell}
use Rattle.vhost_link.specs.Ends.{Ends}
use Rattle.vhost_link.specs.Mem.{event}
use Rattle.vhost_link.specs.declared.plain.PlainHandle.{PlainHandle}
use Rattle.vhost_connection.specs.Talk.{State}
use Rattle.vhost_gpu_backend_req.specs.Channel as link
use Rattle.vhost_gpu_backend_req.specs.Halves.{FrontUnsent, NotReady, Keeps, gpu_front, not_ready, stopped, refused, too_long}
use Rattle.vhost_gpu_backend_req.specs.Halves as halves
use Rattle.vhost_gpu_backend_req.specs.declared.call.Awaited.{Awaited}
use Rattle.vhost_c_common.proofs.Wanting.{Wanting, is-uncut, wanted, wants-seen}
use Rattle.vhost_c_common.proofs.Wants.{troubled}
use Rattle.vhost_c_common.specs.Memory.{WantsMemory}
use Rattle.vhost_c_common.specs.View.{End, bare}
use Rattle.vhost_c_common.specs.declared.refusal.Refusal.{Refusal}
use Rattle.vhost_c_common.specs.declared.refusal.Refusal.TheVariants.{Protocol}
use Rattle.vhost_c_channel_joined.specs.Clients.{IsSizing, Sizes, size, sizes}
use Rattle.vhost_c_channel.specs.Display as session
use Rattle.vhost_c_channel.specs.Display.{IsNew, Asks, Refused, Unasked, Takes, endpoint_of, error_in, mark_of, queued}
use Rattle.vhost_c_channel.specs.declared.display.Display.{Display}

abbrev screen : VhostUserGpuScanout
screen = record { scanout_id = 0; width = 2; height = 2 }

abbrev call : GpuCall PlainHandle
call = SetScanout screen

size-cells : gpu_cells (gpu_row call) ≡ size
size-cells = refl

-- ---- why not

in-place : (e : io.IoError) (at : List ℕ) (x : Error) → seen_io e ≡ In at x → Wanting x → WantsMemory (Protocol (error_in e))
in-place (place.In name e) at x is w = wanted e (subst {A = Error} (λ y. Wanting y) (sym (cc is)) w)
in-place _ at x is w = absurd (cc is)

module _ (cells : List (Cell PlainHandle)) (s : Display) (is : IsSizing cells s) where
  abbrev listed : End
  listed = record (bare (endpoint_of s)) { list = true }

  unready : (x : Error) (at : List ℕ) (after : link.Channel Ends PlainHandle) (y : IoError) → NotReady (sent_by call) (gpu_head (gpu_row call)).size (record { endpoint = bare (endpoint_of s); failed = mark_of s }) y after → (e : io.IoError) → seen_io e ≡ y → WantsMemory (Protocol (error_in e))
  unready x at _ _ (refused why) e same = absurd (cc (sym (ap gpu_refusal is.mark) ∙ why))
  unready x at after _ (halves.no_memory alive none left) e same = in-place e _ _ same tt
  unready x at after _ (too_long alive long left) e same = absurd (omega (arith, long))

  unsent-why : (after : link.Channel Ends PlainHandle) (y : IoError) → FrontUnsent event (sent_by call) (gpu_row call) (record { endpoint = bare (endpoint_of s); failed = mark_of s }) y after → (e : io.IoError) → seen_io e ≡ y → WantsMemory (Protocol (error_in e))
  unsent-why after y (not_ready n) e same = unready OutOfMemory [] after y n e same
  unsent-why after _ (stopped {e = d} alive fits (n, r, trouble, some) left) e same = in-place e _ _ same (wants-seen listed d is.sound (troubled listed after.endpoint d trouble (is-uncut listed is.sound is.uncut)))

  unasked-wants : (t : Display) (r : Refusal) → Unasked call s t r → WantsMemory r
  unasked-wants t _ (session.not_sent e after why left) = unsent-why after (seen_io e) why e refl

  pub refused-wants : (t : Display) (r : Refusal) → Refused call s t r → WantsMemory r
  refused-wants t _ (session.busy some same) = absurd (cc (sym (ap is_some is.asked) ∙ some))
  refused-wants t _ (session.no_memory some same) = tt
  refused-wants t r (session.unasked why) = unasked-wants t r why

  -- ---- it was, once

  unawaited : (kept : Option Awaited) → Keeps (gpu_row call) kept → kept ≡ None
  unawaited None keeps = refl
  unawaited (Some a) keeps = absurd (cc (keeps.0))

  pub one : (t u : Display) (r : Result ⊤ Refusal) → Asks call s t → Takes t u r → Sizes (cells ++ size) r u
  one t u _ a (session.not_awaited asked end queue settles) = record {
    queue = queue ∙ sym (append-nil (queued t)) ∙ a.queue ∙ ap (λ xs. xs ++ gpu_cells (gpu_row call)) is.queue;
    asked = settles.asked;
    mark = settles.mark ∙ a.mark ∙ is.mark;
    sound = ap {A = State Ends PlainHandle} (λ e. e.broken) end ∙ a.sound.after;
    uncut = ap {A = State Ends PlainHandle} (λ e. e.link.script) end ∙ a.sound.uncut is.uncut;
  }
  one t u _ a (session.takes awaited took) = absurd (awaited (a.asked ∙ ap {A = Option Awaited} Some (unawaited a.kept a.keeps)))

-- ---- so often

pub more : (cells : List (Cell PlainHandle)) (n : ℕ) (s : Display) → IsSizing ((cells ++ sizes n) ++ size) s → IsSizing (cells ++ sizes (n + 1)) s
more cells n s is =
    let next : suc n ≡ n + 1 = omega arith in
    subst (λ xs. IsSizing xs s) (append_assoc cells (sizes n) size ∙ ap (λ k. cells ++ sizes k) next) is

-- a new session
pub begins : (s : Display) → IsNew s → IsSizing [] s
begins s fresh = record {
  queue = fresh.empty.queue;
  asked = fresh.asked;
  mark = fresh.mark;
  sound = ap {A = End} (λ e. e.broken) fresh.empty.end;
  uncut = ap {A = End} (λ e. e.link.script) fresh.empty.end;
}
