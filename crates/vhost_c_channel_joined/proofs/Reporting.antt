-- Changes of the configuration space are reported, where memory is found.
use Rattle.std.proofs.Common.{◌≡◌, ◌<◌, ◌+◌, ℕ, suc, Bool, true, false, List, [], ◌++◌, None, Some, Result, refl, sym, ap, subst, ◌∙◌, append_assoc, arith}
use Rattle.std.specs.Prelude.{⊤, is_some}
use Rattle.std.proofs.lemmas.List.{append-nil}
use Rattle.vhost_message.specs.BackendReq.{backend_request_number}
use Rattle.vhost_message.specs.declared.backend_req.BackendReq.{BackendReq}
use Rattle.vhost_message.specs.declared.backend_req.BackendReq.TheVariants.{CONFIG_CHANGE_MSG}
use Rattle.vhost_protocol.specs.Reverse.{Backend, HandleConfigChange, Sends, reverse_ask}
use Rattle.vhost_protocol.specs.Stream.{Cell}
use Rattle.vhost_protocol.specs.Written.{Written, Empty, written_cells}
use Rattle.vhost_link.specs.Ends.{Ends}
use Rattle.vhost_link.specs.declared.plain.PlainHandle.{PlainHandle}
use Rattle.vhost_connection.specs.Talk.{State}
use Rattle.vhost_backend_req.specs.Channel as link
use Rattle.vhost_backend_req.specs.Channel.{backend_of}
use Rattle.vhost_c_common.proofs.Wanting.{is-uncut, wants}
use Rattle.vhost_c_common.proofs.Wants.{failed}
use Rattle.vhost_c_common.specs.Memory.{WantsMemory}
use Rattle.vhost_c_common.specs.View.{End, bare}
use Rattle.vhost_c_common.specs.declared.refusal.Refusal.{Refusal}
use Rattle.vhost_c_channel.specs.Asking.{Agrees, IsNew, Keeps, Asks, Refused, busy, no_memory, unasked, Unasked, refuses, fails, Takes, read, other_size, not_awaited, nothing_asked, not_yet, endpoint_of, missing_for, remembers}
use Rattle.vhost_c_channel_joined.specs.Clients.{IsReporting, Reports, report, reports}
use Rattle.vhost_c_channel.specs.declared.asking.Channel.{Channel}
use Rattle.vhost_c_channel.specs.declared.asking.Feature.TheVariants.{ConfigChange}

-- the message
abbrev change : Written BackendReq PlainHandle
change = record { request = CONFIG_CHANGE_MSG; reply = false; need_reply = false; payload = Empty; handles = [] }

abbrev agreed : Backend
agreed = record { reply_ack = false; shared_object = false; shmem = false; config_change = true; failed = None }

change-cells : written_cells backend_request_number change ≡ report
change-cells = refl

asked-is : (w : Written BackendReq PlainHandle) (b : Backend) (awaited : Bool) → b ≡ agreed → reverse_ask b HandleConfigChange ≡ Sends w awaited → (change ≡ w) × (false ≡ awaited)
asked-is w b awaited is asked =
    let same : Sends change false ≡ Sends w awaited = sym (ap {A = Backend} (λ x. reverse_ask x HandleConfigChange) is) ∙ asked in (cc same, cc same)

-- ---- why not

module _ (cells : List (Cell PlainHandle)) (s : Channel) (is : IsReporting cells s) where
  unasked-wants : (t : Channel) (r : Refusal) → Unasked HandleConfigChange s t r → WantsMemory r
  unasked-wants t _ (refuses e refused same) = absurd (cc (sym (ap {A = Backend} (λ x. reverse_ask x HandleConfigChange) is.memory) ∙ refused))
  unasked-wants t _ (fails {e = e} after sends f same) = wants (bare (endpoint_of s)) e is.sound (failed (bare (endpoint_of s)) after false e f (is-uncut (bare (endpoint_of s)) is.sound is.uncut)).1

  pub refused-wants : (t : Channel) (r : Refusal) → Refused HandleConfigChange s t r → WantsMemory r
  refused-wants t _ (busy some same) = absurd (cc (sym (ap is_some is.asked) ∙ some))
  refused-wants t _ (no_memory some same) = tt
  refused-wants t r (unasked why) = unasked-wants t r why

  -- ---- one was reported

  kept : (t : Channel) → Asks HandleConfigChange s t → t.asked ≡ Some None
  kept t a = subst (λ b. Keeps a.w b t.asked) (sym (asked-is a.w (remembers s) a.awaited is.memory a.is).1) a.keeps

  queue-is : (t : Channel) (a : Asks HandleConfigChange s t) → cells ++ written_cells backend_request_number a.w ≡ cells ++ report
  queue-is t a = ap {A = Written BackendReq PlainHandle} (λ w. cells ++ written_cells backend_request_number w) (sym (asked-is a.w (remembers s) a.awaited is.memory a.is).0)

  pub one : (t u : Channel) (r : Result ⊤ Refusal) → Asks HandleConfigChange s t → Takes t u r → Reports (cells ++ report) r u
  one t u _ a (read head result whole asked size hears settles) = absurd (cc (sym (kept t a) ∙ asked))
  one t u _ a (other_size head whole asked size none queue end settles) = absurd (cc (sym (kept t a) ∙ asked))
  one t u _ a (not_awaited asked end queue settles) = record {
    queue = queue ∙ a.queue ∙ ap (λ xs. xs ++ written_cells backend_request_number a.w) is.queue ∙ queue-is t a;
    asked = settles.asked;
    memory = settles.memory ∙ a.memory ∙ is.memory;
    sound = ap {A = State Ends PlainHandle} (λ e. e.broken) end ∙ a.sound.after;
    uncut = ap {A = State Ends PlainHandle} (λ e. e.link.script) end ∙ a.sound.uncut is.uncut;
  }
  one t u _ a (nothing_asked asked same) = absurd (cc (sym (kept t a) ∙ asked))
  one t u _ a (not_yet more same) = absurd (none (subst (λ o. 0 < missing_for o t.incoming) (kept t a) more))
    where
      none : 0 < 0 → ⊥
      none wrong = omega (arith, wrong)

-- ---- so many were

pub first : (cells : List (Cell PlainHandle)) (s : Channel) → IsReporting cells s → IsReporting (cells ++ reports 0) s
first cells s is = subst (λ xs. IsReporting xs s) (sym (append-nil cells)) is

pub more : (cells : List (Cell PlainHandle)) (n : ℕ) (s : Channel) → IsReporting ((cells ++ reports n) ++ report) s → IsReporting (cells ++ reports (n + 1)) s
more cells n s is =
    let next : suc n ≡ n + 1 = omega arith in
    subst (λ xs. IsReporting xs s) (append_assoc cells (reports n) report ∙ ap (λ k. cells ++ reports k) next) is

-- a new session that may report them
pub begins : (s t : Channel) → IsNew s → Agrees ConfigChange true s t → IsReporting [] t
begins s t fresh agrees = record {
  queue = (λ i. (agrees.outgoing i).link.pending ++ (agrees.flag i).endpoint.link.sent) ∙ fresh.empty.queue;
  asked = agrees.asked ∙ fresh.asked;
  memory = ap {A = link.Channel Ends PlainHandle} backend_of agrees.flag ∙ ap {A = Backend} (λ b. record b { config_change = true }) fresh.memory;
  sound = ap {A = link.Channel Ends PlainHandle} (λ k. k.endpoint.broken) agrees.flag ∙ ap {A = End} (λ e. e.broken) fresh.empty.end;
  uncut = ap {A = link.Channel Ends PlainHandle} (λ k. k.endpoint.link.script) agrees.flag ∙ ap {A = End} (λ e. e.link.script) fresh.empty.end;
}
