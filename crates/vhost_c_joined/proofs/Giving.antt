-- A session that is ready is given a request.
use Rattle.std.proofs.Common.{◌≡◌, inl, inr, Contains, ℕ, ℤ, ◌+◌, ◌-◌, ◌<◌, ◌≤◌, ◌^◌, true, false, List, [], ◌∷◌, ◌++◌, length, map, take, drop, Option, Some, None, Ok, refl, sym, ap, subst, ◌∙◌, arith}
use Rattle.std.specs.Prelude.{is_some, nat_lt, if◌then◌else◌}
use Rattle.std.proofs.lemmas.List.{append-nil, length-map, length-take-le, length-drop, take-append-drop, take_all}
use Rattle.std.proofs.lemmas.List.Elements.{All-contains}
use Rattle.vhost_message.specs.Header.{header_of}
use Rattle.vhost_message.specs.declared.error.Error.TheVariants.{OutOfMemory, InvalidParam}
use Rattle.vhost_message.specs.declared.heard_req.HeardReq.{HeardReq}
use Rattle.vhost_message.specs.declared.limits.TheConstants.{MAX_ATTACHED_FD_ENTRIES, MAX_MSG_SIZE, MAX_MSG_TEXT}
use Rattle.vhost_message.specs.HeardReq.{request_number}
use Rattle.vhost_protocol.specs.Codes.{allows_handles}
use Rattle.vhost_protocol.specs.Joined.{read_as}
use Rattle.vhost_protocol.specs.Session.{Session as Memory, heard_in}
use Rattle.vhost_protocol.specs.Split.{announced, split}
use Rattle.vhost_protocol.specs.Stream.{carrying, plain}
use Rattle.vhost_protocol.specs.Written.{Written, head_of, payload_text, written_cells}
use Rattle.vhost_protocol.proofs.HeardLaws.{heard-named}
use Rattle.vhost_protocol.proofs.TextLaws as text
use Rattle.vhost_protocol.proofs.TextLaws.{request-small, written-split}
use Rattle.vhost_link.proofs.Cells.{carrying-append, plain-is}
use Rattle.vhost_link.specs.declared.plain.PlainHandle.{PlainHandle}
use Rattle.vhost_backend_req_handler_core.specs.Session.{session_of}
use Rattle.vhost_backend_req_handler.specs.declared.halves.Pending.{Pending}
use Rattle.vhost_backend_req_handler.specs.declared.service.Service.{Service}
use Rattle.vhost_c_common.specs.Incoming.{missing_by}
use Rattle.vhost_c_common.specs.Moving.{TakesIn}
use Rattle.vhost_c_common.specs.Records.{handle_in}
use Rattle.vhost_c_common.specs.View.{End, Receives, TakesNone}
use Rattle.vhost_c_common.specs.declared.refusal.Refusal.{Refusal}
use Rattle.vhost_c_common.specs.declared.refusal.Refusal.TheVariants.{Protocol, TooManyBytes}
use Rattle.vhost_c_backend.specs.Served as served
use Rattle.vhost_c_backend.specs.declared.replies.Form.{Form}
use Rattle.vhost_c_backend.specs.declared.served.Served.{Served}
use Rattle.vhost_c_joined.specs.Device.{IsDue, is_want}
use Rattle.vhost_c_joined.specs.Judged.{IsRequest}
use Rattle.vhost_c_joined.specs.Wire.{HasCome, IsTold}
use Rattle.vhost_c_joined.proofs.Pieces.{There, all-there, has-come, same-handles}
use Rattle.vhost_c_joined.proofs.Told.{behind, come-header, request-told, text-header, text-long, valid-head}

abbrev Kept : Type 0
Kept = Option (Pending PlainHandle) × List ℕ × Service × ℕ × Form

-- bytes with some descriptors, that are no more than are missing, are taken unless memory is refused
wants : (most : ℕ) (piece : List ℕ) (fds : List ℤ) (hs : List PlainHandle) (r : Refusal) → length piece ≤ most → (length piece ≡ 0 → length fds ≡ 0) → length fds ≤ MAX_ATTACHED_FD_ENTRIES → map handle_in fds ≡ map Some hs → TakesNone most piece fds r → r ≡ Protocol OutOfMemory
wants most piece fds hs TooManyBytes few none less are why = absurd (omega (arith, few, why))
wants most piece fds hs (Protocol OutOfMemory) few none less are why = refl
wants most piece fds hs (Protocol InvalidParam) few none less are (inl why) = absurd (let no : length fds ≡ 0 = none why.0 in let some : 0 < length fds = why.1 in omega (arith, no, some))
wants most piece fds hs (Protocol InvalidParam) few none less are (inr (inl many)) = absurd (omega (arith, less, many))
wants most piece fds hs (Protocol InvalidParam) few none less are (inr (inr among)) = absurd (cc (All-contains There (map Some hs) None (all-there hs) (subst (λ xs. Contains xs None) are among)))
wants most piece fds hs (Protocol _) few none less are why = absurd why
wants most piece fds hs _ few none less are why = absurd why

as-many : (fds : List ℤ) (hs : List PlainHandle) → map handle_in fds ≡ map Some hs → length fds ≡ length hs
as-many fds hs are = sym (length-map fds handle_in) ∙ ap (λ (xs : List (Option PlainHandle)). length xs) are ∙ length-map hs Some

bare-piece : (hs : List PlainHandle) (bs : List ℕ) → map handle_in [] ≡ map Some hs → carrying hs bs ≡ plain bs
bare-piece [] bs none = plain-is bs
bare-piece (h ∷ hs) bs none = absurd (cc none)

module _ (w : Written HeardReq PlainHandle) (request : List ℕ) (fds : List ℤ) (old : Served) (req : IsRequest w request fds old) where
  small : length (payload_text w.payload) ≤ MAX_MSG_SIZE
  small = req.sendable.size

  known : request_number w.request < 2 ^ 32
  known = request-small w.request req.sendable.named

  abbrev heard : ℕ → Option HeardReq
  heard = heard_in (served.remembers old)

  is-announced : is_some (announced heard (head_of request_number w)) ≡ true
  is-announced = ap (λ b. is_some (if b then heard (request_number w.request) else None)) (valid-head w known small) ∙ ap (λ o. is_some o) (heard-named (served.remembers old) w.request req.sendable.named)

  long : length request ≡ 12 + length (payload_text w.payload)
  long = ap (λ (xs : List ℕ). length xs) req.text ∙ text-long w known small

  pub far : 12 ≤ length request
  far = by (length (payload_text w.payload)) long
    where
      by : (n : ℕ) → length request ≡ 12 + n → 12 ≤ length request
      by n is = omega (arith, is)

  few : length request ≤ MAX_MSG_TEXT
  few = by (length (payload_text w.payload)) long small
    where
      by : (n : ℕ) → length request ≡ 12 + n → n ≤ MAX_MSG_SIZE → length request ≤ MAX_MSG_TEXT
      by n is less = omega (arith, is, less)

  abbrev head : List ℕ
  head = take 12 request

  abbrev body : List ℕ
  body = take (length request - 12) (drop 12 request)

  body-is : body ≡ drop 12 request
  body-is = take_all (length request - 12) (drop 12 request) (let a : length (drop 12 request) ≡ length request - 12 = length-drop 12 request in omega (arith, a))

  whole-is : head ++ body ≡ request
  whole-is = ap (λ xs. head ++ xs) body-is ∙ take-append-drop 12 request

  body-long : length body ≡ length request - 12
  body-long = ap (λ (xs : List ℕ). length xs) body-is ∙ length-drop 12 request

  head-long : length head ≡ 12
  head-long = length-take-le 12 request far

  -- twelve bytes are missing
  missing-first : served.missing_of old ≡ 12
  missing-first = ap (λ b. if b then 0 else served.missing_of_request old) req.ready.idle ∙ ap (λ n. if nat_lt n 12 then 12 - n else if is_some (announced heard (header_of old.incoming.head)) then 12 + (header_of old.incoming.head).size - n else 0) req.ready.count

  few-fds : length fds ≤ MAX_ATTACHED_FD_ENTRIES
  few-fds = subst (λ n. n ≤ MAX_ATTACHED_FD_ENTRIES) (sym (as-many fds w.handles req.handles)) req.sendable.few

  pub head-refused : (r : Refusal) → TakesNone (served.missing_of old) head fds r → is_want r ≡ true
  head-refused r why =
      ap is_want (wants (served.missing_of old) head fds w.handles r (let a : length head ≡ 12 = head-long in let b : served.missing_of old ≡ 12 = missing-first in omega (arith, a, b)) (λ none. absurd (let a : length head ≡ 12 = head-long in omega (arith, a, none)))
      few-fds req.handles why)

  module _ (mid : Served) (got : Receives (served.missing_of old) head fds (served.view old) (Ok tt) (served.view mid)) where
    memory1 : served.remembers mid ≡ served.remembers old
    memory1 = ap {A = Kept} (λ k. session_of k.2.session) got.3.rest

    idle1 : served.has_call mid ≡ false
    idle1 = ap {A = Kept} (λ k. is_some k.0) got.3.rest ∙ req.ready.idle

    has1 : HasCome head mid.incoming
    has1 = has-come [] head old.incoming mid.incoming (record { count = req.ready.count; head = refl }) got.2 (let a : length head ≡ 12 = head-long in omega (arith, a))

    came1 : served.arrived mid ≡ carrying w.handles head
    came1 =
        let x : TakesIn head fds (served.arrived old) (served.arrived mid) = got.1 in
        x.got ∙ ap (λ cs. cs ++ carrying x.handles head) req.ready.came ∙ ap (λ hs. carrying hs head) (same-handles x.handles w.handles (sym x.of_fds ∙ req.handles))

    header1 : header_of mid.incoming.head ≡ head_of request_number w
    header1 = come-header head body request mid.incoming whole-is has1 (let a : length head ≡ 12 = head-long in omega (arith, a)) ∙ ap header_of req.text ∙ text-header w known small

    missing-second : served.missing_of mid ≡ 12 + length (payload_text w.payload) - 12
    missing-second =
        ap (λ b. if b then 0 else served.missing_of_request mid) idle1 ∙ ap {A = Memory} (λ k. missing_by (heard_in k) mid.incoming) memory1
        ∙ behind w known small heard is-announced mid.incoming (let a : mid.incoming.count ≡ length head = has1.count in let b : length head ≡ 12 = head-long in omega (arith, a, b)) header1
        ∙ ap (λ n. 12 + length (payload_text w.payload) - n) (has1.count ∙ head-long)

    pub body-refused : (r : Refusal) → TakesNone (served.missing_of mid) body [] r → is_want r ≡ true
    body-refused r why = ap is_want (wants (served.missing_of mid) body [] [] r (by (length (payload_text w.payload)) long body-long missing-second) (λ none. refl) (omega arith) refl why)
      where
        by : (n : ℕ) → length request ≡ 12 + n → length body ≡ length request - 12 → served.missing_of mid ≡ 12 + n - 12 → length body ≤ served.missing_of mid
        by n all rest is = omega (arith, all, rest, is)

    module _ (new : Served) (got2 : Receives (served.missing_of mid) body [] (served.view mid) (Ok tt) (served.view new)) where
      pub memory2 : served.remembers new ≡ served.remembers old
      memory2 = ap {A = Kept} (λ k. session_of k.2.session) got2.3.rest ∙ memory1

      idle2 : served.has_call new ≡ false
      idle2 = ap {A = Kept} (λ k. is_some k.0) got2.3.rest ∙ idle1

      has2 : HasCome request new.incoming
      has2 = subst (λ xs. HasCome xs new.incoming) whole-is (has-come head body mid.incoming new.incoming has1 got2.2 (subst (λ (xs : List ℕ). length xs ≤ MAX_MSG_TEXT) (sym whole-is) few))

      came2 : served.arrived new ≡ carrying w.handles request
      came2 =
          let x : TakesIn body [] (served.arrived mid) (served.arrived new) = got2.1 in
          x.got ∙ ap (λ cs. cs ++ carrying x.handles body) came1 ∙ ap (λ cs. carrying w.handles head ++ cs) (bare-piece x.handles body x.of_fds)
          ∙ sym (carrying-append w.handles head body (let a : length head ≡ 12 = head-long in omega (arith, a))) ∙ ap (carrying w.handles) whole-is

      told : IsTold request (missing_by heard)
      told = subst (λ xs. IsTold xs (missing_by heard)) (sym req.text) (request-told w known small heard is-announced)

      sendable : text.IsSendable heard allows_handles request_number w
      sendable = record { known = heard-named (served.remembers old) w.request req.sendable.named; code = known; allowed = req.sendable.allowed; size = small }

      as-written : carrying w.handles request ≡ written_cells request_number w ++ []
      as-written = ap (carrying w.handles) req.text ∙ sym (append-nil (written_cells request_number w))

      none-left : missing_by heard new.incoming ≡ 0
      none-left = let less : missing_by heard new.incoming ≤ length {A = ℕ} [] = (told request [] new.incoming (append-nil request) has2).0 in by (missing_by heard new.incoming) less
        where
          by : (n : ℕ) → n ≤ 0 → n ≡ 0
          by n less = omega (arith, less)

      pub is-due : IsDue (read_as w) new
      is-due = record {
        came = ap {A = Memory} (λ k. split (heard_in k) allows_handles (served.arrived new)) memory2 ∙ ap (split heard allows_handles) (came2 ∙ as-written) ∙ written-split heard allows_handles request_number w [] sendable;
        whole = ap (λ b. if b then 0 else served.missing_of_request new) idle2 ∙ ap {A = Memory} (λ k. missing_by (heard_in k) new.incoming) memory2 ∙ none-left;
        idle = idle2;
        goes_on = ap {A = Memory} (λ k. k.failed) memory2 ∙ req.ready.goes_on;
        queue = got2.3.queue ∙ got.3.queue ∙ req.ready.queue;
        sound = (ap {A = End} (λ e. e.broken) got2.3.end ∙ ap {A = End} (λ e. e.broken) got.3.end ∙ req.ready.sound.0, ap {A = End} (λ e. e.link.script) got2.3.end ∙ ap {A = End} (λ e. e.link.script) got.3.end ∙ req.ready.sound.1);
      }
