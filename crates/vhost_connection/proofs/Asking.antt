-- A request goes out whole, its list of handles made before.
use Rattle.std.proofs.Common.{◌≡◌, ℕ, None, zero, suc, ◌+◌, ◌*◌, ◌/◌, ◌%◌, ◌<◌, ◌≤◌, List, ◌++◌, length, take, refl, sym, ap, subst, ◌∙◌, arith, Bool, true, false, Result, Ok, Err, length-take}
use Rattle.std.specs.Prelude.{◌==◌, IfOk, IfErr, is_err}
use Rattle.std.proofs.lemmas.List.{length-append}
use Rattle.vhost_message.specs.declared.limits.TheConstants.{MAX_MSG_SIZE, MAX_MSG_TEXT}
use Rattle.vhost_message.specs.declared.error.Error as declared
use Rattle.vhost_message.specs.Bits.{has_bit}
use Rattle.vhost_message.specs.Header.{Header, header_text, with_version}
use Rattle.vhost_message.specs.declared.header.VhostUserMsgHeader.{VhostUserMsgHeader}
use Rattle.vhost_message.specs.MsgHeader.{fields_of}
use Rattle.vhost_protocol.specs.Stream.{carrying}
use Rattle.vhost_protocol.specs.Written.{Payload, payload_text, Written, header_flags, head_of, written_cells}
use Rattle.vhost_link.specs.Law.{Event}
use Rattle.vhost_link.proofs.Cells.{length-carrying}
use Rattle.vhost_connection.specs.Pass.{sends}
use Rattle.vhost_connection.specs.Talk.{State, Talks, Serves, Never}
use Rattle.vhost_connection.specs.Calls.{Sends}
use Rattle.vhost_connection.specs.Hearing.{Fails}
use Rattle.vhost_connection.specs.Hearing.Fails.{was_broken, no_memory, fault}
use Rattle.vhost_connection.proofs.Failing.{trouble-fails}
use Rattle.vhost_connection.specs.Asking.{request_with, GoesOut}

-- two bits make the flags of a header
two-bits : (x y : ℕ) → x < 2 → y < 2 → header_flags (x == 1) (y == 1) ≡ 4 * x + 8 * y + 1
two-bits zero zero h k = refl
two-bits zero (suc zero) h k = refl
two-bits (suc zero) zero h k = refl
two-bits (suc zero) (suc zero) h k = refl
two-bits zero (suc (suc y)) h k = absurd (omega arith)
two-bits (suc zero) (suc (suc y)) h k = absurd (omega arith)
two-bits (suc (suc x)) y h k = absurd (omega arith)

-- of a word of flags a header keeps REPLY and NEED_REPLY, with the version 1
pub flags-kept : (f : ℕ) → header_flags (has_bit f 2) (has_bit f 3) ≡ with_version f
flags-kept f = two-bits (f / 4 % 2) (f / 8 % 2) (omega arith) (omega arith) ∙ omega arith

-- what holds at the error, and at the success
pub at-err : {A E : Type 0} {P : E → Type 0} (r : Result A E) → IfErr r P → is_err r ≡ true → (e : E) × P e
at-err (Ok a) p is = absurd cc
at-err (Err e) p is = (e, p)

pub at-ok : {A E : Type 0} {P : A → Type 0} (r : Result A E) → IfOk r P → is_err r ≡ false → (a : A) × P a
at-ok (Ok a) p is = (a, p)
at-ok (Err e) p is = absurd cc

-- an endpoint that is to send a request: it has its list of handles
abbrev pub begun : {L H : Type 0} → State L H → State L H
begun old = record old { list = true; faulted = false }

module _ {L H : Type 0} (event : L → Event H → L → Type 0) where
  -- what an endpoint does looks neither at its list nor at whether its last call met a fault
  pub talks-begun : (old new : State L H) {m : _} → Talks event (begun old) m new → Talks event old m new
  talks-begun old new t = record { below = t.below; moved = t.moved; handed = t.handed; taken = t.taken; retries = t.retries; failures = t.failures; budget = t.budget }

  fails-begun : (old : State L H) (between : Bool) (e : declared.Error) (new : State L H) → old.broken ≡ None → Fails event (begun old) between e new → Fails event old between e new
  fails-begun old between e new sound (was_broken b s) = absurd (cc (sound, b))
  fails-begun old between e new sound (no_memory b l s) = absurd (cc l)
  fails-begun old between e new sound (fault c m b t none most spent few broken faulted kept) = fault c m b (record { before = t.before; talks = talks-begun old (record new { link = t.before }) t.talks; last = t.last }) none most spent few broken faulted ((λ _. kept.0 refl), kept.1)

  module _ {R : Type 0} (number : R → ℕ) (code : R) (flags : ℕ) (p : Payload) (handles : List H) (body payload : List ℕ) (size : ℕ) (text : payload_text p ≡ body ++ payload) (long : length body ≡ size) where
    w : Written R H
    w = request_with flags code p handles

    -- the header says how much follows
    head-is : (header : Header) → header ≡ record { code = number code; flags = with_version flags; size = size + length payload } → header ≡ head_of number w
    unfolding w
    head-is header fields =
        let sized : size + length payload ≡ length (payload_text p) = sym (ap length text ∙ length-append body payload ∙ ap (λ (n : ℕ). n + length payload) long) in
        fields ∙ ap (λ (x : ℕ). record { code = number code; flags = x; size = size + length payload }) (sym (flags-kept flags))
        ∙ ap (λ (x : ℕ). record { code = number code; flags = header_flags (has_bit flags 2) (has_bit flags 3); size = x }) sized

    cells-are : (header : Header) → header ≡ head_of number w → carrying handles (header_text header ++ (body ++ payload)) ≡ written_cells number w
    unfolding w
    cells-are header head = ap (λ (x : Header). carrying handles (header_text x ++ (body ++ payload))) head ∙ ap (λ xs. carrying handles (header_text (head_of number w) ++ xs)) (sym text)

    pub whole-goes : (old mid new : State L H) (header : VhostUserMsgHeader R) → mid ≡ begun old
        → fields_of header ≡ record { code = number code; flags = with_version flags; size = size + length payload }
        → Sends event mid (carrying handles (header_text (fields_of header) ++ (body ++ payload))) (Ok tt) new → GoesOut event number (request_with flags code p handles) old header new
    unfolding w
    whole-goes old mid new header is fields (r, q, list, left) =
        let head = head-is (fields_of header) fields in
        let s : Serves event (begun old) old.budget (sends (written_cells number w) r) new =
        subst (λ xs. Serves event (begun old) old.budget (sends xs r) new) (cells-are (fields_of header) head)
        (subst (λ (x : State L H). Serves event x x.budget (sends (carrying handles (header_text (fields_of header) ++ (body ++ payload))) r) new) is q) in
        record {
          retries = r;
          serves = record { talks = talks-begun old new s.talks; retries = s.retries; failures = s.failures; before = s.before; after = s.after; faulted = s.faulted };
          header = head;
          list = list ∙ ap (λ (x : State L H). x.list) is;
        }

  pub front-fails : (handles : List H) (header : Header) (text : List ℕ) (old mid new : State L H) (e : declared.Error) → length text ≤ MAX_MSG_SIZE → old.broken ≡ None → mid ≡ begun old
      → Sends event mid (carrying handles (header_text header ++ text)) (Err e) new → Fails event old false e new
  front-fails handles header text old mid new e most sound is (n, r, t, short) =
      let sent = carrying handles (header_text header ++ text) in
      let few : length (take n sent) ≤ MAX_MSG_TEXT = omega (arith, length-take n sent, length-carrying handles (header_text header ++ text), length-append (header_text header) text, most) in
      fails-begun old false e new sound (subst (λ (x : State L H). Fails event x false e new) is (trouble-fails event mid Never false (sends (take n sent) r) e new t refl (ap (λ (x : State L H). x.list) is) few))
