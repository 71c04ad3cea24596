-- What a call becomes by an answer, it becomes by the answer that its reply holds.
use Rattle.std.proofs.Common.{◌≡◌, ◌⊎◌, inl, inr, ℕ, ◌<◌, ◌≤◌, ◌^◌, Bool, true, false, List, [], ◌∷◌, length, Option, Some, None, Result, Ok, Err, refl, sym, ap, subst, ◌∙◌, arith}
use Rattle.std.specs.Prelude.{⊤, All, map, ◌==◌, ◌&&◌, is_ok, is_some, if◌then◌else◌}
use Rattle.std.proofs.lemmas.Bool.{eqb-true, eq-eqb}
use Rattle.std.proofs.lemmas.List.Elements.{All-head}
use Rattle.vhost_message.specs.declared.heard_req.HeardReq.{HeardReq}
use Rattle.vhost_message.specs.declared.heard_req.HeardReq.TheVariants.{POSTCOPY_LISTEN, SET_DEVICE_STATE_FD}
use Rattle.vhost_message.specs.declared.records.config.VhostUserConfig.{VhostUserConfig}
use Rattle.vhost_message.specs.declared.records.shmem.VhostUserShMemConfig.{VhostUserShMemConfig}
use Rattle.vhost_message.specs.declared.records.vring.VhostUserVringState.{VhostUserVringState}
use Rattle.vhost_protocol.specs.Answered.{calls, with_config, with_state}
use Rattle.vhost_protocol.specs.DeviceCall as device
use Rattle.vhost_protocol.specs.Error.{BackendInternalError, Error, test}
use Rattle.vhost_protocol.specs.Profile.{is_standard}
use Rattle.vhost_protocol.specs.Handler.{Follows}
use Rattle.vhost_protocol.specs.Row.{channel}
use Rattle.vhost_protocol.specs.Split.{Message}
use Rattle.vhost_protocol.specs.Served.{Silent, Replied}
use Rattle.vhost_protocol.specs.Session.{Session, ack_on}
use Rattle.vhost_protocol.specs.Settled.{ended, has_reply, is_listening, refused_reply, settled}
use Rattle.vhost_protocol.specs.Step.{Refusal, Step, Refused, Calls, OpensBackend, OpensGpu, ◌>>=◌, ◌>>◌, replied, replied_or_silent, unwritten, with_ack}
use Rattle.vhost_protocol.specs.Written.{Payload, Empty, U64, RingState, ConfigBytes}
use Rattle.vhost_link.specs.declared.plain.PlainHandle.{PlainHandle}
use Rattle.vhost_backend_req_handler_core.specs.Concluding.{Beside, answer_in, bytes_in, done_in, handle_in, number_in, ring_state_in, shmem_in, state_handle_in}
use Rattle.vhost_c_common.specs.Records.{fd_in}
use Rattle.vhost_c_backend.specs.Calls.{device_number}
use Rattle.vhost_c_backend.specs.Serving.{Channel, Display}
use Rattle.vhost_c_backend.specs.declared.replies.Form.{Form}
use Rattle.vhost_c_backend.specs.declared.replies.Form.TheVariants as form
use Rattle.vhost_c_backend.specs.declared.replies.Reply.{Reply}
use Rattle.vhost_c_backend.specs.declared.replies.Reply.TheVariants as reply
use Rattle.vhost_c_joined.specs.Device.{IsSized, Says, form_of, opens, replies}
use Rattle.vhost_c_joined.specs.Judged.{Holds, HoldsBases, kind_in, told_bases, told_fd, told_number, told_state, told_word}
use Rattle.vhost_c_joined.specs.Wire.{IsFd}
use Rattle.vhost_c_joined.specs.declared.judged.Kind.TheVariants as kind
use Rattle.vhost_c_joined.proofs.Replying.{handles_in, text_in}
use Rattle.vhost_c_joined.proofs.Settling as settling
use Rattle.vhost_c_joined.proofs.Settling.{Out, Same, asking, acking, acked, acked-same, quieted, quiet-same, never-silent, never-acked, replied-is, listened, listens-same, acked-number, number-back, ring-back}
use Rattle.vhost_c_joined.proofs.Said.{Said, said-refused, said-done, said-fd, said-state, said-number, said-ring, some-number, some-ring, no-shmem, Decides, done-decides, agreed, acked-bare}

abbrev pub Row : Type 0
Row = Step PlainHandle Channel Display

-- a request that is no reply, with its descriptors
abbrev pub bringing : HeardReq → Bool → List ℕ → List PlainHandle → Message HeardReq PlainHandle
bringing r need body hs = record { request = r; reply = false; need_reply = need; body = body; handles = hs }

module _ (s : Session) (standard : is_standard s.profile ≡ true) (r : HeardReq) (need : Bool) (body : List ℕ) where
  -- what an outcome becomes
  abbrev pub became : Out → Out
  became o = settled s (asking r need body) o

  -- the answer that the reply of an outcome holds
  abbrev pub Tells : ℕ → Out → Reply → Type 0
  Tells n o d' = Holds (kind_in n) (text_in r o.served) (map fd_in (handles_in o.served)) d'

  -- the same where a channel is opened first
  abbrev Opens : {C : Type 0} → ℕ → PlainHandle → (Result C Error → Row) → Type 0
  Opens {C} n h next = (d d' : Reply) (opened opened' : Result C Error) (told told' : Out) → opens d h opened → opens d' h opened' → Follows (replies d) (opens d) (opens d) s tt (next opened) told tt → Follows (replies d') (opens d') (opens d') s tt (next opened') told' tt
      → Tells n (became told) d' → Same (became told) (became told')

  -- What a call becomes by an answer it becomes by the answer that its reply holds, where the session goes on and the reply brings descriptors alone.
  abbrev pub Well : Row → Type 0
  Well (Calls c next) = (d : Reply) (x : Said) (b : Beside) → IsSized d → Says (form_of c) d x
      → is_some (became (next (answer_in b c x))).session.failed ≡ false → All IsFd (handles_in (became (next (answer_in b c x))).served) → (r ≡ SET_DEVICE_STATE_FD → ¬ (told_number (text_in r (became (next (answer_in b c x))).served) ≡ 0x100))
      → (d' : Reply) (x' : Said) (b' : Beside) → Tells (device_number c) (became (next (answer_in b c x))) d' → Says (form_of c) d' x'
      → Same (became (next (answer_in b c x))) (became (next (answer_in b' c x')))
  Well (Refused x) = ⊤
  Well (OpensBackend h next) = Opens 21 h next
  Well (OpensGpu h next) = Opens 33 h next

  -- ---- tests

  pub well-bind : {A : Type 0} (x : Result A (Refusal PlainHandle)) (next : A → Row) → ((a : A) → Well (next a)) → Well (x >>= next)
  well-bind (Ok a) next h = h a
  well-bind (Err e) next h = tt

  pub well-then : (x : Result ⊤ (Refusal PlainHandle)) (next : Row) → Well next → Well (x >> next)
  well-then (Ok u) next h = h
  well-then (Err e) next h = tt

  pub well-test : (b : Bool) (e : Refusal PlainHandle) (next : Row) → (b ≡ true → Well next) → Well (test b e >> next)
  well-test true e next h = h refl
  well-test false e next h = tt

  pub well-cond : (b : Bool) (x y : Row) → (b ≡ true → Well x) → (b ≡ false → Well y) → Well (if b then x else y)
  well-cond true x y h k = h refl
  well-cond false x y h k = k refl

  -- ---- acknowledgements

  module _ {A : Type 0} (f : Form) (of : Said → Result A Error) (decides : Decides f of) (s' : Session) (own : has_reply r s (length body) ≡ false) (listening : is_listening r ≡ false) where
    abbrev told : Said → Out
    told x = became (with_ack s' (asking r need body) (of x))

    pub acks-by : (x x' : Said) (d' : Reply) → Holds kind.Done (text_in r (told x).served) [] d' → Says f d' x' → Same (told x) (told x')
    acks-by x x' d' holds says = acked-same s standard r need body s' own listening (of x) (of x')
        (λ on. agreed f of decides _ (is_ok (of x)) (ap (λ w. told_number (text_in r w)) ((acked s standard r need body s' own listening (of x)).0 ∙ ap (λ w. acking w (is_ok (of x))) on) ∙ acked-number r (is_ok (of x))) d' x' holds says)

    pub acks-unmapped : (x x' : Said) (d' : Reply) → HoldsBases (told_bases (text_in r (told x).served)) (text_in r (told x).served) d' → Says f d' x' → Same (told x) (told x')
    acks-unmapped x x' d' holds says = acks-by x x' d'
        (subst (λ bs. HoldsBases bs (text_in r (told x).served) d') (ap (λ w. told_bases (text_in r w)) (acked s standard r need body s' own listening (of x)).0 ∙ acked-bare r (ack_on s' && need) (is_ok (of x))) holds) says

  pub acks : (s' : Session) (own : has_reply r s (length body) ≡ false) (listening : is_listening r ≡ false) (x x' : Said) (d' : Reply) → Holds kind.Done (text_in r (became (with_ack s' (asking r need body) (done_in x))).served) [] d' → Says form.Done d' x'
      → Same (became (with_ack s' (asking r need body) (done_in x))) (became (with_ack s' (asking r need body) (done_in x')))
  acks = acks-by form.Done (λ x. done_in x) done-decides

  -- A channel was opened, or not, as the device's reply says.
  pub record IsOpened (d : Reply) (told : Out) : Type 0 where
    pub result : Result ⊤ Error
    pub is : told ≡ with_ack s (asking r need body) result
    pub by : (k : Bool) → ((x : Said) → Says form.Done d x → is_ok (done_in x) ≡ k) → is_ok result ≡ k

  pub opening : has_reply r s (length body) ≡ false → is_listening r ≡ false → (d d' : Reply) (told told' : Out) → IsOpened d told → IsOpened d' told' → Holds kind.Done (text_in r (became told).served) [] d' → Same (became told) (became told')
  opening own listening d d' told told' o o' holds =
      subst (λ y. Same (became y) (became told')) (sym o.is) (subst (λ y. Same (became (with_ack s (asking r need body) o.result)) (became y)) (sym o'.is)
      (acked-same s standard r need body s own listening o.result o'.result (λ on. o'.by (is_ok o.result) (λ x. agreed form.Done (λ y. done_in y) done-decides _ (is_ok o.result)
      (ap (λ (y : Out). told_number (text_in r (became y).served)) o.is ∙ ap (λ w. told_number (text_in r w)) ((acked s standard r need body s own listening o.result).0 ∙ ap (λ w. acking w (is_ok o.result)) on) ∙ acked-number r (is_ok o.result)) d' x holds))))

  module _ (hs : List PlainHandle) (d : Reply) (h : PlainHandle) (told : Out) where
    backend-opened : (opened : Result Channel Error) → opens d h opened → Follows (replies d) (opens d) (opens d) s tt (channel s (bringing r need body hs) opened >>= (λ c. calls s (bringing r need body hs) (device.SetBackendReqFd c))) told tt → IsOpened d told
    backend-opened (Ok c) op f = record { result = Ok tt; is = f.2; by = λ k all. ap (λ (a : Result ⊤ Error). is_ok a) op.2 ∙ all op.0 op.1 }
    backend-opened (Err e) op f = record { result = Err e; is = f.0; by = λ k all. ap (λ (a : Result ⊤ Error). is_ok a) op.2 ∙ all op.0 op.1 }

    gpu-opened : (opened : Result Display Error) → opens d h opened → Follows (replies d) (opens d) (opens d) s tt (channel s (bringing r need body hs) opened >>= (λ c. calls s (bringing r need body hs) (device.SetGpuSocket c))) told tt → IsOpened d told
    gpu-opened (Ok c) op (a, (x, says, b, is), to) = record { result = a; is = to; by = λ k all. ap (λ (y : Result ⊤ Error). is_ok y) is ∙ all x says }
    gpu-opened (Err e) op f = record { result = Err e; is = f.0; by = λ k all. ap (λ (a : Result ⊤ Error). is_ok a) op.2 ∙ all op.0 op.1 }

  pub backend : (own : has_reply r s (length body) ≡ false) (listening : is_listening r ≡ false) (hs : List PlainHandle) (h : PlainHandle) → Opens 21 h (λ opened. channel s (bringing r need body hs) opened >>= (λ c. calls s (bringing r need body hs) (device.SetBackendReqFd c)))
  backend own listening hs h d d' opened opened' told told' op op' f g holds = opening own listening d d' told told' (backend-opened hs d h told opened op f) (backend-opened hs d' h told' opened' op' g) holds

  pub gpu : (own : has_reply r s (length body) ≡ false) (listening : is_listening r ≡ false) (hs : List PlainHandle) (h : PlainHandle) → Opens 33 h (λ opened. channel s (bringing r need body hs) opened >>= (λ c. calls s (bringing r need body hs) (device.SetGpuSocket c)))
  gpu own listening hs h d d' opened opened' told told' op op' f g holds = opening own listening d d' told told' (gpu-opened hs d h told opened op f) (gpu-opened hs d' h told' opened' op' g) holds

  module _ (s' : Session) (own : has_reply r s (length body) ≡ false) (listening : is_listening r ≡ false) where
    abbrev quietly : Result ⊤ Error → Out
    quietly a = settled s (asking r need body) (unwritten s' a)

    pub quiets : (x x' : Said) (d' : Reply) → Holds kind.Done (text_in r (quietly (done_in x)).served) [] d' → Says form.Done d' x' → Same (quietly (done_in x)) (quietly (done_in x'))
    quiets x x' d' holds says = quiet-same s standard r need body s' own listening (done_in x) (done_in x')
        (λ on. agreed form.Done (λ y. done_in y) done-decides _ (is_ok (done_in x)) (ap (λ w. told_number (text_in r w)) ((quieted s standard r need body s' own listening (done_in x)).0 ∙ ap (λ w. acking w (is_ok (done_in x))) on) ∙ acked-number r (is_ok (done_in x))) d' x' holds says)

  -- ---- values

  module _ (own : has_reply r s (length body) ≡ true) (none : (o : Out) → refused_reply r body o ≡ ended o) where
    silence : (e : Error) (o : Out) → o ≡ settled s (asking r need body) (record { answer = Err e; served = Silent; session = s }) → is_some o.session.failed ≡ false → ⊥
    silence e o is alive = never-silent s standard r need body s (Err e) own none (ap (λ (x : Out). is_some x.session.failed) (sym is) ∙ alive)

    module _ (mem : ℕ → Session) (tell : ℕ → ℕ) (next : Result ℕ Error → Out) (ok : (n : ℕ) → next (Ok n) ≡ replied (mem n) (U64 (tell n)) []) (err : (e : Error) → next (Err e) ≡ record { answer = Err e; served = Silent; session = s })
        (bound : (n : ℕ) → n < 2 ^ 64 → tell n < 2 ^ 64) (again : (n : ℕ) → (mem (tell n) ≡ mem n) × (tell (tell n) ≡ tell n)) where
      abbrev tells : Said → Out
      tells x = settled s (asking r need body) (next (number_in x))

      tells-ok : (x : Said) (n : ℕ) → number_in x ≡ Ok n → tells x ≡ replied (mem n) (U64 (tell n)) []
      tells-ok x n is = ap (λ a. settled s (asking r need body) (next a)) is ∙ ap (λ o. settled s (asking r need body) o) (ok n) ∙ replied-is s standard r need body (mem n) (U64 (tell n)) []

      pub numbers : (d : Reply) (x : Said) → IsSized d → Says form.Number d x → is_some (tells x).session.failed ≡ false
          → (d' : Reply) (x' : Said) → Holds kind.Number (text_in r (tells x).served) [] d' → Says form.Number d' x' → Same (tells x) (tells x')
      numbers d x sized says alive d' x' holds says' = by (some-number d x sized says)
        where
          by : ((n : ℕ) × (n < 2 ^ 64) × (number_in x ≡ Ok n)) ⊎ ((e : Error) × (number_in x ≡ Err e)) → Same (tells x) (tells x')
          by (inr (e, is)) = absurd (silence e (tells x) (ap (λ a. settled s (asking r need body) (next a)) is ∙ ap (λ o. settled s (asking r need body) o) (err e)) alive)
          by (inl (n, small, is)) =
              let first : tells x ≡ replied (mem n) (U64 (tell n)) [] = tells-ok x n is in
              let number : told_number (text_in r (tells x).served) ≡ tell n = ap (λ (o : Out). told_number (text_in r o.served)) first ∙ number-back r (tell n) (bound n small) in
              let said : number_in x' ≡ Ok (tell n) = ap {A = Said} number_in (said-number (tell n) x' (subst (λ e. Says form.Number e x') (holds ∙ ap reply.Number number) says')) in
              let second : tells x' ≡ replied (mem (tell n)) (U64 (tell (tell n))) [] = tells-ok x' (tell n) said in
              record {
                served = ap (λ (o : Out). o.served) second ∙ ap (λ k. Replied (U64 k) []) (again n).1 ∙ sym (ap (λ (o : Out). o.served) first);
                session = ap (λ (o : Out). o.session) second ∙ (again n).0 ∙ sym (ap (λ (o : Out). o.session) first);
              }

    abbrev rings : Said → Out
    rings x = settled s (asking r need body) (replied_or_silent s RingState (ring_state_in x))

    rings-ok : (x : Said) (v : VhostUserVringState) → ring_state_in x ≡ Ok v → rings x ≡ replied s (RingState v) []
    rings-ok x v is = ap (λ a. settled s (asking r need body) (replied_or_silent s RingState a)) is ∙ replied-is s standard r need body s (RingState v) []

    pub ring : (d : Reply) (x : Said) → IsSized d → Says form.Ring d x → is_some (rings x).session.failed ≡ false
        → (d' : Reply) (x' : Said) → Holds kind.Ring (text_in r (rings x).served) [] d' → Says form.Ring d' x' → Same (rings x) (rings x')
    ring d x sized says alive d' x' holds says' = by (some-ring d x sized says)
      where
        by : ((v : VhostUserVringState) × (v.index < 2 ^ 32) × (v.num < 2 ^ 32) × (ring_state_in x ≡ Ok v)) ⊎ ((e : Error) × (ring_state_in x ≡ Err e)) → Same (rings x) (rings x')
        by (inr (e, is)) = absurd (silence e (rings x) (ap (λ a. settled s (asking r need body) (replied_or_silent s RingState a)) is) alive)
        by (inl (v, small, few, is)) =
            let first : rings x ≡ replied s (RingState v) [] = rings-ok x v is in
            let numbers = ring-back r v small few in
            let said : ring_state_in x' ≡ Ok v = ap {A = Said} ring_state_in (said-ring v.index v.num x' (subst (λ e. Says form.Ring e x') (holds ∙ ap (λ (o : Out). reply.Ring (told_word 12 (text_in r o.served)) (told_word 16 (text_in r o.served))) first ∙ (λ i. reply.Ring (numbers.0 i) (numbers.1 i))) says')) in
            let second : rings x' ≡ replied s (RingState v) [] = rings-ok x' v said in
            record { served = ap (λ (o : Out). o.served) (second ∙ sym first); session = ap (λ (o : Out). o.session) (second ∙ sym first) }

    -- shared memory is never answered
    pub shmem : (d : Reply) (x : Said) (b : Beside) → Says form.Shmem d x → (p : VhostUserShMemConfig → Payload) → is_some (settled s (asking r need body) (replied_or_silent s p (shmem_in b x))).session.failed ≡ false → ⊥
    shmem d x b says p alive = let e = no-shmem d x b says in silence e.0 _ (ap (λ a. settled s (asking r need body) (replied_or_silent s p a)) e.1) alive

    -- a reply that repeats what came says that the call succeeded
    abbrev repeats : Payload → Said → Out
    repeats p x = settled s (asking r need body) (replied_or_silent s (λ (u : ⊤). p) (done_in x))

    pub repeated : (p : Payload) (x x' : Said) (d' : Reply) → is_some (repeats p x).session.failed ≡ false → Holds kind.Same (text_in r (repeats p x).served) [] d' → Says form.Done d' x' → Same (repeats p x) (repeats p x')
    repeated p x x' d' alive holds says = by (done_in x) refl
      where
        ok : (y : Said) → done_in y ≡ Ok tt → repeats p y ≡ replied s p []
        ok y is = ap (λ a. settled s (asking r need body) (replied_or_silent s (λ (u : ⊤). p) a)) is ∙ replied-is s standard r need body s p []

        by : (a : Result ⊤ Error) → done_in x ≡ a → Same (repeats p x) (repeats p x')
        by (Ok u) is =
            let first = ok x is in
            let second = ok x' (ap {A = Said} (λ y. done_in y) (said-done x' (subst (λ e. Says form.Done e x') holds says))) in
            record { served = ap (λ (o : Out). o.served) (second ∙ sym first); session = ap (λ (o : Out). o.session) (second ∙ sym first) }
        by (Err e) is = absurd (silence e (repeats p x) (ap (λ a. settled s (asking r need body) (replied_or_silent s (λ (u : ⊤). p) a)) is) alive)

    -- nor a request that is only acknowledged, and has a reply
    pub unserved : (a : Result ⊤ Error) → is_some (settled s (asking r need body) (with_ack s (asking r need body) a)).session.failed ≡ false → ⊥
    unserved a alive = never-acked s standard r need body s a own none alive

  -- a reply of a number that says whether it succeeded
  pub checks : (next : Result ⊤ Error → Out) (mem : Session) → ((a : Result ⊤ Error) → ((settled s (asking r need body) (next a)).served ≡ Replied (U64 (if is_ok a then 0 else 1)) []) × ((settled s (asking r need body) (next a)).session ≡ mem)) → (x x' : Said) (d' : Reply)
      → Holds kind.Done (text_in r (settled s (asking r need body) (next (done_in x))).served) [] d' → Says form.Done d' x' → Same (settled s (asking r need body) (next (done_in x))) (settled s (asking r need body) (next (done_in x')))
  checks next mem is x x' d' holds says =
      let k : is_ok (done_in x') ≡ is_ok (done_in x) = agreed form.Done (λ y. done_in y) done-decides _ (is_ok (done_in x)) (ap (λ w. told_number (text_in r w)) (is (done_in x)).0 ∙ acked-number r (is_ok (done_in x))) d' x' holds says in
      record {
        served = (is (done_in x')).0 ∙ ap (λ b. Replied (U64 (if b then 0 else 1)) []) k ∙ sym (is (done_in x)).0;
        session = (is (done_in x')).1 ∙ sym (is (done_in x)).1;
      }

  -- both are this
  pub both-are : (x x' o : Out) → x ≡ o → x' ≡ o → Same x x'
  both-are x x' o is is' = record { served = ap (λ (y : Out). y.served) (is' ∙ sym is); session = ap (λ (y : Out). y.session) (is' ∙ sym is) }

  -- a reply with a descriptor, or with none where the call was refused
  module _ (next : Result PlainHandle Error → Out) (ok : (h : PlainHandle) → handles_in (next (Ok h)).served ≡ h ∷ []) (keeps : (h : PlainHandle) → became (next (Ok h)) ≡ next (Ok h)) (err : (e : Error) → became (next (Err e)) ≡ replied s Empty []) where
    abbrev gives : Said → Out
    gives x = became (next (handle_in x))

    pub handle : (x x' : Said) (d' : Reply) → All IsFd (handles_in (gives x).served) → Holds kind.Fd (text_in r (gives x).served) (map fd_in (handles_in (gives x).served)) d' → Says form.Fd d' x' → Same (gives x) (gives x')
    handle x x' d' fds holds says = by (handle_in x) refl
      where
        by : (a : Result PlainHandle Error) → handle_in x ≡ a → Same (gives x) (gives x')
        by (Ok h) is =
            let first : gives x ≡ next (Ok h) = ap (λ a. became (next a)) is ∙ keeps h in
            let brought : handles_in (gives x).served ≡ h ∷ [] = ap (λ (o : Out). handles_in o.served) first ∙ ok h in
            let one : IsFd h = All-head IsFd h [] (subst (λ hs. All IsFd hs) brought fds) in
            let given : d' ≡ reply.Fd (fd_in h) = holds ∙ ap (λ hs. told_fd (map fd_in hs)) brought in
            let again : handle_in x' ≡ Ok h = said-fd h x' one (subst (λ e. Says form.Fd e x') given says) in
            both-are (gives x) (gives x') (next (Ok h)) first (ap (λ a. became (next a)) again ∙ keeps h)
        by (Err e) is =
            let first : gives x ≡ replied s Empty [] = ap (λ a. became (next a)) is ∙ err e in
            let given : d' ≡ reply.Refused = holds ∙ ap (λ (o : Out). told_fd (map fd_in (handles_in o.served))) first in
            let refused : handle_in x' ≡ Err BackendInternalError = ap {A = Said} handle_in (said-refused form.Fd x' (subst (λ e. Says form.Fd e x') given says)) in
            both-are (gives x) (gives x') (replied s Empty []) first (ap (λ a. became (next a)) refused ∙ err BackendInternalError)

  -- a state is given by a descriptor, or refused, where the device does not use the one that came
  abbrev states : Said → Out
  states x = became (with_state s (state_handle_in x))

  pub state : (x x' : Said) (d' : Reply) → ¬ (told_number (text_in r (states x).served) ≡ 0x100) → All IsFd (handles_in (states x).served) → Holds kind.StateFd (text_in r (states x).served) (map fd_in (handles_in (states x).served)) d' → Says form.StateFd d' x' → Same (states x) (states x')
  state x x' d' gives fds holds says = by (state_handle_in x) refl
    where
      by : (a : Result (Option PlainHandle) Error) → state_handle_in x ≡ a → Same (states x) (states x')
      by (Ok (Some h)) is =
          let first : states x ≡ replied s (U64 0) (h ∷ []) = ap (λ a. became (with_state s a)) is ∙ replied-is s standard r need body s (U64 0) (h ∷ []) in
          let one : IsFd h = All-head IsFd h [] (subst (λ (o : Out). All IsFd (handles_in o.served)) first fds) in
          let given : d' ≡ reply.Fd (fd_in h) = holds ∙ ap (λ (o : Out). told_state (told_number (text_in r o.served)) (map fd_in (handles_in o.served))) first in
          let again : state_handle_in x' ≡ Ok (Some h) = said-state h x' one (subst (λ e. Says form.StateFd e x') given says) in
          both-are (states x) (states x') (replied s (U64 0) (h ∷ [])) first (ap (λ a. became (with_state s a)) again ∙ replied-is s standard r need body s (U64 0) (h ∷ []))
      by (Ok None) is = absurd (gives (ap (λ (o : Out). told_number (text_in r o.served)) (ap (λ a. became (with_state s a)) is ∙ replied-is s standard r need body s (U64 0x100) [])))
      by (Err e) is =
          let first : states x ≡ replied s (U64 0x101) [] = ap (λ a. became (with_state s a)) is ∙ replied-is s standard r need body s (U64 0x101) [] in
          let given : d' ≡ reply.Refused = holds ∙ ap (λ (o : Out). told_state (told_number (text_in r o.served)) (map fd_in (handles_in o.served))) first in
          let refused : state_handle_in x' ≡ Err BackendInternalError = ap {A = Said} state_handle_in (said-refused form.StateFd x' (subst (λ e. Says form.StateFd e x') given says)) in
          both-are (states x) (states x') (replied s (U64 0x101) []) first (ap (λ a. became (with_state s a)) refused ∙ replied-is s standard r need body s (U64 0x101) [])

  -- ---- bytes of the configuration space

  module _ (c : VhostUserConfig) (some : (c.size == 0) ≡ false) (small : c.size ≤ 4084) where
    abbrev bytes_of : Said → Out
    bytes_of x = settled s (asking r need body) (with_config s c (bytes_in x))

    abbrev none_there : Out
    none_there = replied s (ConfigBytes (record c { size = 0 }) []) []

    config-err : (x : Said) (e : Error) → bytes_in x ≡ Err e → bytes_of x ≡ none_there
    config-err x e is = ap (λ a. settled s (asking r need body) (with_config s c a)) is ∙ replied-is s standard r need body s (ConfigBytes (record c { size = 0 }) []) []

    config-ok : (x : Said) (bs : List ℕ) → bytes_in x ≡ Ok bs → (length bs == c.size) ≡ true → bytes_of x ≡ replied s (ConfigBytes c bs) []
    config-ok x bs is fits =
        ap (λ a. settled s (asking r need body) (with_config s c a)) is ∙ ap (λ b. settled s (asking r need body) (if b then replied s (ConfigBytes c bs) [] else none_there)) fits
        ∙ replied-is s standard r need body s (ConfigBytes c bs) []

    config-other : (x : Said) (bs : List ℕ) → bytes_in x ≡ Ok bs → (length bs == c.size) ≡ false → bytes_of x ≡ none_there
    config-other x bs is fits =
        ap (λ a. settled s (asking r need body) (with_config s c a)) is ∙ ap (λ b. settled s (asking r need body) (if b then replied s (ConfigBytes c bs) [] else none_there)) fits
        ∙ replied-is s standard r need body s (ConfigBytes (record c { size = 0 }) []) []

    same-of : (x x' : Said) (o : Out) → bytes_of x ≡ o → bytes_of x' ≡ o → Same (bytes_of x) (bytes_of x')
    same-of x x' o is is' = record { served = ap (λ (y : Out). y.served) (is' ∙ sym is); session = ap (λ (y : Out). y.session) (is' ∙ sym is) }

    -- without bytes it was refused
    refused-then : (x x' : Said) (d' : Reply) → bytes_of x ≡ none_there → Holds kind.Config (text_in r (bytes_of x).served) [] d' → Says form.Config d' x' → Same (bytes_of x) (bytes_of x')
    refused-then x x' d' is holds says = by d' (subst (λ (o : Out). Holds kind.Config (text_in r o.served) [] d') is holds) says
      where
        by : (e : Reply) → Holds kind.Config (text_in r none_there.served) [] e → Says form.Config e x' → Same (bytes_of x) (bytes_of x')
        by reply.Refused held says = same-of x x' none_there is (config-err x' BackendInternalError (ap {A = Said} bytes_in (said-refused form.Config x' says)))
        by (reply.Config bs) held says = absurd (let more : 0 < 0 = held.1 in omega (arith, more))
        by _ held says = absurd held

    -- with bytes it was answered by these
    bytes-then : (x x' : Said) (d' : Reply) (bs : List ℕ) → (length bs == c.size) ≡ true → bytes_of x ≡ replied s (ConfigBytes c bs) [] → Holds kind.Config (text_in r (bytes_of x).served) [] d' → Says form.Config d' x' → Same (bytes_of x) (bytes_of x')
    bytes-then x x' d' bs fits is holds says = by d' (subst (λ (o : Out). Holds kind.Config (text_in r o.served) [] d') is holds) says
      where
        long : length bs ≡ c.size
        long = eqb-true (length bs) c.size fits

        by : (e : Reply) → Holds kind.Config (text_in r (Replied (ConfigBytes c bs) [])) [] e → Says form.Config e x' → Same (bytes_of x) (bytes_of x')
        by reply.Refused held says = absurd (cc (sym some ∙ eq-eqb c.size 0 (sym long ∙ ap (λ (xs : List ℕ). length xs) held)))
        by (reply.Config b) held (inl gives) = same-of x x' (replied s (ConfigBytes c bs) []) is (config-ok x' bs (gives ∙ ap Ok held.0) fits)
        by (reply.Config b) held (inr (inl unfit, refused)) = absurd (cc unfit)
        by (reply.Config b) held (inr (inr bad, refused)) = absurd (let same : length b.now ≡ length bs = ap (λ (xs : List ℕ). length xs) held.0 in let many : 4084 < length b.now = bad in omega (arith, same, many, long, small))
        by _ held says = absurd held

    pub config : (x x' : Said) (d' : Reply) → Holds kind.Config (text_in r (bytes_of x).served) [] d' → Says form.Config d' x' → Same (bytes_of x) (bytes_of x')
    config x x' d' holds says = by (bytes_in x) refl
      where
        fitting : (bs : List ℕ) (b : Bool) → bytes_in x ≡ Ok bs → (length bs == c.size) ≡ b → Same (bytes_of x) (bytes_of x')
        fitting bs true is fits = bytes-then x x' d' bs fits (config-ok x bs is fits) holds says
        fitting bs false is fits = refused-then x x' d' (config-other x bs is fits) holds says

        by : (a : Result (List ℕ) Error) → bytes_in x ≡ a → Same (bytes_of x) (bytes_of x')
        by (Ok bs) is = fitting bs (length bs == c.size) is refl
        by (Err e) is = refused-then x x' d' (config-err x e is) holds says

-- ---- postcopy

-- whether it listens is acknowledged, or was agreed to
module _ (s : Session) (standard : is_standard s.profile ≡ true) (need : Bool) (body : List ℕ) where
  pub listening : (x x' : Said) (d' : Reply) → is_some (settling.listens s standard need body (done_in x)).session.failed ≡ false → Holds kind.Done (text_in POSTCOPY_LISTEN (settling.listens s standard need body (done_in x)).served) [] d' → Says form.Done d' x'
      → Same (settling.listens s standard need body (done_in x)) (settling.listens s standard need body (done_in x'))
  listening x x' d' alive holds says = listens-same s standard need body (done_in x) (done_in x') alive
      (λ on. agreed form.Done (λ y. done_in y) done-decides _ (is_ok (done_in x)) (ap (λ w. told_number (text_in POSTCOPY_LISTEN w)) (listened s standard need body (done_in x) alive ∙ ap (λ w. acking w (is_ok (done_in x))) on) ∙ acked-number POSTCOPY_LISTEN (is_ok (done_in x))) d' x' holds says)
      (λ off. agreed form.Done (λ y. done_in y) done-decides _ true (ap (λ w. told_number (text_in POSTCOPY_LISTEN w)) (listened s standard need body (done_in x) alive ∙ ap (λ w. acking w (is_ok (done_in x))) off)) d' x' holds says)
