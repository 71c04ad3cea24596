-- What a device said, by the answer that a reply holds.
use Rattle.std.proofs.Common.{◌≡◌, ◌⊎◌, inl, inr, ℕ, ◌<◌, ◌^◌, Bool, true, false, List, [], ◌∷◌, length, Some, None, Result, Ok, Err, refl, sym, ap, subst, ◌∙◌, arith}
use Rattle.std.specs.Prelude.{All, ◌==◌, is_ok, if◌then◌else◌}
use Rattle.std.proofs.lemmas.List.Elements.{All-head}
use Rattle.vhost_message.specs.declared.error.Error.TheVariants as code
use Rattle.vhost_message.specs.declared.heard_req.HeardReq.{HeardReq}
use Rattle.vhost_message.specs.declared.records.inflight.VhostUserInflight.{VhostUserInflight}
use Rattle.vhost_message.specs.declared.records.vring.VhostUserVringState.{VhostUserVringState}
use Rattle.vhost_message.specs.RecordLaws.{InflightFits}
use Rattle.vhost_protocol.specs.Error.{Error}
use Rattle.vhost_link.specs.declared.plain.PlainHandle.{PlainHandle}
use Rattle.vhost_backend_req_handler_core.specs.Concluding.{Beside, base_in, bases_in, done_in, handle_in, inflight_in, number_in, ring_state_in, shmem_in, state_handle_in}
use Rattle.vhost_backend_req_handler_core.specs.declared.answer.DeviceAnswer.{DeviceAnswer}
use Rattle.vhost_backend_req_handler_core.specs.declared.answer.DeviceAnswer.TheVariants as answer
use Rattle.vhost_c_common.specs.Records as records
use Rattle.vhost_c_common.specs.Records.{fd_in}
use Rattle.vhost_c_backend.specs.Replies as device_replies
use Rattle.vhost_c_backend.specs.declared.replies.Form.{Form}
use Rattle.vhost_c_backend.specs.declared.replies.Form.TheVariants as form
use Rattle.vhost_c_backend.specs.declared.replies.Reply.{Reply}
use Rattle.vhost_c_backend.specs.declared.replies.Reply.TheVariants as reply
use Rattle.vhost_c_joined.specs.Device.{IsSized, Says}
use Rattle.vhost_c_joined.specs.Judged.{Holds, HoldsBases, HoldsInflight, told_area, told_bases, told_number}
use Rattle.vhost_c_joined.specs.Wire.{IsFd}
use Rattle.vhost_c_joined.specs.declared.judged.Kind.TheVariants as kind
use Rattle.vhost_c_joined.proofs.Replying.{text_in}
use Rattle.vhost_c_joined.proofs.Settling.{acking}

abbrev pub Said : Type 0
Said = DeviceAnswer PlainHandle

pub said-refused : (f : Form) (x : Said) → Says f reply.Refused x → x ≡ answer.Done (Err code.BackendInternalError)
said-refused f x (inl is) = is
said-refused f x (inr both) = both.1

pub said-done : (x : Said) → Says form.Done reply.Done x → x ≡ answer.Done (Ok tt)
said-done x (inl is) = is
said-done x (inr (inl unfit, is)) = absurd (cc unfit)
said-done x (inr (inr bad, is)) = absurd bad

pub said-table : (x : Said) → Says (form.Table false) reply.Done x → x ≡ answer.Bases (Ok None)
said-table x (inl is) = is
said-table x (inr (inl unfit, is)) = absurd (cc unfit)
said-table x (inr (inr bad, is)) = absurd bad

pub said-region : (x : Said) → Says (form.Region false) reply.Done x → x ≡ answer.Base (Ok None)
said-region x (inl is) = is
said-region x (inr (inl unfit, is)) = absurd (cc unfit)
said-region x (inr (inr bad, is)) = absurd bad

-- a descriptor is the handle with its number
pub the-one : (h k : PlainHandle) → IsFd h → records.handle_in (fd_in h) ≡ Some k → k ≡ h
the-one h k fd is = let both : Some k ≡ Some h = sym is ∙ fd in cc both

pub no-bad : (h : PlainHandle) → IsFd h → records.handle_in (fd_in h) ≡ None → ⊥
no-bad h fd bad = let both : Some h ≡ None = sym fd ∙ bad in cc both

pub said-fd : (h : PlainHandle) (x : Said) → IsFd h → Says form.Fd (reply.Fd (fd_in h)) x → handle_in x ≡ Ok h
said-fd h x fd (inl (k, is, same)) = ap {A = Said} handle_in same ∙ ap Ok (the-one h k fd is)
said-fd h x fd (inr (inl unfit, is)) = absurd (cc unfit)
said-fd h x fd (inr (inr bad, is)) = absurd (no-bad h fd bad)

pub said-state : (h : PlainHandle) (x : Said) → IsFd h → Says form.StateFd (reply.Fd (fd_in h)) x → state_handle_in x ≡ Ok (Some h)
said-state h x fd (inl is) = ap {A = Said} state_handle_in is ∙ ap Ok fd
said-state h x fd (inr (inl unfit, is)) = absurd (cc unfit)
said-state h x fd (inr (inr bad, is)) = absurd (no-bad h fd bad)

-- an inflight region that was said fits
pub some-area : (d : Reply) (x : Said) → IsSized d → Says form.Inflight d x → (a : VhostUserInflight × PlainHandle) → inflight_in x ≡ Ok a → InflightFits a.0
some-area (reply.Inflight area fd) x sized (inl (h, at, same)) a is =
    let pair : (records.inflight_in area, h) ≡ a = cc (sym (ap {A = Said} inflight_in same) ∙ is) in
    subst (λ (y : VhostUserInflight). InflightFits y) (ap (λ (y : VhostUserInflight × PlainHandle). y.0) pair) sized.0
some-area reply.Refused x sized says a is = absurd (cc (sym (ap {A = Said} inflight_in (said-refused form.Inflight x says)) ∙ is))
some-area _ x sized (inl gives) a is = absurd gives
some-area _ x sized (inr says) a is = absurd (cc (sym (ap {A = Said} inflight_in says.1) ∙ is))

-- one that a reply gives is said again
pub said-area : (area : VhostUserInflight) (h : PlainHandle) (text : List ℕ) (d : Reply) (x : Said) → IsFd h → told_area text ≡ area → HoldsInflight text (fd_in h ∷ []) d → Says form.Inflight d x → inflight_in x ≡ Ok (area, h)
said-area area h text (reply.Inflight a f) x fd told held (inl (k, at, same)) =
    let one : k ≡ h = the-one h k fd (ap records.handle_in (sym held.1) ∙ at) in
    ap {A = Said} inflight_in same ∙ (λ i. Ok ((held.0 ∙ told) i, one i))
said-area area h text (reply.Inflight a f) x fd told held (inr (inl unfit, is)) = absurd (cc unfit)
said-area area h text (reply.Inflight a f) x fd told held (inr (inr bad, is)) = absurd (no-bad h fd (ap records.handle_in (sym held.1) ∙ bad))
said-area area h text _ x fd told held says = absurd held

pub no-area : (text : List ℕ) (d : Reply) → HoldsInflight text [] d → d ≡ reply.Refused
no-area text reply.Refused held = refl
no-area text _ held = absurd held

pub said-number : (n : ℕ) (x : Said) → Says form.Number (reply.Number n) x → x ≡ answer.Number (Ok n)
said-number n x (inl is) = is
said-number n x (inr (inl unfit, is)) = absurd (cc unfit)
said-number n x (inr (inr bad, is)) = absurd bad

pub said-ring : (i n : ℕ) (x : Said) → Says form.Ring (reply.Ring i n) x → x ≡ answer.RingState (Ok (record { index = i; num = n }))
said-ring i n x (inl is) = is
said-ring i n x (inr (inl unfit, is)) = absurd (cc unfit)
said-ring i n x (inr (inr bad, is)) = absurd bad

-- a number that was said has its bits, or none was
pub some-number : (d : Reply) (x : Said) → IsSized d → Says form.Number d x → ((n : ℕ) × (n < 2 ^ 64) × (number_in x ≡ Ok n)) ⊎ ((e : Error) × (number_in x ≡ Err e))
some-number (reply.Number n) x sized says = inl (n, sized, ap {A = Said} number_in (said-number n x says))
some-number reply.Refused x sized says = inr (_, ap {A = Said} number_in (said-refused form.Number x says))
some-number _ x sized (inl gives) = absurd gives
some-number _ x sized (inr both) = inr (_, ap {A = Said} number_in both.1)

pub some-ring : (d : Reply) (x : Said) → IsSized d → Says form.Ring d x → ((v : VhostUserVringState) × (v.index < 2 ^ 32) × (v.num < 2 ^ 32) × (ring_state_in x ≡ Ok v)) ⊎ ((e : Error) × (ring_state_in x ≡ Err e))
some-ring (reply.Ring i n) x sized says = inl (record { index = i; num = n }, sized.0, sized.1, ap {A = Said} ring_state_in (said-ring i n x says))
some-ring reply.Refused x sized says = inr (_, ap {A = Said} ring_state_in (said-refused form.Ring x says))
some-ring _ x sized (inl gives) = absurd gives
some-ring _ x sized (inr both) = inr (_, ap {A = Said} ring_state_in both.1)

-- shared memory has no reply here
pub no-shmem : (d : Reply) (x : Said) (b : Beside) → Says form.Shmem d x → (e : Error) × (shmem_in b x ≡ Err e)
no-shmem reply.Refused x b says = (_, ap {A = Said} (shmem_in b) (said-refused form.Shmem x says))
no-shmem _ x b (inl gives) = absurd gives
no-shmem _ x b (inr both) = (_, ap {A = Said} (shmem_in b) both.1)

-- a reply of no value decides an answer of this form
abbrev pub Decides : {A : Type 0} → Form → (Said → Result A Error) → Type 0
Decides f of = ((x : Said) → Says f reply.Done x → is_ok (of x) ≡ true) × ((x : Said) → Says f reply.Refused x → is_ok (of x) ≡ false)

pub done-decides : Decides form.Done (λ x. done_in x)
done-decides = (λ x says. ap {A = Said} (λ y. is_ok (done_in y)) (said-done x says), λ x says. ap {A = Said} (λ y. is_ok (done_in y)) (said-refused form.Done x says))

pub table-decides : Decides (form.Table false) (λ x. bases_in x)
table-decides = (λ x says. ap {A = Said} (λ y. is_ok (bases_in y)) (said-table x says), λ x says. ap {A = Said} (λ y. is_ok (bases_in y)) (said-refused (form.Table false) x says))

pub region-decides : Decides (form.Region false) (λ x. base_in x)
region-decides = (λ x says. ap {A = Said} (λ y. is_ok (base_in y)) (said-region x says), λ x says. ap {A = Said} (λ y. is_ok (base_in y)) (said-refused (form.Region false) x says))

-- a request was agreed to as its reply's number says
pub agreed : {A : Type 0} (f : Form) (of : Said → Result A Error) → Decides f of → (text : List ℕ) (k : Bool) → told_number text ≡ (if k then 0 else 1) → (d : Reply) (x : Said) → Holds kind.Done text [] d → Says f d x → is_ok (of x) ≡ k
agreed f of decides text true is d x holds says = decides.0 x (subst (λ e. Says f e x) (holds ∙ ap (λ n. if n == 0 then reply.Done else reply.Refused) is) says)
agreed f of decides text false is d x holds says = decides.1 x (subst (λ e. Says f e x) (holds ∙ ap (λ n. if n == 0 then reply.Done else reply.Refused) is) says)

-- where regions are mapped was said, or they are not
pub some-bases : (d : Reply) (x : Said) → IsSized d → Says (form.Table true) d x → ((bs : List ℕ) × All (λ base. base < 2 ^ 64) bs × (bases_in x ≡ Ok (Some bs))) ⊎ ((e : Error) × (bases_in x ≡ Err e))
some-bases (reply.Bases bs) x sized (inl gives) = inl (bs.now, sized, gives)
some-bases reply.Refused x sized says = inr (_, ap {A = Said} bases_in (said-refused (form.Table true) x says))
some-bases _ x sized (inl gives) = absurd gives
some-bases _ x sized (inr both) = inr (_, ap {A = Said} bases_in both.1)

pub said-bases : (bs text : List ℕ) (d : Reply) (x : Said) → 0 < length bs → HoldsBases bs text d → Says (form.Table true) d x → bases_in x ≡ Ok (Some bs)
said-bases [] text d x some holds says = absurd (omega (arith, some))
said-bases (b ∷ bs) text (reply.Bases given) x some holds (inl gives) = gives ∙ ap (λ xs. Ok (Some xs)) holds
said-bases (b ∷ bs) text (reply.Bases given) x some holds (inr (inl unfit, is)) = absurd (cc unfit)
said-bases (b ∷ bs) text (reply.Bases given) x some holds (inr (inr bad, is)) = absurd bad
said-bases (b ∷ bs) text _ x some holds says = absurd holds

-- the same of one region
pub some-base : (d : Reply) (x : Said) → IsSized d → Says (form.Region true) d x → ((b : ℕ) × (b < 2 ^ 64) × (base_in x ≡ Ok (Some b))) ⊎ ((base_in x ≡ Ok None) ⊎ ((e : Error) × (base_in x ≡ Err e)))
some-base (reply.Bases bs) x sized (inl is) = by bs.now sized (ap {A = Said} base_in is)
  where
    by : (xs : List ℕ) → All (λ base. base < 2 ^ 64) xs → base_in x ≡ Ok (device_replies.only xs) → ((b : ℕ) × (b < 2 ^ 64) × (base_in x ≡ Ok (Some b))) ⊎ ((base_in x ≡ Ok None) ⊎ ((e : Error) × (base_in x ≡ Err e)))
    by [] fits is = inr (inl is)
    by (b ∷ []) fits is = inl (b, All-head (λ base. base < 2 ^ 64) b [] fits, is)
    by (b ∷ c ∷ xs) fits is = inr (inl is)
some-base reply.Refused x sized says = inr (inr (_, ap {A = Said} base_in (said-refused (form.Region true) x says)))
some-base _ x sized (inl gives) = absurd gives
some-base _ x sized (inr both) = inr (inr (_, ap {A = Said} base_in both.1))

pub said-base : (b : ℕ) (text : List ℕ) (d : Reply) (x : Said) → HoldsBases (b ∷ []) text d → Says (form.Region true) d x → base_in x ≡ Ok (Some b)
said-base b text (reply.Bases given) x holds (inl is) = ap {A = Said} base_in is ∙ ap (λ xs. Ok (device_replies.only xs)) holds
said-base b text (reply.Bases given) x holds (inr (inl unfit, is)) = absurd (cc unfit)
said-base b text (reply.Bases given) x holds (inr (inr bad, is)) = absurd bad
said-base b text _ x holds says = absurd holds

-- an acknowledgement has no region
pub acked-bare : (r : HeardReq) (w k : Bool) → told_bases (text_in r (acking w k)) ≡ []
acked-bare r true true = refl
acked-bare r true false = refl
acked-bare r false k = refl
