-- A descriptor that an answer names came with it.
use Rattle.std.proofs.Common.{◌≡◌, ℕ, Bool, true, false, List, [], ◌∷◌, ◌++◌, map, Option, Some, None, Ok, Err, ◌⊎◌, inl, inr, refl, sym, ap, subst, ◌∙◌, arith}
use Rattle.std.specs.Prelude.{ℤ, pos, negsuc, nat_lt, int_lt, if◌then◌else◌}
use Rattle.vhost_link.specs.declared.handle.Kind.TheVariants.{NoSocket}
use Rattle.vhost_protocol.specs.FrontendCall.{PostcopyAdvise}
use Rattle.vhost_protocol.specs.Stream.{carrying, first_handles}
use Rattle.vhost_link.specs.declared.plain.PlainHandle.{PlainHandle}
use Rattle.vhost_frontend_core.specs.Values.{answer_of}
use Rattle.vhost_frontend_core.specs.declared.values.answer.FrontendAnswer.{FrontendAnswer}
use Rattle.vhost_frontend_core.specs.declared.values.answer.FrontendAnswer.TheVariants as answer
use Rattle.vhost_c.specs.Answers.{ReadsFd}
use Rattle.vhost_c_common.specs.Moving.{TakesIn}
use Rattle.vhost_c_frontend.specs.Names.{Names}
use Rattle.vhost_c_common.specs.Number.{outcome_number}
use Rattle.vhost_c_common.specs.Records.{handle_in, fd_in}
use Rattle.vhost_c_common.specs.ByNumber.{By, none, some}
use Rattle.vhost_c_frontend.specs.Session.{Asking, Asks, sent, at_once, Receiving, Takes, kept, Reading, arrived}
use Rattle.vhost_c_common.specs.declared.refusal.Refusal.{Refusal}
use Rattle.vhost_c_frontend.specs.declared.session.Session.{Session}

-- all that came is this descriptor; or it is none
abbrev IsAll : List ℤ → ℤ → Type 0
IsAll fds named = (fds ≡ named ∷ []) ⊎ (named ≡ negsuc 0)

never : (r : Refusal) → outcome_number (Err r) ≡ 0 → ⊥
never r zero = grind arith

picked : (n : ℕ) (b : Bool) (h : PlainHandle) → (if b then None else Some (record { id = n; kind = NoSocket })) ≡ Some h → h.id ≡ n
picked n true h is = absurd cc
picked n false h is = cc

-- the number of a handle is that of its descriptor
number-back : (fd : ℤ) (h : PlainHandle) → handle_in fd ≡ Some h → IsAll (fd ∷ []) (fd_in h)
number-back (pos n) h is =
    subst (λ k. IsAll (pos n ∷ []) (if nat_lt 2147483647 k then negsuc 0 else pos k)) (sym (picked n (int_lt (pos n) (pos 0)) h is)) (by (nat_lt 2147483647 n))
  where
    by : (b : Bool) → IsAll (pos n ∷ []) (if b then negsuc 0 else pos n)
    by true = inr refl
    by false = inl refl
number-back (negsuc n) h is = absurd cc

-- the one handle that came
came : (fds : List ℤ) (text : List ℕ) (handles : List PlainHandle) (h : PlainHandle) → map handle_in fds ≡ map Some handles → h ∷ [] ≡ first_handles (carrying handles text) → IsAll fds (fd_in h)
came fds [] handles h of same = absurd cc
came [] (b ∷ text) handles h of same = let at : [] ≡ map Some (h ∷ []) = of ∙ ap (λ hs. map Some hs) (sym same) in absurd cc
came (fd ∷ []) (b ∷ text) handles h of same = number-back fd h (let at : map handle_in (fd ∷ []) ≡ map Some (h ∷ []) = of ∙ ap (λ hs. map Some hs) (sym same) in cc)
came (fd ∷ g ∷ fds) (b ∷ text) handles h of same = let at : map handle_in (fd ∷ g ∷ fds) ≡ map Some (h ∷ []) = of ∙ ap (λ hs. map Some hs) (sym same) in absurd cc

-- an answer that names no handle but that one
read-one : (fds : List ℤ) (named : ℤ) (text : List ℕ) (handles : List PlainHandle) (a : FrontendAnswer) → map handle_in fds ≡ map Some handles → Names (first_handles (carrying handles text)) (answer_of a) → ReadsFd named a (Ok tt) → IsAll fds named
read-one fds named text handles (answer.Handle h) of (inl nothing) reads = absurd cc
read-one fds named text handles (answer.Handle h) of (inr one) reads = subst (IsAll fds) (sym reads) (came fds text handles h of one)
read-one fds named text handles (answer.StateHandle (Some h)) of (inl nothing) reads = absurd cc
read-one fds named text handles (answer.StateHandle (Some h)) of (inr one) reads = subst (IsAll fds) (sym reads) (came fds text handles h of one)
read-one fds named text handles (answer.StateHandle None) of names reads = inr reads
read-one fds named text handles _ of names reads = absurd reads

-- the four calls, one after another
last-step : (fds : List ℤ) (named : ℤ) (text : List ℕ) (handles : List PlainHandle) (s : Session) {n : ℕ} {new : Option Session} → map handle_in fds ≡ map Some handles → Names (first_handles (carrying handles text)) (answer_of s.answer)
    → By (Reading (ReadsFd named)) (Some s) n new → n ≡ 0 → IsAll fds named
last-step fds named text handles s of names (some {outcome = Ok done} reads) zero = read-one fds named text handles s.answer of names reads.0
last-step fds named text handles s of names (some {outcome = Err r} reads) zero = absurd (never r zero)

take-step : (fds : List ℤ) (named : ℤ) (text : List ℕ) (handles : List PlainHandle) (s : Session) {t n : ℕ} {o new : Option Session} → map handle_in fds ≡ map Some handles → arrived s ≡ carrying handles text
    → By (λ s o s'. Takes s s' o) (Some s) t o → By (Reading (ReadsFd named)) o n new → t ≡ 0 → n ≡ 0 → IsAll fds named
take-step fds named text handles s of waits (some {s' = s'} (kept asked zero sized one names fine)) reads first second =
    last-step fds named text handles s' of (subst (λ cs. Names (first_handles cs) (answer_of s'.answer)) waits names) reads second
take-step fds named text handles s of waits (some {outcome = Err r} takes) reads first second = absurd (never r first)

receive-step : (fds : List ℤ) (named : ℤ) (text : List ℕ) (s : Session) {r t n : ℕ} {o p new : Option Session} → arrived s ≡ [] → By (Receiving text fds) (Some s) r o → By (λ s o s'. Takes s s' o) o t p → By (Reading (ReadsFd named)) p n new
    → r ≡ 0 → t ≡ 0 → n ≡ 0 → IsAll fds named
receive-step fds named text s empty (some {s' = s'} {outcome = Ok done} got) takes reads first second third =
    let x : TakesIn text fds (arrived s) (arrived s') = got.0.1 in
    take-step fds named text x.handles s' x.of_fds (x.got ∙ ap (λ cs. cs ++ carrying x.handles text) empty) takes reads second third
receive-step fds named text s empty (some {outcome = Err r} got) takes reads first second third = absurd (never r first)

asked-step : (fds : List ℤ) (named : ℤ) (text : List ℕ) (s s' : Session) {r t n : ℕ} {o p new : Option Session} → Asks PostcopyAdvise s s' → By (Receiving text fds) (Some s') r o → By (λ s o s'. Takes s s' o) o t p → By (Reading (ReadsFd named)) p n new
    → r ≡ 0 → t ≡ 0 → n ≡ 0 → IsAll fds named
asked-step fds named text s s' (sent w is queue keeps same sound) = receive-step fds named text s' keeps.nothing_waits
asked-step fds named text s s' (at_once flags is memory queue asked incoming answer end) = absurd (cc is)

pub naming : (fds : List ℤ) (named : ℤ) (text : List ℕ) {a r t n : ℕ} {old o p q new : Option Session} → By (Asking PostcopyAdvise) old a o → By (Receiving text fds) o r p → By (λ s o s'. Takes s s' o) p t q → By (Reading (ReadsFd named)) q n new
    → a ≡ 0 → r ≡ 0 → t ≡ 0 → n ≡ 0 → IsAll fds named
naming fds named text none receives takes reads zero = absurd (cc zero)
naming fds named text (some {s = s} {s' = s'} {outcome = Ok done} asks) receives takes reads zero = asked-step fds named text s s' asks.0 receives takes reads
naming fds named text (some {outcome = Err r} refused) receives takes reads zero = absurd (never r zero)
