-- Calls of a side that fail.
use Rattle.std.proofs.Common.{◌≡◌, ℕ, ◌+◌, ◌++◌, ◌≤◌, [], length, refl, sym, ap, subst, ◌∙◌, arith, inl, inr, Bool, true, false, ◌||◌, IsTrue, Option, Some, None}
use Rattle.std.specs.Prelude.{if◌then◌else◌}
use Rattle.std.proofs.lemmas.List.{append-nil}
use Rattle.vhost_message.specs.declared.limits.TheConstants.{MAX_MSG_TEXT}
use Rattle.vhost_message.specs.declared.cause.IoCause.{IoCause}
use Rattle.vhost_message.specs.declared.error.Error.{Error}
use Rattle.vhost_message.specs.declared.error.Error.TheVariants.{SocketError, SocketConnect, SocketBroken, SocketRetry, OutOfMemory}
use Rattle.vhost_message.specs.Cause.{is_retry, is_break, is_denial, error_of}
use Rattle.vhost_protocol.specs.Stream.{items}
use Rattle.vhost_link.specs.Law.{Event, Refused, Move, more, move, ◌then◌, refused}
use Rattle.vhost_connection.proofs.Adding.{refused-handed}
use Rattle.vhost_connection.specs.State.{first_cause}
use Rattle.vhost_connection.specs.Talk.{State, Talks, Fell, IsBroken, Growth, is_first, Trouble, has_moved}
use Rattle.vhost_connection.specs.Talk.Trouble.{was_broken as trouble_broken, no_memory as trouble_memory, fault as trouble_fault}
use Rattle.vhost_connection.specs.Hearing.{Spends, Fails, broken_on}
use Rattle.vhost_connection.specs.Hearing.Fails.{was_broken, no_memory, fault}

-- a failure moves nothing
pub refused-moved : {H : Type 0} (m : Move H) (c : IoCause) (b : Bool) → has_moved (m then (if b then move {H = H} [] [] 1 0 else move [] [] 0 1)) ≡ has_moved m
refused-moved m c true = rw (append-nil m.handed, append-nil m.taken) refl
refused-moved m c false = rw (append-nil m.handed, append-nil m.taken) refl

pub refused-taken : {H : Type 0} (m : Move H) (c : IoCause) (b : Bool) → (m then (if b then move {H = H} [] [] 1 0 else move [] [] 0 1)).taken ≡ m.taken
refused-taken m c true = append-nil m.taken
refused-taken m c false = append-nil m.taken

-- one retry more than the limit, or a failure
pub spends : {H : Type 0} (limit : ℕ) (m : Move H) (b : Bool) → m.failures ≡ 0 → (IsTrue b → m.retries ≡ limit) → Spends limit (m then (if b then move {H = H} [] [] 1 0 else move [] [] 0 1))
spends limit m true none most = inr (let e = most refl in omega arith)
spends limit m false none most = inl (omega arith)

-- an error of the link breaks the endpoint with its cause
pub broken-socket : {L H : Type 0} (c : IoCause) (s : State L H) (b d f : Bool)
    → broken_on (if b then SocketRetry c else if d then SocketBroken c else if f then SocketConnect c else SocketError c) s ≡ record s { broken = first_cause s.broken c }
broken-socket c s true d f = refl
broken-socket c s false true f = refl
broken-socket c s false false true = refl
broken-socket c s false false false = refl

pub first-is : (c : IoCause) (moved : Bool) → first_cause (if moved then Some c else None) c ≡ Some c
first-is c true = refl
first-is c false = refl

-- what it did and the failure, added up
pub fell-talks : {L H : Type 0} {event : L → Event H → L → Type 0} {old new : State L H} {m : Move H} (c : IoCause) → Fell event old m c new → Talks event old (m then refused c) new
fell-talks {H = H} {old = old} {new} {m} c f =
    let t = f.talks in
    let none : (refused {H = H} c).handed ≡ [] = refused-handed c in
    record {
      below = t.below then refused c;
      moved = more {e = Refused c} t.moved f.last;
      handed = ap (λ zs. items old.ahead ++ (t.below.handed ++ zs)) none ∙ ap (λ zs. items old.ahead ++ zs) (append-nil t.below.handed) ∙ t.handed
          ∙ ap (λ zs. zs ++ items new.ahead) (sym (append-nil m.handed) ∙ ap (λ zs. m.handed ++ zs) (sym none));
      taken = ap (λ xs. xs ++ (refused {H = H} c).taken) t.taken;
      retries = ap (λ n. n + (refused {H = H} c).retries) t.retries;
      failures = ap (λ n. n + (refused {H = H} c).failures) t.failures;
      budget = t.budget;
    }

module _ {L H : Type 0} (event : L → Event H → L → Type 0) (old : State L H) (grows : Growth) (breaks : Bool) (m : Move H) where
  -- an endpoint's trouble is a failure of the side, where the list of handles was made first
  pub trouble-fails : (e : Error) (new : State L H) → Trouble event old old.budget grows breaks m e new → breaks ≡ false → (is_first grows || old.list) ≡ true → length m.taken ≤ MAX_MSG_TEXT → Fails event old false e new
  trouble-fails e new (trouble_broken b n s) whole listed few = was_broken b (s ∙ ap (λ (x : Bool). record old { list = x; faulted = false }) listed)
  trouble-fails e new (trouble_memory w b l n s) whole listed few = no_memory (λ h. absurd (cc h)) l s
  trouble-fails e new (trouble_fault c b t f r most k y l) whole listed few = fault c m b t f r most few (k ∙ rw whole refl) y (l.0, (λ h. l.1 (rw whole h)))

  -- between a request and the end of its answer it breaks the endpoint, too
  pub trouble-breaks : (e : Error) (new : State L H) → Trouble event old old.budget grows breaks m e new → is_first grows ≡ false → length m.taken ≤ MAX_MSG_TEXT → Fails event old true e (broken_on e new)
  trouble-breaks e new (trouble_broken {c = c} b n s) later few = was_broken b
      (ap (λ (x : State L H). record x { broken = first_cause x.broken c }) (s ∙ ap (λ (x : Bool). record old { list = x || old.list; faulted = false }) later) ∙ ap (λ (x : Option IoCause). record old { broken = first_cause x c; faulted = false }) b
      ∙ ap (λ (x : Option IoCause). record old { broken = x; faulted = false }) (sym b))
  trouble-breaks e new (trouble_memory w b l n s) later few = no_memory (λ _. b later) l s
  trouble-breaks e new (trouble_fault c b t f r most k y l) later few =
      let after : broken_on (error_of c) new ≡ record new { broken = Some c } =
      broken-socket c new (is_retry c) (is_break c) (is_denial c) ∙ ap (λ (x : Option IoCause). record new { broken = x }) (ap (λ (x : Option IoCause). first_cause x c) k ∙ first-is c (breaks || has_moved m)) in
      let failed : Fails event old true (error_of c) (record new { broken = Some c }) =
      fault c m b
      (record {
        before = t.before;
        talks = record { below = t.talks.below; moved = t.talks.moved; handed = t.talks.handed; taken = t.talks.taken; retries = t.talks.retries; failures = t.talks.failures; budget = t.talks.budget };
        last = t.last;
      })
      f r most few refl y (l.0, (λ h. absurd (cc h))) in
      subst (λ (x : State L H). Fails event old true (error_of c) x) (sym after) failed

-- before a request: an endpoint that lacks memory, or was broken
pub broken_fails : {L H : Type 0} {event : L → Event H → L → Type 0} {old new : State L H} {e : Error} → IsBroken old e → new ≡ record old { list = true; faulted = false } → Fails event old false e new
broken_fails {event = event} {old} {new} {e} (c, b, is) same = subst (λ y. Fails event old false y new) (sym is) (was_broken b same)

pub memory_fails : {L H : Type 0} {event : L → Event H → L → Type 0} {old new : State L H} {e : Error} → e ≡ OutOfMemory → old.list ≡ false → new ≡ record old { faulted = false } → Fails event old false e new
memory_fails {event = event} {old} {new} is l same = subst (λ y. Fails event old false y new) (sym is) (no_memory (λ h. absurd (cc h)) l same)
