-- Cells that came, and what becomes of the list of handles.
use Rattle.std.proofs.Common.{◌≡◌, ◌⊎◌, inl, inr, ℕ, ◌+◌, ◌<◌, ◌≤◌, List, [], ◌∷◌, length, refl, subst, sym, ap, ◌∙◌, arith, Bool, true, false}
use Rattle.std.proofs.lemmas.Bool.{lt-ltb, le-ltb}
use Rattle.std.proofs.lemmas.List.{length-map}
use Rattle.std.specs.Prelude.{not}
use Rattle.vhost_message.specs.declared.error.Error.{Error}
use Rattle.vhost_protocol.specs.Stream.{Cell, Byte, first_handles, has_some, items, heard}
use Rattle.vhost_link.specs.Law.{Event, Move, nothing}
use Rattle.vhost_connection.specs.Pass.{receives}
use Rattle.vhost_connection.specs.Talk.{State, Serves, Trouble}
use Rattle.vhost_connection.specs.Talk.Trouble.{was_broken, no_memory, fault}
use Rattle.vhost_connection.specs.Came.{Budget, Begins, GoesOn, Alone, growth, goes_on, limit, KeepsLeft, Came, CutShort}
use Rattle.vhost_connection.specs.Front.{IsFront, gives}

pub Serves-list : {L H : Type 0} {event : L → Event H → L → Type 0} {old mid : State L H} {limit : ℕ} {m : Move H} (list : Bool) → Serves event old limit m mid → Serves event old limit m (record mid { list = list })
Serves-list list p = record {
  talks = record {
    below = p.talks.below;
    moved = p.talks.moved;
    handed = p.talks.handed;
    taken = p.talks.taken;
    retries = p.talks.retries;
    failures = p.talks.failures;
    budget = p.talks.budget;
  };
  retries = p.retries;
  failures = p.failures;
  before = p.before;
  after = p.after;
  faulted = p.faulted;
}

pub Serves-gives : {L H : Type 0} {event : L → Event H → L → Type 0} {old mid : State L H} {limit : ℕ} {m : Move H} (hs : List H) → Serves event old limit m mid → Serves event old limit m (gives mid hs)
Serves-gives [] p = Serves-list true p
Serves-gives (h ∷ hs) p = p

pub Serves-left : {L H : Type 0} {event : L → Event H → L → Type 0} {old mid : State L H} {limit : ℕ} {m : Move H} (left : ℕ) → Serves event old limit m (record mid { left = left }) → Serves event old limit m mid
Serves-left left p = record {
  talks = record {
    below = p.talks.below;
    moved = p.talks.moved;
    handed = p.talks.handed;
    taken = p.talks.taken;
    retries = p.talks.retries;
    failures = p.talks.failures;
    budget = p.talks.budget;
  };
  retries = p.retries;
  failures = p.failures;
  before = p.before;
  after = p.after;
  faulted = p.faulted;
}

pub list-gives : {L H : Type 0} (mid : State L H) (hs : List H) → mid.list ≡ false → (gives mid hs).list ≡ not (has_some hs)
list-gives mid [] e = refl
list-gives mid (h ∷ hs) e = e

pub left-gives : {L H : Type 0} (mid : State L H) (hs : List H) → (gives mid hs).left ≡ mid.left
left-gives mid [] = refl
left-gives mid (h ∷ hs) = refl

module _ {L H : Type 0} {event : L → Event H → L → Type 0} {old mid : State L H} {b : Budget} {len : ℕ} {cs : List (Cell H)} {list : Bool} (m : Came event old b len cs list mid) where
  -- all that was asked for came
  pub came-all : len ≤ length cs → Serves event old (limit b old) (receives (items cs) m.retries) mid
  came-all most = subst (λ ended. Serves event old (limit b old) (receives (heard cs ended) m.retries) mid) (le-ltb (length cs) len most) m.serves

  -- the end came first
  pub came-ended : length cs < len → Serves event old (limit b old) (receives (heard cs true) m.retries) mid
  came-ended short = subst (λ ended. Serves event old (limit b old) (receives (heard cs ended) m.retries) mid) (lt-ltb (length cs) len short) m.serves

  -- it would have come first, had more been asked for
  pub came-early : length cs < len → (more : ℕ) → Came event old b (len + more) cs list mid
  came-early short more = record {
    retries = m.retries;
    serves = subst (λ ended. Serves event old (limit b old) (receives (heard cs ended) m.retries) mid) (sym (lt-ltb (length cs) (len + more) (omega arith))) (came-ended short);
    within = omega arith;
    left = m.left;
    listed = m.listed;
  }

  -- the list is taken back
  pub came-listed : {new : State L H} → new ≡ record mid { list = true } → Came event old b len cs true new
  came-listed s =
      subst (λ x. Came event old b len cs true x) (sym s) (record { retries = m.retries; serves = Serves-list true m.serves; within = m.within; left = m.left; listed = refl })

  -- it is given away, where there are handles in it
  pub came-given : {new : State L H} (hs : List H) → list ≡ false → new ≡ gives mid hs → hs ≡ first_handles cs → Came event old b len cs (not (has_some (first_handles cs))) new
  came-given hs away s first = subst (λ x. Came event old b len cs (not (has_some (first_handles cs))) x) (sym s) (record {
    retries = m.retries;
    serves = Serves-gives hs m.serves;
    within = m.within;
    left = subst (λ n. KeepsLeft b old m.retries n) (sym (left-gives mid hs)) m.left;
    listed = list-gives mid hs (m.listed ∙ away) ∙ ap (λ ks. not (has_some ks)) first;
  })

-- what began a message was whole by itself, where what is kept is as before
pub came-alone : {L H : Type 0} {event : L → Event H → L → Type 0} {old new : State L H} {left len : ℕ} {cs : List (Cell H)} {list : Bool} → Came event old Begins len cs list (record new { left = left }) → new.left ≡ old.left → Came event old Alone len cs list new
came-alone {left = left} m kept = record { retries = m.retries; serves = Serves-left left m.serves; within = m.within; left = kept; listed = m.listed }

-- one that did not begin a message was cut short like one that did
pub begins-cut : {L H : Type 0} {event : L → Event H → L → Type 0} {old new : State L H} {len : ℕ} {cs : List (Cell H)} {e : Error} → CutShort event old Alone len cs e new → CutShort event old Begins len cs e new
begins-cut f = record { retries = f.retries; short = f.short; trouble = f.trouble }

-- fewer came than were asked for
pub cut-few : {L H : Type 0} {event : L → Event H → L → Type 0} {old new : State L H} {b : Budget} {len : ℕ} {cs : List (Cell H)} {e : Error} → CutShort event old b len cs e new → 0 < len → length cs < len
cut-few {event = event} {old} {new} {b} {len} {cs} {e} f pos = go e new f.trouble
  where
    none : receives (items cs) f.retries ≡ nothing → length cs < len
    none n = omega (arith, ap (λ (x : Move _). length x.handed) n, length-map cs Byte)

    go : (y : Error) (x : State _ _) → Trouble event old (limit b old) (growth b) (goes_on b) (receives (items cs) f.retries) y x → length cs < len
    go y x (was_broken is n s) = none n
    go y x (no_memory w is l n s) = none n
    go y x (fault c sound t n most spent by told kept) = f.short sound

-- a call that refuses nothing was cut short
pub cut-only : {A C : Type 0} → (A × ⊥) ⊎ C → C
cut-only (inl x) = absurd x.1
cut-only (inr f) = f

-- ---- the same, of another length that is equal

pub came-as : {L H : Type 0} {event : L → Event H → L → Type 0} {old new : State L H} {b : Budget} {len n : ℕ} {cs : List (Cell H)} {list : Bool} → len ≡ n → Came event old b len cs list new → Came event old b n cs list new
came-as {event = event} {old} {new} {b} {cs = cs} {list} e m = subst (λ k. Came event old b k cs list new) e m

pub cut-as : {L H : Type 0} {event : L → Event H → L → Type 0} {old new : State L H} {b : Budget} {len n : ℕ} {cs : List (Cell H)} {error : Error} → len ≡ n → CutShort event old b len cs error new → CutShort event old b n cs error new
cut-as {event = event} {old} {new} {b} {cs = cs} {error} e f = subst (λ k. CutShort event old b k cs error new) e f

pub front-as : {H : Type 0} {len n : ℕ} {cs : List (Cell H)} {count more : ℕ} {hs : List H} {text : List ℕ} → len ≡ n → IsFront len cs count more hs text → IsFront n cs count more hs text
front-as {cs = cs} {count} {more} {hs} {text} e f = subst (λ k. IsFront k cs count more hs text) e f
