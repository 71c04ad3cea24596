-- What has been handed out of a descriptor, and what one segment more adds to it.
use Rattle.std.proofs.Common.{◌≡◌, ℕ, ◌+◌, ◌-◌, true, false, List, [], ◌∷◌, ◌++◌, refl, sym, ap, ◌∙◌, subst, Option, Some, None, arith}
use Rattle.std.specs.Prelude.{All, is_some, option_to_list}
use Rattle.std.proofs.lemmas.Bool.{false≢true}
use Rattle.std.proofs.lemmas.List.Elements.{All-nil, All-push}
use Rattle.vhost_queue.specs.Chain.{Following, Covers, GoesOn, IsPart, next_value}
use Rattle.vhost_queue.specs.Memory.{LiesIn}
use Rattle.vhost_queue.specs.Segment.{is_indirect, is_writable}
use Rattle.vhost_queue.specs.declared.descriptor.Descriptor.{Descriptor}
use Rattle.vhost_queue.specs.declared.descriptor.Segment.{Segment}
use Rattle.vhost_queue.specs.declared.memory.GuestRegion.{GuestRegion}

covers-more : (a m : ℕ) (xs : List Segment) (s : Segment) (n : ℕ) → Covers a m xs → s.guest_addr ≡ a + m → n ≡ m + s.range.len → Covers a n (xs ++ s ∷ [])
covers-more a m [] s n h at is = let none : m ≡ 0 = h in (omega arith, omega arith, omega arith)
covers-more a m (x ∷ xs) s n h at is =
    let fits = h.1 in
    (h.0, omega arith, covers-more (a + x.range.len) (m - x.range.len) xs s (n - x.range.len) h.2 (omega arith) (omega arith))

-- so many bytes of a descriptor came, and this is left of it
pub record Covered (rs : List GuestRegion) (d : Descriptor) (segments : List Segment) (rest : Descriptor) (m : ℕ) : Type 0 where
  pub came : Covers d.addr m segments
  pub counted : m + rest.len ≡ d.len
  pub from : rest.addr ≡ d.addr + m
  pub flags : rest.flags ≡ d.flags
  pub written : All (λ s. s.writable ≡ is_writable d.flags) segments
  pub inside : All (λ s. LiesIn rs s.range) segments

-- .. or all of it
pub record IsCovered (rs : List GuestRegion) (d : Descriptor) (segments : List Segment) : Type 0 where
  pub came : Covers d.addr d.len segments
  pub written : All (λ s. s.writable ≡ is_writable d.flags) segments
  pub inside : All (λ s. LiesIn rs s.range) segments

abbrev pub Handed : List GuestRegion → Descriptor → List Segment → Option Descriptor → Type 0
Handed rs d xs None = IsCovered rs d xs
Handed rs d xs (Some rest) = (m : ℕ) × Covered rs d xs rest m

-- nothing came yet
pub covered-none : (rs : List GuestRegion) (d : Descriptor) (xs : List Segment) → xs ≡ [] → Covered rs d xs d 0
covered-none rs d xs e = rw e (record { came = refl; counted = omega arith; from = omega arith; flags = refl; written = All-nil _; inside = All-nil _ })

-- a segment more
covered-more : {rs : List GuestRegion} {d r : Descriptor} {xs : List Segment} {m : ℕ} → Covered rs d xs r m → (s : Segment) → LiesIn rs s.range
    → (rest : Option Descriptor) → IsPart r (Some s) rest → (ys : List Segment) → ys ≡ xs ++ s ∷ [] → Handed rs d ys rest
covered-more {rs} {d} {r} {xs} {m} h s lies None part ys e =
    let from = h.from in let counted = h.counted in let at = part.0 in let len = part.2 in
    rw e (record {
      came = covers-more d.addr m xs s d.len h.came (omega arith) (omega arith);
      written = All-push (λ t. t.writable ≡ is_writable d.flags) xs s h.written (part.1 ∙ ap is_writable h.flags);
      inside = All-push (λ t. LiesIn rs t.range) xs s h.inside lies;
    })
covered-more {rs} {d} {r} {xs} {m} h s lies (Some rest) part ys e =
    let from = h.from in let counted = h.counted in let at = part.0 in let less = part.3 in
    let addr : rest.addr ≡ r.addr + s.range.len = ap (λ (x : Descriptor). x.addr) part.4 in
    let len : rest.len ≡ r.len - s.range.len = ap (λ (x : Descriptor). x.len) part.4 in
    let flags : rest.flags ≡ r.flags = ap (λ (x : Descriptor). x.flags) part.4 in
    rw e (
      m + s.range.len,
      record {
        came = covers-more d.addr m xs s (m + s.range.len) h.came (omega arith) refl;
        counted = omega arith;
        from = omega arith;
        flags = flags ∙ h.flags;
        written = All-push (λ t. t.writable ≡ is_writable d.flags) xs s h.written (part.1 ∙ ap is_writable h.flags);
        inside = All-push (λ t. LiesIn rs t.range) xs s h.inside lies;
      },
    )

-- .. as a step's answer tells it
pub covered-on : {rs : List GuestRegion} {d r : Descriptor} {xs : List Segment} {m : ℕ} → Covered rs d xs r m → is_indirect d.flags ≡ false
    → (rs' : List GuestRegion) → rs' ≡ rs → (o : Option Segment) (f g : Following) → GoesOn rs' f o g → IsPart r o g.rest
    → (ys : List Segment) → ys ≡ xs ++ option_to_list o → Handed rs d ys g.rest
covered-on {rs} {d} {r} {xs} {m} h plain rs' same (Some s) f g on part ys e =
    let P : List GuestRegion → Type 0 = λ x. LiesIn x s.range in covered-more h s (subst P same on.0) g.rest part ys e
covered-on {rs} {d} {r} {xs} {m} h plain rs' same None f g on part ys e =
    absurd (false≢true (sym plain ∙ sym (ap is_indirect h.flags) ∙ part))

-- .. of a descriptor that is read now, and of one whose rest comes
pub covered-first : (rs : List GuestRegion) (d : Descriptor) (xs : List Segment) → xs ≡ [] → is_indirect d.flags ≡ false
    → (was : Option Descriptor) → was ≡ None → (o : Option Segment) (f g : Following) → GoesOn rs f o g → IsPart (next_value was d) o g.rest
    → (ys : List Segment) → ys ≡ xs ++ option_to_list o → Handed rs d ys g.rest
covered-first rs d xs none plain was is o f g on part ys e =
    let P : Option Descriptor → Type 0 = λ x. IsPart (next_value x d) o g.rest in
    covered-on (covered-none rs d xs none) plain rs refl o f g on (subst P is part) ys e

pub covered-next : (rs : List GuestRegion) (d : Descriptor) (xs : List Segment) (was : Option Descriptor) → is_some was ≡ true → Handed rs d xs was
    → is_indirect d.flags ≡ false → (rs' : List GuestRegion) → rs' ≡ rs → (o : Option Segment) (f g : Following) → GoesOn rs' f o g
    → (v : Descriptor) → IsPart (next_value was v) o g.rest → (ys : List Segment) → ys ≡ xs ++ option_to_list o → Handed rs d ys g.rest
covered-next rs d xs None some h plain rs' same o f g on v part ys e = absurd (false≢true some)
covered-next rs d xs (Some r) some h plain rs' same o f g on v part ys e = covered-on h.1 plain rs' same o f g on part ys e
