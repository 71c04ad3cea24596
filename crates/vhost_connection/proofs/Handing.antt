-- A piece is handed on: of what waits, or of what the link brings.
use Rattle.std.proofs.Common.{◌≡◌, ◌∙◌, ℕ, zero, suc, ◌<◌, ◌≤◌, List, [], ◌∷◌, ◌++◌, length, take, drop, min, Ok, refl, sym, ap, subst, arith, true, false}
use Rattle.std.specs.Prelude.{◌==◌}
use Rattle.std.proofs.lemmas.Bool.Decides.{nat_tests}
use Rattle.std.proofs.lemmas.List.{take-append-drop, length-take-le}
use Rattle.std.proofs.Math.Seq.{take-append_seam, drop-append_seam}
use Rattle.vhost_protocol.specs.Stream.{plain, carrying}
use Rattle.vhost_link.specs.Law.{Event, HandsOut, Handed, Receives}
use Rattle.vhost_link.proofs.Cells.{plain-is, carrying-append}
use Rattle.vhost_connection.specs.Ahead.{HandsOn, waited, asked, reads_ahead}

-- the front of the room is filled, and its rest is as it was
front-filled : (xs room : List ℕ) (n : ℕ) → n ≤ length xs → take n (take n xs ++ drop n room) ≡ take n xs
front-filled xs room n le = ap (λ k. take k (take n xs ++ drop n room)) (sym (length-take-le n xs le)) ∙ take-append_seam (take n xs) (drop n room)

rest-kept : (xs room : List ℕ) (n : ℕ) → n ≤ length xs → drop n (take n xs ++ drop n room) ≡ drop n room
rest-kept xs room n le = ap (λ k. drop k (take n xs ++ drop n room)) (sym (length-take-le n xs le)) ∙ drop-append_seam (take n xs) (drop n room)

pub is-empty : (xs : List ℕ) → true ≡ (length xs == 0) → xs ≡ []
is-empty [] e = refl
is-empty (x ∷ xs) e = absurd (grind (arith, nat_tests, e))

pub not-empty : (xs : List ℕ) → false ≡ (length xs == 0) → 0 < length xs
not-empty [] e = grind (arith, nat_tests, e)
not-empty (x ∷ xs) e = omega arith

nothing-left : (xs : List ℕ) (k : ℕ) → length xs ≡ 0 → drop k xs ≡ []
nothing-left [] zero none = refl
nothing-left [] (suc k) none = refl
nothing-left (x ∷ xs) k none = absurd (omega (arith, none))

module _ {L H : Type 0} (event : L → Event H → L → Type 0) where
  front-waited : (link : L) (ahead : List ℕ) (n : ℕ) → 0 < n → n ≤ length ahead
      → HandsOn event (record { link = link; ahead = ahead }) (carrying [] (take n ahead)) (record { link = link; ahead = drop n ahead })
  front-waited link ahead n some le =
      subst (λ cs. HandsOn event (record { link = link; ahead = ahead }) cs (record { link = link; ahead = drop n ahead })) (sym (plain-is (take n ahead)))
      (subst (λ bs. HandsOn event (record { link = link; ahead = bs }) (plain (take n ahead)) (record { link = link; ahead = drop n ahead })) (take-append-drop n ahead)
      (waited (take n ahead) (omega (arith, some, length-take-le n ahead le))))

  -- some of what waits
  pub piece-waited : (link : L) (ahead room after : List ℕ) (n : ℕ) → 0 < length ahead → 0 < length room → n ≡ min (length ahead) (length room) → after ≡ take n ahead ++ drop n room
      → Receives (reads_ahead event) (record { link = link; ahead = ahead }) room (Ok n) after [] (record { link = link; ahead = drop n ahead })
  piece-waited link ahead room after n some space count is =
      let le : n ≤ length ahead = omega (arith, count) in
      let fits : n ≤ length room = omega (arith, count) in
      let front : take n after ≡ take n ahead = ap (λ bs. take n bs) is ∙ front-filled ahead room n le in (
        fits,
        ap (λ bs. drop n bs) is ∙ rest-kept ahead room n le,
        record {
          some = λ pos. subst (λ bs. HandsOn event (record { link = link; ahead = ahead }) (carrying [] bs) (record { link = link; ahead = drop n ahead })) (sym front) (front-waited link ahead n pos le);
          ended = λ none. absurd (omega (arith, none, count, some, space));
          none = λ none. refl;
          few = omega arith;
        },
      )

  front-asked : (old new : L) (all : List ℕ) (hs : List H) (n : ℕ) → 0 < n → n ≤ length all → event old (Handed (carrying hs all)) new
      → HandsOn event (record { link = old; ahead = [] }) (carrying hs (take n all)) (record { link = new; ahead = drop n all })
  front-asked old new all hs n some le e =
      let parts : carrying hs all ≡ carrying hs (take n all) ++ plain (drop n all) =
      ap (λ bs. carrying hs bs) (sym (take-append-drop n all)) ∙ carrying-append hs (take n all) (drop n all) (omega (arith, some, length-take-le n all le)) in
      asked (drop n all) (subst (λ cs. event old (Handed cs) new) parts e)

  -- some of what the link brings
  pub piece-asked : (old new : L) (all room after : List ℕ) (hs : List H) (n : ℕ) → HandsOut event old (length all) all hs new → 0 < length room → n ≡ min (length all) (length room) → after ≡ take n all ++ drop n room
      → Receives (reads_ahead event) (record { link = old; ahead = [] }) room (Ok n) after hs (record { link = new; ahead = drop n all })
  piece-asked old new all room after hs n out space count is =
      let le : n ≤ length all = omega (arith, count) in
      let fits : n ≤ length room = omega (arith, count) in
      let front : take n after ≡ take n all = ap (λ bs. take n bs) is ∙ front-filled all room n le in (
        fits,
        ap (λ bs. drop n bs) is ∙ rest-kept all room n le,
        record {
          some = λ pos. subst (λ bs. HandsOn event (record { link = old; ahead = [] }) (carrying hs bs) (record { link = new; ahead = drop n all })) (sym front)
              (front-asked old new all hs n pos le (out.some (omega (arith, pos, le))));
          ended = λ none. (out.ended (omega (arith, none, count, space)), refl, nothing-left all n (omega (arith, none, count, space)));
          none = λ none. out.none (omega (arith, none, count, space));
          few = out.few;
        },
      )

  -- the same, of what was called by other names
  pub waited-as : (link link' : L) (ahead mid left room after : List ℕ) (hs : List H) (n : ℕ) → link' ≡ link → mid ≡ ahead → hs ≡ [] → left ≡ drop n mid → 0 < length ahead → 0 < length room
      → n ≡ min (length mid) (length room) → after ≡ take n mid ++ drop n room → Receives (reads_ahead event) (record { link = link; ahead = ahead }) room (Ok n) after hs (record { link = link'; ahead = left })
  waited-as link link' ahead mid left room after hs n same_link same none left_is some space count is =
      rw (same_link, none, left_is, same)
      (piece-waited link ahead room after n some space (subst (λ xs. n ≡ min (length xs) (length room)) same count) (subst (λ xs. after ≡ take n xs ++ drop n room) same is))

  pub asked-as : (old new new' : L) (ahead all mid left room after : List ℕ) (hs hs' : List H) (n : ℕ) → ahead ≡ [] → new' ≡ new → mid ≡ all → hs' ≡ hs → left ≡ drop n mid → HandsOut event old (length all) all hs new
      → 0 < length room → n ≡ min (length mid) (length room) → after ≡ take n mid ++ drop n room → Receives (reads_ahead event) (record { link = old; ahead = ahead }) room (Ok n) after hs' (record { link = new'; ahead = left })
  asked-as old new new' ahead all mid left room after hs hs' n none same_link same same_handles left_is out space count is =
      rw (none, same_link, same_handles, left_is, same)
      (piece-asked old new all room after hs n out space (subst (λ xs. n ≡ min (length xs) (length room)) same count) (subst (λ xs. after ≡ take n xs ++ drop n room) same is))
