-- A reply with configuration bytes comes in, or a bare one.
use Rattle.std.proofs.Common.{◌≡◌, ℕ, ◌+◌, ◌-◌, ◌<◌, ◌≤◌, List, [], ◌++◌, length, take, drop, refl, sym, ap, ◌∙◌, arith, Bool, true, false, ◌&&◌, Option, Some, None, Ok, Err, Vec, ◌∷◌, suc, inl, inr}
use Rattle.std.specs.Prelude.{not, is_some, ◌==◌}
use Rattle.std.specs.Global.{Global}
use Rattle.std.proofs.lemmas.Bool.Decides.{nat_tests}
use Rattle.std.proofs.lemmas.List.{take-map, drop-map, take-append-le, drop-append-le, drop_all, length-drop}
use Rattle.vhost_message.specs.declared.error.Error.{Error}
use Rattle.vhost_message.specs.declared.error.Error.TheVariants.{InvalidMessage, PartialMessage}
use Rattle.vhost_message.specs.declared.header.VhostUserMsgHeader.{VhostUserMsgHeader}
use Rattle.vhost_message.specs.declared.records.config.VhostUserConfig.{VhostUserConfig}
use Rattle.vhost_message.specs.Header.{Header, header_of, is_valid_header, is_reply_for}
use Rattle.vhost_message.specs.MsgHeader.{fields_of, of_fields}
use Rattle.vhost_message.specs.Records.{config_of}
use Rattle.vhost_message.specs.Valid.{is_valid_config}
use Rattle.vhost_protocol.specs.Stream.{Cell, bytes, first_handles, has_some}
use Rattle.vhost_link.specs.Law.{Event}
use Rattle.vhost_link.proofs.Cells.{length-bytes}
use Rattle.vhost_connection.specs.Talk.{State}
use Rattle.vhost_connection.specs.Came.{Came, GoesOn, Alone}
use Rattle.vhost_connection.specs.Calls.{HandsOver}
use Rattle.vhost_connection.specs.declared.list.Front.{Front}
use Rattle.vhost_connection.specs.Front.{IsFront, ComesFront, ReadsFront, ReadsMore, gives}
use Rattle.vhost_connection.specs.Bare.{is_bare, ReadsOrBare}
use Rattle.vhost_connection.proofs.Came.{came-alone, came-listed, came-given, came-early, cut-few, cut-only}
use Rattle.vhost_connection.proofs.Bodies.{front-short, front-more, front-of-text, part-of, message-bad, message-whole}
use Rattle.vhost_connection.proofs.Receiving.{first-append}
use Rattle.vhost_connection.proofs.More.{came-then, cut-then, room-then, front-then}

-- the test of a bare reply, as the code makes it
abbrev pub bare_test : {R : Type 0} → (ℕ → Option R) → Header → Header → ℕ → VhostUserConfig → Bool
bare_test code request h count part = (is_some (code h.code) && is_valid_header h) && is_reply_for code h request && h.size == 12 && count == 0 && part.size == 0

not-zero : (n : ℕ) → (suc n == 0) ≡ false
not-zero n = grind (arith, nat_tests)

-- a list is empty, or has some
pub none-is : {H : Type 0} (xs : List H) → (length xs == 0) ≡ not (has_some xs)
none-is [] = refl
none-is (x ∷ xs) = not-zero (length xs)

module _ {R H : Type 0} (code : ℕ → Option R) (request : Header) where
  -- it is the test of the cells
  bare-is : (cs : List (Cell H)) (h : VhostUserMsgHeader R) (part : VhostUserConfig) → h ≡ of_fields (header_of (take 12 (bytes cs))) → part ≡ config_of (take 12 (drop 12 (bytes cs)))
      → is_bare code request cs ≡ bare_test code request (fields_of h) (length (first_handles cs)) part
  bare-is cs h part is_h is_part =
      let head : bytes (take 12 cs) ≡ take 12 (bytes cs) = sym (take-map (λ c. c.byte) 12 cs) in
      let body : bytes (take 12 (drop 12 cs)) ≡ take 12 (drop 12 (bytes cs)) = sym (take-map (λ c. c.byte) 12 (drop 12 cs)) ∙ ap (take 12) (sym (drop-map (λ c. c.byte) 12 cs)) in
      rw (head, body, is_h, is_part, none-is (first_handles cs)) refl

  -- what follows makes no difference
  pub bare-front : (cs ds : List (Cell H)) → 24 ≤ length cs → is_bare code request (cs ++ ds) ≡ is_bare code request cs
  bare-front cs ds len =
      let tail : drop 12 (cs ++ ds) ≡ drop 12 cs ++ ds = drop-append-le 12 cs ds (omega arith) in
      let body : take 12 (drop 12 (cs ++ ds)) ≡ take 12 (drop 12 cs) = ap (take 12) tail ∙ take-append-le 12 (drop 12 cs) ds (omega (arith, length-drop 12 cs)) in
      rw (take-append-le 12 cs ds (omega arith), body, first-append cs ds (omega arith)) refl

module _ {R L H : Type 0} (event : L → Event H → L → Type 0) (code : ℕ → Option R) (request : Header) (old : State L H) where
  -- there was trouble in header and record
  pub front-fails : (before : List ℕ) (new : State L H) (error : Error) → ReadsFront event old 24 (Err error) [] new → ReadsOrBare event code request old before (Err error) before new
  front-fails before new error (cs, p) =
      let f = cut-only p in
      let few = cut-few f (omega arith) in
      let none : drop 24 (bytes cs) ≡ [] = drop_all 24 (bytes cs) (omega (arith, length-bytes cs)) in
      let zero : length cs - 24 ≡ 0 = omega arith in
      ((cs, rw (none, zero) refl, inr (record { retries = f.retries; short = λ b. omega (arith, f.short b); trouble = f.trouble })), λ le. absurd (omega arith))

  module _ (mid : State L H) {cs : List (Cell H)} {front : Front H} {text : List ℕ} (m : Came event old Alone 24 cs false mid) (x : ComesFront event old 24 0 cs front text mid) where
    f : IsFront 24 cs front.count front.more front.list.items text
    f = x.front

    -- the end comes first
    pub ended-bare : (before : List ℕ) (new : State L H) → front.count < 24 → new ≡ record mid { list = true } → ReadsOrBare event code request old before (Err PartialMessage) before new
    ended-bare before new short s =
        let few : length cs < 24 = omega (arith, f.counted) in
        let none : drop 24 (bytes cs) ≡ [] = drop_all 24 (bytes cs) (omega (arith, length-bytes cs)) in
        let zero : length cs - 24 ≡ 0 = omega arith in
        ((cs, rw (none, zero) refl, inl (came-early (came-listed m s) few (length before), front-short f short)), λ le. absurd (omega arith))

    -- header and record came, and were read so
    module _ (most : 24 ≤ front.count) (h : VhostUserMsgHeader R) (part : VhostUserConfig)
        (is_h : h ≡ of_fields (header_of (take 12 text))) (is_part : part ≡ config_of (take 12 (drop 12 text))) (lent : List H) (is_lent : lent ≡ front.list.items) where
      all : length cs ≡ 24
      all = omega (arith, f.counted, m.within)

      whole : 24 ≤ length cs
      whole = omega (arith, all)

      test-is : is_bare code request cs ≡ bare_test code request (fields_of h) (length lent) part
      test-is = bare-is code request cs h part (is_h ∙ ap (λ bs. of_fields (header_of bs)) (front-of-text f most 12 (omega arith))) (is_part ∙ ap config_of (part-of f most 12 12 refl))
          ∙ ap (λ (xs : List H). bare_test code request (fields_of h) (length xs) part) (sym (is_lent ∙ f.first))

      -- they are a bare reply
      pub bare-comes : (before : List ℕ) (new : State L H) → bare_test code request (fields_of h) (length lent) part ≡ true → new ≡ record mid { list = true } → ReadsOrBare event code request old before (Ok None) before new
      bare-comes before new e s = (cs, came-listed m s, all, test-is ∙ e, refl)

      -- they are no bare reply, and what came is none
      not-bare : (ds : List (Cell H)) → bare_test code request (fields_of h) (length lent) part ≡ false → is_bare code request (cs ++ ds) ≡ false
      not-bare ds e = bare-front code request cs ds whole ∙ test-is ∙ e

      -- what lies behind them came with the retries that they have left, and what is kept is as before
      came-on : {more rest : ℕ} {ds : List (Cell H)} {kept : Bool} {end : State L H} → Came event (record mid { left = front.left }) GoesOn more ds kept (record end { left = rest }) → end.left ≡ mid.left
          → Came event old Alone (24 + more) (cs ++ ds) kept end
      came-on d kept = came-alone (came-then x.begins whole d) (kept ∙ m.left)

      -- a reply came
      pub whole-comes : (before after : List ℕ) (end new : State L H) (more : ℕ) (handles : Option (Vec H Global)) → bare_test code request (fields_of h) (length lent) part ≡ false → ReadsMore event mid front.left before (Ok more) after end
          → (is_some (code (fields_of h).code) && is_valid_header (fields_of h)) ≡ true → is_valid_config part ≡ true → HandsOver handles front.list.items → new ≡ gives end front.list.items
          → ReadsOrBare event code request old before (Ok (Some (h, part, more, handles))) after new
      whole-comes before after end new more handles e (ds, room, counted, kept, rest, d) ok_h ok_part over s =
          let i = front-then cs ds all (omega arith) f more counted in (
            (
              cs ++ ds,
              room-then cs ds all before after room,
              (
                came-given (came-on d kept) front.list.items m.listed s i.first,
                (
                  front-more i most,
                  message-whole (λ bs. of_fields (header_of bs)) (λ x. is_some (code (fields_of x).code) && is_valid_header (fields_of x)) 12 config_of is_valid_config i most h part is_h is_part handles ok_h ok_part over,
                ),
              ),
            ),
            not-bare ds e,
          )

      -- it is not valid
      pub bad-comes : (before after : List ℕ) (end new : State L H) (more : ℕ) → bare_test code request (fields_of h) (length lent) part ≡ false → ReadsMore event mid front.left before (Ok more) after end
          → ((is_some (code (fields_of h).code) && is_valid_header (fields_of h)) && is_valid_config part) ≡ false → new ≡ record end { list = true }
          → ReadsOrBare event code request old before (Err InvalidMessage) after new
      bad-comes before after end new more e (ds, room, counted, kept, rest, d) bad s =
          let i = front-then cs ds all (omega arith) f more counted in (
            (
              cs ++ ds,
              room-then cs ds all before after room,
              inl (came-listed (came-on d kept) s, message-bad (λ bs. of_fields (header_of bs)) (λ x. is_some (code (fields_of x).code) && is_valid_header (fields_of x)) 12 config_of is_valid_config i most h part is_h is_part bad),
            ),
            λ _. not-bare ds e,
          )

      -- there was trouble behind header and record
      pub rest-fails : (before after : List ℕ) (end new : State L H) (error : Error) → bare_test code request (fields_of h) (length lent) part ≡ false → ReadsMore event mid front.left before (Err error) after end → new ≡ record end { list = true }
          → ReadsOrBare event code request old before (Err error) after new
      rest-fails before after end new error e (ds, room, d) s = ((cs ++ ds, room-then cs ds all before after room, inr (cut-then x.begins whole (omega arith) d s)), λ _. not-bare ds e)
