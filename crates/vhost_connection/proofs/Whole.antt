-- A reply comes in by its header.
use Rattle.std.proofs.Common.{◌≡◌, ℕ, ◌+◌, ◌-◌, ◌<◌, ◌≤◌, List, [], ◌∷◌, ◌++◌, length, take, drop, refl, sym, ap, ◌∙◌, arith, lit≤, Bool, true, false, ◌&&◌, cond, Option, Some, None, nat_lt, Result, Ok, Err, Vec, eq-eqb, eqb-true}
use Rattle.std.specs.Prelude.{not, is_some, ◌==◌, ◌||◌}
use Rattle.std.specs.Global.{Global}
use Rattle.std.proofs.lemmas.Bool.{ne_eqb}
use Rattle.std.proofs.lemmas.List.{append-nil, take-map, drop-map, drop_all, take-append-le, drop-append-le, take_all, take_at, drop_at, drop-take, take-take, length-append, length-drop, length-take-le}
use Rattle.vhost_message.specs.declared.cause.IoCause.{IoCause}
use Rattle.vhost_message.specs.declared.error.Error as declared
use Rattle.vhost_message.specs.declared.error.Error.TheVariants as code
use Rattle.vhost_message.specs.declared.header.VhostUserMsgHeader.{VhostUserMsgHeader}
use Rattle.vhost_message.specs.Cause.{error_of}
use Rattle.vhost_message.specs.Header.{Header, header_of, is_valid_header}
use Rattle.vhost_message.specs.MsgHeader.{fields_of, of_fields}
use Rattle.vhost_protocol.specs.Error.{Error, PartialMessage, InvalidMessage}
use Rattle.vhost_protocol.specs.ReplySplit.{Received, whole_split}
use Rattle.vhost_protocol.specs.Split.{Splits}
use Rattle.vhost_protocol.specs.Stream.{Cell, bytes, first_handles, has_some, plain, is_shorter}
use Rattle.vhost_protocol.proofs.SplitLaws.{le-shorter, lt-shorter, one-more}
use Rattle.vhost_link.specs.Law.{Event}
use Rattle.vhost_link.proofs.Cells.{length-bytes, bytes-append}
use Rattle.vhost_connection.specs.declared.list.Front.{Front}
use Rattle.vhost_connection.specs.declared.pass.RecvPass.{RecvPass}
use Rattle.vhost_connection.specs.declared.pass.PassEnd.TheVariants.{Fault}
use Rattle.vhost_connection.specs.Ahead.{Way, reads_ahead}
use Rattle.vhost_connection.specs.Came.{Came, CutShort, GoesOn, Alone}
use Rattle.vhost_connection.specs.Front.{IsFront, ComesFront, ReadsFront}
use Rattle.vhost_connection.specs.Hearing.{HearsReply}
use Rattle.vhost_connection.specs.Pass.{GetsRest}
use Rattle.vhost_connection.specs.Talk.{State}
use Rattle.vhost_connection.specs.Whole.{ReadsBehind, IsWhole, ReadsNone, ReadsWhole}
use Rattle.vhost_connection.specs.Whole.ReadsNone.{ended, refused, short}
use Rattle.vhost_connection.proofs.Bodies.{front-of-text}
use Rattle.vhost_connection.proofs.Came.{came-alone, came-all, came-ended, came-listed, cut-only}
use Rattle.vhost_connection.proofs.Data.{data-came, data-cut}
use Rattle.vhost_connection.proofs.More.{came-then, cut-then}
use Rattle.vhost_connection.proofs.Receiving.{first-append, front-of}
use Rattle.vhost_connection.proofs.Talking.{At, served, failed}

-- ---- what lies behind a header

-- as much as was asked for, or the end
pub behind-came : {L H : Type 0} (event : L → Event H → L → Type 0) (old new : State L H) (left len : ℕ) (from to : Way L) (before after text : List ℕ) (got : RecvPass)
    → At old from → new ≡ served old to.link (plain to.ahead) old.list old.left → old.broken ≡ None → GetsRest (reads_ahead event) from before left got after to
    → ((c : IoCause) → got.stop ≡ Fault c → ⊥) → length before ≡ len → take len text ≡ after → ReadsBehind event old left len (Ok got.count) text new
behind-came event old new left len from to before after text got a s broken g miss long front = (
  g.cs,
  front-of g.cs before after text len got.count g.fills front g.count,
  g.count,
  ap (λ (x : State _ _). x.left) s,
  got.left,
  data-came event (record old { left = left }) (record new { left = got.left }) from to before after got len a (ap (λ (x : State _ _). record x { left = got.left }) s) broken g miss long,
)

-- less, and then a fault
pub behind-fault : {L H : Type 0} (event : L → Event H → L → Type 0) (old new : State L H) (left len : ℕ) (from to : Way L) (before after text : List ℕ) (got : RecvPass) (c : IoCause) (e : declared.Error)
    → At old from → new ≡ failed old to.link (plain to.ahead) old.list old.left (Some c) → old.broken ≡ None → e ≡ error_of c
    → GetsRest (reads_ahead event) from before left got after to → got.stop ≡ Fault c → length before ≡ len → ReadsBehind event old left len (Err e) text new
behind-fault event old new left len from to before after text got c e a s broken is g stop long =
    (g.cs, data-cut event (record old { left = left }) new from to before after got old.left len c e a s broken is g stop long)

-- ---- what the cells are

module _ {H : Type 0} (is_known : Header → Bool) where
  -- what a whole reply is received as
  abbrev pub whole_in : List (Cell H) → Received H
  whole_in cs = record { header = header_of (take 12 (bytes cs)); body = drop 12 (bytes cs); payload = []; handles = first_handles cs }

  -- behind the header
  tail : Header → List H → List (Cell H) → Result (Received H) Error × List (Cell H)
  tail h handles cells =
      cond (not (is_known h)) (Err InvalidMessage, cells)
      (cond (is_shorter h.size cells) (Err PartialMessage, []) (Ok (record { header = h; body = bytes (take h.size cells); payload = []; handles = handles }), drop h.size cells))

  split-tail : (cs rest : List (Cell H)) → 12 ≤ length cs → whole_split is_known (cs ++ rest) ≡ tail (header_of (take 12 (bytes cs))) (first_handles cs) (drop 12 cs ++ rest)
  unfolding whole_split tail
  split-tail cs rest long =
      let far = le-shorter 12 (cs ++ rest) (omega (arith, length-append cs rest)) in
      let head : bytes (take 12 (cs ++ rest)) ≡ take 12 (bytes cs) = ap bytes (take-append-le 12 cs rest long) ∙ sym (take-map (λ c. c.byte) 12 cs) in
      rw (far, head, drop-append-le 12 cs rest long, first-append cs rest (omega arith)) refl

  -- nothing is left of so few cells
  tail-rest : (h : Header) (handles : List H) (cells : List (Cell H)) → is_known h ≡ true → length cells ≤ h.size → (tail h handles cells).1 ≡ []
  unfolding tail
  tail-rest h handles cells known few = rw known (go (is_shorter h.size cells))
    where
      go : (b : Bool) → (cond {A = Result (Received H) Error × List (Cell H)} b (Err PartialMessage, []) (Ok (record { header = h; body = bytes (take h.size cells); payload = []; handles = handles }), drop h.size cells)).1 ≡ []
      go true = refl
      go false = drop_all h.size cells few

  none-left : (cells : List (Cell H)) → length cells ≤ 12 → (whole_split is_known cells).1 ≡ []
  unfolding whole_split
  none-left cells few = go (is_shorter 12 cells) (not (is_known h)) (is_shorter h.size (drop 12 cells))
    where
      h : Header
      h = header_of (bytes (take 12 cells))

      none : drop 12 cells ≡ []
      none = drop_all 12 cells few

      go : (a b c : Bool) → (cond {A = Result (Received H) Error × List (Cell H)} a (Err PartialMessage, []) (cond b (Err InvalidMessage, drop 12 cells)
          (cond c (Err PartialMessage, []) (Ok (record { header = h; body = bytes (take h.size (drop 12 cells)); payload = []; handles = first_handles cells }), drop h.size (drop 12 cells))))).1 ≡ []
      go true b c = refl
      go false true c = none
      go false false true = refl
      go false false false = ap (drop h.size) none ∙ drop_all h.size [] (omega arith)

  -- the end comes within the header
  pub head-short : (cs : List (Cell H)) → length cs < 12 → Splits (whole_split is_known) cs true (Err PartialMessage)
  unfolding whole_split
  head-short cs few = (rw (lt-shorter 12 cs few) refl, λ next. none-left (cs ++ next ∷ []) (one-more 12 cs next few))

  -- a header that is not valid
  pub head-bad : (cs : List (Cell H)) → length cs ≡ 12 → is_known (header_of (take 12 (bytes cs))) ≡ false → Splits (whole_split is_known) cs false (Err InvalidMessage)
  unfolding tail
  head-bad cs all bad = λ rest. split-tail cs rest (omega (arith, all)) ∙ rw (bad, drop_all 12 cs (omega (arith, all))) refl

  -- the end comes within what the header announces
  pub body-short : (cs : List (Cell H)) → 12 ≤ length cs → is_known (header_of (take 12 (bytes cs))) ≡ true → length cs < 12 + (header_of (take 12 (bytes cs))).size → Splits (whole_split is_known) cs true (Err PartialMessage)
  unfolding tail
  body-short cs long known few = (
    ap (whole_split is_known) (sym (append-nil cs)) ∙ split-tail cs [] long ∙ ap (λ x. tail h (first_handles cs) x) (append-nil (drop 12 cs)) ∙ rw (known, lt-shorter h.size (drop 12 cs) (omega (arith, length-drop 12 cs, few))) refl,
    λ next. ap (λ x. x.1) (split-tail cs (next ∷ []) long) ∙ tail-rest h (first_handles cs) (drop 12 cs ++ next ∷ []) known (one-more h.size (drop 12 cs) next (omega (arith, length-drop 12 cs, few))),
  )
    where
      h : Header
      h = header_of (take 12 (bytes cs))

  -- all of it is there
  pub body-whole : (cs : List (Cell H)) → is_known (header_of (take 12 (bytes cs))) ≡ true → length cs ≡ 12 + (header_of (take 12 (bytes cs))).size → Splits (whole_split is_known) cs false (Ok (whole_in cs))
  unfolding tail
  body-whole cs known all =
      let h : Header = header_of (take 12 (bytes cs)) in
      let len : length (drop 12 cs) ≡ h.size = length-drop 12 cs ∙ omega (arith, all) in
      λ rest. split-tail cs rest (omega (arith, all))
      ∙ rw (known, le-shorter h.size (drop 12 cs ++ rest) (omega (arith, length-append (drop 12 cs) rest, len)), take_at (drop 12 cs) rest h.size len, drop_at (drop 12 cs) rest h.size len, sym (drop-map (λ c. c.byte) 12 cs)) refl

-- ---- what comes in

module _ (R : Type 0) {L H : Type 0} (event : L → Event H → L → Type 0) (is_awaited : Header → Bool) (old : State L H) where
  -- there was trouble within the header
  pub head-fails : (new : State L H) (e : declared.Error) → ReadsFront event old 12 (Err e) [] new → ReadsWhole {R = R} event is_awaited old (Err e) [] new
  head-fails new e (cs, p) = short 12 cs (cut-only p)

  module _ (mid : State L H) {cs : List (Cell H)} {front : Front H} {text : List ℕ} (m : Came event old Alone 12 cs false mid) (x : ComesFront event old 12 0 cs front text mid) where
    f : IsFront 12 cs front.count front.more front.list.items text
    f = x.front

    -- the end comes first
    pub head-ends : (new : State L H) → front.count < 12 → new ≡ record mid { list = true } → ReadsWhole {R = R} event is_awaited old (Err code.PartialMessage) [] new
    head-ends new few s =
        let n : length cs < 12 = omega (arith, few, f.counted) in
        let k = came-listed m s in
        ended (record { hears = record { cells = cs; ended = true; retries = k.retries; serves = came-ended k n; splits = head-short is_awaited cs n }; list = λ _. k.listed }) k.listed

    -- a header came, and was read so
    module _ (most : 12 ≤ front.count) (h : VhostUserMsgHeader R) (is_h : h ≡ of_fields (header_of (take 12 text))) where
      all : length cs ≡ 12
      all = omega (arith, most, f.counted, m.within)

      head : fields_of h ≡ header_of (take 12 (bytes cs))
      head = ap (λ (y : VhostUserMsgHeader R). fields_of y) is_h ∙ ap header_of (front-of-text f most 12 (omega arith))

      -- it is not valid
      pub head-refused : (new : State L H) → is_awaited (fields_of h) ≡ false → new ≡ record mid { list = true } → ReadsWhole {R = R} event is_awaited old (Err code.InvalidMessage) [] new
      head-refused new bad s =
          let k = came-listed m s in
          refused (record {
            hears = record { cells = cs; ended = false; retries = k.retries; serves = came-all k (omega (arith, all)); splits = head-bad is_awaited cs all (ap is_awaited (sym head) ∙ bad) };
            list = λ _. k.listed;
          }) k.listed

      module _ (ok : is_awaited (fields_of h) ≡ true) where
        -- the header of all cells
        head-of : (ds : List (Cell H)) → header_of (take 12 (bytes (cs ++ ds))) ≡ fields_of h
        head-of ds = ap header_of (ap (take 12) (bytes-append cs ds) ∙ take-append-le 12 (bytes cs) (bytes ds) (omega (arith, length-bytes cs, all)) ∙ take_all 12 (bytes cs) (omega (arith, length-bytes cs, all)) ∙ sym (take_all 12 (bytes cs) (omega (arith, length-bytes cs, all)))) ∙ sym head

        known : (ds : List (Cell H)) → is_awaited (header_of (take 12 (bytes (cs ++ ds)))) ≡ true
        known ds = ap is_awaited (head-of ds) ∙ ok

        came-on : {rest : ℕ} {ds : List (Cell H)} {kept : Bool} {end : State L H} → Came event (record mid { left = front.left }) GoesOn (fields_of h).size ds kept (record end { left = rest }) → end.left ≡ mid.left
            → Came event old Alone (12 + (fields_of h).size) (cs ++ ds) kept end
        came-on d kept = came-alone (came-then x.begins (omega (arith, all)) d) (kept ∙ m.left)

        -- the end comes within the body
        pub body-ends : (end new : State L H) (after : List ℕ) (n : ℕ) → ReadsBehind event mid front.left (fields_of h).size (Ok n) after end → n < (fields_of h).size → new ≡ record end { list = true } → ReadsWhole {R = R} event is_awaited old (Err code.PartialMessage) after new
        body-ends end new after n (ds, read, counted, kept, rest, d) few s =
            let k = came-listed (came-on d kept) s in
            let size : (header_of (take 12 (bytes (cs ++ ds)))).size ≡ (fields_of h).size = ap (λ (y : Header). y.size) (head-of ds) in
            let n : length (cs ++ ds) < 12 + (fields_of h).size = omega (arith, length-append cs ds, all, counted, few) in
            ended (record {
              hears = record { cells = cs ++ ds; ended = true; retries = k.retries; serves = came-ended k n; splits = body-short is_awaited (cs ++ ds) (omega (arith, length-append cs ds, all)) (known ds) (omega (arith, n, size)) };
              list = λ _. k.listed;
            }) k.listed

        -- there is trouble
        pub body-fails : (end new : State L H) (after : List ℕ) (e : declared.Error) → ReadsBehind event mid front.left (fields_of h).size (Err e) after end → new ≡ record end { list = true } → ReadsWhole {R = R} event is_awaited old (Err e) after new
        body-fails end new after e (ds, d) s = short (12 + (fields_of h).size) (cs ++ ds) (cut-then x.begins (omega (arith, all)) (omega (arith, all)) d s)

        -- it comes whole
        pub body-comes : (end : State L H) (after : List ℕ) (n : ℕ) (front' : Front H) → ReadsBehind event mid front.left (fields_of h).size (Ok n) after end → (n < (fields_of h).size → ⊥) → front'.list.items ≡ front.list.items
            → ReadsWhole {R = R} event is_awaited old (Ok (h, front')) after end
        body-comes end after n front' (ds, read, counted, kept, rest, d) whole lent =
            let full : n ≡ (fields_of h).size = omega (arith, counted, d.within, whole) in (
              cs ++ ds,
              came-on (let y = d in record { retries = y.retries; serves = y.serves; within = y.within; left = y.left; listed = y.listed ∙ m.listed }) kept,
              record {
                header = ap of_fields (sym (head-of ds));
                known = ok;
                size = omega (arith, length-append cs ds, all, counted, full);
                handles = lent ∙ f.first ∙ sym (first-append cs ds (omega (arith, all)));
                body = ap (λ k. take k after) (sym full) ∙ read ∙ sym (drop_at (bytes cs) (bytes ds) 12 (length-bytes cs ∙ all)) ∙ ap (drop 12) (sym (bytes-append cs ds));
              },
            )
