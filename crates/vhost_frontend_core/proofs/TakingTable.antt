-- The half that takes the answer to a memory table.
use Rattle.std.proofs.Common.{◌≡◌, ◌≤◌, ℕ, ◌+◌, ◌*◌, ◌/◌, List, [], ◌∷◌, ◌++◌, length, take, Bool, true, false, Option, Some, Ok, Err, Vec, refl, sym, ap, subst, ◌∙◌, arith, eq-eqb, eqb-true}
use Rattle.std.proofs.lemmas.Bool.{ne_eqb}
use Rattle.std.specs.Prelude.{is_some, ◌==◌, ◌&&◌}
use Rattle.std.specs.Global.{Global}
use Rattle.std.proofs.lemmas.List.{append-nil, drop_all, length-map, length-take}
use Rattle.vhost_message.specs.declared.error.Error as declared
use Rattle.vhost_message.specs.declared.error.Error.TheVariants as code
use Rattle.vhost_message.specs.declared.records.memory.VhostUserMemory.{VhostUserMemory}
use Rattle.vhost_message.specs.declared.records.memory.VhostUserMemoryRegion.{VhostUserMemoryRegion}
use Rattle.vhost_message.specs.declared.limits.TheConstants.{MEMORY_HEAD_SIZE, MEMORY_REGION_SIZE}
use Rattle.vhost_message.specs.Bits.{has_bit}
use Rattle.vhost_message.specs.Header.{Header}
use Rattle.vhost_message.specs.Records.{memory_of, regions_of}
use Rattle.vhost_message.specs.Valid.{is_valid_memory}
use Rattle.vhost_message.specs.HeardReq.{request_of}
use Rattle.vhost_protocol.specs.AnswerTable.{answered, answer, alone, only_if, are_same_ranges, bases_in}
use Rattle.vhost_protocol.specs.Ask.{regions_in}
use Rattle.vhost_protocol.specs.declared.asked.Awaited.TheVariants.{Reply}
use Rattle.vhost_protocol.specs.declared.profile.Profile.{Profile}
use Rattle.vhost_protocol.specs.declared.asked.Shape.TheVariants as shape
use Rattle.vhost_protocol.specs.Error.{InvalidMessage}
use Rattle.vhost_protocol.specs.FrontendCall.{Info, SetMemTable, Frontend, Bases}
use Rattle.vhost_protocol.specs.ReplySplit.{Received}
use Rattle.vhost_protocol.specs.Served.{Replied}
use Rattle.vhost_protocol.specs.Stream.{Cell, has_some}
use Rattle.vhost_protocol.specs.Take.{is_known, understood, payload_of, take_reply}
use Rattle.vhost_link.specs.Law.{Event}
use Rattle.vhost_connection.specs.Talk.{State}
use Rattle.vhost_frontend_core.specs.Regions.{bases_seen}
use Rattle.vhost_connection.specs.Asking.{RecvsReply}
use Rattle.vhost_frontend_core.specs.Taking.{reply_cut, is_table, Comes, Missing, RecvsTable, Takes}
use Rattle.vhost_frontend_core.specs.Taking.RecvsTable.{table, no_table, crowded_table, missing}
use Rattle.vhost_frontend_core.specs.Taking.Takes.{taken}
use Rattle.vhost_connection.proofs.Handed.{hands-none, hands-some}
use Rattle.vhost_frontend_core.proofs.Taking.{reads-reply, replied, reads-missing}

-- ---- three tests

all : (a b c : Bool) → a ≡ true → b ≡ true → c ≡ true → (a && b && c) ≡ true
all true true true p q r = refl
all true true false p q r = absurd cc
all true false c p q r = absurd cc
all false b c p q r = absurd cc

third : (a b c : Bool) → (a && b && c) ≡ true → c ≡ true
third true true c e = e
third true false c e = absurd cc
third false b c e = absurd cc

not_first : (a b c : Bool) → a ≡ false → (a && b && c) ≡ false
not_first true b c e = absurd cc
not_first false b c e = refl

not_second : (a b c : Bool) → b ≡ false → (a && b && c) ≡ false
not_second true true c e = absurd cc
not_second true false c e = refl
not_second false b c e = refl

not_third : (a b c : Bool) → c ≡ false → (a && b && c) ≡ false
not_third true true true e = absurd cc
not_third true true false e = refl
not_third true false c e = refl
not_third false b c e = refl

-- ---- the reply is received

module _ {L H : Type 0} {event : L → Event H → L → Type 0} (profile : Profile) (count : ℕ) {old new : State L H} {sent : Header} (before after : List ℕ) (room : length before ≡ MEMORY_REGION_SIZE * count) where
  in-room : {r : Received H} → Comes event profile MEMORY_HEAD_SIZE (λ bs. is_valid_memory (memory_of bs)) (length before) old sent r new → Comes event profile MEMORY_HEAD_SIZE (λ bs. is_valid_memory (memory_of bs)) (MEMORY_REGION_SIZE * count) old sent r new
  in-room {r} x = subst (λ n. Comes event profile MEMORY_HEAD_SIZE (λ bs. is_valid_memory (memory_of bs)) n old sent r new) room x

  -- there is none
  pub table-missing : {e : declared.Error} → Missing event profile MEMORY_HEAD_SIZE (λ bs. is_valid_memory (memory_of bs)) (length before) old sent e new → RecvsTable event profile count old sent (Err e) after new
  table-missing {e} m = missing (subst (λ n. Missing event profile MEMORY_HEAD_SIZE (λ bs. is_valid_memory (memory_of bs)) n old sent e new) room m)

  module _ (size len : ℕ) (head : VhostUserMemory) (hs : Option (Vec H Global)) (x : RecvsReply event is_known request_of profile MEMORY_HEAD_SIZE memory_of is_valid_memory old sent before (Ok (size, head, len, hs)) after new) where
    -- it has another number of regions
    pub size-other : (size ≡ MEMORY_HEAD_SIZE + MEMORY_REGION_SIZE * count → ⊥) → RecvsTable event profile count old sent (Err code.InvalidMessage) after new
    size-other differs = no_table x.0 (in-room x.1) (not_first _ _ _ (ap (λ n. n == MEMORY_HEAD_SIZE + MEMORY_REGION_SIZE * count) (sym x.2) ∙ ne_eqb size (MEMORY_HEAD_SIZE + MEMORY_REGION_SIZE * count) differs))

    pub head-other : (head.num_regions ≡ count → ⊥) → RecvsTable event profile count old sent (Err code.InvalidMessage) after new
    head-other differs = no_table x.0 (in-room x.1) (not_second _ _ _ (ap (λ (m : VhostUserMemory). m.num_regions == count) (sym x.3) ∙ ne_eqb head.num_regions count differs))

    pub len-other : (len ≡ MEMORY_REGION_SIZE * count → ⊥) → RecvsTable event profile count old sent (Err code.InvalidMessage) after new
    len-other differs = no_table x.0 (in-room x.1) (not_third (x.0.header.size == MEMORY_HEAD_SIZE + MEMORY_REGION_SIZE * count) ((memory_of x.0.body).num_regions == count) _ (ap (λ n. n == MEMORY_REGION_SIZE * count) (sym x.5) ∙ ne_eqb len (MEMORY_REGION_SIZE * count) differs))

    module _ (sized : size ≡ MEMORY_HEAD_SIZE + MEMORY_REGION_SIZE * count) (said : head.num_regions ≡ count) (filled : len ≡ MEMORY_REGION_SIZE * count) where
      as-many : is_table count x.0 ≡ true
      as-many = all _ _ _ (eq-eqb _ _ (sym x.2 ∙ sized)) (eq-eqb _ _ (ap (λ (m : VhostUserMemory). m.num_regions) (sym x.3) ∙ said)) (eq-eqb _ _ (sym x.5 ∙ filled))

      -- handles came with it
      pub table-crowded : is_some hs ≡ true → RecvsTable event profile count old sent (Err code.InvalidMessage) after new
      table-crowded some = crowded_table x.0 (in-room x.1) as-many (hands-some hs x.0.handles x.7 some)

      -- it came
      pub table-comes : is_some hs ≡ false → RecvsTable event profile count old sent (Ok tt) after new
      table-comes none_came =
          table x.0 (in-room x.1) as-many (hands-none hs x.0.handles x.7 none_came)
          (x.6 ∙ ap (λ bs. x.0.payload ++ bs) (drop_all len before (omega (arith, room, filled))) ∙ append-nil x.0.payload)

-- ---- it is the answer

-- as many regions as were sent
pub kept-long : {H : Type 0} (count : ℕ) (regions : List VhostUserMemoryRegion) (infos : List (Info H)) → count ≤ length regions → take count regions ≡ regions_in infos → count ≡ length infos
kept-long {H} count regions infos within kept = omega (arith, length-take count regions, ap length kept, length-map infos (λ (info : Info H). info.region))

module _ {H : Type 0} (infos : List (Info H)) (count : ℕ) (long : count ≡ length infos) where
  by : (sent : Header) (f : Frontend) (cells : List (Cell H)) → take_reply (SetMemTable infos) shape.Memory sent f cells
      ≡ (understood (SetMemTable infos) (Reply shape.Memory) sent f (reply_cut f.profile MEMORY_HEAD_SIZE (λ bs. is_valid_memory (memory_of bs)) (MEMORY_REGION_SIZE * count) cells).0, (reply_cut {H = H} f.profile MEMORY_HEAD_SIZE (λ bs. is_valid_memory (memory_of bs)) (MEMORY_REGION_SIZE * count) cells).1)
  by sent f cells = rw long refl

  sized : (r : Received H) (b : Bool) → is_table count r ≡ b → is_table (length infos) r ≡ b
  sized r b e = ap (λ n. is_table n r) (sym long) ∙ e

  -- what the reply says, by whether its regions are the same
  told : (regions : List VhostUserMemoryRegion) (kept : take count regions ≡ regions_in infos) (f : Frontend) (after : List ℕ) (r : Received H) (b : Bool) → is_table count r ≡ true → r.handles ≡ [] → after ≡ r.payload
      → are_same_ranges (take count regions) (regions_of count after) ≡ b
      → answer (SetMemTable infos) (Reply shape.Memory) f (Replied (payload_of shape.Memory r.body r.payload) r.handles) ≡ Some (answered f (only_if b InvalidMessage (Bases (Some (bases_in (regions_of count after))))))
  told regions kept f after r b is none_came whole ranges =
      let filled : length r.payload ≡ MEMORY_REGION_SIZE * count = eqb-true (length r.payload) (MEMORY_REGION_SIZE * count) (third (r.header.size == MEMORY_HEAD_SIZE + MEMORY_REGION_SIZE * count) ((memory_of r.body).num_regions == count) (length r.payload == MEMORY_REGION_SIZE * count) is) in
      let number : length r.payload / MEMORY_REGION_SIZE ≡ count = omega (arith, filled) in
      let read : regions_of (length r.payload / MEMORY_REGION_SIZE) r.payload ≡ regions_of count after = λ j. regions_of (number j) (sym whole j) in
      let matched : are_same_ranges (regions_in infos) (regions_of count after) ≡ b = ap (λ rs. are_same_ranges rs (regions_of count after)) (sym kept) ∙ ranges in
      (λ j. Some (answered f (alone (none_came j) (only_if (are_same_ranges (regions_in infos) (read j)) InvalidMessage (Bases (Some (bases_in (read j))))))))
      ∙ ap (λ (c : Bool). Some (answered f (only_if c InvalidMessage (Bases (Some (bases_in (regions_of count after))))))) matched

  -- handles came with it
  many : (f : Frontend) (r : Received H) (hs : List H) → has_some hs ≡ true → answer (SetMemTable infos) (Reply shape.Memory) f (Replied (payload_of shape.Memory r.body r.payload) hs) ≡ Some (answered f (Err InvalidMessage))
  many f r [] e = absurd cc
  many f r (h ∷ hs) e = refl

module _ {L H : Type 0} {event : L → Event H → L → Type 0} (infos : List (Info H)) (count : ℕ) {sent : Header} {f f' : Frontend} {old new : State L H} {after : List ℕ} (long : count ≡ length infos) (plain : has_bit sent.flags 2 ≡ false) (same_session : f' ≡ f) where
  -- the regions are mapped there
  pub bases-taken : (regions : List VhostUserMemoryRegion) (bases : Vec ℕ Global) → take count regions ≡ regions_in infos → RecvsTable event f.profile count old sent (Ok tt) after new
      → are_same_ranges (take count regions) (regions_of count after) ≡ true → bases.items ≡ bases_in (regions_of count after)
      → Takes event (SetMemTable infos) (λ v. Bases (bases_seen v)) (Reply shape.Memory) sent old f (Ok (Some bases)) new f'
  bases-taken regions bases kept (table r x is none_came whole) ranges listed =
      taken (replied (SetMemTable infos) shape.Memory MEMORY_HEAD_SIZE (MEMORY_REGION_SIZE * count) (λ bs. is_valid_memory (memory_of bs)) (by infos count long sent f) r plain x (sized infos count long r true is)
      (told infos count long regions kept f after r true is none_came whole ranges ∙ (λ j. Some (answered (sym same_session j) (Ok (Bases (Some (sym listed j))))))))

  -- they are other regions
  pub bases-refused : (regions : List VhostUserMemoryRegion) → take count regions ≡ regions_in infos → RecvsTable event f.profile count old sent (Ok tt) after new → are_same_ranges (take count regions) (regions_of count after) ≡ false
      → Takes event (SetMemTable infos) (λ v. Bases (bases_seen v)) (Reply shape.Memory) sent old f (Err code.InvalidMessage) new f'
  bases-refused regions kept (table r x is none_came whole) ranges =
      taken (replied (SetMemTable infos) shape.Memory MEMORY_HEAD_SIZE (MEMORY_REGION_SIZE * count) (λ bs. is_valid_memory (memory_of bs)) (by infos count long sent f) r plain x (sized infos count long r true is)
      (told infos count long regions kept f after r false is none_came whole ranges ∙ ap (λ (g : Frontend). Some (answered g (Err InvalidMessage))) (sym same_session)))

  -- there is no such reply
  pub bases-missing : {e : declared.Error} → RecvsTable event f.profile count old sent (Err e) after new → Takes event (SetMemTable infos) (λ v. Bases (bases_seen v)) (Reply shape.Memory) sent old f (Err e) new f'
  bases-missing {e} x = subst (λ (g : Frontend). Takes event (SetMemTable infos) (λ v. Bases (bases_seen v)) (Reply shape.Memory) sent old f (Err e) new g) (sym same_session) (go x)
    where
      go : {e : declared.Error} → RecvsTable event f.profile count old sent (Err e) after new → Takes event (SetMemTable infos) (λ v. Bases (bases_seen v)) (Reply shape.Memory) sent old f (Err e) new f
      go (no_table r x differs) =
          taken (reads-reply (SetMemTable infos) shape.Memory MEMORY_HEAD_SIZE (MEMORY_REGION_SIZE * count) (λ bs. is_valid_memory (memory_of bs)) (by infos count long sent f) (Ok r) plain x.hears (rw (x.answers, sized infos count long r false differs) refl))
      go (crowded_table r x is some) =
          taken (replied (SetMemTable infos) shape.Memory MEMORY_HEAD_SIZE (MEMORY_REGION_SIZE * count) (λ bs. is_valid_memory (memory_of bs)) (by infos count long sent f) r plain x (sized infos count long r true is) (many infos count long f r r.handles some))
      go (missing m) = reads-missing (SetMemTable infos) shape.Memory MEMORY_HEAD_SIZE (MEMORY_REGION_SIZE * count) (λ bs. is_valid_memory (memory_of bs)) (by infos count long sent f) plain m
