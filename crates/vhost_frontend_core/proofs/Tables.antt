-- The loops over the regions of a table.
use Rattle.std.proofs.Common.{◌≡◌, ◌<◌, ℕ, ◌+◌, ◌*◌, List, [], ◌∷◌, ◌++◌, length, take, set, slice_index_or, map, Bor, Bool, true, false, Option, Some, None, refl, ap, sym, ◌∙◌, arith}
use Rattle.std.specs.Prelude.{◌&&◌, is_some, unwrap_or}
use Rattle.std.specs.List.{list_all, filter_map}
use Rattle.std.proofs.lemmas.List.{length-take, map-append, take_more, take_more_set}
use Rattle.std.proofs.lemmas.List.Elements.{filter_map-append}
use Rattle.std.proofs.lemmas.List.Folds.{list_all_at}
use Rattle.vhost_message.specs.declared.limits.TheConstants.{MEMORY_REGION_SIZE}
use Rattle.vhost_message.specs.Records.{region_at, regions_of}
use Rattle.vhost_message.specs.declared.records.memory.VhostUserMemoryRegion.{VhostUserMemoryRegion}
use Rattle.vhost_message.proofs.Regions.{regions_of-more, length-regions_of}
use Rattle.vhost_protocol.specs.AnswerTable.{are_same_ranges, is_same_range, bases_in}
use Rattle.vhost_protocol.specs.Ask.{is_usable, regions_in, handles_in}
use Rattle.vhost_protocol.specs.FrontendCall.{Info}
use Rattle.vhost_frontend_core.specs.Regions.{lent}

-- ---- the regions that are given

and-right : (a b : Bool) → (a && b) ≡ true → b ≡ true
and-right true b e = e
and-right false b e = absurd cc

lent-or : {H : Type 0} (o : Option (Bor H)) (other : Bor H) → is_some (lent o) ≡ true → lent o ≡ Some ((unwrap_or o other).now)
lent-or None other is = absurd cc
lent-or (Some h) other is = refl

module _ {H : Type 0} (infos : List (Info H)) (i : ℕ) (info : Info H) (within : i < length infos) (at : info ≡ slice_index_or infos i info) where
  infos-more : take (i + 1) infos ≡ take i infos ++ info ∷ []
  infos-more = take_more infos i info within ∙ ap (λ (x : Info H). take i infos ++ x ∷ []) (sym at)

  -- one region more is copied
  pub regions-more : (table : List VhostUserMemoryRegion) (r : VhostUserMemoryRegion) → i < length table → take i table ≡ regions_in (take i infos) → r ≡ info.region → take (i + 1) (set table i r) ≡ regions_in (take (i + 1) infos)
  regions-more table r room so_far is =
      take_more_set table i r room ∙ (λ j. so_far j ++ is j ∷ [])
      ∙ sym (ap regions_in infos-more ∙ map-append (λ (x : Info H). x.region) (take i infos) (info ∷ []))

  -- one handle more is copied
  pub handles-more : (handles : List (Bor H)) (h : Bor H) → i < length handles → map (λ (g : Bor H). g.now) (take i handles) ≡ handles_in (take i infos) → info.handle ≡ Some h.now
      → map (λ (g : Bor H). g.now) (take (i + 1) (set handles i h)) ≡ handles_in (take (i + 1) infos)
  handles-more handles h room so_far is =
      ap (map (λ (g : Bor H). g.now)) (take_more_set handles i h room) ∙ map-append (λ (g : Bor H). g.now) (take i handles) (h ∷ [])
      ∙ (λ j. so_far j ++ filter_map (λ (o : Option H). o) (sym is j ∷ []))
      ∙ sym (ap handles_in infos-more ∙ filter_map-append (λ (x : Info H). x.handle) (take i infos) (info ∷ []))

  -- where all are usable, this one is
  usable-at : list_all is_usable infos ≡ true → is_usable info ≡ true
  usable-at all = go (is_usable info) refl
    where
      go : (b : Bool) → is_usable info ≡ b → b ≡ true
      go true e = refl
      go false e =
          let none : list_all is_usable infos ≡ false = list_all_at is_usable infos i info within (ap is_usable (sym at) ∙ e) in
          absurd (cc)

  -- its handle is taken
  pub handle-taken : (o : Option (Bor H)) (other h : Bor H) → list_all is_usable infos ≡ true → info.handle ≡ lent o → h ≡ unwrap_or o other → info.handle ≡ Some h.now
  handle-taken o other h all is taken =
      is ∙ lent-or o other (ap (λ (x : Option H). is_some x) (sym is) ∙ and-right _ _ (usable-at all)) ∙ ap (λ (x : Bor H). Some x.now) (sym taken)

-- ---- comparing

-- one region more is compared
same-more : (xs ys : List VhostUserMemoryRegion) (x y : VhostUserMemoryRegion) → length xs ≡ length ys → are_same_ranges (xs ++ x ∷ []) (ys ++ y ∷ []) ≡ (are_same_ranges xs ys && is_same_range x y)
same-more [] [] x y e = last (is_same_range x y)
  where
    last : (b : Bool) → (b && true) ≡ b
    last true = refl
    last false = refl
same-more [] (b ∷ ys) x y e = absurd (omega arith)
same-more (a ∷ xs) [] x y e = absurd (omega arith)
same-more (a ∷ xs) (b ∷ ys) x y e = ap (λ c. is_same_range a b && c) (same-more xs ys x y (omega arith)) ∙ join (is_same_range a b)
  where
    join : (c : Bool) → (c && (are_same_ranges xs ys && is_same_range x y)) ≡ ((c && are_same_ranges xs ys) && is_same_range x y)
    join true = refl
    join false = refl

module _ (i : ℕ) (asked : List VhostUserMemoryRegion) (text : List ℕ) (r : VhostUserMemoryRegion) (within : i < length asked) (is : r ≡ region_at (MEMORY_REGION_SIZE * i) text) where
  read-more : regions_of (i + 1) text ≡ regions_of i text ++ r ∷ []
  read-more = regions_of-more i text ∙ ap (λ (x : VhostUserMemoryRegion). regions_of i text ++ x ∷ []) (sym is)

  pub ranges-more : (d : VhostUserMemoryRegion) (same now : Bool) → same ≡ are_same_ranges (take i asked) (regions_of i text) → now ≡ is_same_range (slice_index_or asked i d) r
      → (same && now) ≡ are_same_ranges (take (i + 1) asked) (regions_of (i + 1) text)
  ranges-more d same now so_far here =
      (λ j. so_far j && here j) ∙ sym (same-more (take i asked) (regions_of i text) (slice_index_or asked i d) r (omega (arith, length-take i asked, length-regions_of i text)))
      ∙ sym (λ j. are_same_ranges (take_more asked i d within j) (read-more j))

  pub bases-more : (bases : List ℕ) → bases ≡ bases_in (regions_of i text) → bases ++ r.user_addr ∷ [] ≡ bases_in (regions_of (i + 1) text)
  bases-more bases so_far =
      ap (λ xs. xs ++ r.user_addr ∷ []) so_far ∙ sym (ap bases_in read-more ∙ map-append (λ (x : VhostUserMemoryRegion). x.user_addr) (regions_of i text) (r ∷ []))
