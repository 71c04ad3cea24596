-- The regions of a table that is kept.
use Rattle.std.proofs.Common.{◌<◌, ℕ, ◌+◌, List, [], ◌∷◌, length, map, take, get_or, All, sym, subst}
use Rattle.std.proofs.lemmas.List.{take_more}
use Rattle.std.proofs.lemmas.List.Elements.{All-append, All-cons, All-nil, All-head, All-tail}
use Rattle.vhost_message.specs.RecordLaws.{RegionFits}
use Rattle.vhost_protocol.specs.Ask.{regions_in}
use Rattle.vhost_frontend_core.specs.Regions.{info_of}
use Rattle.vhost_frontend_core.specs.declared.regions.RegionInfo.{RegionInfo}

module _ {Y : Type 0} (P : Y → Type 0) (ys : List Y) (i : ℕ) (d : Y) (within : i < length ys) where
  -- one more fits
  pub fitting-more : All P (take i ys) → P (get_or ys i d) → All P (take (i + 1) ys)
  fitting-more all one = subst (λ l. All P l) (sym (take_more ys i d within)) (All-append P (take i ys) (get_or ys i d ∷ []) all (All-cons P (get_or ys i d) [] one (All-nil P)))

-- all regions of a table fit
pub all-regions : {H : Type 0} (regions : List (RegionInfo H)) → All (λ info. RegionFits info.region) regions → All RegionFits (regions_in (map info_of regions))
all-regions [] all = All-nil RegionFits
all-regions (r ∷ rs) all = All-cons RegionFits r.region (regions_in (map info_of rs)) (All-head (λ info. RegionFits info.region) r rs all) (all-regions rs (All-tail (λ info. RegionFits info.region) r rs all))
