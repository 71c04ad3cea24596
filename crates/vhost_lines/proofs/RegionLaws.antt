-- Laws of regions, of five words each.
use Rattle.std.proofs.Common.{◌≡◌, ℕ, List, [], ◌∷◌, ◌++◌, map, Option, Some, None, option_map, refl, ap, sym, ◌∙◌, append_assoc}
use Rattle.std.proofs.lemmas.List.{map-append}
use Rattle.vhost_link.specs.declared.plain.PlainHandle.{PlainHandle}
use Rattle.vhost_protocol.specs.FrontendCall.{Info}
use Rattle.vhost_frontend_core.specs.Regions.{info_of}
use Rattle.vhost_frontend_core.specs.declared.regions.RegionInfo.{RegionInfo}
use Rattle.vhost_lines.specs.Arguments.{◌>>=◌}
use Rattle.vhost_lines.specs.Calls.{region, regions}

-- a list behind another, where there is one
abbrev pub behind : {A : Type 0} → List A → Option (List A) → Option (List A)
behind front None = None
behind front (Some back) = Some (front ++ back)

led : {A : Type 0} (x : A) (o : Option (List A)) → (o >>= λ xs. Some (x ∷ xs)) ≡ option_map (λ xs. x ∷ xs) o
led x None = refl
led x (Some xs) = refl

-- five words are a region, and those behind them the others
pub regions-first : (guest size user offset mapping : List ℕ) (later all : List (List ℕ)) (info : Info PlainHandle)
    → all ≡ guest ∷ size ∷ user ∷ offset ∷ mapping ∷ later → Some info ≡ region guest size user offset mapping
    → regions all ≡ option_map (λ infos. info ∷ infos) (regions later)
regions-first guest size user offset mapping later all info are is =
    ap regions are ∙ (ap (λ first. first >>= λ one. regions later >>= λ infos. Some (one ∷ infos)) (sym is) ∙ led info (regions later))

-- five words that are none
pub regions-none : (guest size user offset mapping : List ℕ) (later all : List (List ℕ))
    → all ≡ guest ∷ size ∷ user ∷ offset ∷ mapping ∷ later → None ≡ region guest size user offset mapping → regions all ≡ None
regions-none guest size user offset mapping later all are is =
    ap regions are ∙ ap (λ first. first >>= λ one. regions later >>= λ infos. Some (one ∷ infos)) (sym is)

behind-more : {A : Type 0} (front : List A) (x : A) (o : Option (List A)) → behind (front ++ x ∷ []) o ≡ behind front (option_map (λ xs. x ∷ xs) o)
behind-more front x None = refl
behind-more front x (Some xs) = ap Some (append_assoc front (x ∷ []) xs)

-- the loop's step: one region more, of the next words
pub regions-next : (found : List (RegionInfo PlainHandle)) (info : RegionInfo PlainHandle) (words later : List (List ℕ)) → regions words ≡ option_map (λ infos. info_of info ∷ infos) (regions later)
    → behind (map info_of (found ++ info ∷ [])) (regions later) ≡ behind (map info_of found) (regions words)
regions-next found info words later is =
    ap (λ front. behind front (regions later)) (map-append info_of found (info ∷ []))
    ∙ (behind-more (map info_of found) (info_of info) (regions later) ∙ ap (behind (map info_of found)) (sym is))
