-- One more region, and one more handle.
use Rattle.std.proofs.Common.{◌≡◌, ◌<◌, ◌++◌, ◌∷◌, [], Option, Some, length, ap, sym, ◌∙◌, arith}
use Rattle.std.proofs.lemmas.List.{length-set, length-take-le, take_more_set}
use Rattle.vhost_message.specs.declared.limits.TheConstants.{MAX_MEM_REGIONS}
use Rattle.vhost_frontend.specs.MemoryContext.{regions_in}
use Rattle.vhost_frontend.specs.declared.memory_context.Held.{Held}
use Rattle.vhost_frontend.proofs.memory_context.VhostUserMemoryContext.append.Goals as goal

-- where fewer are held than a table may have, one more fits
one-more : {H : Type 0} (o : Option (Held H)) (held : Held H) → o ≡ Some held → length (regions_in o) < MAX_MEM_REGIONS → held.count < MAX_MEM_REGIONS
one-more o held is few =
    let len = ap (λ x. length (regions_in x)) is ∙ length-take-le held.count held.regions (omega (arith, held.fits, held.whole)) in
    omega (arith, len, few)

pub bounds-handles-held : goal.bounds-handles-held
bounds-handles-held g c = one-more c.args.self.now.held c.in-Some.held c.in-Some.is c.requires

pub bounds-held-held : goal.bounds-held-held
bounds-held-held g c = one-more c.args.self.now.held c.in-Some.held c.in-Some.is c.requires

pub invariant_of-held-in-Some-2 : goal.invariant_of-held-in-Some-2
invariant_of-held-in-Some-2 g c = let fits = one-more c.args.self.now.held c.in-Some.held c.in-Some.is c.requires in record {
  fits = omega (arith, fits);
  whole = length-set c.in-Some.held.regions c.in-Some.held.count c.args.region.now ∙ c.in-Some.held.whole;
}

pub returns-in-Some-clause-regions : goal.returns-in-Some-clause-regions
returns-in-Some-clause-regions g c =
    let fits = one-more c.args.self.now.held c.in-Some.held c.in-Some.is c.requires in
    take_more_set c.in-Some.held.regions c.in-Some.held.count c.args.region.now (omega (arith, fits, c.in-Some.held.whole)) ∙ ap (λ o. regions_in o ++ c.args.region.now ∷ []) (sym c.in-Some.is)
