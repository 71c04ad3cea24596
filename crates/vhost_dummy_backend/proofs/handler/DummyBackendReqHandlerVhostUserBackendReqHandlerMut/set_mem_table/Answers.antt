use Rattle.std.proofs.Common.{List, ℕ, Some, inl, inr, refl, sym, ap, ◌∙◌}
use Rattle.vhost_dummy_backend.proofs.Regions.{listens, listens_not}
use Rattle.vhost_dummy_backend.proofs.handler.DummyBackendReqHandlerVhostUserBackendReqHandlerMut.set_mem_table.Goals as goal

pub returns-then-ne : goal.returns-then-ne
returns-then-ne g c = elim (listens_not c.args.postcopy_listening (sym c.ne.ensures ∙ c.if-ne.true)) [ inl e ↦ rw e (refl, refl) | inr e ↦ rw e (refl, refl) ]

pub returns-in-Ok : goal.returns-in-Ok
returns-in-Ok g c = rw (listens c.args.postcopy_listening (sym c.ne.ensures ∙ c.if-ne.false)) (ap (λ (b : List ℕ). Some b) c.in-Ok.ensures, refl)

pub returns : goal.returns
returns g c = rw (listens c.args.postcopy_listening (sym c.ne.ensures ∙ c.if-ne.false)) (refl, refl)
