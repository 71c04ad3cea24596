-- A whole call, by the form of its answer.
use Rattle.std.proofs.Common.{ℕ, ap, refl, sym, ◌∙◌, Ok, Err}
use Rattle.vhost_protocol.specs.FrontendCall.{Number}
use Rattle.vhost_frontend_core.specs.Values.{outcome_of}
use Rattle.vhost_frontend.proofs.Forms.{of, not-number}
use Rattle.vhost_frontend.proofs.Whole.{as-whole}
use Rattle.vhost_frontend.proofs.quiet.Quiet.features.Goals as goal

pub returns-in-Number : goal.returns-in-Number
returns-in-Number g c = as-whole (Ok c.from_bits_retain.result) c.requires refl (ap outcome_of c.in-Number.is ∙ ap {A = ℕ} (λ n. Ok (Number n)) (sym (c.from_bits_retain.ensures tt))) c.call.ensures.whole

pub returns-in-Failed : goal.returns-in-Failed
returns-in-Failed g c = as-whole (Err c.in-Failed.error) c.requires refl (ap outcome_of c.in-Failed.is) c.call.ensures.whole

pub returns : goal.returns
returns g c = absurd (not-number c.call.result (of c.call.result c.requires c.call.ensures.form) c.in_default.not-Number c.in_default.not-Failed)
