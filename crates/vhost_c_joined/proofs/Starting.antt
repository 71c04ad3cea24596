-- Two new sessions are in step, whatever features a device offers.
use Rattle.std.proofs.Common.{ℕ, Bool, refl, sym, ap, subst}
use Rattle.vhost_message.specs.Bits.{has_bit}
use Rattle.vhost_protocol.specs.Agreement.{Negotiates}
use Rattle.vhost_protocol.specs.declared.profile.Profile.TheVariants.{Standard}
use Rattle.vhost_protocol.specs.FrontendCall.{Frontend, new_frontend}
use Rattle.vhost_protocol.specs.Joined.{AgreeOn}
use Rattle.vhost_protocol.specs.Session.{Session as Memory}
use Rattle.vhost_c_common.specs.View.{End}
use Rattle.vhost_c_backend.specs.Served as served
use Rattle.vhost_c_backend.specs.Served.{new_session}
use Rattle.vhost_c_backend.specs.declared.served.Served.{Served}
use Rattle.vhost_c_joined.specs.Joined.{AreInStep}
use Rattle.vhost_c_frontend.specs.Session as session
use Rattle.vhost_c_frontend.specs.declared.session.Session.{Session}

abbrev new_memory : ℕ → Frontend
new_memory queues = record (new_frontend queues) { profile = Standard }

agree-new : (queues : ℕ) → AgreeOn (new_memory queues) new_session
agree-new queues = record { offered = refl; acked_protocol_features = refl; postcopy = refl; acked = refl; profile = refl }

negotiates-new : (bit : Bool) (queues : ℕ) → Negotiates bit (new_memory queues)
negotiates-new bit queues = (λ is. absurd (cc is), λ is. absurd (cc is), λ is. absurd (cc is))

pub new-in-step : (bit : Bool) (queues : ℕ) (f : Session) (b : Served) → session.IsNew queues f → served.IsNew b → AreInStep bit f b
new-in-step bit queues f b front back = record {
  agree = subst {A = Frontend} (λ k. AgreeOn k (served.remembers b)) (sym front.memory) (subst {A = Memory} (λ k. AgreeOn (new_memory queues) k) (sym back.memory) (agree-new queues));
  negotiates = subst {A = Frontend} (λ k. Negotiates bit k) (sym front.memory) (negotiates-new bit queues);
  plain = ap {A = Frontend} (λ k. has_bit k.header_flags 2) front.memory;
  standard = ap {A = Frontend} (λ k. k.profile) front.memory;
  goes_on = ap {A = Memory} (λ k. k.failed) back.memory;
  unasked = front.asked;
  idle = back.idle;
  no_request = (front.empty.queue, back.empty.came, back.empty.count);
  no_reply = back.empty.queue;
  sound = (ap {A = End} (λ e. e.broken) front.empty.end, ap {A = End} (λ e. e.broken) back.empty.end, ap {A = End} (λ e. e.link.script) back.empty.end);
}
