-- What a link that is not cut fails for: memory was refused.
use Rattle.std.proofs.Common.{◌≡◌, ℕ, zero, suc, true, List, [], drop, refl, ap, subst, ◌∙◌}
use Rattle.vhost_message.specs.Cause.{error_of}
use Rattle.vhost_message.specs.declared.cause.IoCause.{IoCause}
use Rattle.vhost_message.specs.declared.cause.IoCause.TheVariants.{Raw}
use Rattle.vhost_message.specs.declared.errno.TheConstants.{ENOMEM}
use Rattle.vhost_message.specs.declared.error.Error as declared
use Rattle.vhost_protocol.specs.Stream.{Cell}
use Rattle.vhost_link.proofs.MemStream.{mem-stream}
use Rattle.vhost_link.specs.Cuts as cuts
use Rattle.vhost_link.specs.Ends.{Ends}
use Rattle.vhost_link.specs.Law.{Refused, Move, Moved}
use Rattle.vhost_link.specs.Mem.{event}
use Rattle.vhost_link.specs.declared.cut.Cut.{Cut}
use Rattle.vhost_link.specs.declared.plain.PlainHandle.{PlainHandle}
use Rattle.vhost_connection.specs.Requests.{Stops}
use Rattle.vhost_connection.specs.Talk.{Fell}
use Rattle.vhost_c_common.specs.View.{End}
use Rattle.vhost_c_common.specs.declared.refusal.Refusal.TheVariants.{Protocol}
use Rattle.vhost_c_joined.specs.Device.{is_want}

none-left : (n : ℕ) → drop {A = Cut} n [] ≡ []
none-left zero = refl
none-left (suc n) = refl

still : (l l' : Ends) (m : Move PlainHandle) → Moved event l m l' → l.script ≡ [] → l'.script ≡ []
still l l' m moved uncut = let runs = mem-stream l l' m moved in runs.script ∙ ap (λ (s : List Cut). drop runs.calls s) uncut ∙ none-left runs.calls

last : (before after : Ends) (c : IoCause) → event before (Refused c) after → before.script ≡ [] → c ≡ Raw ENOMEM
last before after c e uncut =
    let f : cuts.Fails [] c before.wants after.wants = subst (λ s. cuts.Fails s c before.wants after.wants) uncut e.0 in f.0

pub fell-cause : (old new : End) (m : Move PlainHandle) (c : IoCause) → Fell event old m c new → old.link.script ≡ [] → c ≡ Raw ENOMEM
fell-cause old new m c fell uncut = last fell.before new.link c fell.last (still old.link fell.before fell.talks.below fell.talks.moved uncut)

pub cause-want : (c : IoCause) → c ≡ Raw ENOMEM → is_want (Protocol (error_of c)) ≡ true
cause-want c is = ap (λ x. is_want (Protocol (error_of x))) is

pub stop-want : (old new : End) (cells : List (Cell PlainHandle)) (e : declared.Error) → Stops event old cells e new → old.link.script ≡ [] → is_want (Protocol e) ≡ true
stop-want old new cells e stops uncut = ap (λ x. is_want (Protocol x)) stops.error ∙ cause-want stops.cause (fell-cause old new _ stops.cause stops.fell uncut)
