-- What a frontend's half leaves of an end that is not cut.
use Rattle.std.proofs.Common.{◌≡◌, true, false, [], Option, Result, inl, inr, sym, subst}
use Rattle.std.specs.Coded.{Coded-set, coded_list, Π_prop, →_prop}
use Rattle.std.specs.Option.{ForSome}
use Rattle.vhost_message.specs.contracts.cause.IoCause as cause
use Rattle.vhost_link.specs.contracts.cut.Cut as cut
use Rattle.vhost_message.specs.Header.{Header}
use Rattle.vhost_message.specs.declared.cause.IoCause.TheVariants.{Raw}
use Rattle.vhost_message.specs.declared.errno.TheConstants.{ENOMEM}
use Rattle.vhost_message.specs.declared.error.Error as declared
use Rattle.vhost_protocol.specs.Ask.{Asked}
use Rattle.vhost_protocol.specs.Error.{Error}
use Rattle.vhost_protocol.specs.FrontendCall.{FrontendCall, Value, Frontend}
use Rattle.vhost_protocol.specs.declared.asked.Awaited.{Awaited}
use Rattle.vhost_link.specs.Ends.{Ends}
use Rattle.vhost_link.specs.Mem.{event}
use Rattle.vhost_link.specs.declared.plain.PlainHandle.{PlainHandle}
use Rattle.vhost_frontend_core.specs.Asking.{AsksWithRoom, roomy, no_room, refuses, goes, fails}
use Rattle.vhost_frontend_core.specs.Frontend.{endpoint_of}
use Rattle.vhost_frontend_core.specs.Taking.{unread, read}
use Rattle.vhost_frontend_core.specs.ValueHalves as halves
use Rattle.vhost_frontend_core.specs.ValueHalves.{AsksCall, TakesResult}
use Rattle.vhost_frontend_core.specs.declared.asked.Sent.{Sent}
use Rattle.vhost_frontend_core.specs.declared.internal.FrontendInternal.{FrontendInternal}
use Rattle.vhost_c_common.specs.View.{End, IsUncut}
use Rattle.vhost_c_common.proofs.Wants.{served, failed}

-- each has one proof at most
pub uncut-prop : (end : End) → IsProp (end.link.script ≡ [])
uncut-prop end = Coded-set (coded_list cut.the_row.coded) end.link.script []

pub broken-prop : (end : End) → IsProp (ForSome end.broken (λ c. c ≡ Raw ENOMEM))
broken-prop end = Π_prop (λ c. →_prop (Coded-set cause.the_row.coded c (Raw ENOMEM)))

asks : (asked : Asked PlainHandle) (old new : End) (f f' : Frontend) (before after : Awaited) (result : Result Sent declared.Error) → AsksWithRoom event asked old f before result new f' after → IsUncut old → IsUncut new
asks asked old new f f' before after result (roomy (refuses is)) u = u
asks asked old new f f' before after result (roomy (goes is g)) u = served old new g.serves u
asks asked old new f f' before after result (roomy (fails is why)) u = (failed old new false _ why u).0
asks asked old new f f' before after result (no_room is) u = u

pub asks-call : (call : FrontendCall PlainHandle) (old new : FrontendInternal Ends PlainHandle) (result : Result (Option Sent) declared.Error) → AsksCall call old result new → IsUncut (endpoint_of old) → IsUncut (endpoint_of new)
asks-call call old new result (halves.half h) u = asks _ _ _ _ _ _ _ _ h u
asks-call call old new result (halves.refused h) u = asks _ _ _ _ _ _ _ _ h u
asks-call call old new result (halves.at_once flags is same session awaited) u = subst (λ (e : End). IsUncut e) (sym same) u

pub takes : (call : FrontendCall PlainHandle) (awaited : Awaited) (sent : Header) (old : End) (f : Frontend) (result : Result (Value PlainHandle) Error) (new : End) (f' : Frontend) → TakesResult call awaited sent old f result new f' → IsUncut old → IsUncut new
takes call awaited sent old f result new f' (inl (unread is)) u = u
takes call awaited sent old f result new f' (inl (read h)) u = served old new h.hears.serves u
takes call awaited sent old f result new f' (inr x) u = (failed old new true x.1 x.3 u).0
