-- The half that asks, test by test.
use Rattle.std.proofs.Common.{◌≡◌, ℕ, Bool, false, List, Result, Ok, Err, refl, sym, ap, subst}
use Rattle.std.specs.Prelude.{⊤, IsErrAnd, if◌then◌else◌}
use Rattle.vhost_message.specs.declared.error.Error as declared
use Rattle.vhost_message.specs.declared.heard_req.HeardReq.{HeardReq}
use Rattle.vhost_message.specs.Bits.{has_bit}
use Rattle.vhost_protocol.specs.Error.{Error, seen}
use Rattle.vhost_protocol.specs.FrontendCall.{Frontend}
use Rattle.vhost_protocol.specs.Ask.{Asked, Sends, ◌>>◌, needs_reply, message, unacknowledged}
use Rattle.vhost_protocol.specs.declared.asked.Awaited.{Awaited}
use Rattle.vhost_protocol.specs.Written.{Payload, Written}
use Rattle.vhost_link.specs.Law.{Event}
use Rattle.vhost_connection.specs.Talk.{State}
use Rattle.vhost_frontend_core.specs.Asking as asking
use Rattle.vhost_connection.specs.Asking.{request_with}
use Rattle.vhost_frontend_core.specs.Asking.{Asks, AsksWithRoom, Tries}
use Rattle.vhost_frontend_core.specs.declared.asked.Kept.{Kept}
use Rattle.vhost_frontend_core.specs.declared.asked.Sent.{Sent}

module _ {L H : Type 0} {event : L → Event H → L → Type 0} where
  -- a test refused, and `?` answers so
  pub stops : {t : Result ⊤ Error} (next : Asked H) {old : State L H} {f : Frontend} {before : Awaited} (e : declared.Error) {result : Result Sent declared.Error} → IsErrAnd result (λ x. x ≡ e) → t ≡ Err (seen e)
      → Asks event (t >> next) old f before result old f before
  stops next e {result = Err x} same is = asking.refuses (rw (same, is) refl)
  stops next e {result = Ok sent} none is = absurd none

  -- it passed: the rest decides
  pub passes : {t : Result ⊤ Error} {next : Asked H} {old new : State L H} {f f' : Frontend} {before after : Awaited} {result : Result Sent declared.Error} → t ≡ Ok tt
      → Asks event next old f before result new f' after → Asks event (t >> next) old f before result new f' after
  passes {next = next} {old} {new} {f} {f'} {before} {after} {result} is p =
      subst (λ (x : Asked H). Asks event x old f before result new f' after) (sym (ap (λ (x : Result ⊤ Error). x >> next) is)) p

  -- the same of a call that makes room for its reply
  pub passes-room : {t : Result ⊤ Error} {next : Asked H} {old new : State L H} {f f' : Frontend} {before after : Awaited} {result : Result Sent declared.Error} → t ≡ Ok tt
      → AsksWithRoom event next old f before result new f' after → AsksWithRoom event (t >> next) old f before result new f' after
  passes-room {next = next} {old} {new} {f} {f'} {before} {after} {result} is p =
      subst (λ (x : Asked H). AsksWithRoom event x old f before result new f' after) (sym (ap (λ (x : Result ⊤ Error). x >> next) is)) p

  -- the message was tried, and the session stays
  pub tried : {w : Written HeardReq H} {asked : Awaited} {old new : State L H} {f f' : Frontend} {before after : Awaited} {result : Result Sent declared.Error}
      → f' ≡ f → Tries event w asked old before result new after → Asks event (Sends w asked f) old f before result new f' after
  tried {w} {asked} {old} {new} {f} {f'} {before} {after} {result} same p = subst (λ (x : Frontend). Asks event (Sends w asked f) old f before result new x after) (sym same) (go p)
    where
      go : {result : Result Sent declared.Error} {new : State L H} {after : Awaited} → Tries event w asked old before result new after → Asks event (Sends w asked f) old f before result new f after
      go (asking.whole g) = asking.goes refl g
      go (asking.broke x) = asking.fails refl x

  -- what is awaited, by another name
  pub tries_as : {w : Written HeardReq H} {asked other : Awaited} {old new : State L H} {before after : Awaited} {result : Result Sent declared.Error}
      → asked ≡ other → Tries event w asked old before result new after → Tries event w other old before result new after
  tries_as {w} {old = old} {new} {before} {after} {result} e p = subst (λ (x : Awaited). Tries event w x old before result new after) e p

  -- the message, by another name
  pub written-as : {w other : Written HeardReq H} {asked : Awaited} {old new : State L H} {before after : Awaited} {result : Result Sent declared.Error} → w ≡ other
      → Tries event w asked old before result new after → Tries event other asked old before result new after
  written-as {asked = asked} {old} {new} {before} {after} {result} e p = subst (λ (x : Written HeardReq H). Tries event x asked old before result new after) e p

  -- the session changes once the message went out
  pub went : {w : Written HeardReq H} {asked other : Awaited} {old new : State L H} {f f' : Frontend} {before after : Awaited} {sent : Sent}
      → asked ≡ other → Tries event w asked old before (Ok sent) new after → Asks event (Sends w other f') old f before (Ok sent) new f' after
  went {w} {other = other} {old} {new} {f} {f'} {before} {after} {sent} e p = go (tries_as e p)
    where
      go : {new : State L H} {after : Awaited} → Tries event w other old before (Ok sent) new after → Asks event (Sends w other f') old f before (Ok sent) new f' after
      go (asking.whole g) = asking.goes refl g

  pub stayed : {w : Written HeardReq H} {asked other : Awaited} {old new : State L H} {f f' g : Frontend} {before after : Awaited} {error : declared.Error}
      → asked ≡ other → g ≡ f → Tries event w asked old before (Err error) new after → Asks event (Sends w other f') old f before (Err error) new g after
  stayed {w} {other = other} {old} {new} {f} {f'} {before = before} {after} {error} e same p = subst (λ (x : Frontend). Asks event (Sends w other f') old f before (Err error) new x after) (sym same) (go (tries_as e p))
    where
      go : {new : State L H} {after : Awaited} → Tries event w other old before (Err error) new after → Asks event (Sends w other f') old f before (Err error) new f after
      go (asking.broke x) = asking.fails refl x

  -- what is awaited is an acknowledgement, or nothing
  pub tried_acked : {w : Written HeardReq H} {asked other : Awaited} {old new : State L H} {f f' : Frontend} {before after : Awaited} {result : Result Sent declared.Error}
      → asked ≡ other → f' ≡ f → Tries event w asked old before result new after → Asks event (Sends w other f) old f before result new f' after
  tried_acked e same p = tried same (tries_as e p)

  -- the message by another name
  pub tried-as : {w other : Written HeardReq H} {asked : Awaited} {old new : State L H} {f f' : Frontend} {before after : Awaited} {result : Result Sent declared.Error}
      → w ≡ other → f' ≡ f → Tries event w asked old before result new after → Asks event (Sends other asked f) old f before result new f' after
  tried-as {asked = asked} {old} {new} {before = before} {after} {result} e same p = tried same (subst (λ (x : Written HeardReq H). Tries event x asked old before result new after) e p)

  -- the second of two messages
  pub else_as : {holds : Bool} (yes_asked : Asked H) {no_asked : Asked H} {old new : State L H} {f f' : Frontend} {before after : Awaited} {result : Result Sent declared.Error} → holds ≡ false
      → Asks event no_asked old f before result new f' after → Asks event (if holds then yes_asked else no_asked) old f before result new f' after
  else_as yes_asked {no_asked} {old} {new} {f} {f'} {before} {after} {result} is p = subst (λ (b : Bool). Asks event (if b then yes_asked else no_asked) old f before result new f' after) (sym is) p

  -- what was asked, by another name
  pub asked-as : {asked other : Asked H} {old new : State L H} {f f' : Frontend} {before after : Awaited} {result : Result Sent declared.Error} → asked ≡ other → Asks event asked old f before result new f' after → Asks event other old f before result new f' after
  asked-as {old = old} {new} {f} {f'} {before} {after} {result} is p = subst (λ (x : Asked H). Asks event x old f before result new f' after) is p

  pub asked-as-with-room : {asked other : Asked H} {old new : State L H} {f f' : Frontend} {before after : Awaited} {result : Result Sent declared.Error} → asked ≡ other → AsksWithRoom event asked old f before result new f' after
      → AsksWithRoom event other old f before result new f' after
  asked-as-with-room {old = old} {new} {f} {f'} {before} {after} {result} is p = subst (λ (x : Asked H). AsksWithRoom event x old f before result new f' after) is p

  -- what is kept of the request makes no difference
  pub keeping : {asked : Asked H} {old new : State L H} {f f' : Frontend} {before after : Awaited} {sent : Sent} (kept : Kept) → Asks event asked old f before (Ok sent) new f' after
      → Asks event asked old f before (Ok (record sent { kept = kept })) new f' after
  keeping kept (asking.goes e g) = asking.goes e (record { retries = g.retries; serves = g.serves; header = g.header; awaits = g.awaits; list = g.list })

-- a request with the session's flags
pub message_is : {H : Type 0} (flags : ℕ) (f : Frontend) (r : HeardReq) (p : Payload) (hs : List H) → has_bit flags 2 ≡ has_bit f.header_flags 2 → has_bit flags 3 ≡ needs_reply f → request_with flags r p hs ≡ message f r p hs
message_is flags f r p hs reply need j = record { request = r; reply = reply j; need_reply = need j; payload = p; handles = hs }

-- a request without NEED_REPLY
pub unacknowledged_is : {H : Type 0} (flags : ℕ) (f : Frontend) (r : HeardReq) (p : Payload) (hs : List H) → has_bit flags 2 ≡ has_bit f.header_flags 2 → has_bit flags 3 ≡ false → request_with flags r p hs ≡ unacknowledged f r p hs
unacknowledged_is flags f r p hs reply need = rw (reply, need) refl
