-- A request that was handed over, and its answer.
use Rattle.std.proofs.Common.{◌≡◌, ◌≤◌, ℕ, Option, Some, None, Result, length, subst}
use Rattle.std.specs.Prelude.{◌||◌}
use Rattle.vhost_message.specs.declared.error.Error as declared
use Rattle.vhost_message.specs.declared.limits.TheConstants.{MAX_MSG_TEXT}
use Rattle.vhost_link.specs.Mem.{event}
use Rattle.vhost_backend_req.specs.Halves.{Head, TakesHalf}
use Rattle.vhost_joined.specs.OnWay.{outgoing}
use Rattle.vhost_joined.specs.Text.{Text, text_of}
use Rattle.vhost_joined_reverse.specs.Joined.{Gives}
use Rattle.vhost_joined_reverse.specs.Sides as sides
use Rattle.vhost_joined_reverse.specs.Sides.{Parts, HandedOver, HandsOver, Serves, stop_of}
use Rattle.vhost_joined_reverse.specs.declared.sides.Exchanged.{Exchanged}

module _ {Dev : Type 0} (gives : Gives Dev) where
  handed-in : (old : Parts Dev) (result : Result ℕ declared.Error) (new : Parts Dev) → HandsOver gives old (Some result) new → HandedOver gives old result new
  handed-in old result new (sides.handed h) = h

  module _ (sent : Option Head) (old from mid new : Parts Dev) (copy : Text) (x : Exchanged) (is : from ≡ record old { request = copy }) where
    -- it was served, and its answer taken
    pub served-so : (result : Result ℕ declared.Error) → (length (outgoing old.channel.endpoint) ≤ MAX_MSG_TEXT → copy ≡ text_of (outgoing old.channel.endpoint)) → HandsOver gives from (Some result) mid
        → TakesHalf event sent mid.channel.endpoint x.answer new.channel.endpoint → new.channel ≡ record mid.channel { endpoint = new.channel.endpoint } → new ≡ record mid { channel = new.channel }
        → x.stop ≡ stop_of (new.channel.endpoint.faulted || new.serving.faulted) result new.reply.bytes → Serves gives sent old x new
    served-so result copied hands takes channel same stops = sides.served (record {
      copy = copy;
      request = copied;
      result = result;
      mid = mid;
      hands = handed-in (record old { request = copy }) result mid (subst (λ (p : Parts Dev). HandsOver gives p (Some result) mid) is hands);
      takes = takes;
      channel = channel;
      same = same;
      stops = stops;
    })

    -- it found no room on its way, or its answer did
    pub lost-so : HandsOver gives from None mid → Serves gives sent old x new
    lost-so hands = sides.no_way copy mid (subst (λ (p : Parts Dev). HandsOver gives p None mid) is hands)
