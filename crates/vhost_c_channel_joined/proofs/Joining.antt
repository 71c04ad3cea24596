-- A call of joined sessions, from its request to its answer; and a flag.
use Rattle.std.proofs.Common.{◌≡◌, ℕ, Bool, true, false, ◌++◌, Some, Result, Ok, Err, refl, sym, ap, subst, ◌∙◌}
use Rattle.std.specs.Prelude.{◌&&◌, is_some}
use Rattle.vhost_message.specs.BackendReq.{backend_request_number}
use Rattle.vhost_protocol.specs.Error.{PartialMessage}
use Rattle.vhost_protocol.specs.IoError.{IoError, Of, seen_io}
use Rattle.vhost_protocol.specs.Joined.{is_silent, read_as}
use Rattle.vhost_protocol.specs.JoinedReverse as input
use Rattle.vhost_protocol.specs.JoinedReverse.{ReverseExchanges, ReverseInput, ReverseInStep, ReverseShown, ReverseJoinedStep, reverse_unsent}
use Rattle.vhost_protocol.specs.Reverse.{Backend, ReverseAsked, ReverseFollows, ReverseCall, ReverseOutcome, Server, Sends, bad_body, is_reverse_last, reverse_answer, reverse_ask, reverse_row}
use Rattle.vhost_protocol.specs.ReverseLaws.{IsAnswered}
use Rattle.vhost_protocol.specs.Written.{written_cells}
use Rattle.vhost_link.specs.Ends.{Ends}
use Rattle.vhost_link.specs.declared.plain.PlainHandle.{PlainHandle}
use Rattle.vhost_connection.specs.Memory.{stream}
use Rattle.vhost_backend_req.specs.Channel as link
use Rattle.vhost_backend_req.specs.Channel.{backend_of}
use Rattle.vhost_frontend_req_handler.specs.Core as core
use Rattle.vhost_c_common.specs.View.{End}
use Rattle.vhost_c_common.specs.declared.incoming.Incoming.{Incoming}
use Rattle.vhost_c_common.specs.declared.refusal.Refusal.{Refusal}
use Rattle.vhost_c_channel.specs.Asking as asking
use Rattle.vhost_c_channel.specs.Asking.{Agrees, flag_in}
use Rattle.vhost_c_channel_joined.specs.Crossing.{Crosses, Crossing, Declines, IsMet, IsNumber, IsReturned, Meets, Returning, is_call, replies, reply_to}
use Rattle.vhost_c_channel_joined.specs.Joined.{AreInStep, IsAnswer, IsMade, IsSilent, Joined, Joins, answers}
use Rattle.vhost_c_channel.specs.Serving as serving
use Rattle.vhost_c_channel.specs.Serving.{Acknowledges, Request}
use Rattle.vhost_c_channel.specs.declared.asking.Channel.{Channel}
use Rattle.vhost_c_channel.specs.declared.asking.Feature.{Feature}
use Rattle.vhost_c_channel.specs.declared.asking.Feature.TheVariants as feature
use Rattle.vhost_c_channel_joined.specs.declared.joined.DoneCall.{DoneCall}
use Rattle.vhost_c_channel.specs.declared.serving.ChannelServer.{ChannelServer}
use Rattle.vhost_c_channel_joined.specs.declared.wire.Halt.{Halt}
use Rattle.vhost_c_channel_joined.specs.declared.wire.Halt.TheVariants as halt
use Rattle.vhost_c_channel_joined.proofs.Messages.{IsSent, again, answered, bad-err, invalid-so, sent, silent-bad}

-- ---- a call

-- which it is
pub record TheCall (i : ReverseInput PlainHandle) : Type 0 where
  pub call : ReverseCall PlainHandle
  pub is : i ≡ input.Asks call

pub the-call : (i : ReverseInput PlainHandle) → is_call i ≡ true → TheCall i
the-call (input.Asks c) is = record { call = c; is = refl }
the-call (input.SetReplyAck on) is = absurd (cc is)
the-call (input.SetSharedObject on) is = absurd (cc is)
the-call (input.SetShmem on) is = absurd (cc is)
the-call (input.SetConfigChange on) is = absurd (cc is)

module _ (c : ReverseCall PlainHandle) (a : Result ℕ IoError) (s0 s1 : Channel) (t0 t1 : ChannelServer) (steps : AreInStep s0 t0) where
  -- it was not agreed on
  pub declined : (r : Refusal) → Declines c s0 t0 r s1 t1 → Joined (input.Asks c, a) s0 t0 (record { outcome = Err r; last = false }) s1 t1
  declined r d = record {
    shown = reverse_unsent (Err (seen_io d.error));
    step = (
      subst (λ (x : ReverseAsked PlainHandle). ReverseExchanges (answers (input.Asks c, a)) (serving.remembers t0) tt x (reverse_unsent (Err (seen_io d.error))) tt) (sym d.is) (refl, refl),
      d.memory,
      d.served,
    );
    answer = subst (λ x. IsAnswer (input.Asks c) (Err x) (Err (seen_io d.error))) (sym d.told) (d.error, refl, refl);
    last = refl;
    in_step = d.in_step;
  }

  -- it was asked
  module _ (made : IsMade (input.Asks c)) (x : Crosses c s0 t0 s1 t1) (failed : Bool) (t2 : ChannelServer) (met : IsMet (read_as x.w) a (serving.remembers t1) failed t2) where
    abbrev before : Server
    before = serving.remembers t0

    abbrev o : ReverseOutcome PlainHandle
    o = met.outcome

    follows : ReverseFollows (replies a) tt (reverse_row before (read_as x.w)) o tt
    follows = subst {A = Server} (λ k. ReverseFollows (replies a) tt (reverse_row k (read_as x.w)) o tt) x.served met.follows

    is-sent : IsSent (asking.remembers s0) c x.w x.awaited
    is-sent = sent (asking.remembers s0) c made x.w x.awaited x.is

    pub plain : x.w.reply ≡ false
    plain = is-sent.plain

    pub number : IsNumber o.served
    number = met.number

    pub known : IsAnswered x.awaited o
    known = answered a (asking.remembers s0) before c x.w x.awaited steps.in_step.agree x.is o follows

    abbrev shown : ReverseShown PlainHandle
    shown = record { request = written_cells backend_request_number x.w; handled = Some o.answer; reply = reply_to x.w.request o.served; result = known.0; last = is_reverse_last o }

    exchange : ReverseExchanges (answers (input.Asks c, a)) before tt (reverse_ask (asking.remembers s0) c) shown tt
    exchange = subst (λ (y : ReverseAsked PlainHandle). ReverseExchanges (answers (input.Asks c, a)) before tt y shown tt) (sym x.is) (o, again c a before (read_as x.w) o (is-sent.row before) follows, known.1, refl, refl, refl, refl)

    -- it is done
    pub done-so : (done : DoneCall) (s3 : Channel) (t3 : ChannelServer) → IsReturned o.served known.0 failed s1 t2 done s3 t3 → Joined (input.Asks c, a) s0 t0 done s3 t3
    done-so done s3 t3 r = record {
      shown = shown;
      step = (exchange, memory, server);
      answer = r.answer (input.Asks c);
      last = r.last ∙ ap (λ b. b && is_silent o.served) met.is_failed;
      in_step = record {
        in_step = record {
          agree = ap {A = Backend} (λ b. b.reply_ack) memory ∙ steps.in_step.agree ∙ ap {A = Server} (λ k. k.reply_ack) (sym server);
          asks = ap {A = Backend} (λ b. b.failed) memory ∙ steps.in_step.asks;
          serves = ap {A = Server} (λ k. k.failed) server ∙ steps.in_step.serves;
          no_request = ap (λ xs. xs ++ serving.arrived t3) r.queue ∙ r.holds.came;
          no_reply = ap (λ xs. xs ++ asking.arrived s3) r.holds.queue ∙ r.came;
        };
        unasked = r.unasked;
        idle = r.holds.idle;
        nothing_came = r.holds.count;
        sound = (r.sound, r.holds.sound);
        uncut = (r.uncut, r.holds.uncut);
      };
    }
      where
        memory : asking.remembers s3 ≡ asking.remembers s0
        memory = r.memory ∙ x.memory

        server : serving.remembers t3 ≡ before
        server = r.server ∙ met.memory ∙ x.served

    -- none comes, though one is awaited
    pub silent-so : (s3 : Channel) (t3 : ChannelServer) → Returning x.awaited o.served known.0 failed s1 t2 (Err halt.Silent) s3 t3 → IsSilent (input.Asks c, a) s0 t0 s3 t3
    silent-so s3 t3 (awaited, none, memory, server) =
        let ack : (asking.remembers s0).reply_ack ≡ true = sym is-sent.waits ∙ awaited in
        let bad : reverse_row before (read_as x.w) ≡ bad_body = silent-bad a before (read_as x.w) o follows (sym steps.in_step.agree ∙ ack) (is-sent.wanted ∙ ack) none in
        record {
          call = c;
          is = refl;
          message = x.w;
          awaited = x.is ∙ ap (λ b. Sends x.w b) awaited;
          invalid = invalid-so c before (read_as x.w) (is-sent.row before) bad;
          shown = shown;
          step = (exchange, memory ∙ x.memory, server ∙ met.memory ∙ x.served);
          unheard = unheard (sym known.1 ∙ (λ i. reverse_answer (awaited i) (none i)));
          last = ap (λ b. b && is_silent o.served) (bad-err a before (read_as x.w) o follows bad) ∙ ap (λ y. is_silent y) none;
        }
      where
        unheard : Some known.0 ≡ Some (Err (Of PartialMessage)) → known.0 ≡ Err (Of PartialMessage)
        unheard same = cc same

    -- what became of it
    pub back-joins : (result : Result DoneCall Halt) (s3 : Channel) (t3 : ChannelServer) → Returning x.awaited o.served known.0 failed s1 t2 result s3 t3 → Joins (input.Asks c, a) s0 t0 result s3 t3
    back-joins (Ok done) s3 t3 r = done-so done s3 t3 r
    back-joins (Err (halt.WantsMemory why)) s3 t3 r = r
    back-joins (Err halt.Silent) s3 t3 r = silent-so s3 t3 r

-- memory was refused before
pub send-halts : (c : ReverseCall PlainHandle) (a : Result ℕ IoError) (s0 s1 : Channel) (t0 t1 : ChannelServer) (h : Halt) → Crossing c s0 t0 (Err h) s1 t1 → Joins (input.Asks c, a) s0 t0 (Err h) s1 t1
send-halts c a s0 s1 t0 t1 (halt.WantsMemory why) x = x
send-halts c a s0 s1 t0 t1 halt.Silent x = absurd x

pub serve-halts : (c : ReverseCall PlainHandle) (a : Result ℕ IoError) (s0 s1 : Channel) (t0 t2 : ChannelServer) (m : Request) (before : Server) (h : Halt) → Meets m a before (Err h) t2 → Joins (input.Asks c, a) s0 t0 (Err h) s1 t2
serve-halts c a s0 s1 t0 t2 m before (halt.WantsMemory why) x = x
serve-halts c a s0 s1 t0 t2 m before halt.Silent x = absurd x

-- ---- a flag

module _ (on : Bool) (a : Result ℕ IoError) (s0 s1 : Channel) (t0 t1 : ChannelServer) (steps : AreInStep s0 t0) where
  -- what is on the way is as before
  after : (f : Feature) → Agrees f on s0 s1 → (asking.endpoint_of s1 ≡ asking.endpoint_of s0) → t1.outgoing ≡ t0.outgoing → core.endpoint_of t1.core ≡ core.endpoint_of t0.core → serving.has_call t1 ≡ serving.has_call t0 → t1.incoming ≡ t0.incoming
      → (asking.remembers s1).reply_ack ≡ (serving.remembers t1).reply_ack → (asking.remembers s1).failed ≡ (asking.remembers s0).failed → (serving.remembers t1).failed ≡ (serving.remembers t0).failed → AreInStep s1 t1
  after f agrees ends outgoing end idle incoming agree failed served = record {
    in_step = record {
      agree = agree;
      asks = failed ∙ steps.in_step.asks;
      serves = served ∙ steps.in_step.serves;
      no_request = (λ i. ((agrees.outgoing i).link.pending ++ (ends i).link.sent) ++ stream (end i)) ∙ steps.in_step.no_request;
      no_reply = (λ i. ((outgoing i).link.pending ++ (end i).link.sent) ++ stream (ends i)) ∙ steps.in_step.no_reply;
    };
    unasked = agrees.asked ∙ steps.unasked;
    idle = idle ∙ steps.idle;
    nothing_came = ap (λ (i : Incoming). i.count) incoming ∙ steps.nothing_came;
    sound = (ap {A = End} (λ e. e.broken) ends ∙ steps.sound.0, ap {A = End} (λ e. e.broken) end ∙ steps.sound.1);
    uncut = (ap {A = End} (λ e. e.link.script) ends ∙ steps.uncut.0, ap {A = End} (λ e. e.link.script) end ∙ steps.uncut.1);
  }

abbrev LinkChannel : Type 0
LinkChannel = link.Channel Ends PlainHandle

-- that of both
pub acknowledged : (f : Feature) → f ≡ feature.ReplyAck → (on : Bool) (a : Result ℕ IoError) (s0 s1 : Channel) (t0 t1 : ChannelServer) → AreInStep s0 t0 → Agrees f on s0 s1 → Acknowledges on t0 t1 → Joined (flag_in f on, a) s0 t0 (record { outcome = Ok tt; last = false }) s1 t1
acknowledged feature.ReplyAck is on a s0 s1 t0 t1 steps agrees says = record {
  shown = reverse_unsent (Ok 0);
  step = (refl, ap {A = LinkChannel} backend_of agrees.flag, says.memory, refl);
  answer = refl;
  last = refl;
  in_step = after on a s0 s1 t0 t1 steps feature.ReplyAck agrees (ap {A = LinkChannel} (λ k. k.endpoint) agrees.flag) says.outgoing says.end (ap (λ p. is_some p) says.pending) says.incoming
      (ap {A = LinkChannel} (λ k. k.reply_ack) agrees.flag ∙ sym (ap {A = Server} (λ k. k.reply_ack) says.memory)) (ap {A = LinkChannel} (λ k. k.failed) agrees.flag) (ap {A = Server} (λ k. k.failed) says.memory);
}
acknowledged feature.ConfigChange is on a s0 s1 t0 t1 steps agrees says = absurd (cc is)
acknowledged feature.SharedObject is on a s0 s1 t0 t1 steps agrees says = absurd (cc is)
acknowledged feature.Shmem is on a s0 s1 t0 t1 steps agrees says = absurd (cc is)

-- one of the device's alone
module _ (on : Bool) (a : Result ℕ IoError) (s0 s1 : Channel) (t : ChannelServer) (steps : AreInStep s0 t) where
  pub flagged : (f : Feature) → (f ≡ feature.ReplyAck → ⊥) → Agrees f on s0 s1 → Joined (flag_in f on, a) s0 t (record { outcome = Ok tt; last = false }) s1 t
  flagged feature.ReplyAck other agrees = absurd (other refl)
  flagged feature.ConfigChange other agrees = record {
    shown = reverse_unsent (Ok 0);
    step = (refl, ap {A = LinkChannel} backend_of agrees.flag, refl, refl);
    answer = refl;
    last = refl;
    in_step = after on a s0 s1 t t steps feature.ConfigChange agrees (ap {A = LinkChannel} (λ k. k.endpoint) agrees.flag) refl refl refl refl (ap {A = LinkChannel} (λ k. k.reply_ack) agrees.flag ∙ steps.in_step.agree) (ap {A = LinkChannel} (λ k. k.failed) agrees.flag) refl;
  }
  flagged feature.SharedObject other agrees = record {
    shown = reverse_unsent (Ok 0);
    step = (refl, ap {A = LinkChannel} backend_of agrees.flag, refl, refl);
    answer = refl;
    last = refl;
    in_step = after on a s0 s1 t t steps feature.SharedObject agrees (ap {A = LinkChannel} (λ k. k.endpoint) agrees.flag) refl refl refl refl (ap {A = LinkChannel} (λ k. k.reply_ack) agrees.flag ∙ steps.in_step.agree) (ap {A = LinkChannel} (λ k. k.failed) agrees.flag) refl;
  }
  flagged feature.Shmem other agrees = record {
    shown = reverse_unsent (Ok 0);
    step = (refl, ap {A = LinkChannel} backend_of agrees.flag, refl, refl);
    answer = refl;
    last = refl;
    in_step = after on a s0 s1 t t steps feature.Shmem agrees (ap {A = LinkChannel} (λ k. k.endpoint) agrees.flag) refl refl refl refl (ap {A = LinkChannel} (λ k. k.reply_ack) agrees.flag ∙ steps.in_step.agree) (ap {A = LinkChannel} (λ k. k.failed) agrees.flag) refl;
  }
