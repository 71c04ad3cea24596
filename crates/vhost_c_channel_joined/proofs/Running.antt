-- Joined calls one after another are a joined run of the protocol.
use Rattle.std.proofs.Common.{◌≡◌, ℕ, Bool, true, false, List, [], ◌∷◌, ◌++◌, ◌+◌, suc, append_assoc, length, map, Result, Err, refl, sym, ap, subst, ◌∙◌, arith}
use Rattle.vhost_message.specs.declared.error.Error as declared
use Rattle.vhost_message.specs.declared.error.Error.TheVariants.{OutOfMemory}
use Rattle.vhost_message.specs.declared.io_error.IoError as io
use Rattle.vhost_protocol.specs.IoError.{IoError, seen_io_result}
use Rattle.vhost_protocol.specs.Joined.{read_as}
use Rattle.vhost_protocol.specs.JoinedReverse as input
use Rattle.vhost_protocol.specs.JoinedReverse.{ReverseExchanges, ReverseInput, ReverseJoinedRun, ReverseJoinedStep, ReverseShown}
use Rattle.vhost_protocol.specs.Reverse as reverse
use Rattle.vhost_protocol.specs.Reverse.{Backend, Refused, Refuses, ReverseAsked, ReverseFollows, ReverseOutcome, ReverseStep, Sends, Server, reverse_ask, reverse_row}
use Rattle.vhost_link.specs.declared.plain.PlainHandle.{PlainHandle}
use Rattle.vhost_backend_req.specs.Halves.{input_of}
use Rattle.vhost_backend_req.specs.declared.call.ReverseCall as code
use Rattle.vhost_c_common.specs.Memory.{WantsMemory}
use Rattle.vhost_c_common.specs.View.{End}
use Rattle.vhost_c_common.specs.declared.refusal.Refusal.TheVariants.{Protocol}
use Rattle.vhost_c_channel.specs.Asking as asking
use Rattle.vhost_c_channel_joined.specs.Joined.{AllJoin, AreMade, AreInStep, Entry, InLockstep, Joined, Joins, JoinsBoth, Runs, UpTo, answers, any_answer, entries}
use Rattle.vhost_c_channel.specs.Serving as serving
use Rattle.vhost_c_channel.specs.declared.asking.Channel.{Channel}
use Rattle.vhost_c_channel_joined.specs.declared.joined.DoneCall.{DoneCall}
use Rattle.vhost_c_channel.specs.declared.serving.ChannelServer.{ChannelServer}
use Rattle.vhost_c_channel_joined.specs.declared.wire.Halt.{Halt}
use Rattle.vhost_c_channel_joined.specs.declared.wire.Halt.TheVariants as halt

abbrev Entries : Type 0
Entries = List Entry

-- ---- by some answer

module _ (e : Entry) where
  follows-any : (x : ReverseStep PlainHandle) (o : ReverseOutcome PlainHandle) → ReverseFollows (answers e) tt x o tt → ReverseFollows any_answer tt x o tt
  follows-any (Refused refusal) o f = f
  follows-any (reverse.Calls c next) o f = (f.0, tt, f.2)

  exchange-any : (s : Server) (x : ReverseAsked PlainHandle) (shown : ReverseShown PlainHandle) → ReverseExchanges (answers e) s tt x shown tt → ReverseExchanges any_answer s tt x shown tt
  exchange-any s (Refuses e) shown step = step
  exchange-any s (Sends w awaited) shown (o, follows, known, request, handled, reply, last) = (o, follows-any (reverse_row s (read_as w)) o follows, known, request, handled, reply, last)

  step-any : (b : Backend) (s : Server) (i : ReverseInput PlainHandle) (shown : ReverseShown PlainHandle) (b' : Backend) (s' : Server) → ReverseJoinedStep (answers e) b s tt i shown b' s' tt → ReverseJoinedStep any_answer b s tt i shown b' s' tt
  step-any b s (input.SetReplyAck on) shown b' s' step = step
  step-any b s (input.SetSharedObject on) shown b' s' step = step
  step-any b s (input.SetShmem on) shown b' s' step = step
  step-any b s (input.SetConfigChange on) shown b' s' step = step
  step-any b s (input.Asks c) shown b' s' step = (exchange-any s (reverse_ask b c) shown step.0, step.1, step.2)

-- ---- a run

abbrev Answered : Type 0
Answered = List (ReverseInput PlainHandle × Result ℕ IoError)

-- the answers of calls, which are a joined run
record Run (es : Entries) (s : Channel) (t : ChannelServer) (s' : Channel) (t' : ChannelServer) : Type 0 where
  results : Answered
  of_calls : map (λ a. a.0) results ≡ map (λ e. e.0) es
  run : ReverseJoinedRun any_answer (asking.remembers s) (serving.remembers t) tt results (asking.remembers s') (serving.remembers t') tt
  in_step : AreInStep s' t'

none-behind : (es : Entries) (stopped : Bool) (s : Channel) (t : ChannelServer) (stops : Bool) (s' : Channel) (t' : ChannelServer) → AllJoin es stopped s t stops s' t' → stopped ≡ true → es ≡ []
none-behind [] stopped s t stops s' t' all last = refl
none-behind (e ∷ es) true s t stops s' t' all last = absurd all
none-behind (e ∷ es) false s t stops s' t' all last = absurd (cc last)

no-answers : (es : Entries) (results : Answered) → map (λ a. a.0) results ≡ map (λ e. e.0) es → es ≡ [] → results ≡ []
no-answers es [] same none = refl
no-answers es (a ∷ results) same none = absurd (cc (same ∙ ap (λ (xs : Entries). map (λ e. e.0) xs) none))

runs : (es : Entries) (stopped : Bool) (s : Channel) (t : ChannelServer) (stops : Bool) (s' : Channel) (t' : ChannelServer) → AreInStep s t → AllJoin es stopped s t stops s' t' → Run es s t s' t'
runs [] stopped s t stops s' t' in-step (same, asker, server) = record {
  results = [];
  of_calls = refl;
  run = (ap {A = Channel} asking.remembers asker, ap {A = ChannelServer} serving.remembers server, refl);
  in_step = subst {A = Channel} (λ x. AreInStep x t') (sym asker) (subst {A = ChannelServer} (λ x. AreInStep s x) (sym server) in-step);
}
runs (e ∷ es) true s t stops s' t' in-step all = absurd all
runs (e ∷ es) false s t stops s' t' in-step (g, u, done, joined, all) =
    let rest : Run es g u s' t' = runs es done.last g u stops s' t' joined.in_step all in
    record {
      results = (e.0, joined.shown.result) ∷ rest.results;
      of_calls = ap (λ cs. e.0 ∷ cs) rest.of_calls;
      run = (
        joined.shown,
        asking.remembers g,
        serving.remembers u,
        tt,
        step-any e (asking.remembers s) (serving.remembers t) e.0 joined.shown (asking.remembers g) (serving.remembers u) joined.step,
        refl,
        λ last. no-answers es rest.results rest.of_calls (none-behind es done.last g u stops s' t' all (joined.last ∙ last)),
        rest.run,
      );
      in_step = rest.in_step;
    }

lockstep : (es : Entries) (s : Channel) (t : ChannelServer) (stops : Bool) (s' : Channel) (t' : ChannelServer) → AreInStep s t → AllJoin es false s t stops s' t' → InLockstep es s t stops s' t'
lockstep es s t stops s' t' in-step all =
    let r = runs es false s t stops s' t' in-step all in record { each = all; answers = r.results; of_calls = r.of_calls; run = r.run; in_step = r.in_step }

-- ---- one more

-- So much was done of all, and the run goes on.
pub record Going (all rest : Entries) (s0 : Channel) (t0 : ChannelServer) (s : Channel) (t : ChannelServer) : Type 0 where
  pub done : Entries
  pub is : all ≡ done ++ rest
  pub joined : AllJoin done false s0 t0 false s t
  pub in_step : AreInStep s t
  pub allowed : AreMade rest

pub begins : (all : Entries) (s : Channel) (t : ChannelServer) → AreInStep s t → AreMade all → Going all all s t s t
begins all s t in-step allowed = record { done = []; is = refl; joined = (refl, refl, refl); in_step = in-step; allowed = allowed }

joins-more : (before : Entries) (stopped : Bool) (e : Entry) (s0 : Channel) (t0 : ChannelServer) (s : Channel) (t : ChannelServer) (s' : Channel) (t' : ChannelServer) (done : DoneCall) → AllJoin before stopped s0 t0 false s t → Joined e s t done s' t' → AllJoin (before ++ e ∷ []) stopped s0 t0 done.last s' t'
joins-more [] true e s0 t0 s t s' t' done (same, asker, server) joined = absurd (cc same)
joins-more [] false e s0 t0 s t s' t' done (same, asker, server) joined =
    (s', t', done, subst {A = Channel} (λ x. Joined e x t0 done s' t') asker (subst {A = ChannelServer} (λ x. Joined e s x done s' t') server joined), (refl, refl, refl))
joins-more (first ∷ before) true e s0 t0 s t s' t' done all joined = absurd all
joins-more (first ∷ before) false e s0 t0 s t s' t' done (g, u, out, one, all) joined = (g, u, out, one, joins-more before out.last e g u s t s' t' done all joined)

pub goes-on : (all rest rest' : Entries) (e : Entry) (s0 : Channel) (t0 : ChannelServer) (s : Channel) (t : ChannelServer) (s' : Channel) (t' : ChannelServer) (done : DoneCall) → rest ≡ e ∷ rest' → done.last ≡ false → Going all rest s0 t0 s t → Joined e s t done s' t' → Going all rest' s0 t0 s' t'
goes-on all rest rest' e s0 t0 s t s' t' done next last g joined = record {
  done = g.done ++ e ∷ [];
  is = g.is ∙ ap (λ xs. g.done ++ xs) next ∙ sym (append_assoc g.done (e ∷ []) rest');
  joined = subst (λ b. AllJoin (g.done ++ e ∷ []) false s0 t0 b s' t') last (joins-more g.done false e s0 t0 s t s' t' done g.joined joined);
  in_step = joined.in_step;
  allowed = (subst (λ xs. AreMade xs) next g.allowed).1;
}

-- all were done
pub ends : (all rest : Entries) (s0 : Channel) (t0 : ChannelServer) (s : Channel) (t : ChannelServer) → AreInStep s0 t0 → rest ≡ [] → Going all rest s0 t0 s t → Runs all s0 t0 false rest s t
ends all rest s0 t0 s t in-step none g = record { before = g.done; all = g.is; lockstep = lockstep g.done s0 t0 false s t in-step g.joined; whole = λ goes. none }

-- the run stops
pub stops : (all rest rest' : Entries) (e : Entry) (s0 : Channel) (t0 : ChannelServer) (s : Channel) (t : ChannelServer) (s' : Channel) (t' : ChannelServer) (done : DoneCall) → AreInStep s0 t0 → rest ≡ e ∷ rest' → done.last ≡ true → Going all rest s0 t0 s t → Joined e s t done s' t' → Runs all s0 t0 true rest' s' t'
stops all rest rest' e s0 t0 s t s' t' done in-step next last g joined = record {
  before = g.done ++ e ∷ [];
  all = g.is ∙ ap (λ xs. g.done ++ xs) next ∙ sym (append_assoc g.done (e ∷ []) rest');
  lockstep = lockstep (g.done ++ e ∷ []) s0 t0 true s' t' in-step (subst (λ b. AllJoin (g.done ++ e ∷ []) false s0 t0 b s' t') last (joins-more g.done false e s0 t0 s t s' t' done g.joined joined));
  whole = λ goes. absurd (cc goes);
}

-- one was not done
pub halts : (all rest rest' : Entries) (e : Entry) (s0 : Channel) (t0 : ChannelServer) (s : Channel) (t : ChannelServer) (s' : Channel) (t' : ChannelServer) (h : Halt) → AreInStep s0 t0 → rest ≡ e ∷ rest' → Going all rest s0 t0 s t → Joins e s t (Err h) s' t' → UpTo all s0 t0 h rest' s' t'
halts all rest rest' e s0 t0 s t s' t' h in-step next g joined = record {
  before = g.done;
  entry = e;
  all = g.is ∙ ap (λ xs. g.done ++ xs) next;
  asker = s;
  server = t;
  lockstep = lockstep g.done s0 t0 false s t in-step g.joined;
  halts = joined;
}

-- ---- the next call

abbrev pub Calls : Type 0
Calls = List (code.ReverseCall PlainHandle × Result ℕ io.IoError)

pub next-entry : (cs rest : Calls) (c : code.ReverseCall PlainHandle × Result ℕ io.IoError) → cs ≡ c ∷ rest → entries cs ≡ (input_of c.0, seen_io_result c.1) ∷ entries rest
next-entry cs rest c is = ap entries is

pub none-left : (cs : Calls) → length cs ≡ 0 → entries cs ≡ []
none-left [] none = refl
none-left (c ∷ cs) none = absurd (omega arith)

pub one-less : (cs rest : Calls) (c : code.ReverseCall PlainHandle × Result ℕ io.IoError) (counter all : ℕ) → cs ≡ c ∷ rest → length cs + counter ≡ all → length rest + (counter + 1) ≡ all
one-less cs rest c counter all is both = let long : length cs ≡ suc (length rest) = ap (λ (xs : Calls). length xs) is in omega (arith, long, both)

-- ---- two new sessions

pub new-in-step : (s : Channel) (t : ChannelServer) → asking.IsNew s → serving.IsNew t → AreInStep s t
new-in-step s t asker server = record {
  in_step = record {
    agree = ap {A = Backend} (λ b. b.reply_ack) asker.memory ∙ sym (ap {A = Server} (λ k. k.reply_ack) server.memory);
    asks = ap {A = Backend} (λ b. b.failed) asker.memory;
    serves = ap {A = Server} (λ k. k.failed) server.memory;
    no_request = ap (λ xs. xs ++ serving.arrived t) asker.empty.queue ∙ server.empty.came;
    no_reply = ap (λ xs. xs ++ asking.arrived s) server.empty.queue ∙ asker.empty.came;
  };
  unasked = asker.asked;
  idle = server.idle;
  nothing_came = server.empty.count;
  sound = (ap {A = End} (λ e. e.broken) asker.empty.end, ap {A = End} (λ e. e.broken) server.empty.end);
  uncut = (ap {A = End} (λ e. e.link.script) asker.empty.end, ap {A = End} (λ e. e.link.script) server.empty.end);
}

pub no-memory : (e : declared.Error) → e ≡ OutOfMemory → WantsMemory (Protocol e)
no-memory e is = subst {A = declared.Error} (λ x. WantsMemory (Protocol x)) (sym is) tt

pub both-halt : (es left : Entries) (s : Channel) (t : ChannelServer) (s' : Channel) (t' : ChannelServer) (h : Halt) → asking.IsNew s → serving.IsNew t → UpTo es s t h left s' t' → JoinsBoth es (Err h) left
both-halt es left s t s' t' (halt.WantsMemory why) asker server upto = upto.halts
both-halt es left s t s' t' halt.Silent asker server upto = (s, t, asker, server, s', t', upto)
