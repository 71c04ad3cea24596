-- A reply goes out, or a fault stops it.
use Rattle.std.proofs.Common.{◌≡◌, ℕ, ◌<◌, ◌≤◌, false, ◌||◌, List, ◌++◌, length, take, Option, Some, None, Ok, Err, refl, sym, ◌∙◌, ap, subst, arith, length-append}
use Rattle.vhost_message.specs.declared.cause.IoCause.{IoCause}
use Rattle.vhost_message.specs.declared.error.Error.{Error}
use Rattle.vhost_message.specs.declared.error.Error.TheVariants.{SocketBroken}
use Rattle.vhost_message.specs.Cause.{is_retry, is_break, is_denial, error_of}
use Rattle.vhost_message.specs.Header.{Header, header_text}
use Rattle.vhost_message.specs.declared.limits.TheConstants.{MAX_MSG_SIZE, MAX_MSG_TEXT}
use Rattle.vhost_protocol.specs.Stream.{Cell, carrying}
use Rattle.vhost_link.specs.Law.{Event, Move}
use Rattle.vhost_link.proofs.Cells.{length-carrying}
use Rattle.vhost_connection.specs.Pass.{sends}
use Rattle.vhost_connection.specs.Talk as talk
use Rattle.vhost_connection.specs.Talk.{State, Trouble, has_moved}
use Rattle.vhost_connection.specs.Calls.{Sends}
use Rattle.vhost_connection.specs.State.{first_cause}
use Rattle.vhost_connection.specs.Hearing.{broken_on}
use Rattle.vhost_connection.specs.Requests as requests
use Rattle.vhost_connection.specs.Requests.{Stops, Tells, reply_text}
use Rattle.vhost_connection.proofs.Failing.{broken-socket, first-is}

module _ {L H : Type 0} (event : L → Event H → L → Type 0) where
  trouble-stops : (old mid : State L H) (cells : List (Cell H)) (n r : ℕ) (e : Error) → old.broken ≡ None → length cells ≤ MAX_MSG_TEXT → n < length cells
      → Trouble event old old.budget talk.Never false (sends (take n cells) r) e mid → Stops event old cells e (broken_on e mid)
  trouble-stops old mid cells n r e sound few short (talk.was_broken b m s) = absurd (cc (sound, b))
  trouble-stops old mid cells n r e sound few short (talk.no_memory g b l m s) = absurd (cc g)
  trouble-stops old mid cells n r e sound few short (talk.fault c b t none most spent breaks faulted kept) =
      let after : broken_on (error_of c) mid ≡ record mid { broken = Some c } = broken-socket c mid (is_retry c) (is_break c) (is_denial c)
      ∙ ap (λ (x : Option IoCause). record mid { broken = x }) (ap (λ (x : Option IoCause). first_cause x c) breaks ∙ first-is c (false || has_moved (sends (take n cells) r))) in
      let stops : Stops event old cells (error_of c) (record mid { broken = Some c }) = record {
        cause = c;
        error = refl;
        count = n;
        retries = r;
        fell = record {
          before = t.before;
          talks = record { below = t.talks.below; moved = t.talks.moved; handed = t.talks.handed; taken = t.talks.taken; retries = t.talks.retries; failures = t.talks.failures; budget = t.talks.budget };
          last = t.last;
        };
        before = b;
        within = most;
        spent = spent;
        short = short;
        few = few;
        broken = refl;
        faulted = faulted;
        list = kept.0;
      } in
      subst (λ (x : State L H). Stops event old cells (error_of c) x) (sym after) stops

  few-cells : (hs : List H) (g : Header) (text : List ℕ) → length text ≤ MAX_MSG_SIZE → length (carrying hs (header_text g ++ text)) ≤ MAX_MSG_TEXT
  few-cells hs g text small = rw (length-carrying hs (header_text g ++ text), length-append (header_text g) text) (omega (arith, small))

  -- the header that was sent is that of the text behind it
  same-text : {R : Type 0} (number : R → ℕ) (r : R) (hs : List H) (h : Header) (size : ℕ) (text : List ℕ) → h ≡ record { code = number r; flags = 5; size = size } → length text ≡ size
      → carrying hs (header_text h ++ text) ≡ reply_text number r hs text
  same-text number r hs h size text head len = rw (head, len) refl

  -- it went out
  pub reply-sent : {R : Type 0} (number : R → ℕ) (old new : State L H) (r : R) (hs : List H) (h : Header) (size : ℕ) (text : List ℕ) → h ≡ record { code = number r; flags = 5; size = size } → length text ≡ size
      → Sends event old (carrying hs (header_text h ++ text)) (Ok tt) new → Tells event old (reply_text number r hs text) (Ok tt) (Ok tt) new
  reply-sent number old new r hs h size text head len p =
      requests.whole refl (record { retries = p.0; serves = subst (λ x. talk.Serves event old old.budget (sends x p.0) new) (same-text number r hs h size text head len) p.1; list = p.2 })

  -- a fault stopped it
  pub reply-stopped : {R : Type 0} (number : R → ℕ) (old mid new : State L H) (r : R) (hs : List H) (h : Header) (size : ℕ) (text : List ℕ) (e : Error) → h ≡ record { code = number r; flags = 5; size = size } → length text ≡ size → size ≤ MAX_MSG_SIZE
      → old.broken ≡ None → Sends event old (carrying hs (header_text h ++ text)) (Err e) mid → new ≡ broken_on e mid → Tells event old (reply_text number r hs text) (Ok tt) (Err e) new
  reply-stopped number old mid new r hs h size text e head len small sound p after =
      let same = same-text number r hs h size text head len in
      let t = subst (λ x. Trouble event old old.budget talk.Never false (sends (take p.0 x) p.1) e mid) same p.2 in
      let short : p.0 < length (reply_text number r hs text) = subst (λ x. p.0 < length x) same (p.3 sound) in
      subst (λ x. Tells event old (reply_text number r hs text) (Ok tt) (Err e) x) (sym after)
      (requests.stopped (trouble-stops old mid (reply_text number r hs text) p.0 p.1 e sound (few-cells hs (record { code = number r; flags = 5; size = length text }) text (rw len small)) short t))

  was-broken : (old mid new : State L H) (m : Move H) (e : Error) (c : IoCause) → old.broken ≡ Some c → Trouble event old old.budget talk.Never false m e mid → new ≡ broken_on e mid
      → (e ≡ SocketBroken c) × (new ≡ record old { faulted = false })
  was-broken old mid new m e c b (talk.was_broken {c = d} k n s) after =
      let same : d ≡ c = cc (b, k) in (
        ap (λ x. SocketBroken x) same,
        after ∙ ap (λ (x : State L H). record x { broken = first_cause x.broken d }) s ∙ ap (λ (x : Option IoCause). record old { broken = first_cause x d; faulted = false }) k
            ∙ ap (λ (x : Option IoCause). record old { broken = x; faulted = false }) (sym k),
      )
  was-broken old mid new m e c b (talk.no_memory g k l n s) after = absurd (cc g)
  was-broken old mid new m e c b (talk.fault d k t none most spent breaks faulted kept) after = absurd (cc (b, k))

  -- the endpoint was broken before
  pub reply-broken : (old mid new : State L H) (text : List (Cell H)) (e : Error) (c : IoCause) → old.broken ≡ Some c → Sends event old text (Err e) mid → new ≡ broken_on e mid
      → (e ≡ SocketBroken c) × (new ≡ record old { faulted = false })
  reply-broken old mid new text e c b p after = was-broken old mid new (sends (take p.0 text) p.1) e c b p.2 after

  -- so it can't be sent
  pub reply-unsent : (old mid : State L H) (text : List (Cell H)) (c : IoCause) → old.broken ≡ Some c → Sends event old text (Ok tt) mid → ⊥
  reply-unsent old mid text c b p = absurd (cc (b, p.1.before))
