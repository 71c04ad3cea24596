-- A recorded step keeps the log legal.
use Rattle.std.proofs.Common.{◌≡◌, ℕ, ◌+◌, ◌<◌, ◌&&◌, inl, inr, Bool, true, false, cond, List, [], ◌∷◌, ◌++◌, length, map, Option, Some, None, Result, Ok, Err, refl, sym, ◌∙◌, ap, subst, arith}
use Rattle.std.specs.Prelude.{not}
use Rattle.std.proofs.lemmas.List.{map-append, append-nil}
use Rattle.vhost_message.specs.Bits.{has_bit}
use Rattle.vhost_protocol.specs.Error.{Error}
use Rattle.vhost_protocol.specs.Features.{PROTOCOL_FEATURES}
use Rattle.vhost_protocol.specs.FrontendCall.{FrontendCall, GetFeatures, SetHdrFlags, Value, Number, Frontend, new_frontend}
use Rattle.vhost_protocol.specs.Joined.{Shown, JoinedRun}
use Rattle.vhost_protocol.specs.Log.{Entry, calls_of, AreNumbered, is_plain_call, is_same_bit, first_bit, offered_bit, plain_entries, kept_entries}
use Rattle.vhost_protocol.specs.Session.{Session, fresh}
use Rattle.vhost_link.specs.declared.plain.PlainHandle.{PlainHandle}
use Rattle.vhost_frontend_core.specs.declared.values.answer.FrontendAnswer.{FrontendAnswer}
use Rattle.vhost_frontend_core.specs.Values.{answer_of}
use Rattle.vhost_joined.specs.declared.halt.Halt.{Halt}
use Rattle.vhost_joined.specs.declared.halt.Halt.TheVariants as halt
use Rattle.vhost_joined.specs.declared.halt.Stop.TheVariants.{Table, Premise}
use Rattle.vhost_joined.specs.Device.{Gives, opens_backend, opens_gpu}
use Rattle.vhost_joined.specs.Joined.{View, IsReady, Keeps, Answers, Steps}
use Rattle.vhost_joined.specs.Lockstep.{IsPlain}
use Rattle.vhost_joined.proofs.Ready.{stays-shown}
use Rattle.vhost_recorder.specs.Recording.{Recording, is_broken, HasLegalLog, Appends}
use Rattle.vhost_recorder.specs.Kept.{Exchange, exchange, is_plain, are_plain, bit_after, Allows, GoesFrom, GoesOn, IsKept}
use Rattle.vhost_recorder.proofs.Logs.{numbered-more, bit-more, plain-more, kept-more, kept-all, kept-cut, but-last, no-shorter}
use Rattle.vhost_recorder.proofs.Going.{runs, runs-more, goes-more}

-- ---- one entry

and-true : (a b : Bool) → (a && b) ≡ true → (a ≡ true) × (b ≡ true)
and-true true b e = (refl, e)
and-true false b e = absurd (cc e)

not-true : (b : Bool) → not b ≡ true → b ≡ false
not-true true e = absurd (cc e)
not-true false e = refl

plain-of : (call : FrontendCall PlainHandle) → is_plain_call call ≡ true → IsPlain call
plain-of (SetHdrFlags flags) e = not-true (has_bit flags 2) e
plain-of _ e = tt

-- a bit that is allowed
chosen : (before : Option Bool) → (bit : Bool) × Allows before bit
chosen None = (false, tt)
chosen (Some b) = (b, refl)

allowed-before : (before now : Option Bool) (bit : Bool) → Allows (first_bit before now) bit → Allows before bit
allowed-before None now bit allows = tt
allowed-before (Some b) now bit allows = allows

same-bits : (b c : Bool) → cond b c (not c) ≡ true → c ≡ b
same-bits true c e = e
same-bits false c e = not-true c e

allowed-now : (before : Option Bool) (b bit : Bool) → is_same_bit before (Some b) ≡ true → Allows (first_bit before (Some b)) bit → b ≡ bit
allowed-now None b bit same allows = allows
allowed-now (Some c) b bit same allows = same-bits c b same ∙ allows

-- the answered features have the bit that is allowed
shows : (before : Option Bool) (bit : Bool) (call : FrontendCall PlainHandle) (shown : Shown PlainHandle) → is_same_bit before (offered_bit call shown.result) ≡ true → Allows (first_bit before (offered_bit call shown.result)) bit
    → (n : ℕ) → call ≡ GetFeatures → shown.result ≡ Ok (Number n) → has_bit n PROTOCOL_FEATURES ≡ bit
shows before bit call shown same allows n is answered =
    let offered : offered_bit call shown.result ≡ Some (has_bit n PROTOCOL_FEATURES) = ap (λ (c : FrontendCall PlainHandle). offered_bit c shown.result) is ∙ ap (λ (r : Result (Value PlainHandle) Error). offered_bit GetFeatures r) answered in
    allowed-now before (has_bit n PROTOCOL_FEATURES) bit (ap (λ o. is_same_bit before o) (sym offered) ∙ same) (subst (λ o. Allows (first_bit before o) bit) offered allows)

module _ {Dev : Type 0} (gives : Gives Dev) where
  abbrev Run : ℕ → Dev → List Exchange → Frontend → Session → Dev → Type 0
  Run queues opening es f s d = JoinedRun gives opens_backend opens_gpu (new_frontend queues) fresh opening es f s d

  module _ (old : Recording Dev) (e : Entry PlainHandle) (answer : FrontendAnswer) (w : View Dev) where
    -- the recording with one more entry
    abbrev more : Recording Dev
    more = record { joined = w; entries = old.entries ++ e ∷ []; queues = old.queues }

    module _ (answered : e.result ≡ answer_of answer) (step : Steps gives old.joined e.call (Ok answer) w) (serial : e.serial ≡ calls_of e.caller old.entries) (kept : IsKept gives old) where
      numbered : AreNumbered [] (old.entries ++ e ∷ [])
      numbered = numbered-more [] old.entries e kept.legal.numbered (serial ∙ none (calls_of e.caller old.entries))
        where
          none : (k : ℕ) → k ≡ calls_of {H = PlainHandle} e.caller [] + k
          none k = omega arith

      unbroken : is_broken old.joined.stopped ≡ false
      unbroken = ap is_broken step.0

      -- a log of which no more is kept than before
      legal-as : (opening : Dev) (f : Frontend) (s : Session) (d : Dev) (xs : List (Entry PlainHandle)) → Run old.queues opening (map exchange xs) f s d → length xs < length old.entries + 1
          → kept_entries (is_broken w.stopped) (old.entries ++ e ∷ []) ≡ xs → HasLegalLog gives more
      legal-as opening f s d xs run short same = record {
        numbered = numbered;
        opening = opening;
        frontend = f;
        session = s;
        device = d;
        run = subst (λ ys. Run old.queues opening (map exchange ys) f s d) (sym same) run;
        present = λ all. absurd (no-shorter old.entries e xs short (sym same ∙ all));
      }

      -- ---- an entry before it failed a premise

      module _ (some : are_plain None old.entries ≡ false) where
        as-before : (broken : Bool) → kept_entries broken (old.entries ++ e ∷ []) ≡ plain_entries None old.entries
        as-before true = ap (λ xs. plain_entries None xs) (but-last old.entries e)
        as-before false = (kept-cut None old.entries e some).0

        before-is : kept_entries (is_broken old.joined.stopped) old.entries ≡ plain_entries None old.entries
        before-is = ap (λ b. kept_entries b old.entries) unbroken

        kept-before : IsKept gives more
        kept-before = record {
          legal =
              legal-as kept.legal.opening kept.legal.frontend kept.legal.session kept.legal.device (plain_entries None old.entries)
              (subst (λ ys. Run old.queues kept.legal.opening (map exchange ys) kept.legal.frontend kept.legal.session kept.legal.device) before-is kept.legal.run)
              (let short = (kept-cut None old.entries e some).1 in omega (arith, short)) (as-before (is_broken w.stopped));
          goes_on = λ on all. absurd (cc (sym some ∙ (plain-more None old.entries e all).0));
        }

      -- ---- none did

      module _ (all : are_plain None old.entries ≡ true) where
        going : GoesOn gives old
        going = kept.goes_on step.0 all

        legal-here : kept_entries (is_broken w.stopped) (old.entries ++ e ∷ []) ≡ old.entries → HasLegalLog gives more
        legal-here same =
            legal-as going.opening old.joined.frontend old.joined.session old.joined.device old.entries (runs gives (new_frontend old.queues) fresh going.opening (map exchange old.entries) old.joined.frontend old.joined.session old.joined.device going.run)
            (omega arith) same

        -- a premise stopped the run
        broke : w.stopped ≡ Some Premise → IsKept gives more
        broke premise = record {
          legal = legal-here (ap (λ b. kept_entries b (old.entries ++ e ∷ [])) (ap is_broken premise) ∙ ap (λ xs. plain_entries None xs) (but-last old.entries e) ∙ kept-all None old.entries all);
          goes_on = λ on each. absurd (cc (sym premise ∙ on));
        }

        module _ (k : Keeps gives old.joined e.call (answer_of answer) w) where
          whole : is_broken w.stopped ≡ false
          whole = ap is_broken k.stopped ∙ go (k.shown.last)
            where
              go : (last : Bool) → is_broken (cond last (Some Table) None) ≡ false
              go true = refl
              go false = refl

          same-result : k.shown.result ≡ e.result
          same-result = sym k.answered ∙ sym answered

          kept-is : kept_entries (is_broken w.stopped) (old.entries ++ e ∷ []) ≡ old.entries ++ cond (is_plain (bit_after None old.entries) e) (e ∷ []) []
          kept-is = ap (λ b. kept_entries b (old.entries ++ e ∷ [])) whole ∙ kept-more None old.entries e all

          -- the entry fails a premise
          failed : is_plain (bit_after None old.entries) e ≡ false → IsKept gives more
          failed not = record {
            legal = legal-here (kept-is ∙ ap (λ b. old.entries ++ cond b (e ∷ []) []) not ∙ append-nil old.entries);
            goes_on = λ on each. absurd (cc (sym not ∙ (plain-more None old.entries e each).1));
          }

          on-last : w.stopped ≡ None → (last : Bool) → k.shown.last ≡ last → k.shown.last ≡ false
          on-last on false is = is
          on-last on true is = absurd (cc (sym on ∙ k.stopped ∙ ap (λ b. cond b (Some Table) None) is))

          module _ (plain : is_plain (bit_after None old.entries) e ≡ true) where
            split : (is_plain_call e.call ≡ true) × (is_same_bit (bit_after None old.entries) (offered_bit e.call e.result) ≡ true)
            split = and-true (is_plain_call e.call) (is_same_bit (bit_after None old.entries) (offered_bit e.call e.result)) plain

            ready : k.shown.last ≡ false → (bit : Bool) → Allows (bit_after None (old.entries ++ e ∷ [])) bit → IsReady bit w
            ready on bit allows =
                let now = subst (λ o. Allows o bit) (bit-more None old.entries e) allows in
                let was = going.ready bit (allowed-before (bit_after None old.entries) (offered_bit e.call e.result) bit now) in
                let still =
                stays-shown gives bit old.joined.frontend old.joined.session old.joined.device e.call (k.shown) w.frontend w.session w.device
                (shows (bit_after None old.entries) bit e.call (k.shown) (ap (λ (r : Result (Value PlainHandle) Error). is_same_bit (bit_after None old.entries) (offered_bit e.call r)) same-result ∙ split.1)
                (subst (λ (r : Result (Value PlainHandle) Error). Allows (first_bit (bit_after None old.entries) (offered_bit e.call r)) bit) (sym same-result) now))
                (plain-of e.call split.0) (was.plain, was.negotiates) k.step
                in
                record { in_step = k.in_step on; plain = still.0; negotiates = still.1 }

            listed : map exchange (old.entries ++ e ∷ []) ≡ map exchange old.entries ++ exchange e ∷ []
            listed = map-append exchange old.entries (e ∷ [])

            kept-whole : IsKept gives more
            kept-whole = record {
              legal = record {
                numbered = numbered;
                opening = going.opening;
                frontend = w.frontend;
                session = w.session;
                device = w.device;
                run =
                    subst (λ xs. Run old.queues going.opening (map exchange xs) w.frontend w.session w.device) (sym (kept-is ∙ ap (λ b. old.entries ++ cond b (e ∷ []) []) plain))
                    (subst (λ xs. Run old.queues going.opening xs w.frontend w.session w.device) (sym listed)
                    (runs-more gives old.joined.frontend old.joined.session old.joined.device (exchange e) (k.shown) w.frontend w.session w.device k.step same-result (new_frontend old.queues) fresh going.opening (map exchange old.entries) going.run));
                present = λ same. (refl, refl, refl);
              };
              goes_on = λ on each. record {
                opening = going.opening;
                run = subst (λ xs. GoesFrom gives (new_frontend old.queues) fresh going.opening xs w.frontend w.session w.device) (sym listed)
                    (goes-more gives old.joined.frontend old.joined.session old.joined.device (exchange e) (k.shown) w.frontend w.session w.device k.step same-result (new_frontend old.queues) fresh going.opening (map exchange old.entries)
                    (on-last on (k.shown.last) refl) going.run);
                ready = ready (on-last on (k.shown.last) refl);
              };
            }

          kept-kept : IsKept gives more
          kept-kept = go (is_plain (bit_after None old.entries) e) refl
            where
              go : (b : Bool) → is_plain (bit_after None old.entries) e ≡ b → IsKept gives more
              go true is = kept-whole is
              go false is = failed is

        kept-answered : IsKept gives more
        kept-answered = go (step.2 (chosen (bit_after None old.entries)).0 (going.ready (chosen (bit_after None old.entries)).0 (chosen (bit_after None old.entries)).1))
          where
            go : Answers gives old.joined e.call (answer_of answer) w → IsKept gives more
            go (inl k) = kept-kept k
            go (inr premise) = broke premise

      -- whatever came of the call
      pub kept-step : IsKept gives more
      kept-step = go (are_plain None old.entries) refl
        where
          go : (b : Bool) → are_plain None old.entries ≡ b → IsKept gives more
          go true is = kept-answered is
          go false is = kept-before is

-- ---- the code's steps

-- what one call is in a log
abbrev entry : (caller serial : ℕ) → FrontendCall PlainHandle → FrontendAnswer → Entry PlainHandle
entry caller serial call answer = record { caller = caller; serial = serial; call = call; result = answer_of answer }

module _ {Dev : Type 0} (gives : Gives Dev) (old : Recording Dev) (caller serial : ℕ) (kept asked : FrontendCall PlainHandle) (answer : FrontendAnswer) (w : View Dev) (items : List (Entry PlainHandle))
    (grown : items ≡ old.entries ++ entry caller serial kept answer ∷ []) (counted : serial ≡ calls_of caller old.entries) (same : kept ≡ asked) (step : Steps gives old.joined asked (Ok answer) w) where
  pub kept-recorded : IsKept gives old → IsKept gives (record { joined = w; entries = items; queues = old.queues })
  kept-recorded sound =
      subst (λ xs. IsKept gives (record { joined = w; entries = xs; queues = old.queues })) (sym grown)
      (kept-step gives old (entry caller serial kept answer) answer w refl (subst (λ (c : FrontendCall PlainHandle). Steps gives old.joined c (Ok answer) w) (sym same) step) counted sound)

  -- the receipt is the entry
  pub appends-recorded : (receipt : Entry PlainHandle) (shown : FrontendCall PlainHandle) (copy : FrontendAnswer) → receipt ≡ entry caller serial shown copy → shown ≡ asked → answer_of copy ≡ answer_of answer
      → Appends gives old caller asked receipt (record { joined = w; entries = items; queues = old.queues })
  appends-recorded receipt shown copy is call answered =
      let alike : receipt ≡ entry caller serial kept answer =
      is ∙ ap (λ (c : FrontendCall PlainHandle). entry caller serial c copy) (call ∙ sym same) ∙ ap (λ (r : Result (Value PlainHandle) Error). record { caller = caller; serial = serial; call = kept; result = r }) answered
      in
      record {
        entries = grown ∙ ap (λ (x : Entry PlainHandle). old.entries ++ x ∷ []) (sym alike);
        caller = ap (λ (x : Entry PlainHandle). x.caller) alike;
        serial = ap (λ (x : Entry PlainHandle). x.serial) alike ∙ counted;
        call = ap (λ (x : Entry PlainHandle). x.call) alike ∙ same;
        answer = answer;
        answered = ap (λ (x : Entry PlainHandle). x.result) alike;
        step = step;
        queues = refl;
      }

-- ---- a step that was not done

module _ {Dev : Type 0} (gives : Gives Dev) (old : Recording Dev) (call : FrontendCall PlainHandle) (w : View Dev) where
  but-lists : (lists : Bool) → IsKept gives old → IsKept gives (record old { joined = record old.joined { lists = lists } })
  but-lists lists kept = record {
    legal = kept.legal;
    goes_on = λ on plain. let g = kept.goes_on on plain in record {
      opening = g.opening;
      run = g.run;
      ready = λ bit allows. let r = g.ready bit allows in record { in_step = r.in_step; plain = r.plain; negotiates = r.negotiates };
    };
  }

  pub kept-halted : (h : Halt) → Steps gives old.joined call (Err h) w → IsKept gives old → IsKept gives (record old { joined = w })
  kept-halted halt.Stopped step kept = subst (λ v. IsKept gives (record old { joined = v })) (sym step.1) kept
  kept-halted halt.OutOfMemory step kept = subst (λ v. IsKept gives (record old { joined = v })) (sym step.1) (but-lists w.lists kept)

-- a recording that begins
pub kept-fresh : {Dev : Type 0} (gives : Gives Dev) (joined : View Dev) (queues : ℕ) → joined.frontend ≡ new_frontend queues → joined.session ≡ fresh → ((bit : Bool) → IsReady bit joined)
    → IsKept gives (record { joined = joined; entries = []; queues = queues })
kept-fresh gives joined queues frontend session ready = record {
  legal = record {
    numbered = tt;
    opening = joined.device;
    frontend = joined.frontend;
    session = joined.session;
    device = joined.device;
    run = go (is_broken joined.stopped);
    present = λ same. (refl, refl, refl);
  };
  goes_on = λ on all. record { opening = joined.device; run = (frontend, session, refl); ready = λ bit allows. ready bit };
}
  where
    go : (broken : Bool) → JoinedRun gives opens_backend opens_gpu (new_frontend queues) fresh joined.device (map exchange (kept_entries broken [])) joined.frontend joined.session joined.device
    go true = (frontend, session, refl)
    go false = (frontend, session, refl)
