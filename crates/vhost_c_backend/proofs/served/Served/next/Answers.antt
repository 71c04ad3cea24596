use Rattle.std.proofs.Common.{◌≡◌, Option, Some, None, Result, Ok, Err, refl, sym, ap, ◌∙◌, ℤ}
use Rattle.std.specs.Prelude.{⊤}
use Rattle.vhost_message.specs.declared.error.Error as declared
use Rattle.vhost_link.specs.Ends.{Ends}
use Rattle.vhost_link.specs.declared.plain.PlainHandle.{PlainHandle}
use Rattle.vhost_connection.specs.Talk.{State}
use Rattle.vhost_c_common.specs.Carrying.{emptied}
use Rattle.vhost_c_backend.specs.Served.{remembers}
use Rattle.vhost_c_backend.proofs.Serving.{begins, read, is-due}
use Rattle.vhost_c_backend.proofs.served.Served.next.Goals as goal

pub returns-then-has_call : goal.returns-then-has_call
returns-then-has_call c = (sym c.has_call.ensures ∙ c.if-has_call.true, refl)

abbrev fine : Result ⊤ declared.Error
fine = Ok tt

-- a session that has ended answers no call
alive : (mark : Option ℤ) (e : ℤ → declared.Error) (P Q : Type 0) → ((n : ℤ) → mark ≡ Some n → (fine ≡ Err (e n)) × P × Q) → mark ≡ None
alive None e P Q ends = refl
alive (Some n) e P Q ends = absurd (cc (ends n refl).0)

pub returns-in-Some : goal.returns-in-Some
returns-in-Some c = (
  λ unmarked. begins c.talks_law.ensures.talks c.args.self.now _ _ (c.in-Ok.ensures.begun unmarked) refl c.new-self.ensures refl refl c.in-Some.ensures
      (is-due c.args.self.now _ (sym c.has_call.ensures ∙ c.if-has_call.false) c.missing_of_request.ensures.missing c.if-missing_of_request-gt0.false),
  λ n marked. absurd (cc (c.in-Ok.ensures.failed n marked).0),
)

pub returns-in-None : goal.returns-in-None
returns-in-None c =
    let unmarked = alive (remembers c.args.self.now).failed _ _ _ c.in-Ok.ensures.failed in
    absurd (cc (c.in-None.ensures (c.in-Ok.ensures.begun unmarked).reads.message (read c.args.self.now.core _ (c.in-Ok.ensures.begun unmarked))).1)

pub returns-in-Err : goal.returns-in-Err
returns-in-Err c = (
  λ unmarked. record {
    due = is-due c.args.self.now _ (sym c.has_call.ensures ∙ c.if-has_call.false) c.missing_of_request.ensures.missing c.if-missing_of_request-gt0.false;
    mid = c.begin.new.self;
    refuses = c.in-Err.ensures.refused unmarked;
    end = c.empty.ensures ∙ ap {A = State Ends PlainHandle} emptied c.endpoint_mut.ensures.value;
    memory = refl;
    outgoing = refl;
    idle = c.in-Err.ensures.none;
    nothing_came = c.new-self.ensures;
    inactive = c.feature_of-self.ensures;
    held = c.release.ensures;
  },
  λ n marked. record {
    is = cc (c.in-Err.ensures.failed n marked).0;
    end = c.empty.ensures ∙ ap {A = State Ends PlainHandle} emptied (c.endpoint_mut.ensures.value ∙ (c.in-Err.ensures.failed n marked).1);
    memory = (c.in-Err.ensures.failed n marked).2;
    outgoing = refl;
    idle = c.in-Err.ensures.none;
    nothing_came = c.new-self.ensures;
    held = c.release.ensures;
  },
)
