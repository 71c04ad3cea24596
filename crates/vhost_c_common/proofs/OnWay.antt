-- What goes between an endpoint's link and its caller.
use Rattle.std.proofs.Common.{◌≡◌, ◌≤◌, ◌==◌, ℕ, ℤ, List, [], ◌∷◌, ◌++◌, append_assoc, length, map, take, true, Some, Result, Ok, Err, OnOk, OnErr, IsOk, refl, sym, ap, ◌∙◌, arith}
use Rattle.std.specs.Prelude.{⊤}
use Rattle.std.proofs.lemmas.Bool.Decides.{nat_tests}
use Rattle.std.proofs.lemmas.List.{append-nil}
use Rattle.vhost_message.specs.declared.error.Error.{Error}
use Rattle.vhost_link.specs.declared.plain.PlainHandle.{PlainHandle}
use Rattle.vhost_link.specs.Ends.{Ends, Carried}
use Rattle.vhost_protocol.specs.Stream.{Cell, carrying, has_some, plain}
use Rattle.vhost_link.proofs.Cells.{plain-is}
use Rattle.vhost_connection.specs.Memory.{stream}
use Rattle.vhost_connection.specs.Talk.{State}
use Rattle.vhost_c_common.specs.Carrying.{Collects, Gives, emptied}
use Rattle.vhost_c_common.specs.Incoming.{Adds}
use Rattle.vhost_c_common.specs.Records.{handle_in}
use Rattle.vhost_c_common.specs.Moving.{HandsOut}
use Rattle.vhost_c_common.specs.View.{End, Hands, Receives, StaysSound, bare, view_of}
use Rattle.vhost_c_common.specs.declared.incoming.Incoming.{Incoming}
use Rattle.vhost_c_common.specs.declared.outgoing.Outgoing.{Outgoing}

module _ (end : State Ends PlainHandle) (l l' : Ends) (at_l : l ≡ end.link) where
  pub collects : (m m' : Ends) → Carried l m l' m' → Collects end (record end { link = l' }) m.pending m'.pending
  collects m m' c = record {
    given = ap {A = Ends} (λ k. record end { link = k }) (c.given ∙ ap {A = Ends} (λ k. record k { sent = [] }) at_l);
    got = ap {A = Ends} (λ k. k.pending) c.got ∙ ap {A = Ends} (λ k. m.pending ++ k.sent) at_l;
  }

  pub pushes : (cells : List (Cell PlainHandle)) → l' ≡ record l { pending = l.pending ++ cells } → record end { link = l' } ≡ record end { link = record end.link { pending = end.link.pending ++ cells } }
  pushes cells is = ap {A = Ends} (λ k. record end { link = k }) (is ∙ ap {A = Ends} (λ k. record k { pending = k.pending ++ cells }) at_l)

-- two lists without an element
pub empty-parts : {A : Type 0} (xs ys : List A) → xs ++ ys ≡ [] → (xs ≡ []) × (ys ≡ [])
empty-parts [] ys none = (refl, none)
empty-parts (x ∷ xs) ys none = absurd (cc none)

-- a list with one
pub some-waits : {A : Type 0} (xs : List A) → ¬ (xs ≡ []) → has_some xs ≡ true
some-waits [] some = absurd (some refl)
some-waits (x ∷ xs) some = refl

-- what was served is served of an end that was as sound
pub sound-since : {old mid new : End} → mid.broken ≡ old.broken → mid.link.script ≡ old.link.script → StaysSound mid new → StaysSound old new
sound-since broken script s = record { before = sym broken ∙ s.before; after = s.after; uncut = λ uncut. s.uncut (script ∙ uncut) }

-- what holds at an Ok holds where there is one
pub on-ok : {A E : Type 0} {P : Type 0} (result : Result A E) → IsOk result → OnOk result P → P
on-ok (Ok a) is p = p
on-ok (Err e) is p = cc

-- ---- what comes

module _ (old mid new : End) (handles : List PlainHandle) (bytes : List ℕ) (same : mid ≡ old) where
  -- past the link, where nothing waits there
  pub gives-ahead : handles ≡ [] → old.link.pending ≡ [] → new ≡ record mid { ahead = mid.ahead ++ plain bytes } → Gives handles bytes old new
  gives-ahead bare none is = record {
    came = ap {A = End} stream (is ∙ (λ i. record (same i) { ahead = (same i).ahead ++ plain bytes }))
        ∙ ap (λ cells. (old.ahead ++ plain bytes) ++ cells) none ∙ append-nil (old.ahead ++ plain bytes)
        ∙ sym (ap (λ cells. (old.ahead ++ cells) ++ carrying handles bytes) none ∙ ap (λ cells. cells ++ carrying handles bytes) (append-nil old.ahead)
        ∙ ap (λ hs. old.ahead ++ carrying hs bytes) bare ∙ ap (λ cells. old.ahead ++ cells) (plain-is bytes));
    rest = ap {A = End} emptied is ∙ ap {A = End} emptied same;
  }

  -- by the link
  pub gives-link : new ≡ record mid { link = record mid.link { pending = mid.link.pending ++ carrying handles bytes } } → Gives handles bytes old new
  gives-link is = record {
    came = ap {A = End} stream (is ∙ (λ i. record (same i) { link = record (same i).link { pending = (same i).link.pending ++ carrying handles bytes } }))
        ∙ sym (append_assoc old.ahead old.link.pending (carrying handles bytes));
    rest = ap {A = End} emptied is ∙ ap {A = End} emptied same;
  }

  pub given-link : (result : Result ⊤ Error) → OnOk result (new ≡ record mid { link = record mid.link { pending = mid.link.pending ++ carrying handles bytes } }) → OnOk result (Gives handles bytes old new)
  given-link (Ok u) is = gives-link is
  given-link (Err e) is = is

  pub refused-link : (result : Result ⊤ Error) → OnErr result (new ≡ mid) → OnErr result (new ≡ old)
  refused-link (Ok u) is = is
  refused-link (Err e) is = is ∙ same

-- nothing waits where there is no cell
pub no-cell : (cells : List (Cell PlainHandle)) → true ≡ (length cells == 0) → cells ≡ []
no-cell [] is = refl
no-cell (c ∷ cells) is = absurd (grind (arith, nat_tests, is))

-- what a session received by an end that was given it
pub received : {R : Type 0} (missing : ℕ) (bytes : List ℕ) (fds : List ℤ) (handles : List PlainHandle) (out : Outgoing) (old new : End) (i i' : Incoming) (rest : R) → length bytes ≤ missing → map handle_in fds ≡ map Some handles
    → Gives handles bytes old new → Adds bytes i i' → Receives missing bytes fds (view_of out old i rest) (Ok tt) (view_of out new i' rest)
received missing bytes fds handles out old new i i' rest few of_fds g adds = (
  few,
  record { handles = handles; of_fds = of_fds; got = g.came },
  adds,
  record {
    queue = ap {A = End} (λ e. out.link.pending ++ e.link.sent) g.rest;
    end = ap {A = End} (λ e. record e { link = record e.link { sent = [] } }) g.rest;
    rest = refl;
  },
)

-- ---- what goes out

-- what an end sent was handed out, where nothing was to be sent before it
pub handed : {R : Type 0} (out out' : Outgoing) (old new : End) (i : Incoming) (rest : R) (bytes : List ℕ) (fds : List ℤ) (n : ℕ × ℕ) → out.link.pending ≡ [] → out'.link ≡ out.link → HandsOut old.link.sent new.link.sent bytes fds n
    → new ≡ record old { link = record old.link { sent = new.link.sent } } → HandsOut (out.link.pending ++ old.link.sent) (out'.link.pending ++ new.link.sent) bytes fds n × Hands (view_of out old i rest) (view_of out' new i rest)
handed out out' old new i rest bytes fds n none same h is =
    let none' : out'.link.pending ≡ [] = ap {A = Ends} (λ l. l.pending) same ∙ none in (
      record {
        handles = h.handles;
        fits = h.fits;
        piece = ap (λ cells. cells ++ old.link.sent) none ∙ h.piece ∙ ap (λ cells. carrying h.handles (take n.0 bytes) ++ (cells ++ new.link.sent)) (sym none');
        fds_at = h.fds_at;
        fd_count = h.fd_count;
        end = λ zero. ap (λ cells. cells ++ old.link.sent) none ∙ h.end zero;
      },
      record {
        came = ap {A = End} stream is;
        incoming = refl;
        end = ap {A = End} bare is;
        rest = refl;
      },
    )
