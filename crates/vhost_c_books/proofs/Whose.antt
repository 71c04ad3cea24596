-- What a call makes of a session, by its kind.
use Rattle.std.proofs.Common.{◌≡◌, ◌+◌, ℕ, ℤ, Bool, false, List, [], ◌∷◌, length, take, Result, Ok, Err, refl, sym, ap, subst, ◌∙◌, arith, length-append}
use Rattle.std.proofs.lemmas.List.{length-take-le}
use Rattle.std.specs.Prelude.{⊤}
use Rattle.vhost_c_common.proofs.Balancing.{abandons-times}
use Rattle.vhost_c_common.specs.Held.{Abandons, Gets, HandsLoose, claimable, held_times, let_go, times}
use Rattle.vhost_c_common.specs.declared.held.Held.{Held}
use Rattle.vhost_c_common.specs.declared.refusal.Refusal.{Refusal}
use Rattle.vhost_c_common.specs.declared.refusal.Refusal.TheVariants.{OtherAnswer, OtherCall}
use Rattle.vhost_c_frontend.specs.Session as session
use Rattle.vhost_c_frontend.specs.declared.session.Session.{Session}
use Rattle.vhost_c_channel.specs.Serving as serving
use Rattle.vhost_c_channel.specs.declared.asking.Channel as asker
use Rattle.vhost_c_channel.specs.declared.display.Display as display
use Rattle.vhost_c_channel.specs.declared.serving.ChannelServer.{ChannelServer}
use Rattle.vhost_c_books.proofs.Calling.{got, not-got, stays, still-none, unmoved, went}
use Rattle.vhost_c_books.proofs.Serving.{alike, serving-with}
use Rattle.vhost_c_books.specs.Books.{Claims, HandsOn, IsKept, IsServing, Moves, Receives, Serves, held_by}
use Rattle.vhost_c_books.specs.declared.any_session.AnySession.{AnySession}
use Rattle.vhost_c_books.specs.declared.any_session.AnySession.TheVariants.{Frontend, Channel, Server, Display}

-- these came, and those went
abbrev pub Goes : List ℤ → List ℤ → Held → Held → Type 0
Goes came went old new = (n : ℤ) → held_times n old + times n came ≡ held_times n new + times n went

module _ (old : AnySession) (came gone : List ℤ) where
  pub of-frontend : (s t : Session) → old ≡ Frontend s → Goes came gone s.held t.held → Moves came gone old (Frontend t)
  of-frontend s t is goes = subst (λ o. Moves came gone o (Frontend t)) (sym is) (record { kind = refl; held = goes; kept = tt })

  pub of-channel : (s t : asker.Channel) → old ≡ Channel s → (claimable s.held ≡ [] → claimable t.held ≡ []) → Goes came gone s.held t.held → IsKept old → Moves came gone old (Channel t)
  of-channel s t is none goes kept = subst (λ o. Moves came gone o (Channel t)) (sym is) (record { kind = refl; held = goes; kept = none (subst IsKept is kept) })

  pub of-display : (s t : display.Display) → old ≡ Display s → (claimable s.held ≡ [] → claimable t.held ≡ []) → Goes came gone s.held t.held → IsKept old → Moves came gone old (Display t)
  of-display s t is none goes kept = subst (λ o. Moves came gone o (Display t)) (sym is) (record { kind = refl; held = goes; kept = none (subst IsKept is kept) })

  pub of-server : (s t : ChannelServer) → old ≡ Server s → (IsServing s → IsServing t) → (IsServing s → Goes came gone s.held t.held) → IsKept old → Moves came gone old (Server t)
  of-server s t is serving goes kept = subst (λ o. Moves came gone o (Server t)) (sym is) (record { kind = refl; held = goes (subst IsKept is kept); kept = serving (subst IsKept is kept) })

-- ---- bytes come

module _ (old : AnySession) (fds : List ℤ) where
  pub got-frontend : (first : Bool) (s t : Session) (outcome : Result ⊤ Refusal) → old ≡ Frontend s → Gets fds first s.held outcome t.held → Receives fds old outcome (Frontend t)
  got-frontend first s t (Ok done) is x = of-frontend old fds [] s t is (got fds first s.held t.held x)
  got-frontend first s t (Err r) is x = of-frontend old [] [] s t is (not-got fds first s.held t.held r x)

  pub got-channel : (s t : asker.Channel) (outcome : Result ⊤ Refusal) → old ≡ Channel s → Gets fds false s.held outcome t.held → IsKept old → Receives fds old outcome (Channel t)
  got-channel s t (Ok done) is x kept = of-channel old fds [] s t is (still-none fds s.held t.held (Ok done) x) (got fds false s.held t.held x) kept
  got-channel s t (Err r) is x kept = of-channel old [] [] s t is (still-none fds s.held t.held (Err r) x) (not-got fds false s.held t.held r x) kept

  pub got-display : (s t : display.Display) (outcome : Result ⊤ Refusal) → old ≡ Display s → Gets fds false s.held outcome t.held → IsKept old → Receives fds old outcome (Display t)
  got-display s t (Ok done) is x kept = of-display old fds [] s t is (still-none fds s.held t.held (Ok done) x) (got fds false s.held t.held x) kept
  got-display s t (Err r) is x kept = of-display old [] [] s t is (still-none fds s.held t.held (Err r) x) (not-got fds false s.held t.held r x) kept

  pub got-server : (first : Bool) (s t : ChannelServer) (outcome : Result ⊤ Refusal) → old ≡ Server s → (IsServing s → IsServing t) → Gets fds first s.held outcome t.held → IsKept old → Receives fds old outcome (Server t)
  got-server first s t (Ok done) is serving x kept = of-server old fds [] s t is serving (λ was. got fds first s.held t.held x) kept
  got-server first s t (Err r) is serving x kept = of-server old [] [] s t is serving (λ was. not-got fds first s.held t.held r x) kept

-- ---- nothing happened

pub as-before : (old new : AnySession) → new ≡ old → IsKept old → Moves [] [] old new
as-before old new same kept = subst (λ o. Moves [] [] old o) (sym same) (record { kind = refl; held = λ n. refl; kept = kept })

-- ---- one is claimed

module _ (old : AnySession) (fd : ℤ) where
  pub claimed-frontend : (s t : Session) (outcome : Result ⊤ Refusal) → old ≡ Frontend s → session.Claiming fd s outcome t → Claims fd old outcome (Frontend t)
  claimed-frontend s t (Ok done) is x = of-frontend old [] (fd ∷ []) s t is (went fd s.held t.held x.1)
  claimed-frontend s t (Err OtherAnswer) is x = of-frontend old [] [] s t is (stays s.held t.held (unmoved s.held t.held (ap {A = Session} (λ k. k.held) x.1)))
  claimed-frontend s t (Err _) is x = absurd x

  pub claimed-server : (s t : ChannelServer) (outcome : Result ⊤ Refusal) → old ≡ Server s → serving.Claiming fd s outcome t → IsKept old → Claims fd old outcome (Server t)
  claimed-server s t (Ok done) is x kept = of-server old [] (fd ∷ []) s t is (serving-with s t x.2) (λ was. went fd s.held t.held x.1) kept
  claimed-server s t (Err OtherCall) is x kept = of-server old [] [] s t is (λ was. (alike s t x.1 was).serving) (λ was. stays s.held t.held (alike s t x.1 was).held) kept
  claimed-server s t (Err _) is x kept = absurd x

-- ---- some are handed out

hands-on : (old new : Held) (before : List ℤ) (n : ℕ) (after : List ℤ) → HandsLoose old before n after new → length after ≡ length before → length (let_go old) ≡ length (let_go new) + n
hands-on old new before n after x long =
    let all : length (let_go old) ≡ length (let_go new) + length (take n after) = ap length x.loose ∙ length-append (let_go new) (take n after) in
    let some : length (take n after) ≡ n = length-take-le n after (omega (arith, x.count, long)) in
    omega arith

module _ (old : AnySession) (before : List ℤ) (n : ℕ) (after : List ℤ) (long : length after ≡ length before) where
  pub hands-frontend : (s t : Session) → old ≡ Frontend s → HandsLoose s.held before n after t.held → HandsOn (length before) n old (Frontend t)
  hands-frontend s t is x = subst (λ o. HandsOn (length before) n o (Frontend t)) (sym is) (record { own = x.own; fewer = hands-on s.held t.held before n after x long; count = x.count })

  pub hands-channel : (s t : asker.Channel) → old ≡ Channel s → HandsLoose s.held before n after t.held → HandsOn (length before) n old (Channel t)
  hands-channel s t is x = subst (λ o. HandsOn (length before) n o (Channel t)) (sym is) (record { own = x.own; fewer = hands-on s.held t.held before n after x long; count = x.count })

  pub hands-server : (s t : ChannelServer) → old ≡ Server s → HandsLoose s.held before n after t.held → HandsOn (length before) n old (Server t)
  hands-server s t is x = subst (λ o. HandsOn (length before) n o (Server t)) (sym is) (record { own = x.own; fewer = hands-on s.held t.held before n after x long; count = x.count })

  pub hands-display : (s t : display.Display) → old ≡ Display s → HandsLoose s.held before n after t.held → HandsOn (length before) n old (Display t)
  hands-display s t is x = subst (λ o. HandsOn (length before) n o (Display t)) (sym is) (record { own = x.own; fewer = hands-on s.held t.held before n after x long; count = x.count })

-- ---- what is not whole is given up

pub gives-up-server : (old : AnySession) (s t : ChannelServer) → old ≡ Server s → Abandons (serving.has_call s) s.held t.held → t ≡ record s { held = t.held } → IsKept old → Moves [] [] old (Server t)
gives-up-server old s t is x same kept = of-server old [] [] s t is (serving-with s t same) (λ was. stays s.held t.held (λ n. abandons-times n (serving.has_call s) s.held t.held x)) kept

-- once a call was replied to
pub ends-server : (old : AnySession) (s u t : ChannelServer) → old ≡ Server s → (IsServing s → Serves s u) → Abandons (serving.has_call u) u.held t.held → t ≡ record u { held = t.held } → IsKept old → Moves [] [] old (Server t)
ends-server old s u t is replied x same kept =
    of-server old [] [] s t is (λ was. serving-with u t same (replied was).serving)
    (λ was. stays s.held t.held (λ n. abandons-times n (serving.has_call u) u.held t.held x ∙ (replied was).held n)) kept

-- what is so of a session of a kind
pub kept-of : (old new : AnySession) → old ≡ new → IsKept old → IsKept new
kept-of old new is kept = subst IsKept is kept

pub none-channel : (old : AnySession) (s : asker.Channel) → old ≡ Channel s → IsKept old → claimable (held_by old) ≡ []
none-channel old s is kept = ap (λ o. claimable (held_by o)) is ∙ kept-of old (Channel s) is kept

pub none-display : (old : AnySession) (s : display.Display) → old ≡ Display s → IsKept old → claimable (held_by old) ≡ []
none-display old s is kept = ap (λ o. claimable (held_by o)) is ∙ kept-of old (Display s) is kept

-- ---- other calls

pub calls-channel : (old : AnySession) (s t : asker.Channel) → old ≡ Channel s → t.held ≡ s.held → IsKept old → Moves [] [] old (Channel t)
calls-channel old s t is same kept = of-channel old [] [] s t is (λ none. ap {A = Held} claimable same ∙ none) (stays s.held t.held (unmoved s.held t.held same)) kept

pub calls-display : (old : AnySession) (s t : display.Display) → old ≡ Display s → t.held ≡ s.held → IsKept old → Moves [] [] old (Display t)
calls-display old s t is same kept = of-display old [] [] s t is (λ none. ap {A = Held} claimable same ∙ none) (stays s.held t.held (unmoved s.held t.held same)) kept

pub calls-server : (old : AnySession) (s t : ChannelServer) → old ≡ Server s → (IsServing s → Serves s t) → IsKept old → Moves [] [] old (Server t)
calls-server old s t is serves kept = of-server old [] [] s t is (λ was. (serves was).serving) (λ was. stays s.held t.held (serves was).held) kept
