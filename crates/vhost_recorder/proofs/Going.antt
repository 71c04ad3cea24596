-- Joined steps one after another, and one more.
use Rattle.std.proofs.Common.{◌≡◌, false, List, [], ◌∷◌, ◌++◌, refl, sym, ◌∙◌, subst}
use Rattle.vhost_protocol.specs.FrontendCall.{Frontend}
use Rattle.vhost_protocol.specs.Joined.{Shown, JoinedStep, JoinedRun}
use Rattle.vhost_protocol.specs.Session.{Session}
use Rattle.vhost_link.specs.declared.plain.PlainHandle.{PlainHandle}
use Rattle.vhost_joined.specs.Device.{Gives, opens_backend, opens_gpu}
use Rattle.vhost_recorder.specs.Kept.{Exchange, GoesFrom}

module _ {Dev : Type 0} (gives : Gives Dev) where
  abbrev Step : Frontend → Session → Dev → Exchange → Shown PlainHandle → Frontend → Session → Dev → Type 0
  Step f s d e shown g t mid = JoinedStep gives opens_backend opens_gpu f s d e.0 shown g t mid

  -- they are a run
  pub runs : (f : Frontend) (s : Session) (d : Dev) (es : List Exchange) (f' : Frontend) (s' : Session) (d' : Dev) → GoesFrom gives f s d es f' s' d' → JoinedRun gives opens_backend opens_gpu f s d es f' s' d'
  runs f s d [] f' s' d' r = r
  runs f s d (e ∷ es) f' s' d' (shown, g, t, mid, step, result, on, rest) = (shown, g, t, mid, step, result, (λ last. absurd (cc (sym on ∙ last))), runs g t mid es f' s' d' rest)

  module _ (f1 : Frontend) (s1 : Session) (d1 : Dev) (e : Exchange) (shown : Shown PlainHandle) (f2 : Frontend) (s2 : Session) (d2 : Dev) (step : Step f1 s1 d1 e shown f2 s2 d2) (result : shown.result ≡ e.1) where
    begun : (f : Frontend) (s : Session) (d : Dev) → (f1 ≡ f) × (s1 ≡ s) × (d1 ≡ d) → Step f s d e shown f2 s2 d2
    begun f s d (frontend, session, device) =
        subst (λ x. Step x s d e shown f2 s2 d2) frontend (subst (λ x. Step f1 x d e shown f2 s2 d2) session (subst (λ x. Step f1 s1 x e shown f2 s2 d2) device step))

    -- one more step, which may be the last
    pub runs-more : (f : Frontend) (s : Session) (d : Dev) (es : List Exchange) → GoesFrom gives f s d es f1 s1 d1 → JoinedRun gives opens_backend opens_gpu f s d (es ++ e ∷ []) f2 s2 d2
    runs-more f s d [] r = (shown, f2, s2, d2, begun f s d r, result, (λ last. refl), (refl, refl, refl))
    runs-more f s d (x ∷ es) (own, g, t, mid, first, same, on, rest) = (own, g, t, mid, first, same, (λ last. absurd (cc (sym on ∙ last))), runs-more g t mid es rest)

    -- one more step, which is not the last
    pub goes-more : (f : Frontend) (s : Session) (d : Dev) (es : List Exchange) → shown.last ≡ false → GoesFrom gives f s d es f1 s1 d1 → GoesFrom gives f s d (es ++ e ∷ []) f2 s2 d2
    goes-more f s d [] going r = (shown, f2, s2, d2, begun f s d r, result, going, (refl, refl, refl))
    goes-more f s d (x ∷ es) going (own, g, t, mid, first, same, on, rest) = (own, g, t, mid, first, same, on, goes-more g t mid es going rest)
