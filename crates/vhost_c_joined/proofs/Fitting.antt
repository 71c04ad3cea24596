-- What a device answers by a reply has the bits of its types.
use Rattle.std.proofs.Common.{◌≡◌, ◌<◌, ◌^◌, inl, inr, ℕ, true, false, List, [], ◌∷◌, All, Some, None, Ok, Err, sym, subst}
use Rattle.std.specs.Prelude.{⊤, IfSome}
use Rattle.std.proofs.lemmas.List.Elements.{All-head}
use Rattle.vhost_message.specs.declared.records.shmem.VhostUserShMemConfig.{VhostUserShMemConfig}
use Rattle.vhost_protocol.specs.DeviceCall.{Call, Answer}
use Rattle.vhost_protocol.specs.Heard.{AnswerFits}
use Rattle.vhost_link.specs.declared.plain.PlainHandle.{PlainHandle}
use Rattle.vhost_backend_req_handler_core.specs.Concluding.{bases_in, bytes_in}
use Rattle.vhost_backend_req_handler_core.specs.declared.answer.DeviceAnswer.{DeviceAnswer}
use Rattle.vhost_backend_req_handler_core.specs.declared.answer.DeviceAnswer.TheVariants as answer
use Rattle.vhost_backend_req_handler.specs.Sized.{AnswerSized}
use Rattle.vhost_backend_req_handler.proofs.Fitting.{answer_fits}
use Rattle.vhost_c_backend.specs.Replies.{Gives, only}
use Rattle.vhost_c_backend.specs.Serving.{Channel, Display}
use Rattle.vhost_c_backend.specs.declared.replies.Form.{Form}
use Rattle.vhost_c_backend.specs.declared.replies.Form.TheVariants as form
use Rattle.vhost_c_backend.specs.declared.replies.Reply.{Reply}
use Rattle.vhost_c_backend.specs.declared.replies.Reply.TheVariants as reply
use Rattle.vhost_c_joined.specs.Device.{Says, replies, IsSized}

abbrev Small : ℕ → Type 0
Small n = n < 2 ^ 64

module _ (place : VhostUserShMemConfig) where
  abbrev Sized : DeviceAnswer PlainHandle → Type 0
  Sized a = AnswerSized place a

  -- it is this answer
  is-sized : (a b : DeviceAnswer PlainHandle) → a ≡ b → Sized b → Sized a
  is-sized a b is sized = subst {A = DeviceAnswer PlainHandle} (λ x. Sized x) (sym is) sized

  only-small : (bases : List ℕ) → All Small bases → IfSome (only bases) Small
  only-small [] all = tt
  only-small (b ∷ []) all = All-head Small b [] all
  only-small (b ∷ c ∷ bases) all = tt

  bases-sized : (a : DeviceAnswer PlainHandle) (bases : List ℕ) → bases_in a ≡ Ok (Some bases) → All Small bases → Sized a
  bases-sized (answer.Bases (Ok (Some v))) bases is all = let same : v.items ≡ bases = cc is in record { number = tt; bases = subst (λ (xs : List ℕ). All Small xs) (sym same) all; base = tt; ring_state = tt; inflight = tt; shmem = tt }
  bases-sized (answer.Bases (Ok None)) bases is all = absurd (cc is)
  bases-sized (answer.Bases (Err e)) bases is all = absurd (cc is)
  bases-sized _ bases is all = absurd (cc is)

  bytes-sized : (a : DeviceAnswer PlainHandle) (bytes : List ℕ) → bytes_in a ≡ Ok bytes → Sized a
  bytes-sized (answer.Bytes r) bytes is = record { number = tt; bases = tt; base = tt; ring_state = tt; inflight = tt; shmem = tt }
  bytes-sized _ bytes is = absurd (cc is)

  given-sized : (f : Form) (r : Reply) (a : DeviceAnswer PlainHandle) → IsSized r → Gives f r a → Sized a
  given-sized f reply.Refused a sized gives = is-sized a _ gives (record { number = tt; bases = tt; base = tt; ring_state = tt; inflight = tt; shmem = tt })
  given-sized form.Done reply.Done a sized gives = is-sized a _ gives (record { number = tt; bases = tt; base = tt; ring_state = tt; inflight = tt; shmem = tt })
  given-sized (form.Table false) reply.Done a sized gives = is-sized a _ gives (record { number = tt; bases = tt; base = tt; ring_state = tt; inflight = tt; shmem = tt })
  given-sized (form.Region false) reply.Done a sized gives = is-sized a _ gives (record { number = tt; bases = tt; base = tt; ring_state = tt; inflight = tt; shmem = tt })
  given-sized form.Number (reply.Number n) a sized gives = is-sized a _ gives (record { number = sized; bases = tt; base = tt; ring_state = tt; inflight = tt; shmem = tt })
  given-sized form.Ring (reply.Ring i n) a sized gives = is-sized a _ gives (record { number = tt; bases = tt; base = tt; ring_state = sized; inflight = tt; shmem = tt })
  given-sized (form.Table true) (reply.Bases bs) a sized gives = bases-sized a bs.now gives sized
  given-sized (form.Region true) (reply.Bases bs) a sized gives = is-sized a _ gives (record { number = tt; bases = tt; base = only-small bs.now sized; ring_state = tt; inflight = tt; shmem = tt })
  given-sized form.Config (reply.Config bs) a sized gives = bytes-sized a bs.now gives
  given-sized form.Fd (reply.Fd fd) a sized gives = is-sized a _ gives.2 (record { number = tt; bases = tt; base = tt; ring_state = tt; inflight = tt; shmem = tt })
  given-sized form.StateFd (reply.Fd fd) a sized gives = is-sized a _ gives (record { number = tt; bases = tt; base = tt; ring_state = tt; inflight = tt; shmem = tt })
  given-sized form.Inflight (reply.Inflight i fd) a sized gives = is-sized a _ gives.2 (record { number = tt; bases = tt; base = tt; ring_state = tt; inflight = sized.0; shmem = tt })
  given-sized _ _ a sized gives = absurd gives

  said-sized : (f : Form) (r : Reply) (a : DeviceAnswer PlainHandle) → IsSized r → Says f r a → Sized a
  said-sized f r a sized (inl gives) = given-sized f r a sized gives
  said-sized f r a sized (inr other) = given-sized f reply.Refused a tt other.1

pub reply-fits : (r : Reply) → IsSized r → (d : ⊤) (c : Call PlainHandle Channel Display) (a : Answer c) (d' : ⊤) → replies r d c a d' → AnswerFits c a
reply-fits r sized d c a d' (x, says, b, is) = subst {A = Answer c} (λ y. AnswerFits c y) (sym is) (answer_fits c b x (said-sized b.shmem _ r x sized says))
