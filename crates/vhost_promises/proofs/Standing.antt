-- The example device behind a handler under Standard: a request that nobody serves, and the session goes on.
use Rattle.std.proofs.Common.{◌≡◌, true, false, List, [], ◌∷◌, ◌++◌, replicate, Result, Ok, Err, refl, ap, ◌∙◌, subst}
use Rattle.std.proofs.lemmas.List.{append-nil}
use Rattle.std.specs.Global.{Global}
use Rattle.std.specs.List.{list_any}
use Rattle.std.specs.Prelude.{⊤, IfOk, Vec, not, codes}
use Rattle.vhost_message.specs.HeardReq.{request_number}
use Rattle.vhost_message.specs.declared.error.Error as declared
use Rattle.vhost_message.specs.declared.heard_req.HeardReq.{HeardReq}
use Rattle.vhost_message.specs.declared.heard_req.HeardReq.TheVariants.{SET_OWNER, OTHER}
use Rattle.vhost_protocol.specs.declared.profile.Profile.TheVariants.{Standard}
use Rattle.vhost_protocol.specs.Codes.{allows_handles}
use Rattle.vhost_protocol.specs.Error.{Error, InvalidOperation, seen_result}
use Rattle.vhost_protocol.specs.Run as run
use Rattle.vhost_protocol.specs.Served.{reply, cells_of}
use Rattle.vhost_protocol.specs.Session.{Session, fresh, heard_in}
use Rattle.vhost_protocol.specs.Settled.{settled}
use Rattle.vhost_protocol.specs.Step.{Outcome, with_ack}
use Rattle.vhost_protocol.specs.Split.{Message, split, split_after, split_body, body_outcome}
use Rattle.vhost_protocol.specs.Stream.{Cell, Item, plain}
use Rattle.vhost_link.specs.Mem.{event, HandsFront}
use Rattle.vhost_connection.specs.Memory.{stream, TalksLaw}
use Rattle.vhost_link.specs.declared.plain.PlainHandle.{PlainHandle}
use Rattle.vhost_dummy_backend.specs.Dummy.{DummyGives, Does, refusal}
use Rattle.vhost_promises.specs.Example.{Device, owner_request}
use Rattle.vhost_promises.specs.Runs.{WholeServed, answer_of_link}
use Rattle.vhost_promises.specs.Standard.{GoesOn, standing, two_requests}
use Rattle.vhost_promises.specs.Streams.{Near}
use Rattle.vhost_promises.proofs.Known.{none-handed}
use Rattle.vhost_promises.proofs.Serving.{Calls, Meets, asks, next}

-- the request of that number
abbrev unknown : Message HeardReq PlainHandle
unknown = record { request = OTHER 600; reply = false; need_reply = false; body = replicate 8 0; handles = [] }

module _ {B G : Type 0} (opens_backend : PlainHandle → Result B Error → Type 0) (opens_gpu : PlainHandle → Result G Error → Type 0) where
  -- the device refuses it
  unserved-row : (d d' : Device) (answer : Result ⊤ Error) (written : List (Cell PlainHandle)) (s' : Session) → Meets opens_backend opens_gpu standing d unknown answer written s' d'
      → (answer ≡ Err (InvalidOperation (codes "request not served"))) × (written ≡ []) × (s' ≡ standing) × (d' ≡ d)
  unserved-row d d' answer written s' (o, (told, (a, ((is_a, same), fits), is_o), is_told), is_answer, is_written, is_s) =
      let now = is_told ∙ ap (λ (x : Outcome PlainHandle). settled standing unknown x) (is_o ∙ ap (λ x. with_ack standing unknown x) is_a) in
      (is_answer ∙ ap (λ (x : Outcome PlainHandle). x.answer) now, is_written ∙ ap (λ (x : Outcome PlainHandle). cells_of request_number (reply (OTHER 600) x.served)) now, is_s ∙ ap (λ (x : Outcome PlainHandle). x.session) now, same)

  -- the device gets its owner, without a reply
  owner-row : (d d' : Device) (answer : Result ⊤ Error) (written : List (Cell PlainHandle)) (s' : Session) → d.owned ≡ false → Meets opens_backend opens_gpu standing d (asks SET_OWNER) answer written s' d'
      → (answer ≡ Ok tt) × (written ≡ []) × (s' ≡ standing) × (d' ≡ record d { owned = true })
  owner-row d d' answer written s' free (o, (told, (Ok u, (moved, fits), is_o), is_told), is_answer, is_written, is_s) =
      let now = is_told ∙ ap (λ (x : Outcome PlainHandle). settled standing (asks SET_OWNER) x) is_o in
      let (is_a, same) = subst (λ x. Does d (refusal ((not x, InvalidOperation (codes "already claimed")) ∷ [])) tt (record d { owned = true }) (Ok u) d') free moved in (
        is_answer ∙ ap (λ (x : Outcome PlainHandle). x.answer) now,
        is_written ∙ ap (λ (x : Outcome PlainHandle). cells_of request_number (reply SET_OWNER x.served)) now,
        is_s ∙ ap (λ (x : Outcome PlainHandle). x.session) now,
        same,
      )
  owner-row d d' answer written s' free (o, (told, (Err e, (moved, fits), is_o), is_told), is_answer, is_written, is_s) =
      let (is_a, same) = subst (λ x. Does d (refusal ((not x, InvalidOperation (codes "already claimed")) ∷ [])) tt (record d { owned = true }) (Err e) d') free moved in absurd cc

  -- both of them
  two-of : (device now : Device) (s' : Session) (a b : Result ⊤ Error) (before left : List (Cell PlainHandle)) (input : List (Item PlainHandle)) (written : List (Cell PlainHandle)) → device.owned ≡ false
      → before ≡ plain two_requests → HandsFront before input left → run.Run heard_in allows_handles (λ (t : Session). t.failed) (Meets opens_backend opens_gpu) standing device (a ∷ b ∷ []) input written s' now
      → (a ≡ Err (InvalidOperation (codes "request not served"))) × (b ≡ Ok tt) × (written ≡ []) × (left ≡ []) × (s' ≡ standing) × (now ≡ record device { owned = true })
  unfolding split split_after split_body body_outcome
  two-of device now s' a b before left input written free is hands (n1, l1, w1, r1, s1, d1, (h1, hears1, handles1), in1, out1, (n2, l2, w2, r2, s2, d2, serves2, in2, out2, (in3, out3, s3, d3))) =
      let first = next opens_backend opens_gpu before left (plain owner_request) unknown standing s1 device d1 input n1 l1 a w1 (ap (split (heard_in standing) allows_handles) is) hands in1 h1 hears1 handles1 in
      let (is_a, is_w1, is_s1, is_d1) = unserved-row device d1 a w1 s1 first.meets in
      let (h2, hears2, handles2) = subst (λ s. Calls opens_backend opens_gpu s device n2 b w2 s2 d2) is_s1 (subst (λ d. Calls opens_backend opens_gpu s1 d n2 b w2 s2 d2) is_d1 serves2) in
      let second = next opens_backend opens_gpu (plain owner_request) left [] (asks SET_OWNER) standing s2 device d2 l1 n2 l2 b w2 refl first.hands in2 h2 hears2 handles2 in
      let (is_b, is_w2, is_s2, is_d2) = owner-row device d2 b w2 s2 free second.meets in (
        is_a,
        is_b,
        out1 ∙ ap (λ xs. xs ++ r1) is_w1 ∙ (out2 ∙ ap (λ xs. xs ++ r2) is_w2 ∙ out3),
        none-handed [] left (subst (λ xs. HandsFront [] xs left) in3 second.hands),
        s3 ∙ is_s2,
        d3 ∙ is_d2,
      )

  two : TalksLaw → (old new : Near) (device now : Device) (s s' : Session) (answers : List (Result ⊤ declared.Error)) → s ≡ standing → device.owned ≡ false → stream old ≡ plain two_requests
      → WholeServed event (DummyGives {B = B} {G = G} (λ handle copy. copy ≡ Ok handle)) opens_backend opens_gpu old s device 2 answers new s' now → GoesOn device old answers new s' now
  two law old new device now s s' (a ∷ b ∷ []) begins free is (count, w) =
      let (front, sent) = law old new w.move w.talks in
      let (is_a, is_b, is_w, none, is_s, is_d) = two-of device now s' (seen_result a) (seen_result b) (stream old) (stream new) w.move.handed w.move.taken free is front
      (subst (λ t. run.Run heard_in allows_handles (λ (u : Session). u.failed) (Meets opens_backend opens_gpu) t device (seen_result a ∷ seen_result b ∷ []) w.move.handed w.move.taken s' now) begins w.run) in
      record {
        answered = λ i. is_a i ∷ is_b i ∷ [];
        written = sent ∙ ap (λ xs. old.link.sent ++ xs) is_w ∙ append-nil old.link.sent;
        left = none;
        session = is_s;
        owned = is_d;
      }
  two law old new device now s s' [] begins free is (count, w) = absurd cc
  two law old new device now s s' (a ∷ []) begins free is (count, w) = absurd cc
  two law old new device now s s' (a ∷ b ∷ c ∷ later) begins free is (count, w) = absurd cc

  -- by what a run answered, after a new session was set to Standard
  pub goes-on : TalksLaw → (old mid new : Near) (device now : Device) (first s s' : Session) (result : Result (Vec (Result ⊤ declared.Error) Global) declared.Error) → mid ≡ old → s ≡ record first { profile = Standard }
      → IfOk result (λ answers. list_any answer_of_link answers.items ≡ false → WholeServed event (DummyGives {B = B} {G = G} (λ handle copy. copy ≡ Ok handle)) opens_backend opens_gpu mid s device 2 answers.items new s' now)
      → IfOk result (λ answers. first ≡ fresh → device.owned ≡ false → stream old ≡ plain two_requests → list_any answer_of_link answers.items ≡ false → GoesOn device old answers.items new s' now)
  goes-on law old mid new device now first s s' (Err e) same set whole = tt
  goes-on law old mid new device now first s s' (Ok answers) same set whole = λ begins free is sound.
      subst (λ x. GoesOn device x answers.items new s' now) same
      (two law mid new device now s s' answers.items (set ∙ ap (λ (x : Session). record x { profile = Standard }) begins) free (ap (λ x. stream x) same ∙ is) (whole sound))
