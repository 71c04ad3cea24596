-- The example device behind a handler serves three requests.
use Rattle.std.proofs.Common.{◌≡◌, true, false, List, [], ◌∷◌, ◌++◌, Result, Ok, Err, refl, sym, ap, ◌∙◌, subst}
use Rattle.std.specs.Global.{Global}
use Rattle.std.specs.List.{list_any}
use Rattle.std.specs.Prelude.{⊤, IfOk, Vec, not, codes}
use Rattle.vhost_message.specs.HeardReq.{request_number}
use Rattle.vhost_message.specs.declared.error.Error as declared
use Rattle.vhost_message.specs.declared.heard_req.HeardReq.{HeardReq}
use Rattle.vhost_message.specs.declared.heard_req.HeardReq.TheVariants.{GET_FEATURES, SET_OWNER}
use Rattle.vhost_protocol.specs.Codes.{allows_handles}
use Rattle.vhost_protocol.specs.Error.{Error, InvalidOperation, seen_result}
use Rattle.vhost_protocol.specs.Handler.{MeetsRow}
use Rattle.vhost_protocol.specs.Run as run
use Rattle.vhost_protocol.specs.Served.{reply, cells_of}
use Rattle.vhost_protocol.specs.Session.{Session, fresh, heard_in}
use Rattle.vhost_protocol.specs.Split.{Message, split, split_after, split_body, body_outcome}
use Rattle.vhost_protocol.specs.Stream.{Cell, Item, plain}
use Rattle.vhost_link.specs.Mem.{event, HandsFront}
use Rattle.vhost_connection.specs.Memory.{stream, TalksLaw}
use Rattle.vhost_link.specs.declared.plain.PlainHandle.{PlainHandle}
use Rattle.vhost_dummy_backend.specs.Dummy.{DummyGives, Does, refusal}
use Rattle.vhost_backend_req_handler.specs.Serving.{fitting}
use Rattle.vhost_promises.specs.Example.{Device, owner_request, serving}
use Rattle.vhost_promises.specs.Runs.{WholeServed, answer_of_link}
use Rattle.vhost_promises.specs.Served.{ServesThree, features_reply, three_requests}
use Rattle.vhost_promises.specs.Streams.{Near}
use Rattle.vhost_promises.proofs.Claiming.{number_in, read}
use Rattle.vhost_promises.proofs.Known.{cuts, none-handed}

-- a message without a flag, a body or a handle
abbrev pub asks : HeardReq → Message HeardReq PlainHandle
asks r = record { request = r; reply = false; need_reply = false; body = []; handles = [] }

module _ {B G : Type 0} (opens_backend : PlainHandle → Result B Error → Type 0) (opens_gpu : PlainHandle → Result G Error → Type 0) where
  -- the device's relation: a handle is copied as it is
  abbrev pub Meets : Session → Device → Message HeardReq PlainHandle → Result ⊤ Error → List (Cell PlainHandle) → Session → Device → Type 0
  Meets = MeetsRow (fitting (DummyGives {B = B} {G = G} (λ handle copy. copy ≡ Ok handle))) opens_backend opens_gpu

  -- the features are answered
  features-row : (d d' : Device) (answer : Result ⊤ Error) (written : List (Cell PlainHandle)) (s' : Session) → Meets fresh d (asks GET_FEATURES) answer written s' d'
      → (answer ≡ Ok tt) × (written ≡ plain features_reply) × (s' ≡ serving) × (d' ≡ d)
  unfolding read number_in
  features-row d d' answer written s' (o, (told, (Ok n, ((is_a, same), fits), is_o), is_told), is_answer, is_written, is_s) =
      let now : o ≡ read 0x40000003 = is_told ∙ is_o ∙ ap read (ap number_in is_a) in (
        is_answer ∙ ap (λ x. x.answer) now,
        is_written ∙ ap (λ x. cells_of request_number (reply GET_FEATURES x.served)) now,
        is_s ∙ ap (λ x. x.session) now,
        same,
      )
  features-row d d' answer written s' (o, (told, (Err e, ((is_a, same), fits), is_o), is_told), is_answer, is_written, is_s) = absurd cc

  -- the device gets its owner, in silence
  owner-row : (d d' : Device) (answer : Result ⊤ Error) (written : List (Cell PlainHandle)) (s' : Session) → d.owned ≡ false → Meets serving d (asks SET_OWNER) answer written s' d'
      → (answer ≡ Ok tt) × (written ≡ []) × (s' ≡ serving) × (d' ≡ record d { owned = true })
  owner-row d d' answer written s' free (o, (told, (Ok u, (moved, fits), is_o), is_told), is_answer, is_written, is_s) =
      let (is_a, same) = subst (λ x. Does d (refusal ((not x, InvalidOperation (codes "already claimed")) ∷ [])) tt (record d { owned = true }) (Ok u) d') free moved in (
        is_answer ∙ ap (λ x. x.answer) (is_told ∙ is_o),
        is_written ∙ ap (λ x. cells_of request_number (reply SET_OWNER x.served)) (is_told ∙ is_o),
        is_s ∙ ap (λ x. x.session) (is_told ∙ is_o),
        same,
      )
  owner-row d d' answer written s' free (o, (told, (Err e, (moved, fits), is_o), is_told), is_answer, is_written, is_s) =
      let (is_a, same) = subst (λ x. Does d (refusal ((not x, InvalidOperation (codes "already claimed")) ∷ [])) tt (record d { owned = true }) (Err e) d') free moved in absurd cc

  -- it has one already, and refuses in silence
  again-row : (d d' : Device) (answer : Result ⊤ Error) (written : List (Cell PlainHandle)) (s' : Session) → d.owned ≡ true → Meets serving d (asks SET_OWNER) answer written s' d'
      → (answer ≡ Err (InvalidOperation (codes "already claimed"))) × (written ≡ []) × (s' ≡ serving) × (d' ≡ d)
  again-row d d' answer written s' owned (o, (told, (Err e, (moved, fits), is_o), is_told), is_answer, is_written, is_s) =
      let (is_a, same) = subst (λ x. Does d (refusal ((not x, InvalidOperation (codes "already claimed")) ∷ [])) tt (record d { owned = true }) (Err e) d') owned moved in (
        is_answer ∙ ap (λ x. x.answer) (is_told ∙ is_o) ∙ is_a,
        is_written ∙ ap (λ x. cells_of request_number (reply SET_OWNER x.served)) (is_told ∙ is_o),
        is_s ∙ ap (λ x. x.session) (is_told ∙ is_o),
        same,
      )
  again-row d d' answer written s' owned (o, (told, (Ok u, (moved, fits), is_o), is_told), is_answer, is_written, is_s) =
      let (is_a, same) = subst (λ x. Does d (refusal ((not x, InvalidOperation (codes "already claimed")) ∷ [])) tt (record d { owned = true }) (Ok u) d') owned moved in absurd cc

  -- ---- one call of a run

  -- The next message of the stream is this: it met its row, and the rest of the stream is left for the later calls.
  pub record Next (s : Session) (d : Device) (m : Message HeardReq PlainHandle) (answer : Result ⊤ Error) (written : List (Cell PlainHandle)) (s' : Session) (d' : Device) (rest : List (Cell PlainHandle)) (later : List (Item PlainHandle)) (left : List (Cell PlainHandle)) : Type 0 where
    pub meets : Meets s d m answer written s' d'
    pub hands : HandsFront rest later left

  pub next : (before left rest : List (Cell PlainHandle)) (m : Message HeardReq PlainHandle) (s s' : Session) (d d' : Device) (input now later : List (Item PlainHandle)) (answer : Result ⊤ Error) (written : List (Cell PlainHandle))
      → split (heard_in s) allows_handles before ≡ (Ok m, rest) → HandsFront before input left → input ≡ now ++ later
      → (heard : Result (Message HeardReq PlainHandle) Error) → run.Hears heard_in allows_handles (λ (t : Session). t.failed) Meets s now heard
      → run.Handles heard_in allows_handles (λ (t : Session). t.failed) Meets s d heard answer written s' d' → Next s d m answer written s' d' rest later left
  next before left rest m s s' d d' input now later answer written is hands parts heard (cells, ended, all, splits) handles =
      let c = cuts (split (heard_in s) allows_handles) cells ended heard before left later splits (subst (λ xs. HandsFront before xs left) (parts ∙ ap (λ xs. xs ++ later) all) hands) in
      let same = sym c.is ∙ is in
      record {
        meets = subst (λ h. run.Handles heard_in allows_handles (λ (t : Session). t.failed) Meets s d h answer written s' d') (ap (λ x. x.0) same) handles;
        hands = subst (λ xs. HandsFront xs later left) (ap (λ x. x.1) same) c.hands;
      }

  -- one call of a session that is not marked as failed
  abbrev pub Calls : Session → Device → List (Item PlainHandle) → Result ⊤ Error → List (Cell PlainHandle) → Session → Device → Type 0
  Calls = run.Serves heard_in allows_handles (λ (t : Session). t.failed) Meets

  -- ---- three of them

  three-of : (device now : Device) (s' : Session) (a b c : Result ⊤ Error) (before left : List (Cell PlainHandle)) (input : List (Item PlainHandle)) (written : List (Cell PlainHandle)) → device.owned ≡ false
      → before ≡ plain three_requests → HandsFront before input left → run.Run heard_in allows_handles (λ (t : Session). t.failed) Meets fresh device (a ∷ b ∷ c ∷ []) input written s' now
      → (a ≡ Ok tt) × (b ≡ Ok tt) × (c ≡ Err (InvalidOperation (codes "already claimed"))) × (written ≡ plain features_reply) × (left ≡ []) × (s' ≡ serving) × (now ≡ record device { owned = true })
  unfolding split split_after split_body body_outcome
  three-of device now s' a b c before left input written free is hands (n1, l1, w1, r1, s1, d1, (h1, hears1, handles1), in1, out1, (n2, l2, w2, r2, s2, d2, serves2, in2, out2, (n3, l3, w3, r3, s3, d3, serves3, in3, out3, (in4, out4, s4, d4)))) =
      let first = next before left (plain (owner_request ++ owner_request)) (asks GET_FEATURES) fresh s1 device d1 input n1 l1 a w1 (ap (split (heard_in fresh) allows_handles) is) hands in1 h1 hears1 handles1 in
      let (is_a, is_w1, is_s1, is_d1) = features-row device d1 a w1 s1 first.meets in
      let (h2, hears2, handles2) = subst (λ s. Calls s device n2 b w2 s2 d2) is_s1 (subst (λ d. Calls s1 d n2 b w2 s2 d2) is_d1 serves2) in
      let second = next (plain (owner_request ++ owner_request)) left (plain owner_request) (asks SET_OWNER) serving s2 device d2 l1 n2 l2 b w2 refl first.hands in2 h2 hears2 handles2 in
      let (is_b, is_w2, is_s2, is_d2) = owner-row device d2 b w2 s2 free second.meets in
      let (h3, hears3, handles3) = subst (λ s. Calls s (record device { owned = true }) n3 c w3 s3 d3) is_s2 (subst (λ d. Calls s2 d n3 c w3 s3 d3) is_d2 serves3) in
      let third = next (plain owner_request) left [] (asks SET_OWNER) serving s3 (record device { owned = true }) d3 l2 n3 l3 c w3 refl second.hands in3 h3 hears3 handles3 in
      let (is_c, is_w3, is_s3, is_d3) = again-row (record device { owned = true }) d3 c w3 s3 refl third.meets in (
        is_a,
        is_b,
        is_c,
        out1 ∙ ap (λ xs. xs ++ r1) is_w1 ∙ ap (λ xs. plain features_reply ++ xs) (out2 ∙ ap (λ xs. xs ++ r2) is_w2 ∙ out3 ∙ ap (λ xs. xs ++ r3) is_w3 ∙ out4),
        none-handed [] left (subst (λ xs. HandsFront [] xs left) in4 third.hands),
        s4 ∙ is_s3,
        d4 ∙ is_d3,
      )

  pub three : TalksLaw → (old new : Near) (device now : Device) (s s' : Session) (answers : List (Result ⊤ declared.Error)) → s ≡ fresh → device.owned ≡ false → stream old ≡ plain three_requests
      → WholeServed event (DummyGives {B = B} {G = G} (λ handle copy. copy ≡ Ok handle)) opens_backend opens_gpu old s device 3 answers new s' now → ServesThree device old answers new s' now
  three law old new device now s s' (a ∷ b ∷ c ∷ []) begins free is (count, w) =
      let (front, sent) = law old new w.move w.talks in
      let (is_a, is_b, is_c, is_w, none, is_s, is_d) = three-of device now s' (seen_result a) (seen_result b) (seen_result c) (stream old) (stream new) w.move.handed w.move.taken free is front
      (subst (λ t. run.Run heard_in allows_handles (λ (u : Session). u.failed) Meets t device (seen_result a ∷ seen_result b ∷ seen_result c ∷ []) w.move.handed w.move.taken s' now) begins w.run) in
      record {
        answered = λ i. is_a i ∷ is_b i ∷ is_c i ∷ [];
        written = sent ∙ ap (λ xs. old.link.sent ++ xs) is_w;
        left = none;
        session = is_s;
        owned = is_d;
      }
  three law old new device now s s' [] begins free is (count, w) = absurd cc
  three law old new device now s s' (a ∷ []) begins free is (count, w) = absurd cc
  three law old new device now s s' (a ∷ b ∷ []) begins free is (count, w) = absurd cc
  three law old new device now s s' (a ∷ b ∷ c ∷ d ∷ later) begins free is (count, w) = absurd cc

  -- by what a run answered
  pub serves : TalksLaw → (old new : Near) (device now : Device) (s s' : Session) (result : Result (Vec (Result ⊤ declared.Error) Global) declared.Error)
      → IfOk result (λ answers. list_any answer_of_link answers.items ≡ false → WholeServed event (DummyGives {B = B} {G = G} (λ handle copy. copy ≡ Ok handle)) opens_backend opens_gpu old s device 3 answers.items new s' now)
      → IfOk result (λ answers. s ≡ fresh → device.owned ≡ false → stream old ≡ plain three_requests → list_any answer_of_link answers.items ≡ false → ServesThree device old answers.items new s' now)
  serves law old new device now s s' (Err e) whole = tt
  serves law old new device now s s' (Ok answers) whole = λ begins free is sound. three law old new device now s s' answers.items begins free is (whole sound)
