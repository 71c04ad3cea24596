-- A reply with configuration bytes comes in, or a bare one.
use Rattle.std.proofs.Common.{◌≡◌, ℕ, ◌+◌, ◌<◌, ◌≤◌, List, [], ◌∷◌, ◌++◌, length, take, drop, refl, sym, ap, ◌∙◌, arith, lit≤, Bool, true, false, ◌&&◌, Option, Some, None, Result, Ok, Err, Vec, eqb-true, inl, inr}
use Rattle.std.specs.Prelude.{not, is_some, nat_lt, ◌==◌}
use Rattle.std.specs.Global.{Global}
use Rattle.std.proofs.lemmas.List.{drop_all, drop_at, length-append, length-drop, append-nil}
use Rattle.vhost_message.specs.declared.error.Error as declared
use Rattle.vhost_message.specs.declared.error.Error.TheVariants as code
use Rattle.vhost_message.specs.declared.heard_req.HeardReq.{HeardReq}
use Rattle.vhost_message.specs.declared.header.VhostUserMsgHeader.{VhostUserMsgHeader}
use Rattle.vhost_message.specs.declared.records.config.VhostUserConfig.{VhostUserConfig}
use Rattle.vhost_message.specs.HeardReq.{request_of}
use Rattle.vhost_message.specs.Header.{Header, header_of, is_valid_header, is_reply_for}
use Rattle.vhost_message.specs.MsgHeader.{fields_of, of_fields}
use Rattle.vhost_message.specs.Records.{config_of}
use Rattle.vhost_message.specs.Text.{number_at}
use Rattle.vhost_message.specs.Valid.{is_valid_config}
use Rattle.vhost_protocol.specs.Stream.{Cell, bytes, first_handles, has_some, items}
use Rattle.vhost_protocol.specs.Error.{Error, PartialMessage, InvalidMessage}
use Rattle.vhost_protocol.specs.ReplySplit.{Received, is_bare_reply, not_bare, bare_or_reply}
use Rattle.vhost_protocol.specs.Split.{Splits}
use Rattle.vhost_protocol.specs.declared.profile.Profile.{Profile}
use Rattle.vhost_protocol.specs.declared.profile.Profile.TheVariants.{Vhost}
use Rattle.vhost_protocol.specs.Take.{is_known, answers, config_cut}
use Rattle.vhost_protocol.proofs.ReplyLaws.{bare-rest}
use Rattle.vhost_protocol.proofs.SplitLaws.{le-shorter, lt-shorter, one-more}
use Rattle.vhost_link.specs.Law.{Event}
use Rattle.vhost_link.proofs.Cells.{length-bytes}
use Rattle.vhost_connection.specs.Pass.{receives}
use Rattle.vhost_connection.specs.Talk.{State, IfSound}
use Rattle.vhost_connection.specs.Came.{Came, Alone}
use Rattle.vhost_connection.specs.Calls.{IsNoMessage, is_sound}
use Rattle.vhost_connection.specs.Calls.IsNoMessage.{too_few, not_valid}
use Rattle.vhost_connection.specs.Bare.{is_bare, ReadsOrBare}
use Rattle.vhost_connection.specs.Hearing.{HearsReply, broken_on}
use Rattle.vhost_connection.specs.Whole.ReadsNone.{ended, refused, short}
use Rattle.vhost_connection.proofs.Came.{came-all, came-ended}
use Rattle.vhost_connection.proofs.Bare.{bare-front}
use Rattle.vhost_connection.proofs.Failing.{trouble-breaks}
use Rattle.vhost_frontend_core.specs.Taking.{reply_cut}
use Rattle.vhost_frontend_core.specs.TakingConfig.{is_reply_of, ReadsBytes, RecvsConfig}
use Rattle.vhost_frontend_core.specs.TakingConfig.RecvsConfig.{came, unfit, crowded, bare, none, failed}
use Rattle.vhost_connection.proofs.Handed.{hands-none, hands-some}
use Rattle.vhost_connection.proofs.Replies.{known-is, reply_in, outcome, splits, is-whole, is-invalid}

abbrev valid : List ℕ → Bool
valid bs = is_valid_config (config_of bs)

-- a reply that is not bare
abbrev some_reply : {H : Type 0} → Result (Received H) Error → Result (Option (Received H)) Error
some_reply (Ok r) = Ok (Some r)
some_reply (Err e) = Err e

whole-is : {H : Type 0} (o : Result (Received H) Error) (rest : List (Cell H)) → not_bare is_known (o, rest) ≡ (some_reply o, rest)
whole-is (Ok r) rest = refl
whole-is (Err e) rest = refl

module _ {H : Type 0} (sent : Header) (room : ℕ) where
  -- the definitions' test of a header is the code's
  bare-as : (cs : List (Cell H)) → is_bare_reply is_known (answers sent) cs ≡ is_bare request_of sent cs
  bare-as cs =
      let h = header_of (bytes (take 12 cs)) in
      ap (λ (b : Bool). b && answers sent h && h.size == 12 && not (has_some (first_handles cs)) && number_at 4 4 (bytes (take 12 (drop 12 cs))) == 0) (known-is request_of h)

  long : (cs rest : List (Cell H)) → 24 ≤ length cs → 24 ≤ length (cs ++ rest)
  long cs rest le = omega (arith, length-append cs rest)

  -- header and record decide whether it is bare, whatever follows
  config-whole : (cs rest left : List (Cell H)) (o : Result (Received H) Error) → 24 ≤ length cs → is_bare request_of sent cs ≡ false → reply_cut Vhost 12 valid room (cs ++ rest) ≡ (o, left) → config_cut Vhost sent room (cs ++ rest) ≡ (some_reply o, left)
  unfolding bare_or_reply
  config-whole cs rest left o le no_bare is =
      let far = le-shorter 24 (cs ++ rest) (long cs rest le) in
      let same : is_bare_reply is_known (answers sent) (cs ++ rest) ≡ false = bare-as (cs ++ rest) ∙ bare-front request_of sent cs rest le ∙ no_bare in
      rw (far, same, is) (whole-is o left)

  config-bare : (cs rest : List (Cell H)) → length cs ≡ 24 → is_bare request_of sent cs ≡ true → config_cut Vhost sent room (cs ++ rest) ≡ (Ok None, rest)
  unfolding bare_or_reply
  config-bare cs rest len is =
      let le : 24 ≤ length cs = omega (arith, len) in
      let far = le-shorter 24 (cs ++ rest) (long cs rest le) in
      let same : is_bare_reply is_known (answers sent) (cs ++ rest) ≡ true = bare-as (cs ++ rest) ∙ bare-front request_of sent cs rest le ∙ is in
      rw (far, same, drop_at cs rest 24 len) refl

  config-short : (cs : List (Cell H)) → length cs < 24 → Splits (config_cut Vhost sent room) cs true (Err PartialMessage)
  unfolding bare_or_reply
  config-short cs few = (
    rw (lt-shorter 24 cs few) refl,
    λ next. bare-rest is_known (answers sent) valid room (cs ++ next ∷ []) (let most = one-more 24 cs next few in omega (arith, most)),
  )

  config-splits : (cs : List (Cell H)) (ended : Bool) (o : Result (Received H) Error) → 24 ≤ length cs → is_bare request_of sent cs ≡ false → Splits (reply_cut Vhost 12 valid room) cs ended o → Splits (config_cut Vhost sent room) cs ended (some_reply o)
  config-splits cs true o le no_bare s = (
    ap (config_cut Vhost sent room) (sym (append-nil cs)) ∙ config-whole cs [] [] o le no_bare (ap (reply_cut Vhost 12 valid room) (append-nil cs) ∙ s.0),
    λ next. let all = cs ++ next ∷ [] in ap (λ x. x.1) (config-whole cs (next ∷ []) (reply_cut Vhost 12 valid room all).1 (reply_cut Vhost 12 valid room all).0 le no_bare refl) ∙ s.1 next,
  )
  config-splits cs false o le no_bare s = λ rest. config-whole cs rest rest o le no_bare (s rest)

module _ {L H : Type 0} (event : L → Event H → L → Type 0) (sent : Header) (old : State L H) (before : List ℕ) where
  -- ---- by the profile Vhost

  config-came : (new : State L H) (cs : List (Cell H)) (o : Result (Received H) Error) {list : Bool} → Came event old Alone (24 + length before) cs list new → (has_some (first_handles cs) ≡ false → list ≡ true) → 24 ≤ length cs → outcome is_known 12 (length before) valid cs ≡ o
      → is_bare request_of sent cs ≡ false → HearsReply event (config_cut Vhost sent (length before)) old (some_reply o) new
  config-came new cs o m kept whole is no_bare = record {
    hears = record {
      cells = cs;
      ended = nat_lt (length cs) (24 + length before);
      retries = m.retries;
      serves = m.serves;
      splits = config-splits sent (length before) cs (nat_lt (length cs) (24 + length before)) o whole no_bare (splits is_known 12 (length before) valid cs o whole m.within is);
    };
    list = λ none_came. m.listed ∙ kept none_came;
  }

  -- there is none
  none-read : (new : State L H) (after : List ℕ) (e : declared.Error) → ReadsOrBare event request_of sent old before (Err e) after new → ReadsBytes event Vhost sent old before (Err e) after new
  none-read new after e ((cs, room, inr f), no_bare) = short (24 + length before) cs f
  none-read new after e ((cs, room, inl (m, bad)), no_bare) = go e bad
    where
      go : (y : declared.Error) → IsNoMessage 24 (is_sound (λ bs. of_fields (header_of bs)) (λ (h : VhostUserMsgHeader HeardReq). is_some (request_of (fields_of h).code) && is_valid_header (fields_of h)) 12 config_of is_valid_config) cs y
          → ReadsBytes event Vhost sent old before (Err y) after new
      go y (too_few few) = ended (record { hears = record { cells = cs; ended = true; retries = m.retries; serves = came-ended m (omega (arith, few)); splits = config-short sent (length before) cs few }; list = λ _. m.listed }) m.listed
      go y (not_valid whole wrong) =
          refused (config-came new cs (Err InvalidMessage) m (λ _. refl) whole (is-invalid is_known 12 (length before) valid cs (ap (λ b. b && valid (take 12 (drop 12 (bytes cs)))) (known-is request_of (header_of (take 12 (bytes cs)))) ∙ wrong)) (no_bare whole)) m.listed

  reply-read : (new : State L H) (after : List ℕ) (h : VhostUserMsgHeader HeardReq) (part : VhostUserConfig) (n : ℕ) (hs : Option (Vec H Global)) → ReadsOrBare event request_of sent old before (Ok (Some (h, part, n, hs))) after new
      → ReadsBytes event Vhost sent old before (Ok (Some (h, part, n, hs))) after new
  unfolding reply_in
  reply-read new after h part n hs ((cs, room, (m, (count, (is_h, ok, is_part, ok_part, over)))), no_bare) =
      let head = ap (λ (x : VhostUserMsgHeader HeardReq). fields_of x) is_h in
      let len : length (drop 24 (bytes cs)) ≡ n = length-drop 24 (bytes cs) ∙ omega (arith, length-bytes cs, count) in (
        reply_in is_known 12 (length before) valid cs,
        config-came new cs (Ok (reply_in is_known 12 (length before) valid cs)) m (λ none_came. ap not none_came) (omega (arith, count)) (is-whole is_known 12 (length before) valid cs (known-is request_of (header_of (take 12 (bytes cs))) ∙ ap (λ (x : Header). is_some (request_of x.code) && is_valid_header x) (sym head) ∙ ok) (ap is_valid_config (sym is_part) ∙ ok_part)) no_bare,
        sym head,
        is_part,
        sym len,
        room ∙ ap (λ k. drop 24 (bytes cs) ++ drop k before) (omega (arith, count)),
        over,
      )

  -- a reply that may be bare is one that may have none
  pub bytes-or-bare : (new : State L H) (after : List ℕ) (result : Result (Option (VhostUserMsgHeader HeardReq × VhostUserConfig × ℕ × Option (Vec H Global))) declared.Error)
      → ReadsOrBare event request_of sent old before result after new → ReadsBytes event Vhost sent old before result after new
  bytes-or-bare new after (Ok None) (cs, m, len, is, room) =
      record { hears = record { cells = cs; ended = false; retries = m.retries; serves = came-all m (omega (arith, len)); splits = λ rest. config-bare sent (length before) cs rest len is }; list = λ _. m.listed }
  bytes-or-bare new after (Ok (Some x)) p = reply-read new after x.0 x.1 x.2 x.3 p
  bytes-or-bare new after (Err e) p = none-read new after e p

  -- ---- by either profile

  module _ (profile : Profile) where
    -- there are no such bytes
    pub config-none : (new : State L H) (after : List ℕ) → ReadsBytes event profile sent old before (Ok None) after new → RecvsConfig event profile (length before) old sent (Err code.BackendInternalError) after new
    config-none new after h = bare h

    -- there is no reply
    pub config-fails : (new : State L H) (after : List ℕ) (e : declared.Error) → ReadsBytes event profile sent old before (Err e) after new → RecvsConfig event profile (length before) old sent (Err e) after (broken_on e new)
    config-fails new after e (ended h listed) = none h
    config-fails new after e (refused h listed) = none h
    config-fails new after e (short len cs f) = failed (trouble-breaks event old IfSound false (receives (items cs) f.retries) e new f.trouble refl (lit≤ tt))

    -- the test of a reply, as the code makes it
    abbrev pub whole_test : VhostUserMsgHeader HeardReq → ℕ → Bool
    whole_test h n = is_reply_for request_of (fields_of h) sent && ((fields_of h).size == 12 + length before && n == length before)

    module _ (new : State L H) (after : List ℕ) (h : VhostUserMsgHeader HeardReq) (part : VhostUserConfig) (n : ℕ) (hs : Option (Vec H Global)) (x : ReadsBytes event profile sent old before (Ok (Some (h, part, n, hs))) after new) where
      test-is : is_reply_of sent (length before) x.0 ≡ whole_test h n
      test-is j = is_reply_for request_of (x.2 j) sent && ((x.2 j).size == 12 + length before && sym x.4 j == length before)

      -- another reply came
      pub config-unfit : whole_test h n ≡ false → RecvsConfig event profile (length before) old sent (Err code.InvalidMessage) after new
      config-unfit e = unfit x.0 x.1 (test-is ∙ e)

      -- handles came with it
      pub config-crowded : whole_test h n ≡ true → is_some hs ≡ true → RecvsConfig event profile (length before) old sent (Err code.InvalidMessage) after new
      config-crowded e many = crowded x.0 x.1 (test-is ∙ e) (hands-some hs x.0.handles x.6 many)

      -- it came
      pub config-comes : whole_test h n ≡ true → is_some hs ≡ false → RecvsConfig event profile (length before) old sent (Ok part) after new
      config-comes e alone =
          let filled : n ≡ length before = eqb-true n (length before) (last (is_reply_for request_of (fields_of h) sent) ((fields_of h).size == 12 + length before) (n == length before) e) in
          came x.0 x.1 (test-is ∙ e) (hands-none hs x.0.handles x.6 alone) x.3 (x.5 ∙ ap (λ bs. x.0.payload ++ bs) (drop_all n before (omega (arith, filled))) ∙ append-nil x.0.payload)
        where
          last : (a b c : Bool) → (a && (b && c)) ≡ true → c ≡ true
          last true true c e = e
          last true false c e = absurd cc
          last false b c e = absurd cc
