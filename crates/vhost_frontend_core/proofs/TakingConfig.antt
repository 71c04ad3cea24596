-- The half that takes the answer to GET_CONFIG.
use Rattle.std.proofs.Common.{◌≡◌, ℕ, ◌+◌, List, [], ◌∷◌, length, Bool, true, false, Option, Some, None, Result, Ok, Err, Vec, refl, sym, ap, subst, ◌∙◌, eqb-true}
use Rattle.std.specs.Prelude.{◌==◌, ◌&&◌}
use Rattle.std.specs.Global.{Global}
use Rattle.vhost_message.specs.declared.error.Error as declared
use Rattle.vhost_message.specs.declared.error.Error.TheVariants as code
use Rattle.vhost_message.specs.declared.records.config.VhostUserConfig.{VhostUserConfig}
use Rattle.vhost_message.specs.Bits.{has_bit}
use Rattle.vhost_message.specs.Header.{Header}
use Rattle.vhost_message.specs.Records.{config_of}
use Rattle.vhost_protocol.specs.AnswerTable.{Answered, answered, only_if, config_reply}
use Rattle.vhost_protocol.specs.Ask.{config}
use Rattle.vhost_protocol.specs.declared.asked.Awaited.TheVariants.{Reply}
use Rattle.vhost_protocol.specs.declared.asked.Shape.TheVariants as shape
use Rattle.vhost_protocol.specs.Error.{Error, InvalidMessage, seen}
use Rattle.vhost_protocol.specs.FrontendCall.{Frontend, GetConfig, ConfigOf, Value}
use Rattle.vhost_protocol.specs.ReplySplit.{Received}
use Rattle.vhost_protocol.specs.Stream.{has_some}
use Rattle.vhost_protocol.specs.Take.{config_cut, understood_config, take, answers}
use Rattle.vhost_link.specs.Law.{Event}
use Rattle.vhost_connection.specs.Talk.{State}
use Rattle.vhost_connection.specs.Hearing.{HearsReply}
use Rattle.vhost_frontend_core.specs.Taking.{Reads, Takes}
use Rattle.vhost_frontend_core.specs.Taking.Reads.{unread, read}
use Rattle.vhost_frontend_core.specs.Taking.Takes.{taken, stopped}
use Rattle.vhost_frontend_core.specs.TakingConfig.{is_part, is_reply_of, is_asked, RecvsConfig}
use Rattle.vhost_frontend_core.specs.TakingConfig.RecvsConfig.{came, unfit, crowded, bare, none, failed}
use Rattle.vhost_connection.proofs.Handed.{nonzero}
use Rattle.vhost_connection.proofs.Replies.{replies-by}

-- what the call answers
abbrev pub shown : {H : Type 0} → VhostUserConfig × Vec ℕ Global → Value H
shown part = ConfigOf part.0 part.1.items

last : (a b c : Bool) → (a && (b && c)) ≡ true → c ≡ true
last true true c e = e
last true false c e = absurd cc
last false b c e = absurd cc

module _ {H : Type 0} (offset size flags : ℕ) (sent : Header) (f : Frontend) (b : ℕ) (bs : List ℕ) where
  -- a reply without handles, by whether it is the part that was asked for
  told : (r : Received H) (c : Bool) → is_reply_of sent (length (b ∷ bs)) r ≡ true → r.handles ≡ [] → is_asked (config offset size flags) (length (b ∷ bs)) (config_of r.body) ≡ c
      → understood_config (GetConfig offset size flags (b ∷ bs)) sent f (Ok (Some r)) ≡ Some (answered f (only_if c InvalidMessage (ConfigOf (config_of r.body) r.payload)))
  told r c is alone part =
      let filled : length r.payload ≡ length (b ∷ bs) = eqb-true (length r.payload) (length (b ∷ bs)) (last (answers sent r.header) (r.header.size == 12 + length (b ∷ bs)) (length r.payload == length (b ∷ bs)) is) in
      let some : (length r.payload == 0) ≡ false = ap (λ n. n == 0) filled ∙ nonzero (length (b ∷ bs)) (λ e. absurd cc) in
      rw is (ap (λ hs. Some (answered f (config_reply (config offset size flags) (b ∷ bs) hs (config_of r.body) r.payload))) alone ∙ rw (part, no (config_of r.body).size (length r.payload == 0) some) refl)
    where
      no : (n : ℕ) (c : Bool) → c ≡ false → (n == 0 && c) ≡ false
      no n c e = go (n == 0) c e
        where
          go : (a c : Bool) → c ≡ false → (a && c) ≡ false
          go true c e = e
          go false c e = refl

module _ {L H : Type 0} {event : L → Event H → L → Type 0} (offset size flags : ℕ) {sent : Header} {f : Frontend} {old : State L H} where
  -- a request that was sent as a reply has none
  pub config-for-reply : (buffer : List ℕ) → has_bit sent.flags 2 ≡ true → Takes event (GetConfig offset size flags buffer) shown (Reply shape.Config) sent old f (Err code.InvalidParam) old f
  config-for-reply buffer reply = taken (unread (λ cells. rw reply refl))

  -- into an empty buffer nothing is read
  pub config-for-none : (buffer : List ℕ) → has_bit sent.flags 2 ≡ false → length buffer ≡ 0 → Takes event (GetConfig offset size flags buffer) shown (Reply shape.Config) sent old f (Err code.InvalidParam) old f
  config-for-none [] plain e = taken (unread (λ cells. rw plain refl))
  config-for-none (b ∷ buffer) plain e = absurd cc

  module _ (b : ℕ) (bs : List ℕ) (plain : has_bit sent.flags 2 ≡ false) {new : State L H} {f' : Frontend} (same_session : f' ≡ f) where
    hears-reply : (o : Result (Option (Received H)) Error) {x : Answered H} → HearsReply event (config_cut f.profile sent (length (b ∷ bs))) old o new → understood_config (GetConfig offset size flags (b ∷ bs)) sent f o ≡ Some x
        → Reads event (GetConfig offset size flags (b ∷ bs)) (Reply shape.Config) sent f old (Some x) new
    hears-reply o h e =
        read (subst (λ y. HearsReply event (take (GetConfig offset size flags (b ∷ bs)) (Reply shape.Config) sent f) old y new) e
        (replies-by (λ r. understood_config (GetConfig offset size flags (b ∷ bs)) sent f r) o (λ cells. rw plain refl) h))

    -- the part came
    taken-part : (part : VhostUserConfig) (v : Vec ℕ Global) (after : List ℕ) → RecvsConfig event f.profile (length (b ∷ bs)) old sent (Ok part) after new → v.items ≡ after → is_asked (config offset size flags) (length (b ∷ bs)) part ≡ true
        → Takes event (GetConfig offset size flags (b ∷ bs)) shown (Reply shape.Config) sent old f (Ok (part, v)) new f'
    taken-part part v after (came r h is alone is_part whole) full same =
        taken (hears-reply (Ok (Some r)) h (told offset size flags sent f b bs r true is alone (ap (λ (p : VhostUserConfig). is_asked (config offset size flags) (length (b ∷ bs)) p) (sym is_part) ∙ same)
        ∙ (λ j. Some (answered (sym same_session j) (Ok (ConfigOf (sym is_part j) (sym (full ∙ whole) j)))))))

    -- another part came
    refused-part : (part : VhostUserConfig) (after : List ℕ) → RecvsConfig event f.profile (length (b ∷ bs)) old sent (Ok part) after new → is_asked (config offset size flags) (length (b ∷ bs)) part ≡ false
        → Takes event (GetConfig offset size flags (b ∷ bs)) shown (Reply shape.Config) sent old f (Err code.InvalidMessage) new f'
    refused-part part after (came r h is alone is_part whole) same =
        taken (hears-reply (Ok (Some r)) h (told offset size flags sent f b bs r false is alone (ap (λ (p : VhostUserConfig). is_asked (config offset size flags) (length (b ∷ bs)) p) (sym is_part) ∙ same)
        ∙ ap (λ (g : Frontend). Some (answered g (Err InvalidMessage))) (sym same_session)))

    -- none came
    missing-part : (e : declared.Error) (after : List ℕ) → RecvsConfig event f.profile (length (b ∷ bs)) old sent (Err e) after new → Takes event (GetConfig offset size flags (b ∷ bs)) shown (Reply shape.Config) sent old f (Err e) new f'
    missing-part e after x = subst (λ (g : Frontend). Takes event (GetConfig offset size flags (b ∷ bs)) shown (Reply shape.Config) sent old f (Err e) new g) (sym same_session) (go e x)
      where
        many : (r : Received H) (hs : List H) → has_some hs ≡ true → ◌≡◌ {A = Option (Answered H)} (Some (answered f (config_reply (config offset size flags) (b ∷ bs) hs (config_of r.body) r.payload))) (Some (answered f (Err InvalidMessage)))
        many r [] e = absurd cc
        many r (h ∷ hs) e = refl

        go : (e : declared.Error) → RecvsConfig event f.profile (length (b ∷ bs)) old sent (Err e) after new → Takes event (GetConfig offset size flags (b ∷ bs)) shown (Reply shape.Config) sent old f (Err e) new f
        go e (unfit r h is) = taken (hears-reply (Ok (Some r)) h (rw is refl))
        go e (crowded r h is some) = taken (hears-reply (Ok (Some r)) h (rw is (many r r.handles some)))
        go e (bare h) = taken (hears-reply (Ok None) h refl)
        go e (none h) = taken (hears-reply (Err (seen e)) h refl)
        go e (failed x) = stopped x

  module _ (buffer : List ℕ) (plain : has_bit sent.flags 2 ≡ false) {new : State L H} {f' : Frontend} (same_session : f' ≡ f) (asked : VhostUserConfig) (count : ℕ) (after : List ℕ) (is_config : asked ≡ config offset size flags) where
    pub config-taken : (part : VhostUserConfig) (v : Vec ℕ Global) → count ≡ length buffer → (count ≡ 0 → ⊥) → RecvsConfig event f.profile count old sent (Ok part) after new → v.items ≡ after → is_asked asked count part ≡ true
        → Takes event (GetConfig offset size flags buffer) shown (Reply shape.Config) sent old f (Ok (part, v)) new f'
    config-taken part v e some x full same = go buffer e
      where
        go : (bs : List ℕ) → count ≡ length bs → Takes event (GetConfig offset size flags bs) shown (Reply shape.Config) sent old f (Ok (part, v)) new f'
        go [] e = absurd (some e)
        go (b ∷ bs) e = taken-part b bs plain same_session part v after (subst (λ n. RecvsConfig event f.profile n old sent (Ok part) after new) e x) full ((λ j. is_asked (sym is_config j) (sym e j) part) ∙ same)

    pub config-refused : (part : VhostUserConfig) → count ≡ length buffer → (count ≡ 0 → ⊥) → RecvsConfig event f.profile count old sent (Ok part) after new → is_asked asked count part ≡ false
        → Takes event (GetConfig offset size flags buffer) shown (Reply shape.Config) sent old f (Err code.InvalidMessage) new f'
    config-refused part e some x same = go buffer e
      where
        go : (bs : List ℕ) → count ≡ length bs → Takes event (GetConfig offset size flags bs) shown (Reply shape.Config) sent old f (Err code.InvalidMessage) new f'
        go [] e = absurd (some e)
        go (b ∷ bs) e = refused-part b bs plain same_session part after (subst (λ n. RecvsConfig event f.profile n old sent (Ok part) after new) e x) ((λ j. is_asked (sym is_config j) (sym e j) part) ∙ same)

    pub config-missing : (error : declared.Error) → count ≡ length buffer → (count ≡ 0 → ⊥) → RecvsConfig event f.profile count old sent (Err error) after new
        → Takes event (GetConfig offset size flags buffer) shown (Reply shape.Config) sent old f (Err error) new f'
    config-missing error e some x = go buffer e
      where
        go : (bs : List ℕ) → count ≡ length bs → Takes event (GetConfig offset size flags bs) shown (Reply shape.Config) sent old f (Err error) new f'
        go [] e = absurd (some e)
        go (b ∷ bs) e = missing-part b bs plain same_session error after (subst (λ n. RecvsConfig event f.profile n old sent (Err error) after new) e x)
