use Rattle.std.proofs.Common.{◌≡◌, [], refl, ◌∙◌}
use Rattle.vhost_message.specs.declared.heard_req.HeardReq.TheVariants.{GET_FEATURES, SET_OWNER, RESET_OWNER}
use Rattle.vhost_protocol.specs.Stream.{plain}
use Rattle.vhost_c_backend.specs.Served.{new_session, queued}
use Rattle.vhost_c_backend.specs.Waiting.{IsWaiting, features_reply}
use Rattle.vhost_c_backend.specs.declared.served.Served.{Served}
use Rattle.vhost_c_backend.proofs.Three.{asks, offering, features_cells, features-bytes, features-replied, owner-replied, reset-replied, features-splits, owner-splits, reset-splits, numbered, some-and}
use Rattle.vhost_c.proofs.Opened.{waits}
use Rattle.vhost_c.proofs.backend_clients.serves_three.Goals as goal

pub returns : goal.returns
returns c = λ none zeros.
    let n = c.args.features in
    let a = waits none c.covretin_backend_open-opened.ensures (cc zeros) in
    let b = c.comes-one.ensures (asks GET_FEATURES) new_session [] features-splits refl a (cc zeros) (cc zeros) in
    let d = features-replied n _ b c.covretin_reply_number-offered.ensures (cc zeros) in
    let e = c.comes-two.ensures (asks SET_OWNER) (offering n) (features_cells n) owner-splits refl d (cc zeros) (cc zeros) in
    let f = owner-replied n _ e c.covretin_reply_done-owned.ensures (cc zeros) in
    let g = c.comes-three.ensures (asks RESET_OWNER) (offering n) (features_cells n) reset-splits refl f (cc zeros) (cc zeros) in
    let h = reset-replied n _ g c.covretin_reply_done-given_up.ensures (cc zeros) in
    let last : (s : Served) → IsWaiting (offering n) (features_cells n) s → queued s ≡ plain (features_reply n) = λ s w. w.queue ∙ features-bytes n in
    (numbered _ _ _ _ _ b, numbered _ _ _ _ _ e, numbered _ _ _ _ _ g, some-and _ last h)
