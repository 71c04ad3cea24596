use Rattle.std.proofs.Common.{rules, take, map, refl, ap, arith}
use Rattle.std.proofs.lemmas.List.{nil_from_length}
use Rattle.vhost_protocol.specs.Stream.{carrying}
use Rattle.vhost_link.proofs.unix.UnixLinkLink.send.Goals as goal

pub returns-in-Ok-clause-law : goal.returns-in-Ok-clause-law
returns-in-Ok-clause-law c =
    let none = ap (map (λ h. h.now)) (nil_from_length c.args.handles.now (let few = c.in-empty.len_below in omega (arith, few))) in (
      search rules,
      c.in-Ok.ensures.bound,
      ((take c.in-Ok.count c.args.bytes.now, ap (λ hs. carrying hs (take c.in-Ok.count c.args.bytes.now)) none), refl),
    )
