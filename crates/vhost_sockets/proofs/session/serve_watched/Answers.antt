-- One more request, and what ends the session.
use Rattle.std.proofs.Common.{arith, ◌<◌, ◌^◌, suc, refl}
use Rattle.vhost_backend_req_handler.specs.Sharing.{core_of}
use Rattle.vhost_sockets.specs.Session.{begins, goes_on, gate, call}
use Rattle.vhost_sockets.proofs.session.serve_watched.Goals as goal

pub requests-init : goal.requests-init
requests-init g c = record { count = 0; served = begins; requests = λ small. refl; next = tt; finite = tt }

pub returns-then-not-before : goal.returns-then-not-before
returns-then-not-before g c = record {
  count = c.requests.invariant.count;
  last = core_of c.requests.handler;
  served = c.requests.invariant.served;
  requests = c.requests.invariant.requests;
  ending = gate refl refl;
}

pub returns-in-Some-end_of : goal.returns-in-Some-end_of
returns-in-Some-end_of g c = record {
  count = c.requests.invariant.count;
  last = core_of c.requests.handler;
  served = c.requests.invariant.served;
  requests = c.requests.invariant.requests;
  ending = call c.handle_request-answer.result c.handle_request-answer.ensures c.in-Some-end_of.ensures.some;
}

pub requests-preserved : goal.requests-preserved
requests-preserved g c = record {
  count = suc c.requests.invariant.count;
  served = goes_on c.handle_request-answer.result c.requests.invariant.served c.handle_request-answer.ensures (c.in_default-end_of.ensures.none refl);
  requests = λ small.
      let before : c.requests.invariant.count < 2 ^ 32 = omega (arith, small) in
      let same = c.requests.invariant.requests before in
      omega (arith, small, same, c.saturating_add-request.ensures);
  next = tt;
  finite = tt;
}
