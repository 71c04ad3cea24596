-- So many requests were answered, and the session goes on.
use Rattle.std.proofs.Common.{◌≡◌, ℕ, ◌<◌, ◌^◌}
use Rattle.vhost_backend_req_handler.specs.Sharing.{ServesShared, core_of}
use Rattle.vhost_sockets.specs.Session.{Goes}
use Rattle.vhost_sockets.proofs.session.serve_watched.Given as goal

abbrev pub invariant-requests : goal.invariant-requests
invariant-requests g l = record {
  count : ℕ;
  served : Goes (ServesShared g.L.Link.event g.L.Link.opens g.L.Handle.Handle.kinds) (core_of l.fn.handler) count (core_of l.handler);
  requests : count < 2 ^ 32 → l.requests ≡ count;
  next : (goal.iterator-requests g).can_next l.iterator';
  finite : (goal.iterator-requests g).is_finite l.iterator';
}
