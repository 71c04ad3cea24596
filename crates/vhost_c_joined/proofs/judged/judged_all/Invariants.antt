-- So many exchanges were right.
use Rattle.std.proofs.Common.{◌≡◌, Bool, List, drop}
use Rattle.vhost_protocol.specs.FrontendCall.{FrontendCall}
use Rattle.vhost_link.specs.declared.plain.PlainHandle.{PlainHandle}
use Rattle.vhost_c_backend.specs.Served.{remembers}
use Rattle.vhost_c_backend.specs.declared.replies.Reply.{Reply}
use Rattle.vhost_c_backend.specs.declared.served.Served.{Served}
use Rattle.vhost_c_joined.specs.Judged.{AreOfRun, IsReady}
use Rattle.vhost_c_frontend.specs.declared.session.Session.{Session}
use Rattle.vhost_c_joined.proofs.Serving.{IsAt}
use Rattle.vhost_c_joined.proofs.judged.judged_all.Given as goal

abbrev pub invariant-exchanges : goal.invariant-exchanges
invariant-exchanges l = record {
  right : (bit : Bool) (steps : List (FrontendCall PlainHandle × Reply)) (f f' : Session) (b b' : Served) → AreOfRun bit steps l.exchanges f b f' b' → IsReady l.fn.judge → remembers l.fn.judge ≡ remembers b → IsAt bit (drop l.i l.exchanges) f' b' l.judge;
}
