-- The channel that a device is given where its frontend asks for one.
use Rattle.std.specs.Prelude.{◌≡◌, ℕ, [], ◌∷◌, Result, Ok}
use Rattle.vhost_message.specs.declared.cause.IoCause.{IoCause}
use Rattle.vhost_message.specs.declared.heard_req.HeardReq.{HeardReq}
use Rattle.vhost_message.specs.declared.heard_req.HeardReq.TheVariants.{SET_BACKEND_REQ_FD}
use Rattle.vhost_protocol.specs.Codes.{allows_handles}
use Rattle.vhost_protocol.specs.DeviceCall.{Call, Answer, SetBackendReqFd}
use Rattle.vhost_protocol.specs.Error.{Error}
use Rattle.vhost_protocol.specs.Session.{Session, heard_in}
use Rattle.vhost_protocol.specs.Split.{Message, split}
use Rattle.vhost_link.specs.Law.{Event}
use Rattle.vhost_link.specs.declared.handle.Kind.{Kind}
use Rattle.vhost_connection.specs.Hearing.{Hears}
use Rattle.vhost_connection.specs.Talk.{State}
use Rattle.vhost_backend_req.specs.Opened.{IsOver}
use Rattle.vhost_backend_req.specs.declared.backend.Backend.{Backend}
use Rattle.vhost_gpu_backend_req.specs.declared.backend.GpuBackend.{GpuBackend}
use Rattle.vhost_backend_req_handler.specs.Opening.{OpensLink}

module _ {L H Dev : Type 0} (opens : L → H → Result L IoCause → Type 0) (kinds : H → Result Kind IoCause → Type 0) (gives : Dev → (c : Call H (Backend L H) (GpuBackend L H)) → Answer c → Dev → Type 0) where
  -- The device was given a channel over the link that the message's one handle opened as, with this retry limit.
  pub record GivenItsOwn (budget : ℕ) (m : Message HeardReq H) (d d' : Dev) : Type 0 where
    pub handle : H
    pub one : m.handles ≡ handle ∷ []
    pub link : L
    pub opened : OpensLink opens kinds handle (Ok link)
    pub channel : Backend L H
    pub over : IsOver channel link budget
    pub given : gives d (SetBackendReqFd channel) tt d'

  -- So it was where the message that was read asks for a channel, with the session's retry limit.
  pub record OpensItsOwn (event : L → Event H → L → Type 0) (s : Session) (old : State L H) (d d' : Dev) : Type 0 where
    pub heard : Result (Message HeardReq H) Error
    pub mid : State L H
    pub hears : Hears event (split (heard_in s) allows_handles) old heard mid
    pub own : (m : Message HeardReq H) → heard ≡ Ok m → m.request ≡ SET_BACKEND_REQ_FD → GivenItsOwn old.budget m d d'
