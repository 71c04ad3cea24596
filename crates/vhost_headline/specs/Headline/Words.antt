-- The words of the theorem, and where they are from.
pub use Rattle.std.specs.Prelude.{◌≡◌, ◌⊎◌, ℕ, ℤ, pos, List, [], ◌∷◌, ◌++◌, length, map, Some, None, true, false, Result, Ok, Err, ⊤, is_some}
pub use Rattle.vhost_message.specs.declared.cause.IoCause.{IoCause}
pub use Rattle.vhost_message.specs.declared.cause.IoCause.TheVariants.{Raw}
pub use Rattle.vhost_message.specs.declared.error.Error.{Error}
pub use Rattle.vhost_message.specs.declared.error.Error.TheVariants.{OutOfMemory, SocketBroken}
pub use Rattle.vhost_message.specs.declared.heard_req.HeardReq.{HeardReq}
pub use Rattle.vhost_protocol.specs.declared.profile.Profile.{Profile}
pub use Rattle.vhost_protocol.specs.declared.profile.Profile.TheVariants.{Standard}
pub use Rattle.vhost_protocol.specs.Codes.{allows_handles}
pub use Rattle.vhost_protocol.specs.DeviceCall.{Call, Answer}
pub use Rattle.vhost_protocol.specs.Error.{seen_result}
pub use Rattle.vhost_protocol.specs.Error.{Error as SeenError}
pub use Rattle.vhost_protocol.specs.FrontendCall.{new_frontend}
pub use Rattle.vhost_protocol.specs.Handler.{HandlesRequest, HandlesRequests}
pub use Rattle.vhost_protocol.specs.Joined.{AgreeOn, JoinedRun}
pub use Rattle.vhost_protocol.specs.Log.{IsLegal}
pub use Rattle.vhost_protocol.specs.Session.{Session, fresh, heard_in}
pub use Rattle.vhost_protocol.specs.Split.{Message, split}
pub use Rattle.vhost_protocol.specs.Stream.{Cell, Item}
pub use Rattle.vhost_link.specs.declared.handle.Kind.{Kind}
pub use Rattle.vhost_link.specs.Law.{Event, move}
pub use Rattle.vhost_connection.specs.Hearing.{Hears}
pub use Rattle.vhost_connection.specs.Talk.{State, Talks}
pub use Rattle.vhost_backend_req.specs.declared.backend.Backend.{Backend}
pub use Rattle.vhost_gpu_backend_req.specs.declared.backend.GpuBackend.{GpuBackend}
pub use Rattle.vhost_backend_req_handler.specs.declared.session_core.SessionCore.{SessionCore}
pub use Rattle.vhost_backend_req_handler.specs.Core.{endpoint_of, session_in}
pub use Rattle.vhost_backend_req_handler.specs.Opening.{OpensAsBackend, OpensAsGpu}
pub use Rattle.vhost_backend_req_handler.specs.Serving.{fitting}
pub use Rattle.vhost_frontend_core.specs.declared.values.call.FrontendCall.{FrontendCall}
pub use Rattle.vhost_frontend_core.specs.declared.values.answer.FrontendAnswer.{FrontendAnswer}
pub use Rattle.vhost_joined.specs.declared.halt.Stop.TheVariants.{Premise, Table}
pub use Rattle.vhost_joined.specs.Device.{Gives, opens_backend, opens_gpu}
pub use Rattle.vhost_joined.specs.Joined.{View}
pub use Rattle.vhost_joined.specs.Lockstep.{entries}
pub use Rattle.vhost_recorder.specs.Recording.{Recording, is_broken}
pub use Rattle.vhost_promises.specs.Faults.{MeetsFault}
pub use Rattle.vhost_promises.specs.Runs.{Unserved}
pub use Rattle.vhost_promises.specs.Waiting.{AllAnswered}
