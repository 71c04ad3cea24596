-- The call of its variant was made.
use Rattle.std.proofs.Common.{sym}
use Rattle.vhost_connection.specs.State.{state}
use Rattle.vhost_backend_req_handler_core.specs.Beginning.{handles_in}
use Rattle.vhost_backend_req_handler.proofs.service.Service.call_device.Goals as goal

pub returns-in-SetLogBase-clause-called : goal.returns-in-SetLogBase-clause-called
returns-in-SetLogBase-clause-called g c s m rs = rw c.in-SetLogBase.is (rw (sym c.take-in-SetLogBase.ensures.value) (c.set_log_base.ensures (state c.args.endpoint.now).budget c.args.self.now.shmem s m rs))

pub returns-in-SetVringKick-clause-called : goal.returns-in-SetVringKick-clause-called
returns-in-SetVringKick-clause-called g c s m rs = rw c.in-SetVringKick.is (rw (sym c.take-in-SetVringKick.ensures.value) (c.set_vring_kick.ensures (state c.args.endpoint.now).budget c.args.self.now.shmem s m rs))

pub returns-in-SetVringCall-clause-called : goal.returns-in-SetVringCall-clause-called
returns-in-SetVringCall-clause-called g c s m rs = rw c.in-SetVringCall.is (rw (sym c.take-in-SetVringCall.ensures.value) (c.set_vring_call.ensures (state c.args.endpoint.now).budget c.args.self.now.shmem s m rs))

pub returns-in-SetVringErr-clause-called : goal.returns-in-SetVringErr-clause-called
returns-in-SetVringErr-clause-called g c s m rs = rw c.in-SetVringErr.is (rw (sym c.take-in-SetVringErr.ensures.value) (c.set_vring_err.ensures (state c.args.endpoint.now).budget c.args.self.now.shmem s m rs))

pub returns-in-SetBackendReqFd-clause-called : goal.returns-in-SetBackendReqFd-clause-called
returns-in-SetBackendReqFd-clause-called g c s m rs = rw c.in-SetBackendReqFd.is (rw (sym c.take-in-SetBackendReqFd.ensures.value) (c.set_backend_req_fd.ensures.called c.args.self.now.shmem s m rs))

pub returns-in-SetGpuSocket-clause-called : goal.returns-in-SetGpuSocket-clause-called
returns-in-SetGpuSocket-clause-called g c s m rs = rw c.in-SetGpuSocket.is (rw (sym c.take-in-SetGpuSocket.ensures.value) (c.set_gpu_socket.ensures.called c.args.self.now.shmem s m rs))

pub returns-in-SetInflightFd-clause-called : goal.returns-in-SetInflightFd-clause-called
returns-in-SetInflightFd-clause-called g c s m rs = rw c.in-SetInflightFd.is (rw (sym c.take-in-SetInflightFd.ensures.value) (c.set_inflight_fd.ensures (state c.args.endpoint.now).budget c.args.self.now.shmem s m rs))

pub returns-in-AddMemRegion-clause-called : goal.returns-in-AddMemRegion-clause-called
returns-in-AddMemRegion-clause-called g c s m rs = rw c.in-AddMemRegion.is (rw (sym c.take-in-AddMemRegion.ensures.value) (c.add_mem_region.ensures (state c.args.endpoint.now).budget c.args.self.now.shmem s m rs))

pub returns-in-SetDeviceStateFd-clause-called : goal.returns-in-SetDeviceStateFd-clause-called
returns-in-SetDeviceStateFd-clause-called g c s m rs = rw c.in-SetDeviceStateFd.is (rw (sym c.take-in-SetDeviceStateFd.ensures.value) (c.set_device_state_fd.ensures (state c.args.endpoint.now).budget c.args.self.now.shmem s m rs))

pub returns-in-GetShmemConfig-clause-called : goal.returns-in-GetShmemConfig-clause-called
returns-in-GetShmemConfig-clause-called g c s m rs = rw c.in-GetShmemConfig.is (c.get_shmem_config.ensures.called (state c.args.endpoint.now).budget (handles_in c.args.handles.now) s m rs)
