-- Arguments of C, as the definitions see them.
use Rattle.vhost_protocol.specs.FrontendCall as calls
use Rattle.vhost_protocol.specs.FrontendCall.{FrontendCall, Info, LogRegion}
use Rattle.vhost_link.specs.declared.plain.PlainHandle.{PlainHandle}
use Rattle.vhost_message.specs.Transfer.{direction_number, phase_number}
use Rattle.vhost_c_common.specs.Records.{handle_in, inflight_in}
use Rattle.vhost_c_common.specs.declared.records.Region.{Region}
use Rattle.vhost_c.specs.declared.fd_asks.FdAsk.{FdAsk}
use Rattle.vhost_c.specs.declared.fd_asks.FdAsk.TheVariants as asks

-- a region and its handle
abbrev pub info_in : Region → Info PlainHandle
info_in r = record { region = record { guest_phys_addr = r.guest_phys_addr; memory_size = r.memory_size; user_addr = r.user_addr; mmap_offset = r.mmap_offset }; handle = handle_in r.fd }

-- the part of a region's mapping where a log is kept
abbrev pub log_in : Region → LogRegion PlainHandle
log_in r = record { mmap_size = r.memory_size; mmap_offset = r.mmap_offset; handle = handle_in r.fd }

-- a call that gives a descriptor
abbrev pub call_with : FdAsk → PlainHandle → FrontendCall PlainHandle
call_with asks.SetLogFd h = calls.SetLogFd h
call_with asks.SetBackendRequestFd h = calls.SetBackendRequestFd h
call_with (asks.SetInflightFd i) h = calls.SetInflightFd (inflight_in i) h
call_with (asks.SetDeviceStateFd d p) h = calls.SetDeviceStateFd (record { direction = direction_number d; phase = phase_number p }) h
