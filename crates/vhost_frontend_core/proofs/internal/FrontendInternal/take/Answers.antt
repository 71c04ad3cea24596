-- The calls whose answer is more than a reply that always comes.
use Rattle.std.proofs.Common.{◌≡◌, true, ap, refl, sym, subst, arith}
use Rattle.vhost_message.specs.Transfer.{direction_number, phase_number}
use Rattle.vhost_protocol.specs.FrontendCall.{SetDeviceStateFd}
use Rattle.vhost_frontend_core.specs.Kinds.{IsOf}
use Rattle.vhost_frontend_core.specs.Values.{call_in}
use Rattle.vhost_frontend_core.proofs.TakenValues.{took, took-reply, took-either, kept-reply, renamed, replied, is_acked, acked}
use Rattle.vhost_frontend_core.proofs.internal.FrontendInternal.take.Goals as goal

pub returns-in_default-clause-taken : goal.returns-in_default-clause-taken
returns-in_default-clause-taken g c =
    let e : is_acked (call_in c.args.call.now) ≡ true = grind arith in
    let is = (acked (call_in c.args.call.now) e).0 in
    record { taken = λ may kept. took c.done-in_default.ensures.same (c.take_done.ensures.taken (call_in c.args.call.now) is.shows (is.keeps _) (is.awaits _ may)); quiet = c.take_done.ensures.quiet }

pub returns-in_default-clause-form : goal.returns-in_default-clause-form
returns-in_default-clause-form g c =
    let e : is_acked (call_in c.args.call.now) ≡ true = grind arith in
    subst (λ k. IsOf k c.done-in_default.result) (sym (acked (call_in c.args.call.now) e).1) c.done-in_default.ensures.form

pub returns-in-PostcopyListen-clause-taken : goal.returns-in-PostcopyListen-clause-taken
returns-in-PostcopyListen-clause-taken g c = renamed (ap call_in c.in-PostcopyListen.is) (record { taken = λ may kept. took c.done-in-PostcopyListen.ensures.same (c.take_postcopy_listen.ensures.taken may); quiet = c.take_postcopy_listen.ensures.quiet })

pub returns-in-PostcopyEnd-clause-taken : goal.returns-in-PostcopyEnd-clause-taken
returns-in-PostcopyEnd-clause-taken g c = renamed (ap call_in c.in-PostcopyEnd.is) (record { taken = λ may kept. took-either may (λ is. took c.done-in-PostcopyEnd.ensures.same (c.take_postcopy_end.ensures.acked is)) (λ is. took-reply is c.done-in-PostcopyEnd.ensures.same (c.take_postcopy_end.ensures.replied is)); quiet = c.take_postcopy_end.ensures.quiet })

pub returns-in-SetLogBase-clause-taken : goal.returns-in-SetLogBase-clause-taken
returns-in-SetLogBase-clause-taken g c = renamed (ap call_in c.in-SetLogBase.is) (record { taken = λ may kept. took-either may (λ is. took c.done.ensures.same (c.take_set_log_base.ensures.base _ _ is)) (λ is. took-reply is c.done.ensures.same (c.take_set_log_base.ensures.area _ _ is)); quiet = c.take_set_log_base.ensures.quiet })

pub returns-in-AddMemRegion-clause-taken : goal.returns-in-AddMemRegion-clause-taken
returns-in-AddMemRegion-clause-taken g c = renamed (ap call_in c.in-AddMemRegion.is) (record { taken = λ may kept. took-either may (λ is. took c.base.ensures.same (c.take_add_mem_region.ensures.acked _ is)) (λ is. took-reply is c.base.ensures.same (c.take_add_mem_region.ensures.mapped _ kept is)); quiet = c.take_add_mem_region.ensures.quiet })

pub returns-in-SetMemTable-clause-taken : goal.returns-in-SetMemTable-clause-taken
returns-in-SetMemTable-clause-taken g c = renamed (ap call_in c.in-SetMemTable.is) (record { taken = λ may kept. took-either may (λ is. took c.bases.ensures.same (c.take_set_mem_table.ensures.acked _ is)) (λ is. took-reply is c.bases.ensures.same (c.take_set_mem_table.ensures.mapped _ (kept-reply _ _ _ is kept) is)); quiet = c.take_set_mem_table.ensures.quiet })

pub returns-in-GetConfig-clause-taken : goal.returns-in-GetConfig-clause-taken
returns-in-GetConfig-clause-taken g c = renamed (ap call_in c.in-GetConfig.is) (record { taken = λ may kept. took-reply may c.config.ensures.same (c.take_get_config.ensures.taken _ _ _ _ kept); quiet = c.take_get_config.ensures.quiet })

pub returns-in-GetShmemConfig-clause-taken : goal.returns-in-GetShmemConfig-clause-taken
returns-in-GetShmemConfig-clause-taken g c = renamed (ap call_in c.in-GetShmemConfig.is) (record { taken = λ may kept. took-reply may c.shmem_config.ensures.same (c.take_get_shmem_config_to_place.ensures.taken kept); quiet = c.take_get_shmem_config_to_place.ensures.quiet })

pub returns-in-GetVringBase-clause-taken : goal.returns-in-GetVringBase-clause-taken
returns-in-GetVringBase-clause-taken g c = replied (ap call_in c.in-GetVringBase.is) refl c.ring_base.ensures.same c.take_get_vring_base.ensures.quiet (c.take_get_vring_base.ensures.taken _)

pub returns-in-GetSharedObject-clause-taken : goal.returns-in-GetSharedObject-clause-taken
returns-in-GetSharedObject-clause-taken g c = replied (ap call_in c.in-GetSharedObject.is) refl c.handle.ensures.same c.take_get_shared_object.ensures.quiet (c.take_get_shared_object.ensures.taken _)

pub returns-in-GetInflightFd-clause-taken : goal.returns-in-GetInflightFd-clause-taken
returns-in-GetInflightFd-clause-taken g c = replied (ap call_in c.in-GetInflightFd.is) refl c.inflight.ensures.same c.take_get_inflight_fd.ensures.quiet (c.take_get_inflight_fd.ensures.taken _)

pub returns-in-SetDeviceStateFd-clause-taken : goal.returns-in-SetDeviceStateFd-clause-taken
returns-in-SetDeviceStateFd-clause-taken g c =
    replied {call' = SetDeviceStateFd (record { direction = direction_number c.in-SetDeviceStateFd.field-0; phase = phase_number c.in-SetDeviceStateFd.field-1 }) c.in-SetDeviceStateFd.field-2.now} (ap call_in c.in-SetDeviceStateFd.is) refl
    c.state_handle.ensures.same c.take_set_device_state_fd.ensures.quiet (c.take_set_device_state_fd.ensures.taken _ _)
