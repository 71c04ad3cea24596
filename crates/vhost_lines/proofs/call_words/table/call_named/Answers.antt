-- Each name of the table.
use Rattle.vhost_lines.specs.Read.{texts, words_of}
use Rattle.vhost_lines.proofs.Naming.{by_name, by_name-ok}
use Rattle.vhost_lines.proofs.call_words.table.call_named.Goals as goal

pub returns-in-get_features : goal.returns-in-get_features
returns-in-get_features c = by_name (texts c.args.args.now) (words_of c.args.text) c.in-get_features.is c.bare.ensures

pub returns-in-set_owner : goal.returns-in-set_owner
returns-in-set_owner c = by_name (texts c.args.args.now) (words_of c.args.text) c.in-set_owner.is c.bare-in-set_owner.ensures

pub returns-in-reset_owner : goal.returns-in-reset_owner
returns-in-reset_owner c = by_name (texts c.args.args.now) (words_of c.args.text) c.in-reset_owner.is c.bare-in-reset_owner.ensures

pub returns-in-get_protocol_features : goal.returns-in-get_protocol_features
returns-in-get_protocol_features c = by_name (texts c.args.args.now) (words_of c.args.text) c.in-get_protocol_features.is c.bare-in-get_protocol_features.ensures

pub returns-in-get_queue_num : goal.returns-in-get_queue_num
returns-in-get_queue_num c = by_name (texts c.args.args.now) (words_of c.args.text) c.in-get_queue_num.is c.bare-in-get_queue_num.ensures

pub returns-in-reset_device : goal.returns-in-reset_device
returns-in-reset_device c = by_name (texts c.args.args.now) (words_of c.args.text) c.in-reset_device.is c.bare-in-reset_device.ensures

pub returns-in-get_max_mem_slots : goal.returns-in-get_max_mem_slots
returns-in-get_max_mem_slots c = by_name (texts c.args.args.now) (words_of c.args.text) c.in-get_max_mem_slots.is c.bare-in-get_max_mem_slots.ensures

pub returns-in-get_shmem_config : goal.returns-in-get_shmem_config
returns-in-get_shmem_config c = by_name (texts c.args.args.now) (words_of c.args.text) c.in-get_shmem_config.is c.bare-in-get_shmem_config.ensures

pub returns-in-check_device_state : goal.returns-in-check_device_state
returns-in-check_device_state c = by_name (texts c.args.args.now) (words_of c.args.text) c.in-check_device_state.is c.bare-in-check_device_state.ensures

pub returns-in-postcopy_advise : goal.returns-in-postcopy_advise
returns-in-postcopy_advise c = by_name (texts c.args.args.now) (words_of c.args.text) c.in-postcopy_advise.is c.bare-in-postcopy_advise.ensures

pub returns-in-postcopy_listen : goal.returns-in-postcopy_listen
returns-in-postcopy_listen c = by_name (texts c.args.args.now) (words_of c.args.text) c.in-postcopy_listen.is c.bare-in-postcopy_listen.ensures

pub returns-in-postcopy_end : goal.returns-in-postcopy_end
returns-in-postcopy_end c = by_name (texts c.args.args.now) (words_of c.args.text) c.in-postcopy_end.is c.bare-in-postcopy_end.ensures

pub returns-in-set_features : goal.returns-in-set_features
returns-in-set_features c = by_name (texts c.args.args.now) (words_of c.args.text) c.in-set_features.is c.set_features.ensures

pub returns-in-set_protocol_features : goal.returns-in-set_protocol_features
returns-in-set_protocol_features c = by_name (texts c.args.args.now) (words_of c.args.text) c.in-set_protocol_features.is c.set_protocol_features.ensures

pub returns-in-get_vring_base : goal.returns-in-get_vring_base
returns-in-get_vring_base c = by_name (texts c.args.args.now) (words_of c.args.text) c.in-get_vring_base.is c.get_vring_base.ensures

pub returns-in-set_log_fd : goal.returns-in-set_log_fd
returns-in-set_log_fd c = by_name (texts c.args.args.now) (words_of c.args.text) c.in-set_log_fd.is c.set_log_fd.ensures

pub returns-in-set_backend_request_fd : goal.returns-in-set_backend_request_fd
returns-in-set_backend_request_fd c = by_name (texts c.args.args.now) (words_of c.args.text) c.in-set_backend_request_fd.is c.set_backend_request_fd.ensures

pub returns-in-get_shared_object : goal.returns-in-get_shared_object
returns-in-get_shared_object c = by_name (texts c.args.args.now) (words_of c.args.text) c.in-get_shared_object.is c.get_shared_object.ensures

pub returns-in-postcopy_ack_mem_regions : goal.returns-in-postcopy_ack_mem_regions
returns-in-postcopy_ack_mem_regions c = by_name (texts c.args.args.now) (words_of c.args.text) c.in-postcopy_ack_mem_regions.is c.postcopy_ack_mem_regions.ensures

pub returns-in-set_mtu : goal.returns-in-set_mtu
returns-in-set_mtu c = by_name (texts c.args.args.now) (words_of c.args.text) c.in-set_mtu.is c.set_mtu.ensures

pub returns-in-set_hdr_flags : goal.returns-in-set_hdr_flags
returns-in-set_hdr_flags c = by_name (texts c.args.args.now) (words_of c.args.text) c.in-set_hdr_flags.is c.set_hdr_flags.ensures

pub returns-in-set_vring_num : goal.returns-in-set_vring_num
returns-in-set_vring_num c = by_name (texts c.args.args.now) (words_of c.args.text) c.in-set_vring_num.is c.set_vring_num.ensures

pub returns-in-set_vring_base : goal.returns-in-set_vring_base
returns-in-set_vring_base c = by_name (texts c.args.args.now) (words_of c.args.text) c.in-set_vring_base.is c.set_vring_base.ensures

pub returns-in-set_packed_vring_base : goal.returns-in-set_packed_vring_base
returns-in-set_packed_vring_base c = by_name (texts c.args.args.now) (words_of c.args.text) c.in-set_packed_vring_base.is c.set_packed_vring_base.ensures

pub returns-in-set_vring_call : goal.returns-in-set_vring_call
returns-in-set_vring_call c = by_name (texts c.args.args.now) (words_of c.args.text) c.in-set_vring_call.is c.set_vring_call.ensures

pub returns-in-set_vring_kick : goal.returns-in-set_vring_kick
returns-in-set_vring_kick c = by_name (texts c.args.args.now) (words_of c.args.text) c.in-set_vring_kick.is c.set_vring_kick.ensures

pub returns-in-set_vring_err : goal.returns-in-set_vring_err
returns-in-set_vring_err c = by_name (texts c.args.args.now) (words_of c.args.text) c.in-set_vring_err.is c.set_vring_err.ensures

pub returns-in-set_vring_enable : goal.returns-in-set_vring_enable
returns-in-set_vring_enable c = by_name (texts c.args.args.now) (words_of c.args.text) c.in-set_vring_enable.is c.set_vring_enable.ensures

pub returns-in-set_log_base : goal.returns-in-set_log_base
returns-in-set_log_base c = by_name (texts c.args.args.now) (words_of c.args.text) c.in-set_log_base.is c.set_log_base.ensures

pub returns-in-set_vring_addr : goal.returns-in-set_vring_addr
returns-in-set_vring_addr c = by_name (texts c.args.args.now) (words_of c.args.text) c.in-set_vring_addr.is c.set_vring_addr.ensures

pub returns-in-get_inflight_fd : goal.returns-in-get_inflight_fd
returns-in-get_inflight_fd c = by_name (texts c.args.args.now) (words_of c.args.text) c.in-get_inflight_fd.is c.get_inflight_fd.ensures

pub returns-in-set_inflight_fd : goal.returns-in-set_inflight_fd
returns-in-set_inflight_fd c = by_name (texts c.args.args.now) (words_of c.args.text) c.in-set_inflight_fd.is c.set_inflight_fd.ensures

pub returns-in-add_mem_region : goal.returns-in-add_mem_region
returns-in-add_mem_region c = by_name (texts c.args.args.now) (words_of c.args.text) c.in-add_mem_region.is c.add_mem_region.ensures

pub returns-in-remove_mem_region : goal.returns-in-remove_mem_region
returns-in-remove_mem_region c = by_name (texts c.args.args.now) (words_of c.args.text) c.in-remove_mem_region.is c.remove_mem_region.ensures

pub returns-in-set_device_state_fd : goal.returns-in-set_device_state_fd
returns-in-set_device_state_fd c = by_name (texts c.args.args.now) (words_of c.args.text) c.in-set_device_state_fd.is c.set_device_state_fd.ensures

pub returns-in-set_mem_table : goal.returns-in-set_mem_table
returns-in-set_mem_table c = by_name-ok (texts c.args.args.now) (words_of c.args.text) c.set_mem_table.result c.in-set_mem_table.is c.set_mem_table.ensures

pub returns-in-get_config : goal.returns-in-get_config
returns-in-get_config c = by_name-ok (texts c.args.args.now) (words_of c.args.text) c.get_config.result c.in-get_config.is c.get_config.ensures

pub returns-in-set_config : goal.returns-in-set_config
returns-in-set_config c = by_name-ok (texts c.args.args.now) (words_of c.args.text) c.set_config.result c.in-set_config.is c.set_config.ensures
