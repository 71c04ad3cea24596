-- Replies of configuration space.
use Rattle.std.specs.Prelude.{ℕ, List}
use Rattle.vhost_message.specs.declared.records.config.VhostUserConfig.{VhostUserConfig}
use Rattle.vhost_backend_req_handler_core.specs.declared.answer.ConfigReply.{ConfigReply}

-- the record
abbrev pub record_in : ConfigReply → VhostUserConfig
record_in r = r.area.config

-- the bytes behind it
abbrev pub bytes_in : ConfigReply → List ℕ
bytes_in r = r.bytes.now
