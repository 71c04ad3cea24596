-- Worked rows on large messages: each holds by computing.
use Rattle.std.proofs.Common.{◌≡◌, ℕ, List, [], ◌∷◌, ◌++◌, replicate, length, Result, Ok, Err, refl}
use Rattle.vhost_message.specs.HeardReq.{request_of}
use Rattle.vhost_message.specs.Header.{header_text}
use Rattle.vhost_message.specs.Records.{shmem_config_text, shmem_config_of}
use Rattle.vhost_message.specs.declared.heard_req.HeardReq.{HeardReq}
use Rattle.vhost_message.specs.declared.records.shmem.VhostUserShMemConfig.{VhostUserShMemConfig}
use Rattle.vhost_protocol.specs.Codes.{allows_handles}
use Rattle.vhost_protocol.specs.Error.{Error, InvalidMessage}
use Rattle.vhost_protocol.specs.Split.{Message, split, split_after, split_body, body_outcome}
use Rattle.vhost_protocol.specs.Stream.{Cell, plain, carrying}

cut : List (Cell ℕ) → Result (Message HeardReq ℕ) Error × List (Cell ℕ)
cut = split request_of allows_handles

-- a body of 4096 bytes
size_of : Result (Message HeardReq ℕ) Error → ℕ
size_of (Ok m) = length m.body
size_of (Err e) = 0

largest : size_of (cut (plain (header_text (record { code = 24; flags = 1; size = 4096 }) ++ replicate 4096 7))).0 ≡ 4096
unfolding cut split split_after split_body body_outcome size_of
largest = refl

sizes : VhostUserShMemConfig
sizes = record { nregions = 2; padding = 0; memory_sizes = 0x10000 ∷ 0 ∷ 0x20000 ∷ replicate 253 0 }

sizes_again : shmem_config_of (shmem_config_text sizes) ≡ sizes
unfolding sizes
sizes_again = refl

-- what follows makes no difference, by computing
unwanted_front : (rest : List (Cell ℕ)) → cut (carrying (7 ∷ []) (header_text (record { code = 2; flags = 1; size = 8 })) ++ rest) ≡ (Err InvalidMessage, rest)
unfolding cut split split_after split_body body_outcome
unwanted_front rest = refl
