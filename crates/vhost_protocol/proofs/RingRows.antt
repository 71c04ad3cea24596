-- Worked rows on rings, pieces and offsets: each holds by computing.
use Rattle.std.proofs.Common.{◌≡◌, ℕ, true, false, List, [], ◌∷◌, None, refl}
use Rattle.std.specs.Int.Count.{ones}
use Rattle.vhost_protocol.specs.Pieces.{BytePiece, HandlePiece, ring_cells, sub_offset}
use Rattle.vhost_protocol.specs.Stream.{cell}
use Rattle.vhost_message.specs.declared.vring_config.VringConfigData.{VringConfigData}
use Rattle.vhost_message.specs.VringConfig.{is_valid_ring}

ring : ℕ → VringConfigData
ring size = record { queue_max_size = 32; queue_size = size; flags = 0; desc_table_addr = 0x1000; used_ring_addr = 0x2000; avail_ring_addr = 0x3000; log_addr = None }

whole : List (ℕ × ℕ)
whole = (0, 0x100000) ∷ []

ring_32 : is_valid_ring (ring 32) whole ≡ true
unfolding ring whole ones
ring_32 = refl

ring_0 : is_valid_ring (ring 0) whole ≡ false
unfolding ring whole ones
ring_0 = refl

ring_31 : is_valid_ring (ring 31) whole ≡ false
unfolding ring whole ones
ring_31 = refl

ring_33 : is_valid_ring (ring 33) whole ≡ false
unfolding ring whole ones
ring_33 = refl

at_the_end : is_valid_ring (record (ring 32) { avail_ring_addr = 0x100; used_ring_addr = 0x200 }) ((0, 0x1200) ∷ []) ≡ false
unfolding ring ones
at_the_end = refl

past_the_end : is_valid_ring (record (ring 32) { avail_ring_addr = 0x100; used_ring_addr = 0x200 }) ((0, 0x1201) ∷ []) ≡ true
unfolding ring ones
past_the_end = refl

offset_6 : sub_offset (4 ∷ 4 ∷ 5 ∷ []) 6 ≡ (1, 2)
offset_6 = refl

offset_8 : sub_offset (4 ∷ 4 ∷ 5 ∷ []) 8 ≡ (2, 0)
offset_8 = refl

offset_13 : sub_offset (4 ∷ 4 ∷ 5 ∷ []) 13 ≡ (3, 0)
offset_13 = refl

offset_beyond : sub_offset (4 ∷ []) 9 ≡ (1, 5)
offset_beyond = refl

-- handles belong to the byte behind them; one with no byte yet belongs to none
pieces : ring_cells {H = ℕ} (HandlePiece 7 ∷ HandlePiece 8 ∷ BytePiece 1 ∷ BytePiece 2 ∷ HandlePiece 9 ∷ []) ≡ (cell 1 (7 ∷ 8 ∷ []) ∷ cell 2 [] ∷ [])
pieces = refl
