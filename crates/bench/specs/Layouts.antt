-- The words of document 01 by the widths that it gives, top field first: what the other files read of each stands where these widths put it,
-- and what they make or change is packed so. Assumes nothing.
use Rattle.std.specs.Prelude.{◌≡◌, ◌≤◌, ℕ, ◌+◌, not, List, [], ◌∷◌}
use Rattle.ground.specs.Bytes.{word_at}
use Rattle.ground.specs.Choice.{pick}
use Rattle.ground.specs.Field.{field, bit, pack, unpack}
use Rattle.rules.specs.declared.Saved.{Saved}
use Rattle.rules.specs.declared.SlotIndex.{SlotIndex}
use Rattle.rules.specs.declared.Descriptor.{Descriptor}
use Rattle.rules.specs.declared.Slot.{Slot}
use Rattle.rules.specs.declared.Header.{Header}
use Rattle.rules.specs.declared.Fault.{Fault}
use Rattle.rules.specs.Words.{dst_node, dst_slot, note_index, src_node, zero_low, slot_and_source, uses_msg_size, uses_msg_offset, is_ack_pkt, reserved_bit, incarnation, offset, is_direct_io, is_control_pkt, notifies, goes, zero_top, meta_flag, meta_count, msg_size, meta_part, most24, check_half}
use Rattle.rules.specs.Memory.{no_metadata}
use Rattle.rules.specs.Saved.{resets, enables, reserved_bits, own_incarnation, own_node, without_reset}
use Rattle.rules.specs.Queues.{is_empty, has_room}
use Rattle.rules.specs.Registers.{pcsr1, int_hi, int_lo}
use Rattle.rules.specs.Sending.{is_done, with_stalled, without_stalled, with_done, without_stalled_and_done, next_payload, next_header, after_packet}
use Rattle.rules.specs.Checksum.{check_of}
use Rattle.rules.specs.Packet.{check_word, packet_of}
use Rattle.rules.specs.Slots.{slot_note_index, valid_bit, indirect_bit, does_acks, slot_notifies, slot_reserve, ack_note_index}
use Rattle.rules.specs.Notices.{token, enqueues}
use Rattle.rules.specs.Receipt.{fault_status, message_notice, ack_notice, fault_notice}

pub record Layouts : Type 0 where
  -- "PCSR0: reset 1, enable 1, reserved 10, incarnation 4, node 16"
  pub word_pcsr0 : (w : ℕ) → unpack (1 ∷ 1 ∷ 10 ∷ 4 ∷ 16 ∷ []) w ≡ bit (resets w) ∷ bit (enables w) ∷ reserved_bits w ∷ own_incarnation w ∷ own_node w ∷ []
  -- "the other fields are stored with reset 0"
  pub reset_cleared : (w : ℕ) → unpack (1 ∷ 31 ∷ []) (without_reset w) ≡ 0 ∷ field 0 31 w ∷ []
  -- "PCSR1: ready (1), int_hi, int_lo, idle (1), nbqr_empty, nbqr_full, 6 zero, 4 bits holding 4, 16 zero"
  pub word_pcsr1 : (s : Saved) → pcsr1 s ≡ pack (1 ∷ 1 ∷ 1 ∷ 1 ∷ 1 ∷ 1 ∷ 6 ∷ 4 ∷ 16 ∷ []) (1 ∷ s.inthi ∷ s.intlo ∷ 1 ∷ bit (is_empty s.nbqr) ∷ bit (not (has_room s.nbqr)) ∷ 0 ∷ 4 ∷ 0 ∷ [])
  pub word_pcsr1_written : (w : ℕ) → unpack (1 ∷ 1 ∷ 1 ∷ 29 ∷ []) w ≡ field 31 1 w ∷ bit (int_hi w) ∷ bit (int_lo w) ∷ field 0 29 w ∷ []
  -- "fab 4, dst_node 12, fab 16"
  pub address0 : (w : ℕ) → unpack (4 ∷ 12 ∷ 16 ∷ []) w ≡ field 28 4 w ∷ dst_node w ∷ field 0 16 w ∷ []
  -- "dst_slot 16, note_index 16", of a descriptor
  pub address1 : (w : ℕ) → unpack (16 ∷ 16 ∷ []) w ≡ dst_slot w ∷ note_index w ∷ []
  -- "1 is dst_slot 16, src_node 12, zero 4", of a packet
  pub word1 : (w : ℕ) → unpack (16 ∷ 12 ∷ 4 ∷ []) w ≡ dst_slot w ∷ src_node w ∷ zero_low w ∷ []
  pub word1_made : (slot node : ℕ) → slot_and_source slot node ≡ pack (16 ∷ 12 ∷ 4 ∷ []) (slot ∷ node ∷ 0 ∷ [])
  -- "control0 (use_msg_size, use_msg_offset, ack_pkt, reserved, incarnation 4, offset 24)"
  pub control0 : (w : ℕ) → unpack (1 ∷ 1 ∷ 1 ∷ 1 ∷ 4 ∷ 24 ∷ []) w ≡ bit (uses_msg_size w) ∷ bit (uses_msg_offset w) ∷ bit (is_ack_pkt w) ∷ reserved_bit w ∷ incarnation w ∷ offset w ∷ []
  -- "control1 (direct_io, control_pkt, notify, go, meta_data, meta_cnt 3, msg_size 24)"
  pub control1 : (w : ℕ) → unpack (1 ∷ 1 ∷ 1 ∷ 1 ∷ 1 ∷ 3 ∷ 24 ∷ []) w ≡ bit (is_direct_io w) ∷ bit (is_control_pkt w) ∷ bit (notifies w) ∷ bit (goes w) ∷ bit (meta_flag w) ∷ meta_count w ∷ msg_size w ∷ []
  -- "use bits, meta_data and meta_cnt go to 0"; the offset rises, where it fits, and the rest stays
  pub control0_after : (d : Descriptor) → offset d.control0 + next_payload d ≤ most24 → unpack (2 ∷ 6 ∷ 24 ∷ []) (after_packet d).control0 ≡ 0 ∷ field 24 6 d.control0 ∷ (offset d.control0 + next_payload d) ∷ []
  pub control1_after : (d : Descriptor) → unpack (4 ∷ 4 ∷ 24 ∷ []) (after_packet d).control1 ≡ field 28 4 d.control1 ∷ 0 ∷ msg_size d.control1 ∷ []
  -- "3 is zero 4, meta flag 1, meta_len 3, msg_size 24"
  pub word3 : (w : ℕ) → unpack (4 ∷ 1 ∷ 3 ∷ 24 ∷ []) w ≡ zero_top w ∷ bit (meta_flag w) ∷ meta_count w ∷ msg_size w ∷ []
  pub word3_made : (node : ℕ) (d : Descriptor) → (next_header node d).control1 ≡ pack (4 ∷ 1 ∷ 3 ∷ 24 ∷ []) (0 ∷ bit (meta_flag d.control1) ∷ meta_count d.control1 ∷ msg_size d.control1 ∷ [])
  -- "4 is header check 16, zero 16", as it is read; "body check 16 and zero 16" too, as they are made
  pub word4 : (bytes : List ℕ) → unpack (16 ∷ 16 ∷ []) (word_at bytes 16) ≡ check_half (word_at bytes 16) ∷ (packet_of bytes).zerohalf ∷ []
  pub word4_made : (covered : List ℕ) → check_word covered ≡ pack (16 ∷ 16 ∷ []) (check_of covered ∷ 0 ∷ [])
  -- "status2 (busy, stalled, done)"; what is set or cleared leaves the rest, busy too
  pub status2 : (w : ℕ) → unpack (1 ∷ 1 ∷ 1 ∷ 29 ∷ []) w ≡ field 31 1 w ∷ field 30 1 w ∷ bit (is_done w) ∷ field 0 29 w ∷ []
  pub stalled_set : (w : ℕ) → unpack (1 ∷ 1 ∷ 30 ∷ []) (with_stalled w) ≡ field 31 1 w ∷ 1 ∷ field 0 30 w ∷ []
  pub stalled_cleared : (w : ℕ) → unpack (1 ∷ 1 ∷ 30 ∷ []) (without_stalled w) ≡ field 31 1 w ∷ 0 ∷ field 0 30 w ∷ []
  pub done_set : (w : ℕ) → unpack (2 ∷ 1 ∷ 29 ∷ []) (with_done w) ≡ field 30 2 w ∷ 1 ∷ field 0 29 w ∷ []
  pub both_cleared : (w : ℕ) → unpack (1 ∷ 2 ∷ 29 ∷ []) (without_stalled_and_done w) ≡ field 31 1 w ∷ 0 ∷ field 0 29 w ∷ []
  -- "note_index 16, valid, indirect, do_acks, notify, reserve 12"
  pub slot_word2 : (w : ℕ) → unpack (16 ∷ 1 ∷ 1 ∷ 1 ∷ 1 ∷ 12 ∷ []) w ≡ slot_note_index w ∷ bit (valid_bit w) ∷ bit (indirect_bit w) ∷ bit (does_acks w) ∷ bit (slot_notifies w) ∷ slot_reserve w ∷ []
  -- "ack_note_index 16, unused 16"
  pub slot_word6 : (w : ℕ) → unpack (16 ∷ 16 ∷ []) w ≡ ack_note_index w ∷ field 0 16 w ∷ []
  -- "meta flag and length as in packet word 3", and nothing else
  pub slot_word7 : (w : ℕ) → meta_part w ≡ pack (4 ∷ 1 ∷ 3 ∷ 24 ∷ []) (0 ∷ bit (meta_flag w) ∷ meta_count w ∷ 0 ∷ [])
  -- "the token (31 bits)" above enqueue
  pub token_word : (w : ℕ) → unpack (31 ∷ 1 ∷ []) w ≡ token w ∷ bit (enqueues w) ∷ []
  -- "Message: word 0 slot 16, src_node 12, zero 4; word 1 zero 2, ack 1, zero 1, incarnation 4, offset 24; word 2 as packet word 3": the packet's
  -- source and incarnation; "Offset, msg_size and metadata are the slot's", whose word 7 has only flag and length
  pub message_word0 : (i : SlotIndex) (h : Header) (v : Slot) → (message_notice i h v).word0 ≡ pack (16 ∷ 12 ∷ 4 ∷ []) (i.0 ∷ src_node h.address1 ∷ 0 ∷ [])
  pub message_word1 : (i : SlotIndex) (h : Header) (v : Slot) → (message_notice i h v).word1 ≡ pack (2 ∷ 1 ∷ 1 ∷ 4 ∷ 24 ∷ []) (0 ∷ 0 ∷ 0 ∷ incarnation h.control0 ∷ v.msgoffset ∷ [])
  pub message_word2 : (i : SlotIndex) (h : Header) (v : Slot) → v.metaword ≡ meta_part v.metaword → (message_notice i h v).word2 ≡ pack (4 ∷ 1 ∷ 3 ∷ 24 ∷ []) (0 ∷ bit (meta_flag v.metaword) ∷ meta_count v.metaword ∷ v.msgsize ∷ [])
  pub message_metadata : (i : SlotIndex) (h : Header) (v : Slot) → (message_notice i h v).metadata ≡ pick (meta_flag v.metaword) v.metadata no_metadata
  -- "an ack packet gives its own": offset, flag, length and size of the packet
  pub ack_word0 : (i : SlotIndex) (h : Header) → (ack_notice i h).word0 ≡ pack (16 ∷ 12 ∷ 4 ∷ []) (i.0 ∷ src_node h.address1 ∷ 0 ∷ [])
  pub ack_word1 : (i : SlotIndex) (h : Header) → (ack_notice i h).word1 ≡ pack (2 ∷ 1 ∷ 1 ∷ 4 ∷ 24 ∷ []) (0 ∷ 1 ∷ 0 ∷ incarnation h.control0 ∷ offset h.control0 ∷ [])
  pub ack_word2 : (i : SlotIndex) (h : Header) → unpack (4 ∷ 1 ∷ 3 ∷ 24 ∷ []) (ack_notice i h).word2 ≡ zero_top h.control1 ∷ bit (meta_flag h.control1) ∷ meta_count h.control1 ∷ msg_size h.control1 ∷ []
  -- "Fault, on list 0: slot 16, status 16; 0; dst_node 16, src_node 16"
  pub fault_word0 : (h : Header) (f : Fault) → (fault_notice h f).word0 ≡ pack (16 ∷ 16 ∷ []) (dst_slot h.address1 ∷ fault_status f ∷ [])
  pub fault_word1 : (h : Header) (f : Fault) → (fault_notice h f).word1 ≡ 0
  pub fault_word2 : (h : Header) (f : Fault) → (fault_notice h f).word2 ≡ pack (16 ∷ 16 ∷ []) (dst_node h.address0 ∷ src_node h.address1 ∷ [])
