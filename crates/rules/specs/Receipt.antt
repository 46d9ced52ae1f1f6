-- "Receipt, first failure decides": the table, what lands, what completes a message, what is posted, and all that a receipt changes.
-- Assumes nothing.
use Rattle.ground.specs.Choice.{pick, need}
use Rattle.ground.specs.Signed.{signed, unsigned, is_zero}
use Rattle.std.specs.Prelude.{ℕ, Option, None, ◌+◌, ◌^◌, Bool, true, false, not, ◌&&◌, ◌||◌, List, eqb, ltb, leb, ℤ, pos, ◌+ℤ◌, ◌-ℤ◌}
use Rattle.std.proofs.lemmas.List.Edits.{sets}
use Rattle.rules.specs.Types.{Saved, SlotIndex, Slot, Header, Packet, Notice, Posting, Receipt}
use Rattle.rules.specs.Types.{Fault, HeaderCheck, Fields, Node, SlotAboveCount, SlotNotValid, Incarnation, OffsetAbove, Beyond, BodyCheck}
use Rattle.rules.specs.Words.{dst_node, dst_slot, src_node, uses_msg_size, uses_msg_offset, is_ack_pkt, incarnation, offset, meta_flag, meta_part, msg_size}
use Rattle.rules.specs.Memory.{Machine, with_bytes, slot, list, no_metadata}
use Rattle.rules.specs.Saved.{with_counts, own_incarnation, own_node, counted}
use Rattle.rules.specs.Queues.{has_room}
use Rattle.rules.specs.Board.{Board, Effect, silently, on_board, on_saved, on_receive}
use Rattle.rules.specs.Notices.{message, fault, fault_list, push_aqr, posts_on, can_post_all, post_all}
use Rattle.rules.specs.Slots.{slot_at, store_slot, with_message, slot_note_index, does_acks, slot_notifies, ack_note_index, within24, slot_ok}
use Rattle.rules.specs.Packet.{payload_of, packet_of, header_checks, fields_ok, body_checks}

-- ---- the table

-- The column "Status", by the step that fails.
abbrev pub fault_status : Fault → ℕ
fault_status HeaderCheck = 0x0400  -- "header check"
fault_status Fields = 0x0080  -- "zero and reserved fields, meta_len as meta_cnt, ack is 20 bytes (H)"
fault_status Node = 0x2000  -- "dst_node is ours"
fault_status SlotAboveCount = 0x4000  -- "slot at or above the count (H)"
fault_status SlotNotValid = 0x8000  -- "slot not valid"
fault_status Incarnation = 0x0100  -- "incarnation"
fault_status OffsetAbove = 0x1000  -- "offset above buffer size"
fault_status Beyond = 0x0800  -- "offset plus payload above it"; "new bytes_to_go beyond 16,777,215 either way (H)"
fault_status BodyCheck = 0x0200  -- "body check or its padding"

-- "use_msg_size stores msg_size and adds it to bytes_to_go"; "bytes_to_go falls by the payload": the new bytes_to_go.
unfoldable pub new_bytes_to_go : Packet → Slot → ℤ
new_bytes_to_go p v =
    signed v.bytestogo +ℤ pos (pick (uses_msg_size p.header.control0) (msg_size p.header.control1) 0) -ℤ pos p.payloadlength

-- The table of steps, each with its fault. The slot is looked at only once its number is below the count.
unfoldable pub receipt_of : Saved → List ℕ → ℕ → List ℕ → Receipt
receipt_of s receive data_length packet =
    let p = packet_of packet in
    let h = p.header in
    need (header_checks packet) (Receipt.Fails HeaderCheck)  -- "header check"
    (need (fields_ok p) (Receipt.Fails Fields)  -- "zero and reserved fields, meta_len as meta_cnt, ack is 20 bytes (H)"
    (need (eqb (dst_node h.address0) (own_node s.pcsr0)) (Receipt.Fails Node)  -- "dst_node is ours"
    (need (ltb (dst_slot h.address1) s.slots) (Receipt.Fails SlotAboveCount)  -- "slot at or above the count (H)"
    (let i = slot (dst_slot h.address1) in
    let v = slot_at receive i in
    need (slot_ok v data_length) (Receipt.Fails SlotNotValid)  -- "slot not valid"
    (need (eqb (incarnation h.control0) (own_incarnation s.pcsr0)) (Receipt.Fails Incarnation)  -- "incarnation"
    (need (not (is_ack_pkt h.control0)) (Receipt.Acks i v)  -- "ack: notice to ack_note_index, no slot change, end"
    (need (leb (offset h.control0) v.size) (Receipt.Fails OffsetAbove)  -- "offset above buffer size"
    (need (leb (offset h.control0 + p.payloadlength) v.size) (Receipt.Fails Beyond)  -- "offset plus payload above it"
    (need (within24 (new_bytes_to_go p v)) (Receipt.Fails Beyond)  -- "new bytes_to_go beyond 16,777,215 either way (H)"
    (need (body_checks packet) (Receipt.Fails BodyCheck)  -- "body check or its padding"
    (Receipt.Lands i v)))))))))))

-- ---- what lands

-- "Then: .. use_msg_size stores msg_size and adds it to bytes_to_go; use_msg_offset stores the header's offset; metadata, only if the
-- packet has the flag, is stored with flag and length in words 7 to 11; bytes_to_go falls by the payload."
unfoldable pub landed : Packet → Slot → Slot
landed p v =
    let h = p.header in
    with_message
    (unsigned (new_bytes_to_go p v))
    (pick (uses_msg_size h.control0) (msg_size h.control1) v.msgsize)
    (pick (uses_msg_offset h.control0) (offset h.control0) v.msgoffset)
    (pick (meta_flag h.control1) (meta_part h.control1) v.metaword)
    (pick (meta_flag h.control1) p.metadata v.metadata)
    v

-- "The message is complete if the result is 0 and the packet had payload or use_msg_size."
unfoldable pub completes : Packet → Slot → Bool
completes p v = is_zero (new_bytes_to_go p v) && (ltb 0 p.payloadlength || uses_msg_size p.header.control0)

-- "and slot words 7 to 11 go to 0. msg_size and msg_offset stay."
unfoldable pub finished : Slot → Slot
finished v = with_message v.bytestogo v.msgsize v.msgoffset 0 no_metadata v

-- The slot after the packet.
unfoldable pub slot_after : Packet → Slot → Slot
slot_after p v = pick (completes p v) (finished (landed p v)) (landed p v)

-- ---- what is posted

-- "Offset, msg_size and metadata are the slot's": as the packet left it, before words 7 to 11 go to 0.
unfoldable pub message_notice : SlotIndex → Header → Slot → Notice
message_notice i h v =
    message i (src_node h.address1) false (incarnation h.control0) v.msgoffset (v.metaword + v.msgsize)
    (pick (meta_flag v.metaword) v.metadata no_metadata)

-- "an ack packet gives its own".
unfoldable pub ack_notice : SlotIndex → Header → Notice
ack_notice i h =
    message i (src_node h.address1) true (incarnation h.control0) (offset h.control0) h.control1 no_metadata

-- A fault's fields, as they stand in the packet.
unfoldable pub fault_notice : Header → Fault → Notice
fault_notice h f = fault (dst_slot h.address1) (fault_status f) (dst_node h.address0) (src_node h.address1)

-- What a receipt posts: a fault's notice; "ack: notice to ack_note_index"; at completion "notify posts".
unfoldable pub receipt_posting : Packet → Receipt → Option Posting
receipt_posting p (Receipt.Fails f) = posts_on fault_list (fault_notice p.header f)
receipt_posting p (Receipt.Acks i v) = posts_on (list (ack_note_index v.acknote)) (ack_notice i p.header)
receipt_posting p (Receipt.Lands i v) =
    pick (completes p v && slot_notifies v.noteandflags)
    (posts_on (list (slot_note_index v.noteandflags)) (message_notice i p.header (landed p v)))
    None

-- "Then do_acks puts slot plus 2^31 on AQR (H)": whether a receipt does.
unfoldable pub needs_aqr : Packet → Receipt → Bool
needs_aqr p (Receipt.Fails f) = false
needs_aqr p (Receipt.Acks i v) = false
needs_aqr p (Receipt.Lands i v) = completes p v && does_acks v.noteandflags

-- "slot plus 2^31".
abbrev pub aqr_entry : SlotIndex → ℕ
aqr_entry i = i.0 + 2 ^ 31

-- Else stalled: "a needed notice or AQR entry has no room".
unfoldable pub has_room_for : Saved → List ℕ → Packet → Receipt → Bool
has_room_for s receive p r = can_post_all s receive (receipt_posting p r) && (not (needs_aqr p r) || has_room s.aqr)

-- ---- all that a receipt changes

-- The slot: "ack: .. no slot change", and none by a fault.
unfoldable pub slot_stored : Packet → Receipt → List ℕ → List ℕ
slot_stored p (Receipt.Fails f) receive = receive
slot_stored p (Receipt.Acks i v) receive = receive
slot_stored p (Receipt.Lands i v) receive = store_slot receive i (slot_after p v)

-- Data memory: "payload to base plus offset".
unfoldable pub payload_stored : List ℕ → Packet → Receipt → List ℕ → List ℕ
payload_stored packet p (Receipt.Fails f) bytes = bytes
payload_stored packet p (Receipt.Acks i v) bytes = bytes
payload_stored packet p (Receipt.Lands i v) bytes = sets bytes (v.base + offset p.header.control0) (payload_of packet)

-- The AQR entry, where one is needed.
unfoldable pub aqr_stored : Packet → Receipt → Board → Board
aqr_stored p (Receipt.Fails f) b = b
aqr_stored p (Receipt.Acks i v) b = b
aqr_stored p (Receipt.Lands i v) b = pick (needs_aqr p (Receipt.Lands i v)) (push_aqr (aqr_entry i) b) b

-- "taken counts receipts answered done, acks included; faulted those answered fault."
unfoldable pub counted_by : Receipt → Saved → Saved
counted_by (Receipt.Fails f) s = with_counts s.taken (counted s.faulted) s
counted_by (Receipt.Acks i v) s = with_counts (counted s.taken) s.faulted s
counted_by (Receipt.Lands i v) s = with_counts (counted s.taken) s.faulted s

-- On the board: the slot is stored, the AQR entry pushed, the notice posted, the packet counted.
unfoldable pub received_on_board : Packet → Receipt → Board → Board
received_on_board p r b = on_saved (counted_by r) (post_all (receipt_posting p r) (aqr_stored p r (on_receive (slot_stored p r) b)))

-- With the payload in data memory.
unfoldable pub received : List ℕ → Packet → Receipt → Machine → Effect
received packet p r m = on_board (received_on_board p r) (silently (with_bytes (payload_stored packet p r m.bytes) m))
