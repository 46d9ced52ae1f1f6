-- "Sending": a descriptor's words, the go rule, which descriptor sends, the packet that it sends, and what that leaves. Assumes nothing.
use Rattle.ground.specs.Bytes.{to_bytes}
use Rattle.ground.specs.Choice.{pick, all_below}
use Rattle.ground.specs.Field.{field, flag, without, with_field}
use Rattle.ground.specs.Lists.{part}
use Rattle.std.specs.Prelude.{ℕ, Option, Some, None, zero, suc, ◌+◌, ◌-◌, ◌/◌, ◌%◌, min, Bool, not, ◌&&◌, ◌||◌, List, [], ◌∷◌, eqb, ltb, leb, get_or, set}
use Rattle.std.proofs.lemmas.List.Edits.{sets}
use Rattle.rules.specs.Types.{Saved, DescriptorIndex, Descriptor, Header, Posting}
use Rattle.rules.specs.Words.{most24, note_index, dst_slot, slot_and_source, is_ack_pkt, reserved_bit, offset, is_direct_io, is_control_pkt, notifies, goes, meta_flag, msg_size, meta_ok}
use Rattle.rules.specs.Memory.{descriptors, descriptor, descriptor_first, descriptor_word, direct_from, direct_to, lists, list, metadata_at}
use Rattle.rules.specs.Packet.{payload_most, form}
use Rattle.rules.specs.Notices.{zero_notice, posts_on, can_post_all}

-- ---- a descriptor's words

-- control1 is word 5.
abbrev pub control1_word : ℕ
control1_word = 5

-- status2 is word 6.
abbrev pub status2_word : ℕ
status2_word = 6

-- "Descriptor words 0 to 6, 8 to 11: msg_address; .. control0 ..; bytes_to_go; control1 ..; status2 (busy, stalled, done); metadata."
-- Words 1 and 2 are address0 and address1.
unfoldable pub descriptor_at : List ℕ → DescriptorIndex → Descriptor
descriptor_at send d =
    record {
      msgaddress = get_or send (descriptor_first d) 0;
      address0 = get_or send (descriptor_word d 1) 0;
      address1 = get_or send (descriptor_word d 2) 0;
      control0 = get_or send (descriptor_word d 3) 0;
      bytestogo = get_or send (descriptor_word d 4) 0;
      control1 = get_or send (descriptor_word d control1_word) 0;
      status2 = get_or send (descriptor_word d status2_word) 0;
      metadata = metadata_at send (descriptor_word d 8);
    }

-- Words 0 to 6 stored: all that a go and a packet change.
unfoldable pub store_descriptor : List ℕ → DescriptorIndex → Descriptor → List ℕ
store_descriptor send d v =
    sets send (descriptor_first d)
    (v.msgaddress ∷ v.address0 ∷ v.address1 ∷ v.control0 ∷ v.bytestogo ∷ v.control1 ∷ v.status2 ∷ [])

-- "status2 (busy, stalled, done)": bits 31, 30, 29. busy is never set.

-- done.
abbrev pub is_done : ℕ → Bool
is_done w = flag 29 w

-- stalled set.
abbrev pub with_stalled : ℕ → ℕ
with_stalled w = with_field 30 1 1 w

-- stalled cleared.
abbrev pub without_stalled : ℕ → ℕ
without_stalled w = without 30 1 w

-- done set.
abbrev pub with_done : ℕ → ℕ
with_done w = with_field 29 1 1 w

-- stalled and done cleared.
abbrev pub without_stalled_and_done : ℕ → ℕ
without_stalled_and_done w = without 29 2 w

-- "Active means go 1 and done 0."
abbrev pub is_active : Descriptor → Bool
is_active d = goes d.control1 && not (is_done d.status2)

-- ---- the go rule

-- "address plus size at most the data memory's length, or for direct_io an address that is a multiple of 4, at least 0x100, and plus
-- size at most 0x1000".
abbrev pub address_ok : Bool → ℕ → ℕ → ℕ → Bool
address_ok direct address size data_length =
    (not direct && leb (address + size) data_length)
    || (direct && eqb (address % 4) 0 && leb direct_from address && leb (address + size) direct_to)

-- "a size that is a multiple of 4, offset plus size at most 16,777,215, and" that.
unfoldable pub message_size_ok : Descriptor → ℕ → ℕ → ℕ → Bool
message_size_ok d control1 size data_length =
    eqb (size % 4) 0 && leb (offset d.control0 + size) most24 && address_ok (is_direct_io control1) d.msgaddress size data_length

-- "A control1 write with go 1 needs: meta_cnt at most 4, and 0 without meta_data; control0's reserved bit 0; ack_pkt only with
-- control_pkt and no metadata; with notify, note_index below 64; and without control_pkt," that of the size.
-- Of the descriptor's other words, a control1 word, a size and the data memory's length: the write asks it of its msg_size,
-- soundness of bytes_to_go.
unfoldable pub go_rule : Descriptor → ℕ → ℕ → ℕ → Bool
go_rule d control1 size data_length =
    meta_ok control1
    && eqb (reserved_bit d.control0) 0
    && (not (is_ack_pkt d.control0) || (is_control_pkt control1 && not (meta_flag control1)))
    && (not (notifies control1) || ltb (note_index d.address1) lists)
    && (is_control_pkt control1 || message_size_ok d control1 size data_length)

-- "It sets bytes_to_go to msg_size and clears stalled and done."
unfoldable pub started : ℕ → Descriptor → Descriptor
started control1 d =
    record {
      msgaddress = d.msgaddress;
      address0 = d.address0;
      address1 = d.address1;
      control0 = d.control0;
      bytestogo = msg_size control1;
      control1 = control1;
      status2 = without_stalled_and_done d.status2;
      metadata = d.metadata;
    }

-- ---- which descriptor sends

-- "Payload is the next 128 bytes or the rest; control_pkt sends none."
unfoldable pub next_payload : Descriptor → ℕ
next_payload d = pick (is_control_pkt d.control1) 0 (min payload_most d.bytestogo)

-- "With nothing left, or control_pkt": the next packet is the last.
unfoldable pub is_last : Descriptor → Bool
is_last d = is_control_pkt d.control1 || leb d.bytestogo payload_most

-- "with notify a zero notice is posted to note_index": what the next packet posts.
unfoldable pub send_posting : Descriptor → Option Posting
send_posting d = pick (is_last d && notifies d.control1) (posts_on (list (note_index d.address1)) zero_notice) None

-- "A descriptor is ready if active and any notice its next packet would post can be posted."
unfoldable pub is_ready : Saved → List ℕ → Descriptor → Bool
is_ready s receive d = is_active d && can_post_all s receive (send_posting d)

-- Of n places from place k after the last sender on, going round: the first that passes the test.
unfoldable pub first_from : (DescriptorIndex → Bool) → ℕ → ℕ → ℕ → Option DescriptorIndex
first_from test last k zero = None
first_from test last k (suc n) =
    let d = descriptor ((last + 1 + k) % descriptors) in
    pick (test d) (Some d) (first_from test last (k + 1) n)

-- "Starting after the last sender and going round, the first ready descriptor met in that order sends."
unfoldable pub next_sender : Saved → List ℕ → List ℕ → Option DescriptorIndex
next_sender s send receive = first_from (λ d. is_ready s receive (descriptor_at send d)) s.lastsender 0 descriptors

-- quiet: "none active".
unfoldable pub none_active : List ℕ → Bool
none_active send = all_below descriptors (λ d. not (is_active (descriptor_at send (descriptor d))))

-- ---- the packet, and what it leaves

-- The payload's bytes: of data memory, or for direct_io of the words of Send RAM.
unfoldable pub next_bytes : Descriptor → List ℕ → List ℕ → List ℕ
next_bytes d send bytes =
    pick (is_direct_io d.control1)
    (to_bytes (part (d.msgaddress / 4) (next_payload d / 4) send))
    (part d.msgaddress (next_payload d) bytes)

-- The words 0 to 3 that a node forms: address0, its own number as src_node, control0, and of control1 the flag, the count and the size.
unfoldable pub next_header : ℕ → Descriptor → Header
next_header node d =
    record {
      address0 = d.address0;
      address1 = slot_and_source (dst_slot d.address1) node;
      control0 = d.control0;
      control1 = field 0 28 d.control1;
    }

-- The next packet.
unfoldable pub next_packet : ℕ → Descriptor → List ℕ → List ℕ → List ℕ
next_packet node d send bytes = form (next_header node d) d.metadata (next_bytes d send bytes)

-- "After it msg_address and offset rise and bytes_to_go falls by the payload; use bits, meta_data and meta_cnt go to 0; stalled clears.
-- With nothing left, or control_pkt, done is set". (In a sound machine the offset stays within its 24 bits.)
unfoldable pub after_packet : Descriptor → Descriptor
after_packet d =
    let n = next_payload d in
    record {
      msgaddress = d.msgaddress + n;
      address0 = d.address0;
      address1 = d.address1;
      control0 = without 30 2 d.control0 + n;
      bytestogo = d.bytestogo - n;
      control1 = without 24 4 d.control1;
      status2 = pick (is_last d) (with_done (without_stalled d.status2)) (without_stalled d.status2);
      metadata = d.metadata;
    }

-- fabric: "stalled set on the chosen descriptor, no more".
unfoldable pub mark_stalled : List ℕ → DescriptorIndex → List ℕ
mark_stalled send d = set send (descriptor_word d status2_word) (with_stalled (descriptor_at send d).status2)
