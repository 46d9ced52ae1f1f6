-- "Packet": document 01's fields, the bytes that its layout gives for them, which fields it allows, and where the receiver and the sender have
-- each from. The layout is made of widths and bits alone, not by the rules' own way of forming a packet. Assumes nothing.
use Rattle.std.specs.Prelude.{◌<◌, ◌≤◌, ◌≡◌, ℕ, ◌%◌, ◌^◌, Bool, true, false, List, [], ◌∷◌, ◌++◌, length, get_or}
use Rattle.ground.specs.Bytes.{to_bytes}
use Rattle.ground.specs.Choice.{pick}
use Rattle.ground.specs.Field.{field, bit, pack}
use Rattle.rules.specs.Words.{dst_node, dst_slot, src_node, uses_msg_size, uses_msg_offset, is_ack_pkt, incarnation, offset, meta_flag, meta_count, msg_size}
use Rattle.rules.specs.Memory.{Machine, no_metadata}
use Rattle.rules.specs.Saved.{own_node}
use Rattle.rules.specs.Checksum.{check_of}
use Rattle.rules.specs.Packet.{payload_of, packet_of}
use Rattle.rules.specs.Sending.{next_bytes}
use Rattle.demands.specs.Types.{Metadata, Descriptor, Header}

-- Each number of a row is below n.
abbrev pub Below : ℕ → List ℕ → Type 0
Below n xs = (i : ℕ) → get_or xs i 0 < n

-- A packet's fields, in the order of its words; the zeros and the checks are no fields.
pub record Fields : Type 0 where
  pub fabtop : ℕ
  pub dstnode : ℕ
  pub fablow : ℕ
  pub dstslot : ℕ
  pub srcnode : ℕ
  pub usemsgsize : Bool
  pub usemsgoffset : Bool
  pub ackpkt : Bool
  pub incarnation : ℕ
  pub offset : ℕ
  pub metaflag : Bool
  pub metalen : ℕ
  pub msgsize : ℕ
  pub metadata : Metadata
  pub payload : List ℕ

-- ---- the layout

-- "Word 0 is address0": "fab 4, dst_node 12, fab 16".
unfoldable pub word0 : Fields → ℕ
word0 f = pack (4 ∷ 12 ∷ 16 ∷ []) (f.fabtop ∷ f.dstnode ∷ f.fablow ∷ [])

-- "1 is dst_slot 16, src_node 12, zero 4".
unfoldable pub word1 : Fields → ℕ
word1 f = pack (16 ∷ 12 ∷ 4 ∷ []) (f.dstslot ∷ f.srcnode ∷ 0 ∷ [])

-- "2 is control0": "use_msg_size, use_msg_offset, ack_pkt, reserved, incarnation 4, offset 24".
unfoldable pub word2 : Fields → ℕ
word2 f =
    pack (1 ∷ 1 ∷ 1 ∷ 1 ∷ 4 ∷ 24 ∷ [])
    (bit f.usemsgsize ∷ bit f.usemsgoffset ∷ bit f.ackpkt ∷ 0 ∷ f.incarnation ∷ f.offset ∷ [])

-- "3 is zero 4, meta flag 1, meta_len 3, msg_size 24".
unfoldable pub word3 : Fields → ℕ
word3 f = pack (4 ∷ 1 ∷ 3 ∷ 24 ∷ []) (0 ∷ bit f.metaflag ∷ f.metalen ∷ f.msgsize ∷ [])

-- Words 0 to 3, "bytes 0 to 15".
unfoldable pub first_bytes : Fields → List ℕ
first_bytes f = to_bytes (word0 f ∷ word1 f ∷ word2 f ∷ word3 f ∷ [])

-- "With the flag, four metadata words."
unfoldable pub flagged_bytes : Fields → List ℕ
flagged_bytes f = pick f.metaflag (to_bytes (f.metadata.a ∷ f.metadata.b ∷ f.metadata.c ∷ f.metadata.d ∷ [])) []

-- "header check 16, zero 16"; "body check 16 and zero 16".
unfoldable pub check_bytes : List ℕ → List ℕ
check_bytes covered = to_bytes (pack (16 ∷ 16 ∷ []) (check_of covered ∷ 0 ∷ []) ∷ [])

-- "If not empty, body check 16 and zero 16 follow."
abbrev pub body_bytes : List ℕ → List ℕ
body_bytes [] = []
body_bytes (x ∷ xs) = check_bytes (x ∷ xs)

-- The whole packet, to the byte. "Header check covers bytes 0 to 15 and metadata; body check the payload."
unfoldable pub layout : Fields → List ℕ
layout f = first_bytes f ++ check_bytes (first_bytes f ++ flagged_bytes f) ++ flagged_bytes f ++ f.payload ++ body_bytes f.payload

-- ---- which fields a packet may have

-- Each fits the width that 01 gives it.
pub record Within (f : Fields) : Type 0 where
  pub fabtop : f.fabtop < 2 ^ 4
  pub dstnode : f.dstnode < 2 ^ 12
  pub fablow : f.fablow < 2 ^ 16
  pub dstslot : f.dstslot < 2 ^ 16
  pub srcnode : f.srcnode < 2 ^ 12
  pub incarnation : f.incarnation < 2 ^ 4
  pub offset : f.offset < 2 ^ 24
  pub metalen : f.metalen < 2 ^ 3
  pub msgsize : f.msgsize < 2 ^ 24
  pub metadata : Below (2 ^ 32) (f.metadata.a ∷ f.metadata.b ∷ f.metadata.c ∷ f.metadata.d ∷ [])
  pub payload : Below 256 f.payload

-- And what 01 asks of them besides.
pub record Allowed (f : Fields) : Type 0 where
  pub within : Within f
  -- the payload "is 0 to 128 bytes, a multiple of 4"
  pub most : length f.payload ≤ 128
  pub fours : length f.payload % 4 ≡ 0
  -- "meta_len as meta_cnt": "meta_cnt at most 4, and 0 without meta_data"
  pub len : f.metalen ≤ 4
  pub no_len : f.metaflag ≡ false → f.metalen ≡ 0
  -- metadata that are not there are zeros, so that one packet has one row of fields
  pub no_metadata_lem : f.metaflag ≡ false → f.metadata ≡ no_metadata
  -- "ack is 20 bytes (H)"
  pub ack : f.ackpkt ≡ true → length (layout f) ≡ 20

-- ---- where they are from

-- The fields of words 0 to 3, metadata and payload, by the readers that receipt uses. (No step looks at fab.)
unfoldable pub fields_in : Header → Metadata → List ℕ → Fields
fields_in h metadata payload =
    record {
      fabtop = field 28 4 h.address0;
      dstnode = dst_node h.address0;
      fablow = field 0 16 h.address0;
      dstslot = dst_slot h.address1;
      srcnode = src_node h.address1;
      usemsgsize = uses_msg_size h.control0;
      usemsgoffset = uses_msg_offset h.control0;
      ackpkt = is_ack_pkt h.control0;
      incarnation = incarnation h.control0;
      offset = offset h.control0;
      metaflag = meta_flag h.control1;
      metalen = meta_count h.control1;
      msgsize = msg_size h.control1;
      metadata = metadata;
      payload = payload;
    }

-- What the receiver reads of a packet.
unfoldable pub fields_of : List ℕ → Fields
fields_of packet = fields_in (packet_of packet).header (packet_of packet).metadata (payload_of packet)

-- What the sender sends of a descriptor: its words' fields, its own node as src_node, the metadata with the flag, the next bytes.
unfoldable pub sent_fields : Machine → Descriptor → Fields
sent_fields m d =
    record {
      fabtop = field 28 4 d.address0;
      dstnode = dst_node d.address0;
      fablow = field 0 16 d.address0;
      dstslot = dst_slot d.address1;
      srcnode = own_node m.saved.pcsr0;
      usemsgsize = uses_msg_size d.control0;
      usemsgoffset = uses_msg_offset d.control0;
      ackpkt = is_ack_pkt d.control0;
      incarnation = incarnation d.control0;
      offset = offset d.control0;
      metaflag = meta_flag d.control1;
      metalen = meta_count d.control1;
      msgsize = msg_size d.control1;
      metadata = pick (meta_flag d.control1) d.metadata no_metadata;
      payload = next_bytes d m.send m.bytes;
    }
