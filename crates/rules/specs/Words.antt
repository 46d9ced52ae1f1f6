-- "the first named field takes the top bits": the words that descriptors, slots, packets and notices share, with the bits of each field, 31
-- the top. Layouts.antt holds them against document 01's widths. Assumes nothing.
use Rattle.ground.specs.Field.{field, flag}
use Rattle.std.specs.Prelude.{ℕ, ◌+◌, ◌*◌, ◌^◌, Bool, ◌&&◌, ◌||◌, eqb, leb}

-- The greatest number of 24 bits, 16,777,215.
abbrev pub most24 : ℕ
most24 = 16777215

-- ---- address0, a descriptor's word 1 and a packet's word 0: fab 4 (31-28), dst_node 12 (27-16), fab 16 (15-0)

-- "dst_node 12".
abbrev pub dst_node : ℕ → ℕ
dst_node w = field 16 12 w

-- ---- address1, a descriptor's word 2: dst_slot 16 (31-16), note_index 16 (15-0);
-- a packet's word 1: dst_slot 16 (31-16), src_node 12 (15-4), zero 4 (3-0)

-- "dst_slot 16".
abbrev pub dst_slot : ℕ → ℕ
dst_slot w = field 16 16 w

-- "note_index 16", of a descriptor.
abbrev pub note_index : ℕ → ℕ
note_index w = field 0 16 w

-- "src_node 12", of a packet.
abbrev pub src_node : ℕ → ℕ
src_node w = field 4 12 w

-- "zero 4", of a packet.
abbrev pub zero_low : ℕ → ℕ
zero_low w = field 0 4 w

-- "dst_slot 16, src_node 12, zero 4", made: a packet's word 1 and a message notice's word 0.
abbrev pub slot_and_source : ℕ → ℕ → ℕ
slot_and_source slot node = slot * 2 ^ 16 + node * 2 ^ 4

-- ---- control0, a descriptor's word 3 and a packet's word 2: use_msg_size (31), use_msg_offset (30), ack_pkt (29), reserved (28),
-- incarnation 4 (27-24), offset 24 (23-0)

-- "use_msg_size".
abbrev pub uses_msg_size : ℕ → Bool
uses_msg_size w = flag 31 w

-- "use_msg_offset".
abbrev pub uses_msg_offset : ℕ → Bool
uses_msg_offset w = flag 30 w

-- "ack_pkt".
abbrev pub is_ack_pkt : ℕ → Bool
is_ack_pkt w = flag 29 w

-- "reserved".
abbrev pub reserved_bit : ℕ → ℕ
reserved_bit w = field 28 1 w

-- "incarnation 4".
abbrev pub incarnation : ℕ → ℕ
incarnation w = field 24 4 w

-- "offset 24".
abbrev pub offset : ℕ → ℕ
offset w = field 0 24 w

-- ---- control1, a descriptor's word 5: direct_io (31), control_pkt (30), notify (29), go (28), meta_data (27), meta_cnt 3 (26-24),
-- msg_size 24 (23-0); a packet's word 3 and a message notice's word 2: zero 4 (31-28), meta flag 1 (27), meta_len 3 (26-24), msg_size 24 (23-0);
-- a slot's word 7: only that flag and length

-- "direct_io".
abbrev pub is_direct_io : ℕ → Bool
is_direct_io w = flag 31 w

-- "control_pkt".
abbrev pub is_control_pkt : ℕ → Bool
is_control_pkt w = flag 30 w

-- "notify".
abbrev pub notifies : ℕ → Bool
notifies w = flag 29 w

-- "go".
abbrev pub goes : ℕ → Bool
goes w = flag 28 w

-- "zero 4", of a packet's word 3.
abbrev pub zero_top : ℕ → ℕ
zero_top w = field 28 4 w

-- "meta_data", "meta flag 1".
abbrev pub meta_flag : ℕ → Bool
meta_flag w = flag 27 w

-- "meta_cnt 3", "meta_len 3".
abbrev pub meta_count : ℕ → ℕ
meta_count w = field 24 3 w

-- "msg_size 24".
abbrev pub msg_size : ℕ → ℕ
msg_size w = field 0 24 w

-- The flag and the count alone, where they stand.
abbrev pub meta_part : ℕ → ℕ
meta_part w = field 24 4 w * 2 ^ 24

-- "meta_cnt at most 4, and 0 without meta_data"; "meta_len as meta_cnt".
abbrev pub meta_ok : ℕ → Bool
meta_ok w = leb (meta_count w) 4 && (meta_flag w || eqb (meta_count w) 0)

-- ---- a check's word, a packet's word 4 and the word behind its payload: check 16 (31-16), zero 16 (15-0)

-- "header check 16".
abbrev pub check_half : ℕ → ℕ
check_half w = field 16 16 w

-- "zero 16".
abbrev pub zero_half : ℕ → ℕ
zero_half w = field 0 16 w
