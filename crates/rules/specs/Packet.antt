-- "Packet": its layout, formed and read back, its length, and which packets are well formed. Assumes nothing.
use Rattle.ground.specs.Bytes.{word_at, to_bytes}
use Rattle.ground.specs.Choice.{pick}
use Rattle.ground.specs.Lists.{part}
use Rattle.std.specs.Prelude.{ℕ, ◌-◌, ◌*◌, ◌%◌, ◌^◌, Bool, not, ◌&&◌, ◌||◌, List, [], ◌∷◌, ◌++◌, eqb, leb, length, take}
use Rattle.rules.specs.Types.{Metadata, Header, Packet}
use Rattle.rules.specs.Words.{zero_low, zero_top, is_ack_pkt, reserved_bit, meta_flag, meta_ok, check_half, zero_half}
use Rattle.rules.specs.Memory.{no_metadata, metadata_words}
use Rattle.rules.specs.Checksum.{check_of}

-- ---- numbers

-- "The payload begins at byte 20": in a plain packet, one without the flag.
abbrev pub plain_start : ℕ
plain_start = 20

-- "or at byte 36 with metadata": in a flagged packet.
abbrev pub flagged_start : ℕ
flagged_start = 36

-- The payload "is 0 to 128 bytes, a multiple of 4".
abbrev pub payload_most : ℕ
payload_most = 128

-- The longest packet, "44 to 168".
abbrev pub packet_most : ℕ
packet_most = 168

-- ---- formed

-- "Word 0 is address0; 1 is dst_slot 16, src_node 12, zero 4; 2 is control0; 3 is zero 4, meta flag 1, meta_len 3, msg_size 24": bytes 0 to 15.
abbrev pub header_bytes : Header → List ℕ
header_bytes h = to_bytes (h.address0 ∷ h.address1 ∷ h.control0 ∷ h.control1 ∷ [])

-- "With the flag, four metadata words."
unfoldable pub metadata_bytes : Header → Metadata → List ℕ
metadata_bytes h m = pick (meta_flag h.control1) (to_bytes (metadata_words m)) []

-- "header check 16, zero 16"; "body check 16 and zero 16".
abbrev pub check_word : List ℕ → ℕ
check_word covered = check_of covered * 2 ^ 16

-- "If not empty, body check 16 and zero 16 follow."
abbrev pub body_check_bytes : List ℕ → List ℕ
body_check_bytes [] = []
body_check_bytes (x ∷ xs) = to_bytes (check_word (x ∷ xs) ∷ [])

-- Words 0 to 4 and the metadata. "Header check covers bytes 0 to 15 and metadata".
unfoldable pub front_bytes : Header → Metadata → List ℕ
front_bytes h m = header_bytes h ++ to_bytes (check_word (header_bytes h ++ metadata_bytes h m) ∷ []) ++ metadata_bytes h m

-- The whole packet; "body check the payload".
unfoldable pub form : Header → Metadata → List ℕ → List ℕ
form h m payload = front_bytes h m ++ payload ++ body_check_bytes payload

-- ---- read back

-- Words 0 to 3.
abbrev pub header_of : List ℕ → Header
header_of bytes = record { address0 = word_at bytes 0; address1 = word_at bytes 4; control0 = word_at bytes 8; control1 = word_at bytes 12 }

-- The meta flag, in word 3.
abbrev pub flagged : List ℕ → Bool
flagged bytes = meta_flag (word_at bytes 12)

-- "The payload begins at byte 20, or at byte 36 with metadata".
unfoldable pub payload_from : List ℕ → ℕ
payload_from bytes = pick (flagged bytes) flagged_start plain_start

-- How long the payload is: the rest without the word of the body check.
abbrev pub payload_length : List ℕ → ℕ
payload_length bytes = length bytes - payload_from bytes - 4

-- The payload.
abbrev pub payload_of : List ℕ → List ℕ
payload_of bytes = part (payload_from bytes) (payload_length bytes) bytes

-- The four words in bytes 20 to 35.
abbrev pub metadata_in : List ℕ → Metadata
metadata_in bytes = record { a = word_at bytes 20; b = word_at bytes 24; c = word_at bytes 28; d = word_at bytes 32 }

-- The metadata; zeros without the flag.
unfoldable pub metadata_of : List ℕ → Metadata
metadata_of bytes = pick (flagged bytes) (metadata_in bytes) no_metadata

-- What the steps look at besides the two checks: the payload is told by its length.
unfoldable pub packet_of : List ℕ → Packet
packet_of bytes =
    record {
      header = header_of bytes;
      zerohalf = zero_half (word_at bytes 16);
      metadata = metadata_of bytes;
      length = length bytes;
      payloadlength = payload_length bytes;
    }

-- ---- the length

-- "Length: a multiple of 4; without the flag 20, or 28 to 152; with it 36, or 44 to 168."
abbrev pub length_ok : Bool → ℕ → Bool
length_ok flag n =
    eqb (n % 4) 0
    && ((not flag && (eqb n plain_start || (leb 28 n && leb n 152)))
    || (flag && (eqb n flagged_start || (leb 44 n && leb n packet_most))))

-- "Otherwise no-packet."
abbrev pub is_packet : List ℕ → Bool
is_packet bytes = length_ok (flagged bytes) (length bytes)

-- ---- the steps that look at the packet alone

-- What it covers where the payload begins at byte `from`: bytes 0 to 15, and what stands between word 4 and the payload.
abbrev pub header_covered : ℕ → List ℕ → List ℕ
header_covered from bytes = take 16 bytes ++ part plain_start (from - plain_start) bytes

-- "header check", word 4's upper half.
unfoldable pub header_checks : List ℕ → Bool
header_checks bytes = eqb (check_half (word_at bytes 16)) (check_of (header_covered (payload_from bytes) bytes))

-- "zero and reserved fields, meta_len as meta_cnt, ack is 20 bytes (H)".
unfoldable pub fields_ok : Packet → Bool
fields_ok p =
    eqb (zero_low p.header.address1) 0
    && eqb (reserved_bit p.header.control0) 0
    && eqb (zero_top p.header.control1) 0
    && eqb p.zerohalf 0
    && meta_ok p.header.control1
    && (not (is_ack_pkt p.header.control0) || eqb p.length plain_start)

-- "body check or its padding": the last word is the payload's check and 16 zero bits. An empty payload has none.
unfoldable pub body_checks : List ℕ → Bool
body_checks bytes = eqb (length bytes) (payload_from bytes) || eqb (word_at bytes (length bytes - 4)) (check_word (payload_of bytes))

-- "Well formed: this length, and the first two steps and the last below passed."
unfoldable pub well_formed : List ℕ → Bool
well_formed bytes = is_packet bytes && header_checks bytes && fields_ok (packet_of bytes) && body_checks bytes
