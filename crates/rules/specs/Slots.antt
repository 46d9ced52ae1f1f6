-- "Receipt", a slot: its words, and when it is valid. Assumes nothing.
use Rattle.ground.specs.Field.{field, flag}
use Rattle.ground.specs.Signed.{signed}
use Rattle.std.specs.Prelude.{ℕ, ◌+◌, Bool, not, ◌&&◌, ◌||◌, List, [], ◌∷◌, eqb, ltb, leb, get_or, ℤ, nat_abs}
use Rattle.std.proofs.lemmas.List.Edits.{sets}
use Rattle.rules.specs.Types.{SlotIndex, Metadata, Slot}
use Rattle.rules.specs.Words.{most24, meta_part}
use Rattle.rules.specs.Memory.{slot_first, slot_word, lists, metadata_at}

-- ---- a slot's words

-- "Slot words: base; size; note_index 16, valid, indirect, do_acks, notify, reserve 12; bytes_to_go, signed; msg_size;
-- msg_offset; ack_note_index 16, unused 16; meta flag and length as in packet word 3; metadata 8 to 11." No rule reads words 12 to 15.
unfoldable pub slot_at : List ℕ → SlotIndex → Slot
slot_at receive i =
    record {
      base = get_or receive (slot_first i) 0;
      size = get_or receive (slot_word i 1) 0;
      noteandflags = get_or receive (slot_word i 2) 0;
      bytestogo = get_or receive (slot_word i 3) 0;
      msgsize = get_or receive (slot_word i 4) 0;
      msgoffset = get_or receive (slot_word i 5) 0;
      acknote = get_or receive (slot_word i 6) 0;
      metaword = get_or receive (slot_word i 7) 0;
      metadata = metadata_at receive (slot_word i 8);
      lock = get_or receive (slot_word i 12) 0;
      mark = get_or receive (slot_word i 13) 0;
      namea = get_or receive (slot_word i 14) 0;
      nameb = get_or receive (slot_word i 15) 0;
    }

-- The sixteen words as a row.
abbrev pub slot_words : Slot → List ℕ
slot_words v =
    v.base ∷ v.size ∷ v.noteandflags ∷ v.bytestogo ∷ v.msgsize ∷ v.msgoffset ∷ v.acknote ∷ v.metaword
    ∷ v.metadata.a ∷ v.metadata.b ∷ v.metadata.c ∷ v.metadata.d ∷ v.lock ∷ v.mark ∷ v.namea ∷ v.nameb ∷ []

-- A slot stored, whole.
unfoldable pub store_slot : List ℕ → SlotIndex → Slot → List ℕ
store_slot receive i v = sets receive (slot_first i) (slot_words v)

-- The slot with other words 3, 4, 5 and 7 to 11: bytes_to_go, msg_size, msg_offset, the meta word, the metadata.
abbrev pub with_message : ℕ → ℕ → ℕ → ℕ → Metadata → Slot → Slot
with_message bytestogo msgsize msgoffset metaword metadata v =
    record {
      base = v.base;
      size = v.size;
      noteandflags = v.noteandflags;
      bytestogo = bytestogo;
      msgsize = msgsize;
      msgoffset = msgoffset;
      acknote = v.acknote;
      metaword = metaword;
      metadata = metadata;
      lock = v.lock;
      mark = v.mark;
      namea = v.namea;
      nameb = v.nameb;
    }

-- ---- word 2: note_index 16 (31-16), valid (15), indirect (14), do_acks (13), notify (12), reserve 12 (11-0)

-- "note_index 16".
abbrev pub slot_note_index : ℕ → ℕ
slot_note_index w = field 16 16 w

-- "valid".
abbrev pub valid_bit : ℕ → Bool
valid_bit w = flag 15 w

-- "indirect".
abbrev pub indirect_bit : ℕ → Bool
indirect_bit w = flag 14 w

-- "do_acks".
abbrev pub does_acks : ℕ → Bool
does_acks w = flag 13 w

-- "notify".
abbrev pub slot_notifies : ℕ → Bool
slot_notifies w = flag 12 w

-- "reserve 12".
abbrev pub slot_reserve : ℕ → ℕ
slot_reserve w = field 0 12 w

-- ---- word 6: ack_note_index 16 (31-16), unused 16 (15-0)

-- "ack_note_index 16".
abbrev pub ack_note_index : ℕ → ℕ
ack_note_index w = field 16 16 w

-- ---- validity

-- "within 16,777,215 either way".
unfoldable pub within24 : ℤ → Bool
within24 z = leb (nat_abs z) most24

-- "Valid needs: valid 1, indirect and reserve 0, base plus size inside data memory, bytes_to_go within 16,777,215 either way,
-- ack_note_index below 64, note_index below 64 if notify, words 4 and 5 below 2^24, word 7 only flag and length."
unfoldable pub slot_ok : Slot → ℕ → Bool
slot_ok v data_length =
    valid_bit v.noteandflags
    && not (indirect_bit v.noteandflags)
    && eqb (slot_reserve v.noteandflags) 0
    && leb (v.base + v.size) data_length
    && within24 (signed v.bytestogo)
    && ltb (ack_note_index v.acknote) lists
    && (not (slot_notifies v.noteandflags) || ltb (slot_note_index v.noteandflags) lists)
    && leb v.msgsize most24
    && leb v.msgoffset most24
    && eqb v.metaword (meta_part v.metaword)
