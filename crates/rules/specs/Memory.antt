-- "Memories and numbers": the memories' sizes, where their words stand, what each word is, and block addresses. Assumes nothing.
use Rattle.ground.specs.Choice.{pick}
use Rattle.std.specs.Prelude.{ℕ, ◌+◌, ◌-◌, ◌*◌, ◌/◌, ◌%◌, Bool, ◌&&◌, ◌||◌, List, [], ◌∷◌, eqb, ltb, leb, length, get_or}
use Rattle.rules.specs.Types.{Saved, SlotIndex, ListIndex, BlockAddress, DescriptorIndex, Metadata, SendPart, ReceivePart}

-- ---- the machine: the saved state and the four lent memories

pub record Machine : Type 0 where
  pub saved : Saved
  pub send : List ℕ
  pub receive : List ℕ
  pub bytes : List ℕ
  pub notices : List ℕ

-- The machine of its parts.
abbrev pub machine : Saved → List ℕ → List ℕ → List ℕ → List ℕ → Machine
machine s send receive bytes notices = record { saved = s; send = send; receive = receive; bytes = bytes; notices = notices }

-- With another saved state.
abbrev pub with_saved : Saved → Machine → Machine
with_saved s m = machine s m.send m.receive m.bytes m.notices

-- With another Send RAM.
abbrev pub with_send : List ℕ → Machine → Machine
with_send ws m = machine m.saved ws m.receive m.bytes m.notices

-- With another Receive RAM.
abbrev pub with_receive : List ℕ → Machine → Machine
with_receive ws m = machine m.saved m.send ws m.bytes m.notices

-- With another data memory.
abbrev pub with_bytes : List ℕ → Machine → Machine
with_bytes bs m = machine m.saved m.send m.receive bs m.notices

-- ---- sizes

-- "Send RAM 1,024 words of 32 bits".
abbrev pub send_size : ℕ
send_size = 1024

-- "Receive RAM 2,048 words".
abbrev pub receive_size : ℕ
receive_size = 2048

-- "Data memory 0 to 32,768 bytes."
abbrev pub data_most : ℕ
data_most = 32768

-- "Notice memory 8 to 2,048 words, a multiple of 8".
abbrev pub notices_most : ℕ
notices_most = 2048

-- "a block is 8 words".
abbrev pub block_size : ℕ
block_size = 8

-- Each memory has its size, by the four lengths; else the reply is sizes.
abbrev pub sizes_ok : ℕ → ℕ → ℕ → ℕ → Bool
sizes_ok send receive bytes notices =
    eqb send send_size
    && eqb receive receive_size
    && leb bytes data_most
    && leb block_size notices
    && leb notices notices_most
    && eqb (notices % block_size) 0

-- ---- Send RAM: "descriptors 0 to 3 in words 0 to 63, 16 words each; DIO from byte 0x100"

-- "descriptors 0 to 3".
abbrev pub descriptors : ℕ
descriptors = 4

-- The descriptor with number n.
abbrev pub descriptor : ℕ → DescriptorIndex
descriptor n = record { 0 = n }

-- "16 words each".
abbrev pub descriptor_size : ℕ
descriptor_size = 16

-- A descriptor's word 0.
abbrev pub descriptor_first : DescriptorIndex → ℕ
descriptor_first d = descriptor_size * d.0

-- Its word k.
abbrev pub descriptor_word : DescriptorIndex → ℕ → ℕ
descriptor_word d k = descriptor_first d + k

-- "DIO from byte 0x100".
abbrev pub direct_from : ℕ
direct_from = 0x100

-- DIO ends with Send RAM, at byte 0x1000.
abbrev pub direct_to : ℕ
direct_to = 4 * send_size

-- What word i of Send RAM is.
unfoldable pub send_part : ℕ → SendPart
send_part i =
    pick (ltb i (descriptors * descriptor_size)) (SendPart.OfDescriptor (descriptor (i / descriptor_size)) (i % descriptor_size)) (SendPart.Direct i)

-- ---- Receive RAM

-- "64 slots of 16 words".
abbrev pub slots_most : ℕ
slots_most = 64

-- The slot with number n.
abbrev pub slot : ℕ → SlotIndex
slot n = record { 0 = n }

-- "16 words".
abbrev pub slot_size : ℕ
slot_size = 16

-- A slot's word 0.
abbrev pub slot_first : SlotIndex → ℕ
slot_first i = slot_size * i.0

-- Its word k.
abbrev pub slot_word : SlotIndex → ℕ → ℕ
slot_word i k = slot_first i + k

-- "64 lists".
abbrev pub lists : ℕ
lists = 64

-- The list with number n.
abbrev pub list : ℕ → ListIndex
list n = record { 0 = n }

-- "from 1024 64 lists of 2 words (head, token)".
abbrev pub lists_from : ℕ
lists_from = 1024

-- Where a list's head stands.
abbrev pub head_word : ListIndex → ℕ
head_word l = lists_from + 2 * l.0

-- The token stands after the head.
abbrev pub token_word : ListIndex → ℕ
token_word l = head_word l + 1

-- "from 1152 NQR, AQR and NBQR, 256 each": how long each is.
abbrev pub queue_size : ℕ
queue_size = 256

-- NQR "from 1152".
abbrev pub nqr_from : ℕ
nqr_from = 1152

-- AQR after NQR.
abbrev pub aqr_from : ℕ
aqr_from = nqr_from + queue_size

-- NBQR after AQR.
abbrev pub nbqr_from : ℕ
nbqr_from = aqr_from + queue_size

-- "from 1920 a reader's place per list (H)".
abbrev pub places_from : ℕ
places_from = 1920

-- Where a list's reader's place stands.
abbrev pub place_word : ListIndex → ℕ
place_word l = places_from + l.0

-- What word i of Receive RAM is; no write is addressed to "queues, reader's places and the rest".
unfoldable pub receive_part : ℕ → ReceivePart
receive_part i =
    pick (ltb i lists_from) (ReceivePart.OfSlot (slot (i / slot_size)) (i % slot_size))
    (pick (leb nqr_from i) ReceivePart.Fixed
    (pick (eqb (i % 2) 0) (ReceivePart.Head (list ((i - lists_from) / 2))) (ReceivePart.Token (list ((i - lists_from) / 2)))))

-- ---- metadata

-- No metadata: four zeros.
abbrev pub no_metadata : Metadata
no_metadata = record { a = 0; b = 0; c = 0; d = 0 }

-- The four words from word i of a RAM on.
abbrev pub metadata_at : List ℕ → ℕ → Metadata
metadata_at ram i = record { a = get_or ram i 0; b = get_or ram (i + 1) 0; c = get_or ram (i + 2) 0; d = get_or ram (i + 3) 0 }

-- The four as a row.
abbrev pub metadata_words : Metadata → List ℕ
metadata_words m = m.a ∷ m.b ∷ m.c ∷ m.d ∷ []

-- ---- blocks

-- The block with address a.
abbrev pub block : ℕ → BlockAddress
block a = record { 0 = a }

-- "its address a multiple of 32, at least 32, wholly inside" a notice memory of n words.
abbrev pub is_block : ℕ → ℕ → Bool
is_block n a = eqb (a % 32) 0 && leb 32 a && leb (a / 4 + block_size) n

-- "Address 0 means none."
abbrev pub is_block_or_none : ℕ → ℕ → Bool
is_block_or_none n a = eqb a 0 || is_block n a

-- A block's word 0, as a number of notice memory.
abbrev pub block_first : BlockAddress → ℕ
block_first b = b.0 / 4

-- Its word k.
abbrev pub block_word : BlockAddress → ℕ → ℕ
block_word b k = block_first b + k

-- Where its next stands, word 3.
abbrev pub next_word : BlockAddress → ℕ
next_word b = block_word b 3

-- A block's next.
abbrev pub next_of : List ℕ → BlockAddress → ℕ
next_of notices b = get_or notices (next_word b) 0

-- "a block address whose next word is 0": what NBQR takes, and a head that is 0.
unfoldable pub is_free_block : List ℕ → ℕ → Bool
is_free_block notices a = is_block (length notices) a && eqb (next_of notices (block a)) 0
