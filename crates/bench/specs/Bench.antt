-- "Bench set", "Proved in a single table": each row is asked of whole calls, of the words, or of the check. Assumes nothing.
use Rattle.std.specs.Prelude.{◌≡◌, ℕ, ◌+◌, true, false, List, [], ◌∷◌, length, get_or, take, replicate, ℤ, pos, negsuc}
use Rattle.ground.specs.Bytes.{to_bytes}
use Rattle.ground.specs.Signed.{signed}
use Rattle.ground.specs.Text.{ascii}
use Rattle.std.proofs.lemmas.List.Edits.{sets}
use Rattle.rules.specs.declared.Saved.{Saved}
use Rattle.rules.specs.Words.{is_direct_io, is_control_pkt, notifies, goes, meta_flag, meta_count, msg_size}
use Rattle.rules.specs.Memory.{Machine, machine, slot, slot_first, list, head_word, nbqr_from, no_metadata, block, block_first}
use Rattle.rules.specs.Saved.{with_slots, with_nbqr, with_last_sender, reset_saved}
use Rattle.rules.specs.Checksum.{check_of}
use Rattle.rules.specs.Packet.{form, payload_of}
use Rattle.rules.specs.Slots.{slot_at}
use Rattle.rules.specs.Replies.{Outcome}
use Rattle.rules.specs.Calls.{writes, reads, receives, sends, perform}

-- ---- the sender, node 7 of incarnation 3, with 300 bytes

-- control1 for notify, go, 300 bytes.
abbrev go_word : ℕ
go_word = 0x3000012C

-- A descriptor's words 0 to 6 before go: to node 9, slot 5, with use_msg_size and incarnation 3, list 0, from address 0 on.
abbrev before_go : List ℕ
before_go = 0 ∷ 0x00090000 ∷ 0x00050000 ∷ 0x83000000 ∷ 0 ∷ 0 ∷ 0x20000000 ∷ []

-- List 0 has the head 32, and the blocks 64 and 96 wait: in Receive RAM.
abbrev blocks : List ℕ → List ℕ
blocks receive = sets (sets receive (head_word (list 0)) (32 ∷ [])) nbqr_from (64 ∷ 96 ∷ [])

-- And in NBQR.
abbrev two_waiting : Saved → Saved
two_waiting s = with_nbqr (record { place = 0; length = 2 }) s

-- Node 7 after go was written to descriptor 0.
abbrev sender : Machine
sender =
    (perform (writes 0x114 go_word)
    (machine (two_waiting (reset_saved 0x40030007)) (sets (replicate 1024 0) 0 before_go) (blocks (replicate 2048 0)) (replicate 300 1) (replicate 32 0))).machine

-- A send into a room of zeros.
abbrev sending : Machine → Outcome
sending m = perform (sends true (replicate 168 0)) m

-- The machine after one send, and after two.
abbrev sent_once : Machine
sent_once = (sending sender).machine

abbrev sent_twice : Machine
sent_twice = (sending sent_once).machine

-- The packet that a machine sends next.
abbrev packet : Machine → List ℕ
packet m = take (sending m).value (sending m).room

-- ---- the receiver, node 9 of incarnation 3

-- Slot 5: a buffer from 0 on, valid, with some flags of word 2.
abbrev receiver : ℕ → ℕ → ℕ → Machine
receiver slots size word2 =
    machine (with_slots slots (two_waiting (reset_saved 0x40030009))) (replicate 1024 0)
    (blocks (sets (replicate 2048 0) (slot_first (slot 5)) (0 ∷ size ∷ word2 ∷ [])))
    (replicate 300 0) (replicate 32 0)

-- The machine after the packet.
abbrev receiving : List ℕ → Machine → Machine
receiving p m = (perform (receives p) m).machine

-- bytes_to_go of slot 5.
abbrev bytes_to_go : Machine → ℤ
bytes_to_go m = signed (slot_at m.receive (slot 5)).bytestogo

-- The three packets arriving last to first.
abbrev after_third : Machine
after_third = receiving (packet sent_twice) (receiver 64 300 0x0000A000)

abbrev after_second : Machine
after_second = receiving (packet sent_once) after_third

abbrev after_first : Machine
after_first = receiving (packet sender) after_second

-- A packet to slot 5 at an offset, with n bytes.
abbrev aimed : ℕ → ℕ → List ℕ
aimed offset n = form (record { address0 = 0x00090000; address1 = 0x00050070; control0 = 0x03000000 + offset; control1 = 0 }) no_metadata (replicate n 0)

-- The reply and its value, for a buffer of 256 bytes.
abbrev answer : ℕ → ℕ → List ℕ
answer offset n =
    let o = perform (receives (aimed offset n)) (receiver 64 256 0x00008000) in
    o.reply ∷ o.value ∷ []

-- ---- three senders

-- A descriptor's words 0 to 6 on the way, with 300 bytes to go.
abbrev going : List ℕ
going = 0 ∷ 0x00090000 ∷ 0x00050000 ∷ 0x03000000 ∷ 300 ∷ 0x1000012C ∷ 0 ∷ []

-- Node 7 with descriptors 0, 1 and 3 active, after sender 1; then after one, two, three sends.
abbrev three : Machine
three =
    machine (with_last_sender 1 (reset_saved 0x40030007))
    (sets (sets (sets (replicate 1024 0) 0 going) 16 going) 48 going)
    (replicate 2048 0)
    (replicate 300 1)
    (replicate 32 0)

abbrev turn1 : Machine
turn1 = (sending three).machine

abbrev turn2 : Machine
turn2 = (sending turn1).machine

abbrev turn3 : Machine
turn3 = (sending turn2).machine

-- ---- the table

pub record Bench : Type 0 where
  -- "PCSR1 after reset 0x98040000"
  pub after_reset : (perform (reads 0x004) (perform (writes 0x000 0x80000000) sender).machine).value ≡ 0x98040000
  -- "control1 for notify, go, 300 bytes 0x3000012C"
  pub control1_flags : is_direct_io go_word ∷ is_control_pkt go_word ∷ notifies go_word ∷ goes go_word ∷ meta_flag go_word ∷ [] ≡ false ∷ false ∷ true ∷ true ∷ false ∷ []
  pub control1_numbers : meta_count go_word ∷ msg_size go_word ∷ [] ≡ 0 ∷ 300 ∷ []
  -- "its payloads 128, 128, 44": of the packets sent
  pub payloads : length (payload_of (packet sender)) ∷ length (payload_of (packet sent_once)) ∷ length (payload_of (packet sent_twice)) ∷ [] ≡ 128 ∷ 128 ∷ 44 ∷ []
  -- "arriving last to first, bytes_to_go -44, -172, 0"
  pub to_go : bytes_to_go after_third ∷ bytes_to_go after_second ∷ bytes_to_go after_first ∷ [] ≡ negsuc 43 ∷ negsuc 171 ∷ pos 0 ∷ []
  -- "node 7 to node 9 slot 5, first words 0x00090000, 0x00050070, 0x83000000 (use_msg_size, incarnation 3), 0x0000012C"
  pub first_words : take 16 (packet sender) ≡ to_bytes (0x00090000 ∷ 0x00050070 ∷ 0x83000000 ∷ 0x0000012C ∷ [])
  -- "buffer 256: offset 256 empty taken, 257 is 0x1000, 128 with 128 bytes taken, 132 with 128 is 0x0800"
  pub empty_at_256 : answer 256 0 ≡ 0 ∷ 0 ∷ []
  pub empty_at_257 : answer 257 0 ≡ 9 ∷ 0x1000 ∷ []
  pub full_at_128 : answer 128 128 ≡ 0 ∷ 0 ∷ []
  pub full_at_132 : answer 132 128 ≡ 9 ∷ 0x0800 ∷ []
  -- "slot 5 range fault 0x00054000": word 0 of the notice that is posted where the count is 5
  pub range_fault : get_or (receiving (aimed 0 0) (receiver 5 256 0x00008000)).notices (block_first (block 32)) 0 ≡ 0x00054000
  -- "AQR 0x80000005": read once the message is complete
  pub aqr : (perform (reads 0x018) after_first).value ≡ 0x80000005
  -- "active 0, 1, 3 after sender 1: 3, 0, 1"
  pub turns : turn1.saved.lastsender ∷ turn2.saved.lastsender ∷ turn3.saved.lastsender ∷ [] ≡ 3 ∷ 0 ∷ 1 ∷ []
  -- "The check of ASCII 123456789 is 0x29B1"
  pub check : check_of (ascii "123456789") ≡ 0x29B1
