-- What the verdict on each call but a write says of the machine that it was given on. Assumes nothing.
use Rattle.std.specs.Prelude.{◌≡◌, ◌≢◌, Some, Result, Ok, Err, true, false, List, ℕ, ◌<◌, ◌≤◌, length}
use Rattle.rules.specs.Memory.{Machine, send_size, receive_size, descriptors, lists, list, queue_size, block_size, block, is_block, next_of}
use Rattle.rules.specs.Notices.{place_of, can_post_all}
use Rattle.rules.specs.Packet.{packet_most, is_packet, packet_of}
use Rattle.rules.specs.Receipt.{receipt_posting, has_room_for}
use Rattle.rules.specs.Sending.{go_rule, send_posting, next_sender}
use Rattle.rules.specs.Sound.{is_sized, is_sound}
use Rattle.rules.specs.Replies.{refusal_number}
use Rattle.rules.specs.Calls.{receipt}
use Rattle.laws.specs.Types.{ListIndex, BlockAddress, DescriptorIndex, Packet, Reach, Receipt, Refusal, Receiving, Sending, Taking}
use Rattle.laws.specs.Sound.{Block, the_descriptor, Sound}
use Rattle.laws.specs.Postings.{Listed}
use Rattle.laws.specs.Receipts.{OfReceipt}

-- ---- refusals

-- The next of the reader's block is neither 0 nor a block address.
pub record BadNext (m : Machine) (l : ℕ) : Type 0 where
  pub there : l < lists
  pub place : place_of m.receive (list l) ≢ 0
  pub next : next_of m.notices (block (place_of m.receive (list l))) ≢ 0
  pub bad : is_block (length m.notices) (next_of m.notices (block (place_of m.receive (list l)))) ≡ false

-- Why a call is answered unsound.
pub data Unfit (m : Machine) : Type 0 where
  unsound : is_sound m ≡ false → Unfit m
  bad_next : (l : ℕ) → BadNext m l → Unfit m

-- A refusal by its number, as a verdict gives it: no done, no fault and no fabric; sizes and unsound say so of the machine.
pub record Refuses (m : Machine) (reply : ℕ) : Type 0 where
  pub done : reply ≢ 0
  pub fault : reply ≢ 9
  pub fabric : reply ≢ 15
  pub sizes : reply ≡ 13 → is_sized m ≡ false
  pub unsound : reply ≡ 14 → Unfit m

-- ---- read

-- A read reaches a register, or a word of its RAM.
abbrev pub OfRead : Machine → Result Reach Refusal → Type 0
OfRead m (Err why) = Refuses m (refusal_number why)
OfRead m (Ok (Reach.Itself r)) = Sound m
OfRead m (Ok (Reach.InSend i)) = Sound m × (i < send_size)
OfRead m (Ok (Reach.InReceive i)) = Sound m × (i < receive_size)

-- ---- receive

-- A packet that is taken: as it is read, what it comes to and what that says, and that there is room for it.
pub record Comes (m : Machine) (packet : List ℕ) (p : Packet) (r : Receipt) : Type 0 where
  pub sound : Sound m
  pub whole : is_packet packet ≡ true
  pub read : p ≡ packet_of packet
  pub is : r ≡ receipt m packet
  pub says : OfReceipt m.saved m.receive (length m.bytes) p r
  pub listed : Listed (receipt_posting p r)
  pub room : has_room_for m.saved m.receive p r ≡ true

abbrev pub OfReceive : Machine → List ℕ → Result Receiving Refusal → Type 0
OfReceive m packet (Err why) = Refuses m (refusal_number why)
OfReceive m packet (Ok v) = Comes m packet v.packet v.receipt

-- ---- send

-- A descriptor that is chosen, with a room of so many bytes: the first that is ready.
pub record Chosen (m : Machine) (room : ℕ) (i : DescriptorIndex) : Type 0 where
  pub sound : Sound m
  pub long : packet_most ≤ room
  pub first : next_sender m.saved m.send m.receive ≡ Some i
  pub low : i.0 < descriptors
  pub rule : go_rule (the_descriptor m i) (the_descriptor m i).control1 (the_descriptor m i).bytestogo (length m.bytes) ≡ true
  pub listed : Listed (send_posting (the_descriptor m i))
  pub posts : can_post_all m.saved m.receive (send_posting (the_descriptor m i)) ≡ true

-- It sends or waits.
abbrev pub OfSend : Machine → ℕ → Result Sending Refusal → Type 0
OfSend m room (Err why) = Refuses m (refusal_number why)
OfSend m room (Ok (Sending.Sends i)) = Chosen m room i
OfSend m room (Ok (Sending.Waits i)) = Chosen m room i

-- ---- take

-- A block that is taken, to a room of so many words: the reader's block of a list, which has a next, and NBQR has room for it.
pub record ReadersBlock (m : Machine) (room : ℕ) (l : ListIndex) (b n : BlockAddress) : Type 0 where
  pub sound : Sound m
  pub low : l.0 < lists
  pub long : block_size ≤ room
  pub queue : m.saved.nbqr.length < queue_size
  pub place : b ≡ block (place_of m.receive l)
  pub next : n ≡ block (next_of m.notices b)
  pub here : Block (length m.notices) b.0
  pub onward : Block (length m.notices) n.0

abbrev pub OfTake : Machine → ℕ → Result Taking Refusal → Type 0
OfTake m room (Err why) = Refuses m (refusal_number why)
OfTake m room (Ok t) = ReadersBlock m room t.list t.block t.next
