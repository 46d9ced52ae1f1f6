-- What is known of a machine that is sized and sound, and of a descriptor that keeps the go rule. Assumes nothing.
use Rattle.std.specs.Prelude.{◌≡◌, true, false, not, ◌&&◌, ℕ, ◌+◌, ◌/◌, ◌%◌, ◌<◌, ◌≤◌, length}
use Rattle.rules.specs.Words.{most24, note_index, offset, is_direct_io, is_control_pkt, notifies}
use Rattle.rules.specs.Memory.{Machine, send_size, receive_size, data_most, notices_most, block_size, queue_size, descriptors, slots_most, lists}
use Rattle.rules.specs.Memory.{direct_from, direct_to, is_block_or_none}
use Rattle.rules.specs.Saved.{resets, pcsr0_ok}
use Rattle.rules.specs.Notices.{head_of, place_of}
use Rattle.rules.specs.Sending.{descriptor_at, is_active, go_rule}
use Rattle.rules.specs.Registers.{pointer_ok}
use Rattle.laws.specs.Types.{Queue, Saved, ListIndex, DescriptorIndex, Descriptor}

-- A queue whose entries lie in its 256 words.
pub record Ring (q : Queue) : Type 0 where
  pub place : q.place < queue_size
  pub length : q.length ≤ queue_size

-- A block of a notice memory of n words.
pub record Block (n a : ℕ) : Type 0 where
  pub aligned : a % 32 ≡ 0
  pub low : 32 ≤ a
  pub inside : a / 4 + block_size ≤ n

-- The four lengths.
pub record Sized (send_length receive_length data_length n : ℕ) : Type 0 where
  pub send : send_length ≡ send_size
  pub receive : receive_length ≡ receive_size
  pub bytes : data_length ≤ data_most
  pub least : block_size ≤ n
  pub most : n ≤ notices_most
  pub blocks : n % block_size ≡ 0

-- The registers in their ranges, and the last sender.
pub record Ranges (s : Saved) : Type 0 where
  pub pcsr0 : (not (resets s.pcsr0) && pcsr0_ok s.pcsr0) ≡ true
  pub inthi : s.inthi ≤ 1
  pub intlo : s.intlo ≤ 1
  pub slots : s.slots ≤ slots_most
  pub sendpointer : pointer_ok send_size s.sendpointer ≡ true
  pub receivepointer : pointer_ok receive_size s.receivepointer ≡ true
  pub lastsender : s.lastsender < descriptors

-- A message that lies in DIO.
pub record Direct (address size : ℕ) : Type 0 where
  pub whole : address % 4 ≡ 0
  pub least : direct_from ≤ address
  pub most : address + size ≤ direct_to

-- What the go rule says of a message without control_pkt.
pub record Message (d : Descriptor) (control1 size data_length : ℕ) : Type 0 where
  pub words : size % 4 ≡ 0
  pub offset : offset d.control0 + size ≤ most24
  pub bytes : is_direct_io control1 ≡ false → d.msgaddress + size ≤ data_length
  pub direct : is_direct_io control1 ≡ true → Direct d.msgaddress size

-- What the go rule says to a sender.
pub record Going (d : Descriptor) (control1 size data_length : ℕ) : Type 0 where
  pub note : notifies control1 ≡ true → note_index d.address1 < lists
  pub message : is_control_pkt control1 ≡ false → Message d control1 size data_length

-- Descriptor d of a machine.
abbrev pub the_descriptor : Machine → DescriptorIndex → Descriptor
the_descriptor m d = descriptor_at m.send d

-- What a call knows of its machine past the gate.
pub record Sound (m : Machine) : Type 0 where
  pub sized : Sized (length m.send) (length m.receive) (length m.bytes) (length m.notices)
  pub ranges : Ranges m.saved
  pub nqr : Ring m.saved.nqr
  pub aqr : Ring m.saved.aqr
  pub nbqr : Ring m.saved.nbqr
  pub heads : (l : ListIndex) → l.0 < lists → is_block_or_none (length m.notices) (head_of m.receive l) ≡ true
  pub places : (l : ListIndex) → l.0 < lists → is_block_or_none (length m.notices) (place_of m.receive l) ≡ true
  pub active : (d : DescriptorIndex) → d.0 < descriptors → is_active (the_descriptor m d) ≡ true
      → go_rule (the_descriptor m d) (the_descriptor m d).control1 (the_descriptor m d).bytestogo (length m.bytes) ≡ true
