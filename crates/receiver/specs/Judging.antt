-- What judging a packet asks. Assumes nothing.
use Rattle.std.specs.Prelude.{◌≡◌, ℕ, ◌<◌, ◌≤◌, true, false, List, length}
use Rattle.rules.specs.declared.Packet.{Packet}
use Rattle.rules.specs.declared.Receipt.{Receipt}
use Rattle.rules.specs.declared.Receiving.{Receiving}
use Rattle.rules.specs.declared.Saved.{Saved}
use Rattle.rules.specs.declared.Slot.{Slot}
use Rattle.rules.specs.declared.SlotIndex.{SlotIndex}
use Rattle.rules.specs.Words.{dst_node, dst_slot, is_ack_pkt, incarnation}
use Rattle.rules.specs.Memory.{receive_size, slots_most, slot}
use Rattle.rules.specs.Saved.{own_incarnation, own_node}
use Rattle.rules.specs.Packet.{packet_of, header_checks, fields_ok}
use Rattle.rules.specs.Slots.{slot_at, slot_ok}
use Rattle.rules.specs.Receipt.{receipt_of, receipt_posting}
use Rattle.packet.specs.Packet.{Sized}
use Rattle.laws.specs.Postings.{Listed}
use Rattle.receiver.specs.Acting.{Known}

-- ---- what judging asks

-- A packet that has its length, as it is read, at a machine that has its sizes and ranges.
pub record Judgeable (s : Saved) (receive packet : List ℕ) (p : Packet) : Type 0 where
  pub sized : Sized packet
  pub fields : p ≡ packet_of packet
  pub size : length receive ≡ receive_size
  pub slots : s.slots ≤ slots_most

-- The steps before the slot's passed.
pub record Addressed (s : Saved) (receive packet : List ℕ) (p : Packet) : Type 0 where
  pub judgeable : Judgeable s receive packet p
  pub header : header_checks packet ≡ true
  pub zeros : fields_ok p ≡ true
  pub node : dst_node p.header.address0 ≡ own_node s.pcsr0
  pub slot : dst_slot p.header.address1 < s.slots

-- Those of the slot's passed too: the packet carries data for slot i.
pub record Open (s : Saved) (receive : List ℕ) (data_length : ℕ) (i : SlotIndex) (v : Slot) (packet : List ℕ) (p : Packet) : Type 0 where
  pub addressed : Addressed s receive packet p
  pub slot : i ≡ slot (dst_slot p.header.address1)
  pub words : v ≡ slot_at receive i
  pub valid : slot_ok v data_length ≡ true
  pub incarnation : incarnation p.header.control0 ≡ own_incarnation s.pcsr0
  pub plain : is_ack_pkt p.header.control0 ≡ false

-- Data's own steps decide, whatever the saved state and the memories are, where all before them passed.
pub record Decides (i : SlotIndex) (v : Slot) (packet : List ℕ) (p : Packet) (r : Receipt) : Type 0 where
  pub decides : (s : Saved) (receive : List ℕ) (data_length : ℕ) → Open s receive data_length i v packet p → r ≡ receipt_of s receive data_length packet

-- ---- what finding room asks

-- A receipt by the table of steps, and what it posts, if anything, is on one of the 64 lists.
pub record Answerable (receive : List ℕ) (x : Receiving) : Type 0 where
  pub known : Known x
  pub listed : Listed (receipt_posting x.packet x.receipt)
  pub size : length receive ≡ receive_size
