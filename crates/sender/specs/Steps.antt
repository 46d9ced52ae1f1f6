-- What the steps of a send ask and give. Assumes nothing.
use Rattle.std.specs.Prelude.{Result, Ok, ◌≡◌, true, false, List, ℕ, ◌+◌, ◌/◌, ◌^◌, ◌<◌, ◌≤◌, length}
use Rattle.ground.specs.Lists.{over}
use Rattle.rules.specs.declared.Saved.{Saved}
use Rattle.rules.specs.declared.DescriptorIndex.{DescriptorIndex}
use Rattle.rules.specs.declared.Descriptor.{Descriptor}
use Rattle.rules.specs.declared.Sending.{Sending}
use Rattle.rules.specs.declared.Answer.{Answer}
use Rattle.rules.specs.Words.{is_direct_io}
use Rattle.rules.specs.Memory.{Machine, machine, send_size, receive_size, descriptors}
use Rattle.rules.specs.Saved.{own_node}
use Rattle.rules.specs.Packet.{payload_most, packet_most}
use Rattle.rules.specs.Sending.{descriptor_at, store_descriptor, is_active, next_payload, send_posting, next_packet, after_packet}
use Rattle.rules.specs.Replies.{answered}
use Rattle.rules.specs.Calls.{act_send}
use Rattle.laws.specs.Postings.{Listed}
use Rattle.notices.specs.Steps.{PostableAll}
use Rattle.sender.specs.declared.acting.Sent.{Sent}
use Rattle.rules.specs.declared.Refusal.{Refusal}

-- ---- choosing

-- Whether a descriptor is ready can be asked: what it would post, if it is active, is on a list.
pub record Askable (i : DescriptorIndex) (m : Machine) : Type 0 where
  pub low : i.0 < descriptors
  pub words : length m.send ≡ send_size
  pub lists : length m.receive ≡ receive_size
  pub listed : is_active (descriptor_at m.send i) ≡ true → Listed (send_posting (descriptor_at m.send i))

-- It can be asked of every descriptor, starting after the last sender.
pub record Choosable (m : Machine) : Type 0 where
  pub last : m.saved.lastsender < descriptors
  pub each : (i : DescriptorIndex) → i.0 < descriptors → Askable i m

-- ---- the packet

-- The payload of a descriptor's next packet: at most 128 bytes, and at most what is left.
pub record Payload (d : Descriptor) (n : ℕ) : Type 0 where
  pub next : n ≡ next_payload d
  pub most : n ≤ payload_most
  pub left : n ≤ d.bytestogo

-- The next packet of a descriptor can be formed: a node's number, a room for any packet, and a payload, if any, that lies in its memory.
pub record Formable (node : ℕ) (d : Descriptor) (send_length data_length room : ℕ) : Type 0 where
  pub own : node ≤ 4095
  pub roomy : packet_most ≤ room
  pub bytes : 0 < next_payload d → is_direct_io d.control1 ≡ false → d.msgaddress + next_payload d ≤ data_length
  pub direct : 0 < next_payload d → is_direct_io d.control1 ≡ true → d.msgaddress / 4 + next_payload d / 4 ≤ send_length

-- A descriptor can move on: its address can rise by the payload, if any.
pub record Movable (d : Descriptor) : Type 0 where
  pub address : 0 < next_payload d → d.msgaddress + next_payload d < 2 ^ 32

-- A descriptor of Send RAM can be sent from.
pub record Packable (i : DescriptorIndex) (node : ℕ) (send : List ℕ) (data_length room : ℕ) : Type 0 where
  pub low : i.0 < descriptors
  pub size : length send ≡ send_size
  pub forms : Formable node (descriptor_at send i) (length send) data_length room
  pub moves : Movable (descriptor_at send i)

-- The packet stands in the room, and the descriptor moved on.
pub record Packs (i : DescriptorIndex) (node : ℕ) (send bytes room : List ℕ) (r : Sent) (send₂ room₂ : List ℕ) : Type 0 where
  pub packet : room₂ ≡ over (next_packet node (descriptor_at send i) send bytes) room
  pub size : r.length ≡ length (next_packet node (descriptor_at send i) send bytes)
  pub posting : r.posting ≡ send_posting (descriptor_at send i)
  pub moved : send₂ ≡ store_descriptor send i (after_packet (descriptor_at send i))

-- ---- the send

-- A descriptor can send into a room of so many bytes, with a notice memory of n words.
pub record SendableFrom (i : DescriptorIndex) (s : Saved) (send receive : List ℕ) (data_length n room : ℕ) : Type 0 where
  pub packet : Packable i (own_node s.pcsr0) send data_length room
  pub posts : PostableAll s receive n (send_posting (descriptor_at send i))

-- A descriptor can be marked stalled.
pub record Markable (i : DescriptorIndex) (send : List ℕ) : Type 0 where
  pub low : i.0 < descriptors
  pub size : length send ≡ send_size

-- What was judged can be done.
pub record Sendable (v : Result Sending Refusal) (s : Saved) (send receive : List ℕ) (data_length n room : ℕ) : Type 0 where
  pub sends : (i : DescriptorIndex) → v ≡ Ok (Sending.Sends i) → SendableFrom i s send receive data_length n room
  pub waits : (i : DescriptorIndex) → v ≡ Ok (Sending.Waits i) → Markable i send

-- It was done.
pub record Acts (v : Result Sending Refusal) (s : Saved) (send receive bytes notices room : List ℕ) (r : Answer) (send₂ receive₂ notices₂ room₂ : List ℕ) : Type 0 where
  pub whole : answered r send₂ receive₂ bytes notices₂ room₂ ≡ act_send (machine s send receive bytes notices) room v

-- The chosen descriptor was marked, whatever the other memories and the room hold.
pub record Marks (i : DescriptorIndex) (s : Saved) (send : List ℕ) (r : Answer) (send₂ : List ℕ) : Type 0 where
  pub whole : (receive bytes notices room : List ℕ) → Acts (Ok (Sending.Waits i)) s send receive bytes notices room r send₂ receive notices room
