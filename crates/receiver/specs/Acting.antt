-- What acting on a receipt asks, and what its steps give. What a step gives holds whatever the memories hold that it is not lent. Assumes
-- nothing.
use Rattle.std.specs.Prelude.{Result, Ok, ◌≡◌, ◌≢◌, ℕ, ◌+◌, ◌<◌, ◌≤◌, true, List, [], length}
use Rattle.rules.specs.declared.Saved.{Saved}
use Rattle.rules.specs.declared.SlotIndex.{SlotIndex}
use Rattle.rules.specs.declared.ListIndex.{ListIndex}
use Rattle.rules.specs.declared.Slot.{Slot}
use Rattle.rules.specs.declared.Packet.{Packet}
use Rattle.rules.specs.declared.Receipt.{Receipt}
use Rattle.rules.specs.declared.Receiving.{Receiving}
use Rattle.rules.specs.declared.Answer.{Answer}
use Rattle.rules.specs.Words.{offset}
use Rattle.rules.specs.Memory.{machine, receive_size, slots_most}
use Rattle.rules.specs.Board.{Board, on_receive}
use Rattle.rules.specs.Packet.{packet_most}
use Rattle.rules.specs.Receipt.{receipt_posting, needs_aqr, slot_stored, aqr_stored}
use Rattle.rules.specs.Replies.{answered}
use Rattle.rules.specs.Calls.{act_receive}
use Rattle.laws.specs.Receipts.{Usable}
use Rattle.packet.specs.Packet.{Landing}
use Rattle.notices.specs.declared.Step.{Step}
use Rattle.notices.specs.Steps.{Pushable, Does, Postable, PostableAll}
use Rattle.rules.specs.declared.Refusal.{Refusal}

-- ---- what acting asks

-- A packet, and the slot of the table that it lands in.
pub record Meets (i : SlotIndex) (p : Packet) (v : Slot) : Type 0 where
  pub low : i.0 < slots_most
  pub payload : p.payloadlength ≤ packet_most
  pub usable : Usable v

-- A receipt of no data: a fault or an ack.
abbrev pub NoData : Receipt → Type 0
NoData r = (i : SlotIndex) (v : Slot) → r ≢ Receipt.Lands i v

-- Data that lands.
abbrev pub lands_at : Packet → SlotIndex → Slot → Receiving
lands_at p i v = record { packet = p; receipt = Receipt.Lands i v }

-- A receipt by the table of steps: a fault, or a slot of the table; where data lands, one that is valid.
pub record Known (x : Receiving) : Type 0 where
  pub acks : (i : SlotIndex) (v : Slot) → x.receipt ≡ Receipt.Acks i v → i.0 < slots_most
  pub lands : (i : SlotIndex) (v : Slot) → x.receipt ≡ Receipt.Lands i v → Meets i x.packet v

-- A slot can be stored.
pub record Storable (x : Receiving) (receive : List ℕ) : Type 0 where
  pub known : Known x
  pub size : length receive ≡ receive_size

-- And its entry pushed.
pub record Enterable (x : Receiving) (s : Saved) (receive : List ℕ) : Type 0 where
  pub storable : Storable x receive
  pub aqr : needs_aqr x.packet x.receipt ≡ true → Pushable s.aqr receive

-- A receipt's notice can be posted, too.
pub record Boardable (x : Receiving) (s : Saved) (receive : List ℕ) (n : ℕ) : Type 0 where
  pub enterable : Enterable x s receive
  pub posting : PostableAll s receive n (receipt_posting x.packet x.receipt)

-- A packet whose payload fits.
pub record Landable (bytes packet : List ℕ) (x : Receiving) : Type 0 where
  pub landing : (i : SlotIndex) (v : Slot) → x.receipt ≡ Receipt.Lands i v → Landing packet (v.base + offset x.packet.header.control0) bytes

-- A receive can be acted on; a refusal asks nothing.
pub record Receivable (v : Result Receiving Refusal) (s : Saved) (receive bytes : List ℕ) (n : ℕ) (packet : List ℕ) : Type 0 where
  pub landable : (x : Receiving) → v ≡ Ok x → Landable bytes packet x
  pub boardable : (x : Receiving) → v ≡ Ok x → Boardable x s receive n

-- ---- what its steps give

-- What could be posted still can.
pub record Keeps (s : Saved) (receive : List ℕ) (s₂ : Saved) (receive₂ : List ℕ) : Type 0 where
  pub postable : (n : ℕ) (l : ListIndex) → Postable s receive n l → Postable s₂ receive₂ n l

-- The slot stored, then the AQR entry pushed.
abbrev pub landed_on_board : Receiving → Board → Board
landed_on_board x b = aqr_stored x.packet x.receipt (on_receive (slot_stored x.packet x.receipt) b)

-- A step that comes before the posting was done.
pub record Precedes (f : Board → Board) (s : Saved) (receive : List ℕ) (step : Step) (receive₂ : List ℕ) : Type 0 where
  pub board : Does f 1 s receive step receive₂
  pub kept : Keeps s receive step.saved receive₂

-- A receive was carried out or refused.
pub record Receives (v : Result Receiving Refusal) (s : Saved) (receive bytes notices packet : List ℕ) (a : Answer) (receive₂ bytes₂ notices₂ : List ℕ) : Type 0 where
  pub whole : (send : List ℕ) → answered a send receive₂ bytes₂ notices₂ [] ≡ act_receive (machine s send receive bytes notices) packet v
