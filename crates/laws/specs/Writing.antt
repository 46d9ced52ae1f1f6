-- What a word of a RAM is, and what the verdict on a write says of the machine and the value. Assumes nothing.
use Rattle.std.specs.Prelude.{◌≡◌, ◌≢◌, Result, Ok, Err, true, false, not, ◌||◌, List, ℕ, ◌*◌, ◌<◌, ◌≤◌, leb, length}
use Rattle.rules.specs.Words.{msg_size}
use Rattle.rules.specs.Memory.{Machine, send_size, receive_size, descriptors, descriptor_size, slots_most, slot_size, lists, queue_size, block, next_of}
use Rattle.rules.specs.Saved.{resets, pcsr0_ok}
use Rattle.rules.specs.Notices.{head_of}
use Rattle.rules.specs.Sending.{descriptor_at, is_active, go_rule}
use Rattle.rules.specs.Registers.{pointer_ok}
use Rattle.rules.specs.Writes.{descriptor_word_fixed, starts, stops}
use Rattle.rules.specs.Replies.{refusal_number}
use Rattle.laws.specs.Types.{BlockAddress, SendPart, ReceivePart, Number, SendStore, ReceiveStore, Refusal, Writing}
use Rattle.laws.specs.Sound.{Ring, Block, Sized}
use Rattle.laws.specs.Verdicts.{Refuses}

-- ---- what a word is

-- Word i of Send RAM.
abbrev pub OfSendPart : ℕ → SendPart → Type 0
OfSendPart i (SendPart.Direct j) = (j ≡ i) × (descriptors * descriptor_size ≤ j)
OfSendPart i (SendPart.OfDescriptor d k) = (d.0 < descriptors) × (k < descriptor_size)

-- A word of Receive RAM.
abbrev pub OfReceivePart : ReceivePart → Type 0
OfReceivePart (ReceivePart.OfSlot i k) = (i.0 < slots_most) × (k < slot_size)
OfReceivePart (ReceivePart.Head l) = l.0 < lists
OfReceivePart (ReceivePart.Token l) = l.0 < lists
OfReceivePart ReceivePart.Fixed = Unit {0}

-- ---- what a write does

-- A block address whose next word is 0.
abbrev pub Free : List ℕ → ℕ → Type 0
Free notices a = Block (length notices) a × (next_of notices (block a) ≡ 0)

-- A number of the saved state.
abbrev pub OfNumber : ℕ → Number → Type 0
OfNumber v Number.Pcsr0 = (pcsr0_ok v ≡ true) × (resets v ≡ false)
OfNumber v Number.InterruptBits = Unit {0}
OfNumber v Number.SlotCount = leb v slots_most ≡ true
OfNumber v Number.SendPointer = pointer_ok send_size v ≡ true
OfNumber v Number.ReceivePointer = pointer_ok receive_size v ≡ true

-- A block that NBQR takes.
pub record Given (m : Machine) (b : BlockAddress) : Type 0 where
  pub size : length m.receive ≡ receive_size
  pub ring : Ring m.saved.nbqr
  pub room : m.saved.nbqr.length < queue_size
  pub free : Free m.notices b.0

-- A store in Send RAM.
abbrev pub OfSendStore : List ℕ → ℕ → ℕ → SendStore → Type 0
OfSendStore send data_length v (SendStore.DirectWord i) = (descriptors * descriptor_size ≤ i) × (i < send_size)
OfSendStore send data_length v (SendStore.Word d k) =
    (d.0 < descriptors)
    × (k < descriptor_size)
    × (descriptor_word_fixed k ≡ false)
    × ((not (is_active (descriptor_at send d)) || stops k v) ≡ true)
    × (starts k v ≡ false)
OfSendStore send data_length v (SendStore.Start d) = (d.0 < descriptors) × (go_rule (descriptor_at send d) v (msg_size v) data_length ≡ true)

-- A slot's word 0, 1 or 6.
pub record PlainWord (k : ℕ) : Type 0 where
  pub other : k ≢ 0 → k ≢ 1 → k ≡ 6

-- A store in Receive RAM.
abbrev pub OfReceiveStore : List ℕ → List ℕ → ReceiveStore → Type 0
OfReceiveStore receive notices (ReceiveStore.SlotWord i k) = (i.0 < slots_most) × (k < slot_size) × PlainWord k
OfReceiveStore receive notices (ReceiveStore.SlotWord2 i) = i.0 < slots_most
OfReceiveStore receive notices (ReceiveStore.FirstBlock l b) = (l.0 < lists) × (head_of receive l ≡ 0) × Free notices b.0
OfReceiveStore receive notices (ReceiveStore.ListToken l) = l.0 < lists

-- Any of them; a refusal says what it says of the machine.
abbrev pub OfWrite : Machine → ℕ → Result Writing Refusal → Type 0
OfWrite m v (Err why) = Refuses m (refusal_number why)
OfWrite m v (Ok Writing.Reset) = Sized (length m.send) (length m.receive) (length m.bytes) (length m.notices)
OfWrite m v (Ok (Writing.Sets n)) = OfNumber v n
OfWrite m v (Ok (Writing.Gives b)) = Given m b
OfWrite m v (Ok (Writing.StoresSend w)) = (length m.send ≡ send_size) × OfSendStore m.send (length m.bytes) v w
OfWrite m v (Ok (Writing.StoresReceive w)) = (length m.receive ≡ receive_size) × OfReceiveStore m.receive m.notices w
