-- What the table of steps says of a receipt, and what a valid slot says. Assumes nothing.
use Rattle.std.specs.Prelude.{◌≡◌, true, List, ℕ, ◌+◌, ◌<◌, ◌≤◌}
use Rattle.ground.specs.Signed.{signed}
use Rattle.rules.specs.Words.{most24, offset, meta_part}
use Rattle.rules.specs.Slots.{slot_at, slot_ok, within24}
use Rattle.laws.specs.Types.{Saved, SlotIndex, Slot, Packet, Receipt}

-- A slot whose words keep what "Valid needs" says of them, as far as counts and notices are made of them.
pub record Usable (v : Slot) : Type 0 where
  pub bytestogo : within24 (signed v.bytestogo) ≡ true
  pub msgsize : v.msgsize ≤ most24
  pub msgoffset : v.msgoffset ≤ most24
  pub metaword : v.metaword ≡ meta_part v.metaword

-- The slot that a packet was judged by: below the count, as it stands in the table, and valid.
pub record Valid (s : Saved) (receive : List ℕ) (n : ℕ) (i : SlotIndex) (v : Slot) : Type 0 where
  pub low : i.0 < s.slots
  pub words : v ≡ slot_at receive i
  pub ok : slot_ok v n ≡ true

-- By what the packet comes to; data that lands fits in the slot's buffer.
abbrev pub OfReceipt : Saved → List ℕ → ℕ → Packet → Receipt → Type 0
OfReceipt s receive n p (Receipt.Fails f) = Unit {0}
OfReceipt s receive n p (Receipt.Acks i v) = Valid s receive n i v
OfReceipt s receive n p (Receipt.Lands i v) = Valid s receive n i v × (offset p.header.control0 + p.payloadlength ≤ v.size)
