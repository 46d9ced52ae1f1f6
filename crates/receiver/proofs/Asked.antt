-- What the functions of the table of steps ask of each other, and how the last of them decides. Assumes nothing.
use Rattle.std.proofs.Common.{◌≡◌, ℕ, ◌+◌, ◌≤◌, true, false, leb, List, refl, lt-ltb, eq-eqb}
use Rattle.ground.specs.Choice.{need}
use Rattle.ground.proofs.Choice.{go_on}
use Rattle.ground.proofs.Tests.{not_yes}
use Rattle.rules.specs.declared.Fault.{Fault}
use Rattle.rules.specs.declared.Packet.{Packet}
use Rattle.rules.specs.declared.Receipt.{Receipt}
use Rattle.rules.specs.declared.Saved.{Saved}
use Rattle.rules.specs.declared.Slot.{Slot}
use Rattle.rules.specs.declared.SlotIndex.{SlotIndex}
use Rattle.rules.specs.Words.{dst_slot, is_ack_pkt, incarnation, offset}
use Rattle.rules.specs.Memory.{slot}
use Rattle.rules.specs.Saved.{own_incarnation}
use Rattle.rules.specs.Packet.{packet_most, body_checks}
use Rattle.rules.specs.Slots.{slot_at, slot_ok, within24}
use Rattle.rules.specs.Receipt.{new_bytes_to_go, receipt_of}
use Rattle.receiver.specs.Judging.{Addressed, Decides}
use Rattle.receiver.proofs.Receipts.{payload_few}

-- The payload is a part of the packet.
pub payload_asks : {s : Saved} {receive packet : List ℕ} {p : Packet} → Addressed s receive packet p → p.payloadlength ≤ packet_most
payload_asks {packet = packet} {p = p} a = payload_few packet p a.judgeable.fields a.judgeable.sized

-- The steps before those of data, from what the code tested.
pub decided : (s : Saved) (receive packet : List ℕ) (data_length : ℕ) (p : Packet) (v : Slot) {r : Receipt} → Addressed s receive packet p
    → v ≡ slot_at receive (slot (dst_slot p.header.address1)) → slot_ok v data_length ≡ true
    → incarnation p.header.control0 ≡ own_incarnation s.pcsr0 → is_ack_pkt p.header.control0 ≡ false
    → Decides (slot (dst_slot p.header.address1)) v packet p r → r ≡ receipt_of s receive data_length packet
decided s receive packet data_length p v a words valid same plain d =
    d.decides s receive data_length
    (record { addressed = a; slot = refl; words = words; valid = valid; incarnation = same; plain = plain })

-- Data's own steps decide, once all before them passed.
pub data_steps : (i : SlotIndex) (v : Slot) (packet : List ℕ) (p : Packet) {r : Receipt}
    → r ≡ need (leb (offset p.header.control0) v.size) (Receipt.Fails Fault.OffsetAbove)
    (need (leb (offset p.header.control0 + p.payloadlength) v.size) (Receipt.Fails Fault.Beyond)
    (need (within24 (new_bytes_to_go p v)) (Receipt.Fails Fault.Beyond)
    (need (body_checks packet) (Receipt.Fails Fault.BodyCheck)
    (Receipt.Lands i v))))
    → Decides i v packet p r
unfolding receipt_of
data_steps i v packet p e =
    record {
      decides = λ s receive n past.
          let a = past.addressed in
          rw (← a.judgeable.fields, ← past.slot, ← past.words)
          (go_on _ a.header
          (go_on _ a.zeros
          (go_on _ (eq-eqb _ _ a.node)
          (go_on _ (lt-ltb _ _ a.slot)
          (go_on _ past.valid
          (go_on _ (eq-eqb _ _ past.incarnation)
          (go_on _ (not_yes past.plain) e)))))));
    }
