-- What finding room and acting ask, from what the table of steps says. Assumes nothing.
use Rattle.std.proofs.Common.{◌≡◌, ℕ, ◌≤◌, not, List, length, refl, ◌∙◌, subst, arith}
use Rattle.ground.proofs.Tests.{and_left, and_right, or_second, not_no}
use Rattle.rules.specs.declared.Packet.{Packet}
use Rattle.rules.specs.declared.Receipt.{Receipt}
use Rattle.rules.specs.declared.Receiving.{Receiving}
use Rattle.rules.specs.declared.Saved.{Saved}
use Rattle.rules.specs.Memory.{Machine, slots_most}
use Rattle.rules.specs.Queues.{has_room}
use Rattle.rules.specs.Packet.{packet_most, payload_length, packet_of}
use Rattle.rules.specs.Notices.{can_post_all}
use Rattle.rules.specs.Receipt.{receipt_of, receipt_posting, needs_aqr, has_room_for}
use Rattle.rules.specs.Calls.{judge_receive}
use Rattle.laws.specs.Receipts.{OfReceipt}
use Rattle.laws.specs.Verdicts.{Comes, OfReceive}
use Rattle.laws.proofs.Receipts.{of_receipt, usable, buffer_inside, receipt_listed}
use Rattle.laws.proofs.Verdicts.{of_receive}
use Rattle.packet.specs.Packet.{Sized}
use Rattle.packet.proofs.Reading.{sized}
use Rattle.notices.proofs.Facts.{pushable, postable_all}
use Rattle.receiver.specs.Acting.{Known, Landable, Boardable, Receivable}
use Rattle.receiver.specs.Judging.{Judgeable, Answerable}
use Rattle.std.specs.Prelude.{Result, Ok}
use Rattle.rules.specs.declared.Refusal.{Refusal}

-- ---- a payload is a part of its packet

payload_same : (packet : List ℕ) → (packet_of packet).payloadlength ≡ payload_length packet
unfolding packet_of
payload_same packet = refl

pub payload_few : (packet : List ℕ) (p : Packet) → p ≡ packet_of packet → Sized packet → p.payloadlength ≤ packet_most
unfolding packet_of
payload_few packet p fields s = rw fields (omega (arith, s.short))

-- ---- what is asked of a receipt

module _ (s : Saved) (receive : List ℕ) (n : ℕ) (x : Receiving) (t : OfReceipt s receive n x.packet x.receipt) where
  -- What it says, once it is known what it is.
  told : (r : Receipt) → x.receipt ≡ r → OfReceipt s receive n x.packet r
  told r e = subst (OfReceipt s receive n x.packet) e t

  -- What acting knows of it.
  known : s.slots ≤ slots_most → x.packet.payloadlength ≤ packet_most → Known x
  known slots payload =
      record {
        acks = λ i v e. omega (arith, slots, (told _ e).low);
        lands = λ i v e.
            let h = (told _ e).0 in
            record { low = omega (arith, slots, h.low); payload = payload; usable = usable v n h.ok };
      }

  -- Its payload fits where it lands.
  landable : (bytes packet : List ℕ) → n ≡ length bytes → Sized packet → x.packet ≡ packet_of packet → Landable bytes packet x
  landable bytes packet size whole read =
      let payload : x.packet.payloadlength ≡ payload_length packet = rw read (payload_same packet) in
      record {
        landing = λ i v e.
            let h = told _ e in
            record { sized = whole; fits = omega (arith, size, payload, buffer_inside v n h.0.ok, h.1) };
      }

-- A receipt by the table of steps.
pub answerable : (s : Saved) (receive : List ℕ) (n : ℕ) (packet : List ℕ) (x : Receiving) → Judgeable s receive packet x.packet
    → x.receipt ≡ receipt_of s receive n packet → Answerable receive x
answerable s receive n packet x j e =
    let t : OfReceipt s receive n x.packet x.receipt = rw (e, j.fields) (of_receipt s receive n packet) in
    record {
      known = known s receive n x t j.slots (payload_few packet x.packet j.fields j.sized);
      listed = receipt_listed s receive n x.packet x.receipt t;
      size = j.size;
    }

-- ---- what acting asks

-- A receive that was judged to come to a receipt.
comes : (m : Machine) (packet : List ℕ) (x : Receiving) → judge_receive m packet ≡ Ok x
    → Landable m.bytes packet x × Boardable x m.saved m.receive (length m.notices)
unfolding has_room_for
comes m packet x h =
    let p : Packet = x.packet in
    let r : Receipt = x.receipt in
    let s : Saved = m.saved in
    let receive : List ℕ = m.receive in
    let n : ℕ = length m.bytes in
    let c : Comes m packet p r = subst (OfReceive m packet) h (of_receive m packet) in
    let sound = c.sound in
    let size = sound.sized.receive in
    let whole : Sized packet = sized packet c.whole in
    let posts = can_post_all s receive (receipt_posting p r) in
    let lands : Landable m.bytes packet x = landable s receive n x c.says m.bytes packet refl whole c.read in
    let boards : Boardable x s receive (length m.notices) =
    record {
      enterable = record {
        storable = record { known = known s receive n x c.says sound.ranges.slots (payload_few packet p c.read whole); size = size };
        aqr = λ e. pushable s.aqr receive sound.aqr size (or_second (not (needs_aqr p r)) (has_room s.aqr) (and_right posts _ c.room) (not_no e));
      };
      posting = postable_all s receive _ size sound.nqr sound.nbqr (receipt_posting p r) sound.heads c.listed (and_left posts _ c.room);
    } in
    (lands, boards)

-- A receive that was judged can be acted on.
pub receivable : (m : Machine) (packet : List ℕ) {v : Result Receiving Refusal} → judge_receive m packet ≡ v
    → Receivable v m.saved m.receive m.bytes (length m.notices) packet
receivable m packet h = record { landable = λ x e. (comes m packet x (h ∙ e)).0; boardable = λ x e. (comes m packet x (h ∙ e)).1 }
