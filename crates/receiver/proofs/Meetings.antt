-- A packet and the slot that it meets: what the slot becomes, what is posted, what goes on AQR. Assumes nothing.
use Rattle.std.proofs.Common.{◌≡◌, ℕ, ◌+◌, ◌*◌, ◌^◌, ◌<◌, ◌≤◌, Bool, true, false, ◌&&◌, ◌⊎◌, refl, ⊎_elim, arith}
use denote.Enum.Declared.{tag_of}
use Rattle.ground.specs.Choice.{pick}
use Rattle.ground.proofs.Choice.{arm_yes, arm_no, pick_holds}
use Rattle.rules.specs.declared.Fault.{Fault}
use Rattle.rules.specs.declared.Notice.{Notice}
use Rattle.rules.specs.declared.Packet.{Packet}
use Rattle.rules.specs.declared.Posting.{Posting}
use Rattle.rules.specs.declared.Receipt.{Receipt}
use Rattle.rules.specs.declared.Receiving.{Receiving}
use Rattle.rules.specs.declared.Slot.{Slot}
use Rattle.rules.specs.declared.SlotIndex.{SlotIndex}
use Rattle.rules.specs.contracts.Receipt.{the_type}
use Rattle.rules.specs.Words.{most24, meta_flag, meta_part, uses_msg_size, uses_msg_offset, msg_size, offset}
use Rattle.rules.specs.Memory.{list, slots_most}
use Rattle.rules.specs.Slots.{slot_note_index, slot_notifies, does_acks, ack_note_index}
use Rattle.rules.specs.Receipt.{fault_status, landed, completes, message_notice, ack_notice, fault_notice, receipt_posting, needs_aqr}
use Rattle.laws.specs.Receipts.{Usable}
use Rattle.receiver.specs.Acting.{NoData, lands_at, Known}
use Rattle.std.specs.Prelude.{Option, None}
use Rattle.rules.specs.Notices.{posts_on}

-- ---- a receipt by its tag

-- One of no data.
pub unless_lands : (P : Receipt → Type 0) → ((f : Fault) → P (Receipt.Fails f)) → ((i : SlotIndex) (v : Slot) → P (Receipt.Acks i v)) → (r : Receipt)
    → NoData r → P r
unless_lands P fault ack (Receipt.Fails f) none = fault f
unless_lands P fault ack (Receipt.Acks i v) none = ack i v
unless_lands P fault ack (Receipt.Lands i v) none = absurd (none i v refl)

-- One that is no fault.
pub unless_fails : (P : Receipt → Type 0) → ((i : SlotIndex) (v : Slot) → P (Receipt.Acks i v)) → ((i : SlotIndex) (v : Slot) → P (Receipt.Lands i v))
    → (r : Receipt) → (tag_of the_type r ≡ 1) ⊎ (tag_of the_type r ≡ 2) → P r
unless_fails P ack land (Receipt.Fails f) t =
    absurd (⊎_elim (λ e. let z : ◌≡◌ {A = ℕ} 0 1 = e in omega arith) (λ e. let z : ◌≡◌ {A = ℕ} 0 2 = e in omega arith) t)
unless_fails P ack land (Receipt.Acks i v) t = ack i v
unless_fails P ack land (Receipt.Lands i v) t = land i v

-- ---- what is known of a receipt

-- A status is one of 16 bits.
pub status_low : (f : Fault) → fault_status f < 2 ^ 16
status_low Fault.HeaderCheck = omega arith
status_low Fault.Fields = omega arith
status_low Fault.Node = omega arith
status_low Fault.SlotAboveCount = omega arith
status_low Fault.SlotNotValid = omega arith
status_low Fault.Incarnation = omega arith
status_low Fault.OffsetAbove = omega arith
status_low Fault.Beyond = omega arith
status_low Fault.BodyCheck = omega arith

-- An ack's slot is one of the table.
pub ack_slot : (x : Receiving) (i : SlotIndex) (v : Slot) → Known x → x.receipt ≡ Receipt.Acks i v → i.0 < slots_most
ack_slot x i v k e = k.acks i v e

-- ---- the slot

-- What a packet leaves of a usable slot makes words of 32 bits.
pub part_small : (p : Packet) (v : Slot) → Usable v
    → (pick (uses_msg_offset p.header.control0) (offset p.header.control0) v.msgoffset ≤ most24)
    × (pick (meta_flag p.header.control1) (meta_part p.header.control1) v.metaword
    + pick (uses_msg_size p.header.control0) (msg_size p.header.control1) v.msgsize < 2 ^ 32)
part_small p v u =
    let control0 : ℕ = p.header.control0 in
    let control1 : ℕ = p.header.control1 in
    let few : pick (uses_msg_size control0) (msg_size control1) v.msgsize ≤ most24 =
    pick_holds (λ (n : ℕ). n ≤ most24) (uses_msg_size control0) (omega arith) u.msgsize in
    let word : pick (meta_flag control1) (meta_part control1) v.metaword ≤ 15 * 2 ^ 24 =
    pick_holds (λ (n : ℕ). n ≤ 15 * 2 ^ 24) (meta_flag control1) (omega arith) (omega (arith, u.metaword)) in
    (pick_holds (λ (n : ℕ). n ≤ most24) (uses_msg_offset control0) (omega arith) u.msgoffset, omega (arith, few, word))

-- ---- what is posted

-- At a message's end, with notify.
pub tells_end : (i : SlotIndex) (p : Packet) (v w : Slot) (t : Bool) (n : Notice) → t ≡ completes p v → (t && slot_notifies v.noteandflags) ≡ true
    → w ≡ landed p v → n ≡ message_notice i p.header w
    → posts_on (list (slot_note_index v.noteandflags)) n ≡ receipt_posting p (Receipt.Lands i v)
unfolding receipt_posting
tells_end i p v w t n told test left made = arm_yes _ (rw told at test) (rw (made, left))

-- Else.
pub tells_none : (i : SlotIndex) (p : Packet) (v : Slot) (t : Bool) → t ≡ completes p v → (t && slot_notifies v.noteandflags) ≡ false
    → None ≡ receipt_posting p (Receipt.Lands i v)
unfolding receipt_posting
tells_none i p v t told test = arm_no _ (rw told at test) refl

-- A fault's notice.
pub posts_fault : (x : Receiving) (f : Fault) (n : Notice) → x.receipt ≡ Receipt.Fails f → n ≡ fault_notice x.packet.header f
    → posts_on (list 0) n ≡ receipt_posting x.packet x.receipt
unfolding receipt_posting
posts_fault x f n e made = rw (e, made)

-- An ack's.
pub posts_ack : (x : Receiving) (i : SlotIndex) (v : Slot) (n : Notice) → x.receipt ≡ Receipt.Acks i v → n ≡ ack_notice i x.packet.header
    → posts_on (list (ack_note_index v.acknote)) n ≡ receipt_posting x.packet x.receipt
unfolding receipt_posting
posts_ack x i v n e made = rw (e, made)

-- A message's.
pub posts_message : (x : Receiving) (p : Packet) (i : SlotIndex) (v : Slot) (out : Option Posting) → x ≡ lands_at p i v
    → out ≡ receipt_posting p (Receipt.Lands i v) → out ≡ receipt_posting x.packet x.receipt
posts_message x p i v out e told = rw e told

-- No entry on AQR but for data.
pub no_entry : (x : Receiving) → NoData x.receipt → false ≡ needs_aqr x.packet x.receipt
unfolding needs_aqr
no_entry x = unless_lands (λ r. false ≡ needs_aqr x.packet r) (λ f. refl) (λ i v. refl) x.receipt

-- An entry for data.
pub some_entry : (x : Receiving) (p : Packet) (i : SlotIndex) (v : Slot) (t : Bool) → x ≡ lands_at p i v → t ≡ completes p v
    → (t && does_acks v.noteandflags) ≡ needs_aqr x.packet x.receipt
unfolding needs_aqr
some_entry x p i v t e told = rw (e, told)
