-- What the table of steps says of a receipt, and what a valid slot says. Assumes nothing.
use mathlib.Core.Path.{◌≡◌, refl}
use mathlib.Core.Bool.{true, not, ◌||◌}
use mathlib.Core.List.{List}
use Prim.Native.Nat.{ℕ, ◌+◌, ◌<◌, ◌≤◌}
use native.Mathlib.Omega.{arith}
use borrow.Author.Tests.{ltb-true, leb-true}
use lib.Dec.{ltb}
use Rattle.ground.proofs.Choice.{pick_by, need_holds}
use Rattle.ground.proofs.Tests.{and_right, or_second, not_no}
use Rattle.rules.specs.Memory.{lists}
use Rattle.rules.specs.Packet.{packet_of}
use Rattle.rules.specs.Slots.{slot_ok, slot_note_index, slot_notifies, ack_note_index}
use Rattle.rules.specs.Receipt.{completes, receipt_of, receipt_posting}
use Rattle.laws.specs.Types.{Saved, Slot, Packet, Receipt}
use Rattle.laws.specs.Postings.{Listed}
use Rattle.laws.specs.Receipts.{Usable, OfReceipt}
use Rattle.laws.proofs.Sound.{tests}
use Rattle.laws.proofs.Postings.{on_list_lem, on_none}

-- By the table of steps.
pub of_receipt : (s : Saved) (receive : List ℕ) (n : ℕ) (packet : List ℕ) → OfReceipt s receive n (packet_of packet) (receipt_of s receive n packet)
unfolding receipt_of
of_receipt s receive n packet =
    let P : Receipt → Type 0 = OfReceipt s receive n (packet_of packet) in
    need_holds P _ (λ e. tt) λ _.
    need_holds P _ (λ e. tt) λ _.
    need_holds P _ (λ e. tt) λ _.
    need_holds P _ (λ e. tt) λ few.
    need_holds P _ (λ e. tt) λ ok.
    need_holds P _ (λ e. tt) λ _.
    need_holds P _ (λ e. record { low = ltb-true _ _ few; words = refl; ok = ok }) λ _.
    need_holds P _ (λ e. tt) λ _.
    need_holds P _ (λ e. tt) λ fits.
    need_holds P _ (λ e. tt) λ _.
    need_holds P _ (λ e. tt) λ _. (record { low = ltb-true _ _ few; words = refl; ok = ok }, leb-true _ _ fits)

-- ---- a valid slot

module _ (v : Slot) (n : ℕ) (ok : slot_ok v n ≡ true) where
  -- Its counts and its meta word.
  pub usable : Usable v
  unfolding slot_ok
  usable = search tests depth 20

  -- Its buffer lies in data memory.
  pub buffer_inside : v.base + v.size ≤ n
  unfolding slot_ok
  buffer_inside = search tests depth 20

  -- The list of its acks.
  pub ack_list : ack_note_index v.acknote < lists
  unfolding slot_ok
  ack_list = search tests depth 20

  -- The list of its messages.
  pub message_list : slot_notifies v.noteandflags ≡ true → slot_note_index v.noteandflags < lists
  unfolding slot_ok
  message_list e =
      let either : (not (slot_notifies v.noteandflags) || ltb (slot_note_index v.noteandflags) lists) ≡ true = search tests depth 20 in
      ltb-true _ _ (or_second (not (slot_notifies v.noteandflags)) _ either (not_no e))

-- ---- what a receipt posts

-- It is on one of the 64 lists.
pub receipt_listed : (s : Saved) (receive : List ℕ) (n : ℕ) (p : Packet) (r : Receipt) → OfReceipt s receive n p r → Listed (receipt_posting p r)
unfolding receipt_posting
receipt_listed s receive n p (Receipt.Fails f) h = on_list_lem (omega arith)
receipt_listed s receive n p (Receipt.Acks i v) h = on_list_lem (ack_list v n h.ok)
receipt_listed s receive n p (Receipt.Lands i v) h =
    pick_by Listed _ (λ e. on_list_lem (message_list v n h.0.ok (and_right (completes p v) _ e))) (λ e. on_none)
