-- The tests of sizes and soundness, as facts. Assumes nothing.
use mathlib.Core.Path.{◌≡◌, refl}
use mathlib.Core.Logic.{◌≢◌}
use mathlib.Core.Bool.{Bool, true, false, not, ◌&&◌, ◌||◌}
use Prim.Native.Nat.{ℕ, ◌+◌, ◌*◌, ◌%◌, ◌<◌, ◌≤◌}
use borrow.Author.Tests.{ltb-true, leb-true, eqb-true, ne_eqb}
use lib.Dec.{eqb, ltb, leb}
use lib.ListN.{length}
use Rattle.ground.proofs.All.{all_at}
use Rattle.ground.proofs.Tests.{and_left, and_right, or_first, or_second, not_no}
use Rattle.rules.specs.Words.{note_index, is_direct_io, is_control_pkt, notifies}
use Rattle.rules.specs.Memory.{Machine, sizes_ok, lists, direct_from, direct_to, is_block, is_block_or_none}
use Rattle.rules.specs.Saved.{resets, pcsr0_ok, own_node}
use Rattle.rules.specs.Registers.{pointer_ok}
use Rattle.rules.specs.Sending.{address_ok, message_size_ok, go_rule}
use Rattle.rules.specs.Sound.{is_sized, is_sound, registers_ok, queues_ok, heads_ok, places_ok, descriptor_ok, descriptors_ok, sound_ok}
use Rattle.laws.specs.Types.{Descriptor, Saved}
use Rattle.laws.specs.Sound.{Ring, Block, Sized, Ranges, Direct, Message, Going, Sound}

-- A test of a chain, and what it says of numbers.
pub ruleset tests = (and_left, and_right, ltb-true, leb-true, eqb-true)

-- The four lengths.
pub sized : (send receive data_length n : ℕ) → sizes_ok send receive data_length n ≡ true → Sized send receive data_length n
sized send receive data_length n h = search tests depth 20

-- The registers.
pub ranges : (s : Saved) → registers_ok s ≡ true → Ranges s
unfolding registers_ok
ranges s h = search tests depth 20

-- A node's own number.
pub own_node_lem : {s : Saved} → Ranges s → own_node s.pcsr0 ≤ 4095
own_node_lem {s} r = let ok : pcsr0_ok s.pcsr0 ≡ true = and_right (not (resets s.pcsr0)) _ r.pcsr0 in search tests depth 20

-- A pointer into a RAM of n words.
pub pointer_inside : (n p : ℕ) → pointer_ok n p ≡ true → p < 4 * n
pointer_inside n p h = search tests depth 20

-- The three queues.
pub rings : (s : Saved) → queues_ok s ≡ true → Ring s.nqr × Ring s.aqr × Ring s.nbqr
unfolding queues_ok
rings s h = search tests depth 20

-- A block.
pub is_block_lem : (n a : ℕ) → is_block n a ≡ true → Block n a
is_block_lem n a h = search tests depth 20

-- A head or a place that is set is a block.
pub set_block : (n a : ℕ) → is_block_or_none n a ≡ true → a ≢ 0 → Block n a
set_block n a h e = is_block_lem n a (or_second (eqb a 0) (is_block n a) h (ne_eqb a 0 e))

-- A message's bytes, in data memory or in DIO.
module _ {direct : Bool} (address size data_length : ℕ) (h : address_ok direct address size data_length ≡ true) where
  in_data : direct ≡ false → address + size ≤ data_length
  in_data e = leb-true _ _ (or_first (leb (address + size) data_length) false (rw e at h) refl)

  in_direct : direct ≡ true → Direct address size
  in_direct e =
      let k : (eqb (address % 4) 0 && leb direct_from address && leb (address + size) direct_to) ≡ true = rw e at h in
      search tests depth 20

module _ (d : Descriptor) (control1 size data_length : ℕ) where
  -- What the go rule asks of a size.
  message : message_size_ok d control1 size data_length ≡ true → Message d control1 size data_length
  unfolding message_size_ok
  message h =
      let range : address_ok (is_direct_io control1) d.msgaddress size data_length ≡ true = search tests depth 20 in
      record {
        words = search tests depth 20;
        offset = search tests depth 20;
        bytes = in_data d.msgaddress size data_length range;
        direct = in_direct d.msgaddress size data_length range;
      }

  -- The go rule.
  pub going : go_rule d control1 size data_length ≡ true → Going d control1 size data_length
  unfolding go_rule
  going h =
      let note : (not (notifies control1) || ltb (note_index d.address1) lists) ≡ true = search tests depth 20 in
      let rest : (is_control_pkt control1 || message_size_ok d control1 size data_length) ≡ true = search tests depth 20 in
      record {
        note = λ e. ltb-true _ _ (or_second (not (notifies control1)) _ note (not_no e));
        message = λ e. message (or_second (is_control_pkt control1) _ rest e);
      }

-- A machine that is sized and sound.
pub sound : (m : Machine) → is_sized m ≡ true → is_sound m ≡ true → Sound m
unfolding sound_ok heads_ok places_ok descriptors_ok descriptor_ok
sound m sizes h =
    let registers : registers_ok m.saved ≡ true = search tests depth 20 in
    let queues : queues_ok m.saved ≡ true = search tests depth 20 in
    let heads : heads_ok m.receive (length m.notices) ≡ true = search tests depth 20 in
    let places : places_ok m.receive (length m.notices) ≡ true = search tests depth 20 in
    let active : descriptors_ok m.send (length m.bytes) ≡ true = search tests depth 20 in
    record {
      sized = sized _ _ _ _ sizes;
      ranges = ranges m.saved registers;
      nqr = (rings m.saved queues).0;
      aqr = (rings m.saved queues).1;
      nbqr = (rings m.saved queues).2;
      heads = λ l low. all_at _ _ l.0 low heads;
      places = λ l low. all_at _ _ l.0 low places;
      active = λ d low a. or_second _ _ (all_at _ _ d.0 low active) (not_no a);
    }
