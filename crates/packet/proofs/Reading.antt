-- Laws of the length rule and of the payload's place. Assumes nothing.
use Prim.Native.Nat.{ℕ, ◌%◌, ◌≤◌}
use mathlib.Core.Path.{◌≡◌, refl, ap, ◌∙◌}
use mathlib.Core.Bool.{Bool, true, false, ◌&&◌, ◌||◌}
use mathlib.Core.List.{List}
use native.Mathlib.Omega.{arith}
use borrow.Author.Tests.{eqb-true, leb-true}
use lib.Dec.{eqb, leb}
use lib.ListN.{length}
use Rattle.std.specs.Int.Bits.{bit_and}
use Rattle.std.proofs.lemmas.Nat.{and_mask}
use Rattle.ground.specs.Choice.{pick}
use Rattle.ground.proofs.Choice.{pick_yes, pick_holds}
use Rattle.ground.proofs.Lists.{length_part}
use Rattle.ground.proofs.Tests.{and_left, and_right, or_first, or_second}
use Rattle.rules.specs.Packet.{plain_start, flagged_start, packet_most, flagged, payload_from, payload_length, payload_of, length_ok, is_packet}
use Rattle.packet.specs.Packet.{Sized}

-- A length without payload, or one of a range past it.
range : (none least most n : ℕ) → none ≤ least → none ≤ most → (eqb n none || (leb least n && leb n most)) ≡ true
    → (none ≤ n) × (n ≤ most)
range none least most n h k e = go (eqb n none) refl
  where
    go : (t : Bool) → eqb n none ≡ t → (none ≤ n) × (n ≤ most)
    go true q = let s : n ≡ none = eqb-true n none q in (omega arith, omega arith)
    go false q =
        let r : (leb least n && leb n most) ≡ true = or_second (eqb n none) _ e q in
        let l : least ≤ n = leb-true least n (and_left (leb least n) (leb n most) r) in
        (omega arith, leb-true n most (and_right (leb least n) (leb n most) r))

-- The length rule as bounds.
bounds : (flag : Bool) (n : ℕ) → length_ok flag n ≡ true → (pick flag flagged_start plain_start ≤ n) × (n ≤ packet_most)
unfolding pick
bounds true n e = range 36 44 168 n (omega arith) (omega arith) (and_right (eqb (n % 4) 0) _ e)
bounds false n e =
    let b = range 20 28 152 n (omega arith) (omega arith) (or_first _ false (and_right (eqb (n % 4) 0) _ e) refl) in
    (b.0, omega arith)

module _ (packet : List ℕ) where
  -- The payload starts past word 4.
  past_header : plain_start ≤ payload_from packet
  unfolding payload_from
  past_header = pick_holds (λ (n : ℕ). plain_start ≤ n) (flagged packet) (omega arith) (omega arith)

  -- What the length rule gives.
  pub sized : is_packet packet ≡ true → Sized packet
  unfolding payload_from
  sized e =
      let b = bounds (flagged packet) (length packet) e in
      record { start = record { least = past_header; most = b.0 }; short = b.1 }

  -- A packet with metadata has room for it.
  pub room_for_metadata : Sized packet → flagged packet ≡ true → flagged_start ≤ length packet
  unfolding payload_from
  room_for_metadata s e = let k : payload_from packet ≡ flagged_start = pick_yes flagged_start plain_start e in omega arith

  -- It is as long as is said.
  pub length_payload : {payload : List ℕ} → Sized packet → payload ≡ payload_of packet → length payload ≡ payload_length packet
  length_payload s e = ap length e ∙ length_part (payload_from packet) (payload_length packet) packet (omega arith)

-- The low half of a word, by a mask.
pub low_half : (w : ℕ) → bit_and w 0xffff ≡ w % 0x10000
low_half w = and_mask w 16
