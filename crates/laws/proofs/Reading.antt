-- What an access reaches: a register, or a word of its RAM; and what the verdict on a read says. Assumes nothing.
use Prim.Native.Nat.{ℕ, ◌*◌, ◌≤◌, ◌<◌}
use native.Mathlib.Omega.{arith}
use borrow.Author.Tests.{leb-true}
use lib.Dec.{leb}
use Rattle.ground.proofs.Choice.{pick_holds, pick_by}
use Rattle.ground.proofs.Tests.{and_right}
use Rattle.rules.specs.Memory.{Machine, send_size, receive_size}
use Rattle.rules.specs.Registers.{single, between, mapped, decode, reach}
use Rattle.rules.specs.Replies.{refusal_number}
use Rattle.rules.specs.Calls.{judge_read}
use Rattle.laws.specs.Types.{Mapped, Reach}
use Rattle.laws.specs.Sound.{Ranges, Sound}
use Rattle.laws.specs.Verdicts.{Refuses, OfRead}
use Rattle.laws.proofs.Sound.{pointer_inside}
use Rattle.laws.proofs.Gate.{plain, gate_holds}
use Rattle.std.specs.Prelude.{Result, Ok, Err}
use Rattle.rules.specs.declared.Refusal.{Refusal}

-- What a register number hands on: a descriptor's word, or the low byte of a page.
abbrev HandsOn : Mapped → Type 0
HandsOn (Mapped.Single x) = Unit {0}
HandsOn Mapped.SendWord = Unit {0}
HandsOn Mapped.SendStep = Unit {0}
HandsOn Mapped.ReceiveWord = Unit {0}
HandsOn Mapped.ReceiveStep = Unit {0}
HandsOn (Mapped.DescriptorWord i) = i < 64
HandsOn (Mapped.SendPage low) = low < 256
HandsOn (Mapped.ReceivePage low) = low < 256
HandsOn Mapped.Unmapped = Unit {0}

single_hands : (a : ℕ) → HandsOn (single a)
unfolding single
single_hands a = search (pick_holds HandsOn) depth 40

mapped_hands : (a : ℕ) → HandsOn (mapped a)
unfolding mapped
mapped_hands a =
    pick_by HandsOn (between 0x100 0x1FC a)
    (λ h. let u : a ≤ 0x1FC = leb-true _ _ (and_right (leb 0x100 a) _ h) in omega arith)
    (λ g.
    pick_by HandsOn (between 0x200 0x2FC a)
    (λ h. let u : a ≤ 0x2FC = leb-true _ _ (and_right (leb 0x200 a) _ h) in omega arith)
    (λ g₂.
    pick_by HandsOn (between 0x300 0x3FC a)
    (λ h. let u : a ≤ 0x3FC = leb-true _ _ (and_right (leb 0x300 a) _ h) in omega arith)
    (λ g₃. single_hands a)))

decode_hands : (a : ℕ) → HandsOn (decode a)
unfolding decode
decode_hands a = search (pick_holds HandsOn, mapped_hands)

-- What is reached is a word of its RAM; only an unmapped number is refused.
abbrev pub Held : Machine → Result Reach Refusal → Type 0
Held m (Err why) = Refuses m (refusal_number why)
Held m (Ok (Reach.Itself x)) = Unit {0}
Held m (Ok (Reach.InSend i)) = i < send_size
Held m (Ok (Reach.InReceive i)) = i < receive_size

module _ (m : Machine) (ok : Ranges m.saved) where
  -- The two pointers.
  send_inside : m.saved.sendpointer < 4 * send_size
  send_inside = pointer_inside send_size _ ok.sendpointer

  receive_inside : m.saved.receivepointer < 4 * receive_size
  receive_inside = pointer_inside receive_size _ ok.receivepointer

  -- By the map.
  by_map : (r : Mapped) → HandsOn r → Held m (reach m.saved r)
  unfolding reach
  by_map (Mapped.Single x) h = h
  by_map Mapped.SendWord h = omega (arith, send_inside)
  by_map Mapped.SendStep h = omega (arith, send_inside)
  by_map Mapped.ReceiveWord h = omega (arith, receive_inside)
  by_map Mapped.ReceiveStep h = omega (arith, receive_inside)
  by_map (Mapped.DescriptorWord i) h = omega arith
  by_map (Mapped.SendPage low) h = omega (arith, send_inside)
  by_map (Mapped.ReceivePage low) h = omega (arith, receive_inside)
  by_map Mapped.Unmapped h = plain (omega arith)

  -- Of a machine whose pointers are in their ranges.
  pub reach_held : (a : ℕ) → Held m (reach m.saved (decode a))
  reach_held a = by_map (decode a) (decode_hands a)

-- On a sound machine.
held_read : (m : Machine) (x : Result Reach Refusal) → Sound m → Held m x → OfRead m x
held_read m (Err why) f h = h
held_read m (Ok (Reach.Itself r)) f h = f
held_read m (Ok (Reach.InSend i)) f h = (f, h)
held_read m (Ok (Reach.InReceive i)) f h = (f, h)

-- A read.
pub of_read : (m : Machine) (a : ℕ) → OfRead m (judge_read m (decode a))
unfolding judge_read
of_read m a = gate_holds m (OfRead m) (λ why r. r) λ f. held_read m (reach m.saved (decode a)) f (reach_held m f.ranges a)
