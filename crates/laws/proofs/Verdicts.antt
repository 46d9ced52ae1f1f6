-- What the verdict on each call but a write says, by the judge. Assumes nothing.
use mathlib.Core.Path.{◌≡◌, refl}
use mathlib.Core.Logic.{◌≢◌}
use mathlib.Core.Bool.{Bool, true}
use mathlib.Core.List.{List}
use Prim.Native.Nat.{ℕ, zero, suc, ◌+◌, ◌%◌, ◌<◌, ◌≤◌}
use native.Mathlib.Omega.{arith}
use lib.Dec.{eqb}
use lib.ListN.{length}
use borrow.Author.Tests.{eqb-false, ltb-true, leb-true, not-true}
use Rattle.ground.proofs.Choice.{pick_holds, pick_by, need_holds}
use Rattle.ground.proofs.Tests.{and_left, and_right}
use Rattle.rules.specs.Memory.{Machine, descriptors, descriptor, lists, list, block, next_of}
use Rattle.rules.specs.Notices.{place_of}
use Rattle.rules.specs.Packet.{packet_most, packet_of}
use Rattle.rules.specs.Sending.{is_active, go_rule, is_ready, first_from, next_sender}
use Rattle.rules.specs.Sound.{is_sized, is_sound}
use Rattle.rules.specs.Replies.{refusal_number}
use Rattle.rules.specs.Calls.{why_unknown, receipt, judge_receive, sending_of, judge_send, judge_take}
use Rattle.laws.specs.Types.{DescriptorIndex, Descriptor, Refusal, Receiving, Sending, Taking}
use Rattle.laws.specs.Sound.{the_descriptor, Sound}
use Rattle.laws.specs.Verdicts.{unsound, bad_next, Refuses, OfReceive, Chosen, OfSend, OfTake}
use Rattle.laws.proofs.Sound.{is_block_lem, set_block}
use Rattle.laws.proofs.Gate.{plain, sizes, unfit, gate_holds}
use Rattle.laws.proofs.Postings.{send_listed}
use Rattle.laws.proofs.Receipts.{of_receipt, receipt_listed}
use Rattle.std.specs.Prelude.{Option, Some, None, Result, Err}

-- An unknown call.
pub of_unknown : (m : Machine) → Refuses m (refusal_number (why_unknown m))
unfolding why_unknown
of_unknown m =
    let P : Refusal → Type 0 = λ why. Refuses m (refusal_number why) in
    need_holds P (is_sized m) sizes λ z. need_holds P (is_sound m) (λ e. unfit (unsound e)) λ s. plain (omega arith)

-- A receive.
pub of_receive : (m : Machine) (packet : List ℕ) → OfReceive m packet (judge_receive m packet)
unfolding judge_receive
of_receive m packet =
    let P : Result Receiving Refusal → Type 0 = OfReceive m packet in
    gate_holds m P (λ why r. r) λ f.
    need_holds P _ (λ e. plain (omega arith)) λ on.
    need_holds P _ (λ e. plain (omega arith)) λ whole.
    need_holds P _ (λ e. plain (omega arith)) λ room.
    let says = of_receipt m.saved m.receive (length m.bytes) packet in
    record {
      sound = f;
      whole = whole;
      read = refl;
      is = refl;
      says = says;
      listed = receipt_listed m.saved m.receive (length m.bytes) (packet_of packet) (receipt m packet) says;
      room = room;
    }

-- ---- send

-- What the search finds is one of the four, and passes.
found_first : (test : DescriptorIndex → Bool) (last k n : ℕ) (d : DescriptorIndex) → first_from test last k n ≡ Some d
    → (d.0 < descriptors) × (test d ≡ true)
unfolding first_from
found_first test last k zero d e = let z : ◌≡◌ {A = ℕ} 0 1 = cc in absurd (omega arith)
found_first test last k (suc n) d e =
    let at : DescriptorIndex = descriptor ((last + 1 + k) % descriptors) in
    pick_by (λ (f : Option DescriptorIndex). f ≡ Some d → (d.0 < descriptors) × (test d ≡ true)) (test at)
    (λ passes q. let same : at ≡ d = cc in let low : at.0 < descriptors = omega arith in rw (← same) (low, passes))
    (λ fails. found_first test last (k + 1) n d)
    e

module _ (m : Machine) (room : ℕ) (f : Sound m) (long : packet_most ≤ room) where
  -- The next sender.
  chosen : (i : DescriptorIndex) → next_sender m.saved m.send m.receive ≡ Some i → Chosen m room i
  unfolding next_sender is_ready
  chosen i e =
      let d : Descriptor = the_descriptor m i in
      let found = found_first _ m.saved.lastsender 0 descriptors i e in
      let active : is_active d ≡ true = and_left (is_active d) _ found.1 in
      let rule : go_rule d d.control1 d.bytestogo (length m.bytes) ≡ true = f.active i found.0 active in
      record {
        sound = f;
        long = long;
        first = e;
        low = found.0;
        rule = rule;
        listed = send_listed d _ _ rule;
        posts = and_right (is_active d) _ found.1;
      }

  -- What it does.
  found_sends : (ready : Bool) (x : Option DescriptorIndex) → next_sender m.saved m.send m.receive ≡ x → OfSend m room (sending_of ready x)
  unfolding sending_of
  found_sends ready None e = plain (omega arith)
  found_sends ready (Some i) e = pick_holds (OfSend m room) ready (chosen i e) (chosen i e)

-- A send.
pub of_send : (m : Machine) (ready : Bool) (room : ℕ) → OfSend m room (judge_send m ready room)
unfolding judge_send
of_send m ready room =
    let P : Result Sending Refusal → Type 0 = OfSend m room in
    gate_holds m P (λ why r. r) λ f.
    need_holds P _ (λ e. plain (omega arith)) λ on.
    need_holds P _ (λ e. plain (omega arith)) λ long.
    need_holds P _ (λ e. plain (omega arith)) λ busy. found_sends m room f (leb-true packet_most room long) ready _ refl

-- ---- take

pub of_take : (m : Machine) (l room : ℕ) → OfTake m room (judge_take m l room)
unfolding judge_take
of_take m l room =
    let P : Result Taking Refusal → Type 0 = OfTake m room in
    let p : ℕ = place_of m.receive (list l) in
    let n : ℕ = next_of m.notices (block p) in
    gate_holds m P (λ why r. r) λ f.
    need_holds P _ (λ e. plain (omega arith)) λ few.
    need_holds P _ (λ e. plain (omega arith)) λ long.
    need_holds P _ (λ e. plain (omega arith)) λ some.
    need_holds P _ (λ e. plain (omega arith)) λ more.
    let low : l < lists = ltb-true l lists few in
    let place : p ≢ 0 = eqb-false p 0 (not-true (eqb p 0) some) in
    let next : n ≢ 0 = eqb-false n 0 (not-true (eqb n 0) more) in
    need_holds P _ (λ e. unfit (bad_next l (record { there = low; place = place; next = next; bad = e }))) λ ok.
    need_holds P _ (λ e. plain (omega arith)) λ free.
    record {
      sound = f;
      low = low;
      long = leb-true 8 room long;
      queue = ltb-true m.saved.nbqr.length 256 free;
      place = refl;
      next = refl;
      here = set_block (length m.notices) p (f.places (list l) low) place;
      onward = is_block_lem (length m.notices) n ok;
    }
