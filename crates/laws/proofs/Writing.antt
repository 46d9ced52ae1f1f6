-- What the verdict on a write says, by what it reaches. Assumes nothing.
use Prim.Native.Nat.{ℕ, ◌-◌, ◌/◌, ◌%◌, ◌<◌}
use mathlib.Core.Path.{◌≡◌, refl}
use mathlib.Core.Bool.{Bool, true, false, not, ◌||◌}
use mathlib.Core.List.{List}
use native.Mathlib.Omega.{arith}
use lib.Dec.{eqb, ltb, leb}
use lib.ListN.{length}
use borrow.Author.Tests.{eqb-true, ne_eqb, ltb-true, ltb-false, leb-false, not-true, not-false}
use Rattle.ground.specs.Choice.{pick}
use Rattle.ground.proofs.Choice.{pick_by, need_holds}
use Rattle.ground.proofs.Tests.{and_left, or_second, or_neither, not_no}
use Rattle.rules.specs.Memory.{Machine, send_size, block, next_of, send_part, receive_part, is_free_block}
use Rattle.rules.specs.Registers.{single, mapped, decode, reach}
use Rattle.rules.specs.Writes.{slot_word_fixed, starts, judge_send_word, judge_receive_word, judge_register, judge_reached}
use Rattle.rules.specs.Sound.{is_sized, is_sound}
use Rattle.rules.specs.Calls.{is_reset, judge_write}
use Rattle.laws.specs.Types.{Register, Reach, SendPart, ReceivePart, Writing}
use Rattle.laws.specs.Sound.{Ring, Sized, Sound}
use Rattle.laws.specs.Verdicts.{unsound}
use Rattle.laws.specs.Writing.{OfSendPart, OfReceivePart, Free, PlainWord, OfWrite}
use Rattle.laws.proofs.Sound.{tests, sized, is_block_lem, sound}
use Rattle.laws.proofs.Gate.{plain, sizes, unfit}
use Rattle.laws.proofs.Reading.{Held, reach_held}
use Rattle.std.specs.Prelude.{Result, Ok, Err}
use Rattle.rules.specs.declared.Refusal.{Refusal}

-- ---- what a word is

-- The four descriptors stand in the first 64 words, and DIO after them.
pub send_part_lem : (i : ℕ) → OfSendPart i (send_part i)
unfolding send_part
send_part_lem i =
    pick_by (OfSendPart i) (ltb i 64)
    (λ h. let low : i < 64 = ltb-true i 64 h in (omega arith, omega arith)) (λ h. (refl, ltb-false i 64 h))

-- The 64 slots stand in the first 1,024 words, the 64 lists in the 128 after them.
pub receive_part_lem : (i : ℕ) → OfReceivePart (receive_part i)
unfolding receive_part
receive_part_lem i =
    pick_by OfReceivePart (ltb i 1024)
    (λ h. let low : i < 1024 = ltb-true i 1024 h in (omega arith, omega arith))
    λ h. pick_by OfReceivePart (leb 1152 i) (λ k. tt)
    λ k.
    let low : i < 1152 = leb-false 1152 i k in
    let few : (i - 1024) / 2 < 64 = omega arith in
    pick_by OfReceivePart (eqb (i % 2) 0) (λ z. few) (λ z. few)

-- A free block, by the test.
free : (notices : List ℕ) (a : ℕ) → is_free_block notices a ≡ true → Free notices a
unfolding is_free_block
free notices a e = (is_block_lem (length notices) a (search tests), eqb-true (next_of notices (block a)) 0 (search tests))

-- A slot's word that takes a value and is not word 2.
plain_word : (k : ℕ) → not (slot_word_fixed k) ≡ true → eqb k 2 ≡ false → PlainWord k
plain_word k h e =
    let one : (eqb k 0 || eqb k 1 || eqb k 2 || eqb k 6) ≡ true = not-false _ (not-true _ h) in
    record { other = λ f g. eqb-true k 6 (or_second (eqb k 0 || eqb k 1 || eqb k 2) (eqb k 6) one (rw (ne_eqb k 0 f, ne_eqb k 1 g, e))) }

-- ---- by what is reached

module _ (m : Machine) (v : ℕ) (known : Sized (length m.send) (length m.receive) (length m.bytes) (length m.notices)) where
  -- What a verdict says of this machine.
  abbrev Says : Result Writing Refusal → Type 0
  Says w = OfWrite m v w

  -- PCSR0, of any machine.
  of_pcsr0 : Says (judge_register m.saved m.notices Register.Pcsr0 v)
  unfolding judge_register
  of_pcsr0 = need_holds Says _ (λ e. plain (omega arith)) λ ok. pick_by Says _ (λ e. known) λ e. (ok, e)

  -- A register itself.
  of_register : Ring m.saved.nbqr → (r : Register) → Says (judge_register m.saved m.notices r v)
  unfolding judge_register
  of_register ring Register.Pcsr0 = of_pcsr0
  of_register ring Register.Pcsr1 = tt
  of_register ring Register.Nlhr = plain (omega arith)
  of_register ring Register.SlotCount = need_holds Says _ (λ e. plain (omega arith)) λ ok. ok
  of_register ring Register.Nqr = plain (omega arith)
  of_register ring Register.Aqr = plain (omega arith)
  of_register ring Register.Nbqr =
      need_holds Says _ (λ e. plain (omega arith)) λ ok.
      need_holds Says _ (λ e. plain (omega arith)) λ room.
      record { size = known.receive; ring = ring; room = ltb-true m.saved.nbqr.length 256 room; free = free m.notices v ok }
  of_register ring Register.Taken = plain (omega arith)
  of_register ring Register.Faulted = plain (omega arith)
  of_register ring Register.SendPointer = need_holds Says _ (λ e. plain (omega arith)) λ ok. ok
  of_register ring Register.ReceivePointer = need_holds Says _ (λ e. plain (omega arith)) λ ok. ok

  -- A word of Send RAM.
  of_send_word : (i : ℕ) → i < send_size → (p : SendPart) → OfSendPart i p → Says (judge_send_word m.send (length m.bytes) p v)
  unfolding judge_send_word
  of_send_word i low (SendPart.Direct j) h = (known.send, (h.1, omega arith))
  of_send_word i low (SendPart.OfDescriptor d k) h =
      need_holds Says _ (λ e. plain (omega arith)) λ writable.
      need_holds Says _ (λ e. plain (omega arith)) λ still.
      need_holds Says _ (λ e. plain (omega arith)) λ rule.
      pick_by (λ w. Says (Ok (Writing.StoresSend w))) (starts k v)
      (λ go. (known.send, (h.0, or_second (not (starts k v)) _ rule (not_no go))))
      (λ stay. (known.send, (h.0, h.1, not-true _ writable, still, stay)))

  -- A word of Receive RAM.
  of_receive_word : (p : ReceivePart) → OfReceivePart p → Says (judge_receive_word m.receive m.notices p v)
  unfolding judge_receive_word
  of_receive_word (ReceivePart.OfSlot i k) h =
      need_holds Says _ (λ e. plain (omega arith)) λ writable.
      pick_by (λ w. Says (Ok (Writing.StoresReceive w))) (eqb k 2)
      (λ e. (known.receive, h.0)) (λ e. (known.receive, (h.0, h.1, plain_word k writable e)))
  of_receive_word (ReceivePart.Head l) h =
      need_holds Says _ (λ e. plain (omega arith)) λ none.
      need_holds Says _ (λ e. plain (omega arith)) λ ok. (known.receive, (h, eqb-true _ 0 none, free m.notices v ok))
  of_receive_word (ReceivePart.Token l) h = need_holds Says _ (λ e. plain (omega arith)) λ ok. (known.receive, h)
  of_receive_word ReceivePart.Fixed h = plain (omega arith)

  -- Any of them.
  of_reached : Ring m.saved.nbqr → (x : Result Reach Refusal) → Held m x → Says (judge_reached m x v)
  unfolding judge_reached
  of_reached ring (Err why) h = h
  of_reached ring (Ok (Reach.Itself r)) h = of_register ring r
  of_reached ring (Ok (Reach.InSend i)) h = of_send_word i h (send_part i) (send_part_lem i)
  of_reached ring (Ok (Reach.InReceive i)) h = of_receive_word (receive_part i) (receive_part_lem i)

  -- Register number 0 is PCSR0.
  pcsr0_reached : (a : ℕ) → a ≡ 0 → Ok (Reach.Itself Register.Pcsr0) ≡ reach m.saved (decode a)
  unfolding decode mapped single reach pick
  pcsr0_reached a e = rw e

  -- A reset reaches PCSR0, and any other write goes on only on a sound machine.
  of_going : (a : ℕ) (b : Bool) → is_reset a v ≡ b → is_sized m ≡ true → (b || is_sound m) ≡ true → Says (judge_reached m (reach m.saved (decode a)) v)
  unfolding judge_reached is_reset
  of_going a true e z on = rw (← pcsr0_reached a (eqb-true a 0 (and_left _ _ e))) of_pcsr0
  of_going a false e z on = let f : Sound m = sound m z on in of_reached f.nbqr (reach m.saved (decode a)) (reach_held m f.ranges a)

-- A write.
pub of_write : (m : Machine) (a v : ℕ) → OfWrite m v (judge_write m a v)
unfolding judge_write
of_write m a v =
    need_holds (OfWrite m v) (is_sized m) sizes λ z.
    need_holds (OfWrite m v) (is_reset a v || is_sound m) (λ e. unfit (unsound (or_neither (is_reset a v) (is_sound m) e).1)) λ on.
    of_going m v (sized _ _ _ _ z) a (is_reset a v) refl z on
