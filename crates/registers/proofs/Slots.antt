-- A slot's words, read from its row and stored with it. Assumes nothing.
use mathlib.Core.Path.{◌≡◌, sym, ap, ◌∙◌}
use mathlib.Core.List.{List, [], ◌∷◌}
use Prim.Native.Nat.{ℕ, suc, zero, ◌+◌, ◌/◌, ◌%◌, ◌<◌}
use native.Mathlib.Numerals.{towards_suc}
use native.Mathlib.Omega.{arith}
use lib.ListN.{length, set, get_or}
use lib.Seq.{sets, set-get_or}
use Rattle.ground.proofs.Lists.{get_or_sets_in, set_in, sets_in}
use Rattle.rules.specs.declared.ReceiveStore.{ReceiveStore}
use Rattle.rules.specs.declared.Slot.{Slot}
use Rattle.rules.specs.declared.SlotIndex.{SlotIndex}
use Rattle.rules.specs.Memory.{slot, slot_first, slot_word}
use Rattle.rules.specs.Slots.{slot_at, slot_words, store_slot}
use Rattle.laws.specs.Writing.{PlainWord}
use Rattle.rules.specs.Writes.{receive_stored}
use Rattle.registers.specs.Writing.{InReceive, opened}

-- `towards_suc` knows sums with 8 at most.
add_12 : (n : ℕ) → n + 12 ≡ n + 8 + 4
add_12 n = omega arith

add_13 : (n : ℕ) → n + 13 ≡ n + 8 + 5
add_13 n = omega arith

add_14 : (n : ℕ) → n + 14 ≡ n + 8 + 6
add_14 n = omega arith

add_15 : (n : ℕ) → n + 15 ≡ n + 8 + 7
add_15 n = omega arith

-- A slot that is stored where it was read changes nothing.
store_read : (receive : List ℕ) (i : SlotIndex) → sets receive (slot_first i) (slot_words (slot_at receive i)) ≡ receive
unfolding slot_at
store_read receive i = simp (add_12, add_13, add_14, add_15, towards_suc, set-get_or)

-- A word of the slot that was read is what stands there.
pub word_read : (receive : List ℕ) (i : ℕ) {x : Slot} {word : ℕ} → i < 1024 → length receive ≡ 2048 → x ≡ slot_at receive (slot (i / 16))
    → word ≡ get_or (slot_words x) (i % 16) 0 → word ≡ get_or receive i 0
word_read receive i low size e told =
    let at : SlotIndex = slot (i / 16) in
    let row : List ℕ = slot_words (slot_at receive at) in
    let here : slot_word at (i % 16) ≡ i = omega arith in
    told
    ∙ ap (λ (y : Slot). get_or (slot_words y) (i % 16) 0) e
    ∙ sym (get_or_sets_in receive (slot_first at) row (i % 16) 0 (omega arith) (omega arith))
    ∙ (λ n. get_or (store_read receive at n) (here n) 0)

-- A slot that was read is what stands there.
stands : (receive : List ℕ) (i : SlotIndex) {x : Slot} → x ≡ slot_at receive i → sets receive (slot_first i) (slot_words x) ≡ receive
stands receive i e = ap (λ (x : Slot). sets receive (slot_first i) (slot_words x)) e ∙ store_read receive i

-- A plain word is one of the sixteen.
plain_low : (k : ℕ) → PlainWord k → k < 16
plain_low zero p = omega arith
plain_low (suc zero) p = omega arith
plain_low (suc (suc k)) p =
    let e : suc (suc k) ≡ 6 = p.other (λ z. omega arith) (λ z. omega arith) in
    omega arith

-- A slot that was read, rewritten and stored.
module _ (receive : List ℕ) (v : ℕ) {to : ReceiveStore} {n : ℕ} (p : InReceive to n) (i : SlotIndex) {x y : Slot} {receive₂ : List ℕ}
    (e : x ≡ slot_at receive i) (stored : receive₂ ≡ store_slot receive i y) where
  pub word_stored : (k : ℕ) → to ≡ ReceiveStore.SlotWord i k → slot_words y ≡ set (slot_words x) k v → receive₂ ≡ receive_stored to v receive
  unfolding store_slot receive_stored
  word_stored k is row =
      let plain : (i.0 < 64) × PlainWord k = rw is at p.holds in
      stored
      ∙ rw is
      (ap (sets receive (slot_first i)) row
      ∙ sym (set_in receive (slot_first i) (slot_words x) k v (plain_low k plain.1))
      ∙ ap (λ (l : List ℕ). set l (slot_word i k) v) (stands receive i e))

  pub word2_stored : to ≡ ReceiveStore.SlotWord2 i → slot_words y ≡ opened v (slot_words x) → receive₂ ≡ receive_stored to v receive
  unfolding store_slot receive_stored
  word2_stored is row =
      let low : List ℕ = v ∷ 0 ∷ 0 ∷ 0 ∷ [] in
      let high : List ℕ = 0 ∷ 0 ∷ 0 ∷ 0 ∷ 0 ∷ [] in
      let one = sets_in receive (slot_first i) (slot_words x) 2 low (omega arith) in
      let two = sets_in receive (slot_first i) (sets (slot_words x) 2 low) 7 high (omega arith) in
      stored
      ∙ rw is
      (ap (sets receive (slot_first i)) row
      ∙ sym two
      ∙ ap (λ (l : List ℕ). sets l (slot_word i 7) high) (sym one ∙ ap (λ (l : List ℕ). sets l (slot_word i 2) low) (stands receive i e)))
