-- What is shared by forming a packet and reading it: its length's rule, its body check, and that checks are below 2^16. Assumes nothing.
use Prim.Native.Nat.{ℕ, zero, suc, ◌+◌, ◌-◌, ◌*◌, ◌/◌, ◌%◌, ◌<◌, ◌≤◌}
use mathlib.Core.Path.{◌≡◌, refl}
use mathlib.Core.Bool.{Bool, true, false, ◌&&◌, ◌||◌}
use mathlib.Core.List.{List, [], ◌∷◌}
use native.Mathlib.Omega.{arith}
use native.Mathlib.Decide.{ℕ_discrete}
use lib.Bits.{bit_xor, xor_lt}
use lib.Dec.{eqb, leb}
use lib.ListN.{length}
use borrow.Author.Tests.{eqb-true, ne_eqb, leb-true}
use Rattle.ground.specs.Bytes.{to_bytes}
use Rattle.ground.specs.Choice.{pick}
use Rattle.ground.proofs.Bytes.{Bytes}
use Rattle.ground.proofs.Tests.{and_left, and_right, or_first, or_second}
use Rattle.rules.specs.Checksum.{bit_step, bit_steps, byte_step, check_from}
use Rattle.rules.specs.Packet.{check_word, body_check_bytes, length_ok}
use Rattle.laws.proofs.Sound.{tests}

-- ---- checks

-- Bit steps stay below 2^16.
step_lt : (c : ℕ) → c < 65536 → bit_step c < 65536
unfolding bit_step
step_lt c h = xor_lt 16 (c * 2 % 65536) (c / 32768 * 0x1021) (omega arith) (omega arith)

steps_lt : (n c : ℕ) → c < 65536 → bit_steps n c < 65536
unfolding bit_steps
steps_lt zero c h = h
steps_lt (suc n) c h = step_lt (bit_steps n c) (steps_lt n c h)

-- A check of bytes is below 2^16.
pub check_lt : (s : List ℕ) (c : ℕ) → c < 65536 → Bytes s → check_from c s < 65536
unfolding byte_step
check_lt [] c h b = h
check_lt (x ∷ s) c h b =
    check_lt s (byte_step c x) (steps_lt 8 (bit_xor c (x * 256)) (xor_lt 16 c (x * 256) h (omega (arith, b 0)))) (λ k. b (suc k))

-- ---- the body check

-- A payload that is not empty has one.
pub body_some : (p : List ℕ) → 0 < length p → body_check_bytes p ≡ to_bytes (check_word p ∷ [])
body_some [] h = absurd (omega arith)
body_some (x ∷ p) h = refl

-- ---- the length

-- A packet's length reaches the payload; past it stands nothing, or a payload that 01 allows and a word.
pub record Long (from n : ℕ) : Type 0 where
  pub plain : 20 ≤ from
  pub least : from ≤ n
  pub empty : n - from - 4 ≡ 0 → n ≡ from
  pub most : n - from - 4 ≤ 128
  pub fours : (n - from - 4) % 4 ≡ 0

-- It is just that, or long enough for both.
long_by : (from n : ℕ) → 20 ≤ from → from % 4 ≡ 0 → n % 4 ≡ 0 → (eqb n from || (leb (from + 8) n && leb n (from + 132))) ≡ true → Long from n
long_by from n p z e h = go (ℕ_discrete n from)
  where
    go : Dec (n ≡ from) → Long from n
    go (yes e) = record { plain = p; least = omega arith; empty = λ z. e; most = omega arith; fours = omega arith }
    go (no d) =
        let both : (leb (from + 8) n && leb n (from + 132)) ≡ true = or_second (eqb n from) _ h (ne_eqb n from d) in
        let l : from + 8 ≤ n = leb-true (from + 8) n (and_left (leb (from + 8) n) _ both) in
        let u : n ≤ from + 132 = leb-true n (from + 132) (and_right (leb (from + 8) n) _ both) in
        record { plain = p; least = omega arith; empty = omega arith; most = omega arith; fours = omega arith }

-- By the rule.
pub long : (f : Bool) (n : ℕ) → length_ok f n ≡ true → Long (pick f 36 20) n
unfolding pick
long true n h = long_by 36 n (omega arith) refl (eqb-true (n % 4) 0 (search tests)) (search tests)
long false n h = long_by 20 n (omega arith) refl (eqb-true (n % 4) 0 (search tests)) (or_first _ false (and_right (eqb (n % 4) 0) _ h) refl)
