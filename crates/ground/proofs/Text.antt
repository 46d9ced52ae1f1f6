-- Laws of digits and of decimal numbers as texts. Assumes nothing.
use Prim.Native.Nat.{ℕ, suc, ◌+◌, ◌/◌, ◌%◌, ◌<◌, ◌≤◌}
use mathlib.Core.Path.{◌≡◌}
use mathlib.Core.List.{[], ◌∷◌, ◌++◌}
use borrow.Author.Tests.{lt-ltb, le-ltb}
use Rattle.ground.specs.Text.{digit, decimal}
use Rattle.ground.proofs.Choice.{pick_yes, pick_no}

-- A digit below 10 is a numeral.
pub digit_low : (n : ℕ) → n < 10 → digit n ≡ 48 + n
unfolding digit
digit_low n h = pick_yes (48 + n) (87 + n) (lt-ltb n 10 h)

-- A digit from 10 on is a letter.
pub digit_high : (n : ℕ) → 10 ≤ n → digit n ≡ 87 + n
unfolding digit
digit_high n h = pick_no (48 + n) (87 + n) (le-ltb n 10 h)

-- One decimal digit.
pub decimal_one : (k n : ℕ) → n < 10 → decimal (suc k) n ≡ digit n ∷ []
unfolding decimal
decimal_one k n h = pick_yes (digit n ∷ []) (decimal k (n / 10) ++ (digit (n % 10) ∷ [])) (lt-ltb n 10 h)

-- One decimal digit more.
pub decimal_more : (k n : ℕ) → 10 ≤ n → decimal (suc k) n ≡ decimal k (n / 10) ++ (digit (n % 10) ∷ [])
unfolding decimal
decimal_more k n h = pick_no (digit n ∷ []) (decimal k (n / 10) ++ (digit (n % 10) ∷ [])) (le-ltb n 10 h)
