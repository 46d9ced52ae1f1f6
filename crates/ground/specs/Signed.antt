-- Signed numbers as two's complement words of 32 bits. Assumes nothing.
use Rattle.std.specs.Prelude.{ℕ, suc, ◌-◌, ◌^◌, Bool, false, eqb, ltb, ℤ, pos, negsuc}
use Rattle.ground.specs.Choice.{pick}

-- The number that a word stands for.
unfoldable pub signed : ℕ → ℤ
signed w = pick (ltb w (2 ^ 31)) (pos w) (negsuc (2 ^ 32 - suc w))

-- The word that stands for a number.
unfoldable pub unsigned : ℤ → ℕ
unsigned (pos n) = n
unsigned (negsuc n) = 2 ^ 32 - suc n

-- The number is 0.
unfoldable pub is_zero : ℤ → Bool
is_zero (pos n) = eqb n 0
is_zero (negsuc n) = false
