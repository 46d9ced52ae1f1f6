-- Texts as bytes. Assumes nothing.
use Rattle.std.specs.Prelude.{ℕ, zero, suc, ◌+◌, ◌/◌, ◌%◌, ◌^◌, List, [], ◌∷◌, ◌++◌, ltb}
use Prim.Native.Char.{code}
use Prim.Native.String.{String}
use Prim.Native.String as string
use Rattle.ground.specs.Choice.{pick}

-- The bytes of a text of ASCII letters.
unfoldable pub ascii : String → List ℕ
ascii string.[] = []
ascii (string.◌∷◌ c s) = code c ∷ ascii s

-- A digit below 16: 0 to 9, a to f.
unfoldable pub digit : ℕ → ℕ
digit n = pick (ltb n 10) (48 + n) (87 + n)

-- A number in k hexadecimal digits.
unfoldable pub hexadecimal : ℕ → ℕ → List ℕ
hexadecimal zero n = []
hexadecimal (suc k) n = digit (n / 16 ^ k % 16) ∷ hexadecimal k n

-- A number of at most k decimal digits, without leading zeros.
unfoldable pub decimal : ℕ → ℕ → List ℕ
decimal zero n = []
decimal (suc k) n = pick (ltb n 10) (digit n ∷ []) (decimal k (n / 10) ++ (digit (n % 10) ∷ []))
