-- "Both are CRC-16, polynomial 0x1021, start 0xFFFF, unreflected, no final exclusive-or (H)", by bit steps. Assumes nothing.
use Rattle.std.specs.Int.Bits.{bit_xor}
use Rattle.std.specs.Prelude.{ℕ, zero, suc, ◌*◌, ◌/◌, ◌%◌, List}
use mathlib.Core.List.{foldl}

-- "polynomial 0x1021".
abbrev pub polynomial : ℕ
polynomial = 0x1021

-- "start 0xFFFF".
abbrev pub check_start : ℕ
check_start = 0xFFFF

-- One bit: a shift to the left within 16 bits; where the top bit was set, the exclusive-or with the polynomial.
unfoldable pub bit_step : ℕ → ℕ
bit_step c = bit_xor (c * 2 % 65536) (c / 32768 * polynomial)

-- So many bits.
unfoldable pub bit_steps : ℕ → ℕ → ℕ
bit_steps zero c = c
bit_steps (suc n) c = bit_step (bit_steps n c)

-- One byte: into the top bits, then eight bit steps.
unfoldable pub byte_step : ℕ → ℕ → ℕ
byte_step c b = bit_steps 8 (bit_xor c (b * 256))

-- The check of some bytes, going on from c.
abbrev pub check_from : ℕ → List ℕ → ℕ
check_from c bytes = foldl byte_step c bytes

-- The check of some bytes.
abbrev pub check_of : List ℕ → ℕ
check_of bytes = check_from check_start bytes
