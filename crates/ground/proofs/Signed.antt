-- Laws of signed numbers as words of 32 bits, and of the machine's two's complement. Assumes nothing.
use mathlib.Core.Path.{◌≡◌, refl}
use mathlib.Core.Bool.{Bool, true, false}
use Prim.Native.Nat.{ℕ, suc, ◌-◌, ◌^◌}
use native.Mathlib.Omega.{arith}
use lib.IntN.{ℤ, pos, negsuc}
use lib.Dec.{ltb, eqb}
use borrow.Author.Tests.{ne_eqb}
use mir.Syntax.{w32}
use mir.Val.{SFits, to_z, of_z, sel}
use Rattle.ground.specs.Choice.{pick}
use Rattle.ground.specs.Signed.{signed, unsigned, is_zero}

-- The machine's choice is a choice.
pick_sel : (b : Bool) (x y : ℤ) → pick b x y ≡ sel b x y
unfolding pick
pick_sel true x y = refl
pick_sel false x y = refl

-- The number of a word is the machine's.
pub signed_to_z : (w : ℕ) → signed w ≡ to_z w32 w
unfolding signed
signed_to_z w = pick_sel (ltb w (2 ^ 31)) (pos w) (negsuc (2 ^ 32 - suc w))

-- The word of a number is the machine's.
pub unsigned_of_z : (z : ℤ) → unsigned z ≡ of_z w32 z
unfolding unsigned
unsigned_of_z (pos n) = refl
unsigned_of_z (negsuc n) = refl

-- A number is 0 where its bits are.
pub zero_bits : (z : ℤ) → SFits w32 z → eqb (of_z w32 z) 0 ≡ is_zero z
unfolding is_zero
zero_bits (pos n) f = refl
zero_bits (negsuc n) f = ne_eqb (2 ^ 32 - suc n) 0 (omega (arith, f.sfits))
