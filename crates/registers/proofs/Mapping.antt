-- A pointer that moves on. Assumes nothing.
use mathlib.Core.Path.{◌≡◌}
use Prim.Native.Nat.{ℕ, ◌+◌, ◌*◌, ◌%◌}
use Rattle.std.proofs.Math.Nat.{mod-add-mod}
use Rattle.rules.specs.Registers.{pointer_on}

-- A first remainder, for any pointer's sake, changes nothing.
pub word_on : (words p : ℕ) → (p % (4 * words) + 4) % (4 * words) ≡ pointer_on words p
word_on words p = mod-add-mod p (4 * words) 4
