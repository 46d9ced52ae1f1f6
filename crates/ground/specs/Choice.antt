-- Choices by a test. Assumes nothing.
use Rattle.std.specs.Prelude.{ℕ, zero, suc, Bool, true, false, ◌&&◌}

-- The first where the test holds, else the second.
unfoldable pub pick : {A : Type 0} → Bool → A → A → A
pick true a b = a
pick false a b = b

-- A test that has to hold: where it fails, the second argument decides; else the rest does. Nested, the first failure decides.
unfoldable pub need : {A : Type 0} → Bool → A → A → A
need true other rest = rest
need false other rest = other

-- The test holds of each number below n.
unfoldable pub all_below : ℕ → (ℕ → Bool) → Bool
all_below zero p = true
all_below (suc n) p = all_below n p && p n
