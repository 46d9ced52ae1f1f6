-- A row of different multiples of 32 below 32 * m has at most m numbers. Assumes nothing.
use Prim.Native.Nat.{ℕ, zero, suc, ◌+◌, ◌*◌, ◌%◌, ◌≤◌, ◌<◌}
use mathlib.Core.Path.{◌≡◌, refl, ap}
use mathlib.Core.List.{List, [], ◌∷◌}
use native.Mathlib.Omega.{arith}
use native.Mathlib.Decide.{dec_lt}
use lib.Dec.{ltb}
use lib.ListN.{length}
use borrow.Author.Tests.{lt-ltb, le-ltb}
use Rattle.ground.specs.Field.{bit}
use Rattle.demands.specs.Places.{sum, count}
use Rattle.demands.proofs.Sums.{same, same_self, same_other}

-- Every number is a multiple of 32 below 32 * m.
abbrev pub Within : ℕ → List ℕ → Type 0
Within m [] = Unit {0}
Within m (x ∷ xs) = (x % 32 ≡ 0) × (x < 32 * m) × Within m xs

-- 1 below the bound, else 0.
abbrev low : ℕ → ℕ → ℕ
low m x = bit (ltb x m)

-- By the bound.
low_yes : (m x : ℕ) → x < m → low m x ≡ 1
low_yes m x h = rw (lt-ltb x m h)

low_no : (m x : ℕ) → m ≤ x → low m x ≡ 0
low_no m x h = rw (le-ltb x m h)

-- One multiple more is below the next bound.
low_more : (m x : ℕ) → x % 32 ≡ 0 → low (32 * suc m) x ≡ low (32 * m) x + same (32 * m) x
low_more m x al = go (dec_lt x (32 * m)) (dec_lt (32 * m) x)
  where
    go : Dec (x < 32 * m) → Dec (32 * m < x) → low (32 * suc m) x ≡ low (32 * m) x + same (32 * m) x
    go (yes a) d = omega (arith, low_yes (32 * suc m) x (omega arith), low_yes (32 * m) x a, same_other (32 * m) x (λ e. omega arith))
    go (no a) (yes b) = omega (arith, low_no (32 * suc m) x (omega arith), low_no (32 * m) x (omega arith), same_other (32 * m) x (λ e. omega arith))
    go (no a) (no b) =
        let e : x ≡ 32 * m = omega arith in
        omega (arith, low_yes (32 * suc m) x (omega arith), low_no (32 * m) x (omega arith), ap (same (32 * m)) e, same_self (32 * m))

-- Over a row: each bound lets in the numbers just below it, at most one, and the last lets in all.
sum_more : (n m : ℕ) (xs : List ℕ) → Within n xs → sum (low (32 * suc m)) xs ≡ sum (low (32 * m)) xs + count (32 * m) xs
sum_more n m [] w = refl
sum_more n m (x ∷ xs) w = omega (arith, low_more m x w.0, sum_more n m xs w.2)

sum_none : (xs : List ℕ) → sum (low (32 * 0)) xs ≡ 0
sum_none [] = refl
sum_none (x ∷ xs) = omega (arith, low_no 0 x (omega arith), sum_none xs)

sum_all : (m : ℕ) (xs : List ℕ) → Within m xs → sum (low (32 * m)) xs ≡ length xs
sum_all m [] w = refl
sum_all m (x ∷ xs) w = omega (arith, low_yes (32 * m) x w.1, sum_all m xs w.2)

few : (n m : ℕ) (xs : List ℕ) → Within n xs → ((b : ℕ) → count b xs ≤ 1) → sum (low (32 * m)) xs ≤ m
few n zero xs w once = omega (arith, sum_none xs)
few n (suc m) xs w once = omega (arith, sum_more n m xs w, few n m xs w once, once (32 * m))

-- The row is no longer than the number of multiples.
pub pigeons : (m : ℕ) (xs : List ℕ) → Within m xs → ((b : ℕ) → count b xs ≤ 1) → length xs ≤ m
pigeons m xs w once = omega (arith, sum_all m xs w, few m m xs w once)
