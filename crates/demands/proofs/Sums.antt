-- Laws of sums over rows and over the lists: that blocks stand apart becomes linear arithmetic over these. Assumes nothing.
use Prim.Native.Nat.{ℕ, zero, suc, ◌+◌, ◌≤◌, ◌<◌}
use mathlib.Core.Path.{◌≡◌, refl, sym, ap, subst}
use mathlib.Core.Logic.{◌≢◌}
use mathlib.Core.List.{List, [], ◌∷◌, ◌++◌}
use native.Mathlib.Omega.{arith}
use native.Mathlib.Decide.{ℕ_discrete}
use lib.Dec.{eqb}
use lib.ListN.{length}
use borrow.Author.Tests.{eq-eqb, ne_eqb}
use Rattle.ground.specs.Field.{bit}
use Rattle.ground.specs.Choice.{pick}
use Rattle.ground.proofs.Choice.{pick_yes, pick_no}
use Rattle.demands.specs.Places.{sum, count, across}

-- ---- rows

-- Over two rows.
pub sum_append : (f : ℕ → ℕ) (xs ys : List ℕ) → sum f (xs ++ ys) ≡ sum f xs + sum f ys
sum_append f [] ys = omega arith
sum_append f (x ∷ xs) ys = omega (arith, sum_append f xs ys)

-- The sum of ones is the length.
pub sum_length : (xs : List ℕ) → sum (λ x. 1) xs ≡ length xs
sum_length [] = refl
sum_length (x ∷ xs) = omega (arith, sum_length xs)

-- 1 where the two are the same number, else 0.
abbrev pub same : ℕ → ℕ → ℕ
same b x = bit (eqb b x)

-- By whether they are.
pub same_self : (b : ℕ) → same b b ≡ 1
same_self b = rw (eq-eqb b b refl)

pub same_other : (b x : ℕ) → b ≢ x → same b x ≡ 0
same_other b x h = rw (ne_eqb b x h)

-- A number that does not stand in a row is not its first.
pub not_first : (b x : ℕ) (xs : List ℕ) → count b (x ∷ xs) ≡ 0 → x ≢ b
not_first b x xs h e = omega (arith, same_self b, ap (same b) e)

-- ---- functions of a number, changed at one

-- x at l, else g.
pub upd : {A : Type 0} → ℕ → A → (ℕ → A) → ℕ → A
upd l x g k = pick (eqb k l) x (g k)

pub upd_same : {A : Type 0} (l : ℕ) (x : A) (g : ℕ → A) → upd l x g l ≡ x
unfolding upd
upd_same l x g = pick_yes x (g l) (eq-eqb l l refl)

pub upd_other : {A : Type 0} (l : ℕ) (x : A) (g : ℕ → A) (k : ℕ) → k ≢ l → upd l x g k ≡ g k
unfolding upd
upd_other l x g k h = pick_no x (g k) (ne_eqb k l h)

-- What holds at l, and at every other number, holds at each.
pub at_each : (P : ℕ → Type 0) (l : ℕ) → P l → ((k : ℕ) → k ≢ l → P k) → (k : ℕ) → P k
at_each P l here there k = go (ℕ_discrete k l)
  where
    go : Dec (k ≡ l) → P k
    go (yes e) = subst P (sym e) here
    go (no h) = there k h

-- ---- sums of g 0 to g (n - 1)

-- g 0 + .. + g (n - 1).
pub total : (ℕ → ℕ) → ℕ → ℕ
total g zero = 0
total g (suc n) = g n + total g n

-- The same at each.
pub total_same : (g h : ℕ → ℕ) (n : ℕ) → ((k : ℕ) → k < n → h k ≡ g k) → total h n ≡ total g n
unfolding total
total_same g h zero e = refl
total_same g h (suc n) e = omega (arith, e n (omega arith), total_same g h n (λ k lt. e k (omega arith)))

-- One of them changes.
pub total_change : (g h : ℕ → ℕ) (n l : ℕ) → l < n → ((k : ℕ) → k < n → k ≢ l → h k ≡ g k) → total h n + g l ≡ total g n + h l
unfolding total
total_change g h zero l lt e = absurd (omega arith)
total_change g h (suc n) l lt e = go (λ lt'. total_change g h n l lt' (λ k lk r. e k (omega arith) r)) (ℕ_discrete n l)
  where
    go : (l < n → total h n + g l ≡ total g n + h l) → Dec (n ≡ l) → h n + total h n + g l ≡ g n + total g n + h l
    go below (yes q) = omega (arith, ap g q, ap h q, total_same g h n (λ k lk. e k (omega arith) (λ r. omega arith)))
    go below (no q) = omega (arith, e n (omega arith) q, below (omega arith))

-- 0 at each.
pub total_none : (g : ℕ → ℕ) (n : ℕ) → ((k : ℕ) → k < n → g k ≡ 0) → total g n ≡ 0
unfolding total
total_none g zero e = refl
total_none g (suc n) e = omega (arith, e n (omega arith), total_none g n (λ k lt. e k (omega arith)))

-- One of them is a part of the sum; two are.
pub total_part : (g : ℕ → ℕ) (n l : ℕ) → l < n → g l ≤ total g n
total_part g n l lt =
    let h : ℕ → ℕ = upd l 0 g in
    omega (arith, total_change g h n l lt (λ k lk d. upd_other l 0 g k d), upd_same l 0 g)

pub total_parts : (g : ℕ → ℕ) (n k l : ℕ) → k < n → l < n → k ≢ l → g k + g l ≤ total g n
total_parts g n k l kn ln d =
    let h : ℕ → ℕ = upd l 0 g in
    omega (arith, total_change g h n l ln (λ j lj e. upd_other l 0 g j e), upd_same l 0 g, upd_other l 0 g k d, total_part h n k kn)

-- Where the whole is at most 1, and the one at l at least 1, all else is 0.
pub alone : (g : ℕ → ℕ) (n l x : ℕ) → l < n → 1 ≤ g l → x + total g n ≤ 1 → (x ≡ 0) × (g l ≡ 1) × ((k : ℕ) → k < n → k ≢ l → g k ≡ 0)
alone g n l x lt one most =
    (omega (arith, total_part g n l lt), omega (arith, total_part g n l lt), λ k kn d. omega (arith, total_parts g n k l kn lt d))

-- Over rows one after the other.
pub sum_across : (f : ℕ → ℕ) (g : ℕ → List ℕ) (n : ℕ) → sum f (across g n) ≡ total (λ k. sum f (g k)) n
unfolding total across
sum_across f g zero = refl
sum_across f g (suc n) = omega (arith, sum_append f (across g n) (g n), sum_across f g n)
