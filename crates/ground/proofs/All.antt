-- Laws of a test at each number below n: how a loop goes on, and what it says at a number. Assumes nothing.
use Prim.Native.Nat.{ℕ, zero, suc, ◌+◌, ◌<◌}
use native.Mathlib.Numerals.{add-one}
use native.Mathlib.Decide.{dec_lt}
use native.Mathlib.Omega.{arith}
use mathlib.Core.Path.{◌≡◌, refl, ap, ◌∙◌}
use mathlib.Core.Bool.{Bool, true, ◌&&◌, and-true}
use mathlib.Core.List.{[], ◌∷◌, ◌++◌, map-id}
use denote.Param.Members.{Mut}
use Rattle.std.specs.declared.ops.Range.{Range}
use Rattle.std.specs.Fn.{Called}
use Rattle.std.specs.Iterator.{ChecksAll, FoldsItems}
use Rattle.std.specs.List.{fold, list_all, range_with_len}
use Rattle.std.proofs.iter.Yields.{nat_range_steps}
use Rattle.std.proofs.lemmas.Iterator.{YieldsList-from_range}
use Rattle.std.proofs.lemmas.Iterator.Search.{all_from_yields_List}
use Rattle.std.proofs.lemmas.Iterator.Consumers.{fold_from_yields_List}
use Rattle.std.proofs.lemmas.List.FromFn.{map-range_with_len_more}
use Rattle.std.proofs.lemmas.List.Folds.{list_all-append}
use Rattle.std.proofs.lemmas.List.Sums.{fold-append}
use Rattle.ground.specs.Choice.{all_below}
use Rattle.ground.proofs.Tests.{and_left, and_right, and_both}

-- The test holds below 0.
pub all_none : (p : ℕ → Bool) → all_below 0 p ≡ true
unfolding all_below
all_none p = refl

-- A turn of a loop that keeps whether the test held so far.
pub all_turn : (p : ℕ → Bool) (i : ℕ) {ok t : Bool} → ok ≡ all_below i p → t ≡ p i → (ok && t) ≡ all_below (i + 1) p
unfolding all_below
all_turn p i e f = rw (add-one, e, f)

-- What holds at n, and at i where i < n, holds at i where i < n + 1.
last : (p : ℕ → Bool) (n i : ℕ) (t : Bool) → i < suc n → (i < n → p i ≡ t) → p n ≡ t → Dec (i < n) → p i ≡ t
last p n i t lt f e (yes l) = f l
last p n i t lt f e (no k) = let q : i ≡ n = omega arith in rw q e

-- It holds below n: it holds at each number there.
pub all_at : (p : ℕ → Bool) (n i : ℕ) → i < n → all_below n p ≡ true → p i ≡ true
unfolding all_below
all_at p zero i lt h = absurd (omega arith)
all_at p (suc n) i lt h =
    last p n i true lt (λ l. all_at p n i l (and_left (all_below n p) (p n) h)) (and_right (all_below n p) (p n) h) (dec_lt i n)

-- It holds at each number below n: it holds below n.
pub all_each : (p : ℕ → Bool) (n : ℕ) → ((i : ℕ) → i < n → p i ≡ true) → all_below n p ≡ true
unfolding all_below
all_each p zero f = refl
all_each p (suc n) f = and_both (all_each p n (λ i l. f i (omega arith))) (f n (omega arith))

-- One more number, counted up.
counted_more : (n : ℕ) → range_with_len 0 (suc n) ≡ range_with_len 0 n ++ n ∷ []
counted_more n = rw add-one at (simp map-id at (map-range_with_len_more (λ (k : ℕ). k) 0 n n (omega arith)))

-- Each number below n, counted up: the library's word for a test of each is this one's.
pub all_counted : (p : ℕ → Bool) (n : ℕ) → list_all p (range_with_len 0 n) ≡ all_below n p
unfolding all_below
all_counted p zero = refl
all_counted p (suc n) =
    ap (list_all p) (counted_more n) ∙ list_all-append p (range_with_len 0 n) (n ∷ []) ∙ rw (all_counted p n) (rw and-true)

-- So is a fold that keeps whether the test held so far.
pub all_folded : (p : ℕ → Bool) (n : ℕ) → fold (λ ok k. ok && p k) true (range_with_len 0 n) ≡ all_below n p
unfolding all_below
all_folded p zero = refl
all_folded p (suc n) =
    let turn : Bool → ℕ → Bool = λ ok k. ok && p k in
    ap (fold turn true) (counted_more n) ∙ fold-append turn true (range_with_len 0 n) (n ∷ []) ∙ rw (all_folded p n)

module _ {F : Type 0} {s : Range ℕ} {f : F} {r : Bool} {p : ℕ → Bool} {n : ℕ} where
  -- What `(0..n).all(f)` answers, where f computes the test of each number and stays as it was.
  pub all_of_range : {g : Mut F (ℕ × Unit {0}) Bool} {u : Range ℕ} → ChecksAll nat_range_steps g s f r u → s ≡ record { start = 0; end = n }
      → ((x : ℕ) (b : Bool) (q : F) → Called g f (x, tt) b q → (q ≡ f) × (b ≡ p x)) → r ≡ all_below n p
  all_of_range {u = u} ran e computes = all_from_yields_List p u f r ran (YieldsList-from_range 0 n n e (omega arith)) computes ∙ all_counted p n

  -- What `(0..n).fold(true, f)` answers, where f keeps whether the test held so far.
  pub all_of_fold : {g : Mut F (Bool × (ℕ × Unit {0})) Bool} → FoldsItems nat_range_steps g s f true r → s ≡ record { start = 0; end = n }
      → ((a : Bool) (x : ℕ) (b : Bool) (q : F) → Called g f (a, (x, tt)) b q → (q ≡ f) × (b ≡ (a && p x))) → r ≡ all_below n p
  all_of_fold {g = g} ran e computes =
      fold_from_yields_List g (λ ok k. ok && p k) true r ran (YieldsList-from_range 0 n n e (omega arith)) computes ∙ all_folded p n
