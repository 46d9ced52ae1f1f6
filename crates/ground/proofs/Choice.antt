-- Laws of choices by a test and of tests that have to hold. Assumes nothing.
use mathlib.Core.Path.{◌≡◌, refl, sym, ap, ◌∙◌}
use mathlib.Core.Bool.{Bool, true, false}
use borrow.Author.Tests.{lt-ltb, le-ltb, le-leb, lt-leb, eq-eqb, ne_eqb}
use Rattle.ground.specs.Choice.{pick, need}
use Rattle.ground.proofs.Tests.{flag_no, flag_yes, not_yes, not_no}

-- Where the test holds, the choice is the first.
pub pick_yes : {A : Type 0} {b : Bool} (x y : A) → b ≡ true → pick b x y ≡ x
unfolding pick
pick_yes x y p = ap (λ (t : Bool). pick t x y) p

-- Where the test fails, the choice is the second.
pub pick_no : {A : Type 0} {b : Bool} (x y : A) → b ≡ false → pick b x y ≡ y
unfolding pick
pick_no x y p = ap (λ (t : Bool). pick t x y) p

-- What is the first, where the test holds, is the choice.
pub arm_yes : {A : Type 0} {b : Bool} {x r : A} (y : A) → b ≡ true → r ≡ x → r ≡ pick b x y
arm_yes {x = x} y p e = e ∙ sym (pick_yes x y p)

-- What is the second, where the test fails, is the choice.
pub arm_no : {A : Type 0} {b : Bool} (x : A) {y r : A} → b ≡ false → r ≡ y → r ≡ pick b x y
arm_no x {y = y} p e = e ∙ sym (pick_no x y p)

-- What holds of both holds of the choice.
pub pick_holds : {A : Type 0} (P : A → Type 0) (b : Bool) {x y : A} → P x → P y → P (pick b x y)
unfolding pick
pick_holds P true p q = p
pick_holds P false p q = q

-- What holds of each, where the test says so, holds of the choice.
pub pick_by : {A : Type 0} (P : A → Type 0) (b : Bool) {x y : A} → (b ≡ true → P x) → (b ≡ false → P y) → P (pick b x y)
unfolding pick
pick_by P true f g = f refl
pick_by P false f g = g refl

-- Where the test that has to hold does, the rest decides.
pub need_yes : {A : Type 0} {b : Bool} (other rest : A) → b ≡ true → need b other rest ≡ rest
unfolding need
need_yes other rest p = ap (λ (t : Bool). need t other rest) p

-- Where it fails, the other decides.
pub need_no : {A : Type 0} {b : Bool} (other rest : A) → b ≡ false → need b other rest ≡ other
unfolding need
need_no other rest p = ap (λ (t : Bool). need t other rest) p

-- A judge goes on past a test that holds.
pub go_on : {A : Type 0} {b : Bool} (other : A) {rest r : A} → b ≡ true → r ≡ rest → r ≡ need b other rest
go_on other {rest = rest} p e = e ∙ sym (need_yes other rest p)

-- A judge stops at a test that fails.
pub stop : {A : Type 0} {b : Bool} {other : A} (rest : A) {r : A} → b ≡ false → r ≡ other → r ≡ need b other rest
stop {other = other} rest p e = e ∙ sym (need_no other rest p)

-- What holds of both outcomes, each where the test says so, holds of the one decided on.
pub need_holds : {A : Type 0} (P : A → Type 0) (b : Bool) {other rest : A} → (b ≡ false → P other) → (b ≡ true → P rest) → P (need b other rest)
unfolding need
need_holds P true f g = g refl
need_holds P false f g = f refl

-- A function of the outcome is the outcome of its results.
pub need_ap : {A B : Type 0} (f : A → B) (b : Bool) (other rest : A) → f (need b other rest) ≡ need b (f other) (f rest)
unfolding need
need_ap f true other rest = refl
need_ap f false other rest = refl

-- The arm of a choice, from the tests on the way.
pub ruleset branches = (arm_yes, arm_no, flag_no, flag_yes, lt-ltb, le-ltb, le-leb, lt-leb, eq-eqb, ne_eqb)

-- The outcome of a judge, from the tests on the way.
pub ruleset judging = (go_on, stop, not_yes, not_no, branches)
