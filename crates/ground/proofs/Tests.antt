-- Laws of tests: what both, one of two, and the opposite say. Assumes nothing.
use mathlib.Core.Path.{◌≡◌, refl, sym, ap, ◌∙◌}
use mathlib.Core.Bool.{Bool, true, false, not, ◌&&◌, ◌||◌, true≢false}
use borrow.Author.Tests.{not-true, not-false}

-- Where both hold, the first does.
pub and_left : (a b : Bool) → (a && b) ≡ true → a ≡ true
and_left true b h = refl
and_left false b h = h

-- Where both hold, the second does.
pub and_right : (a b : Bool) → (a && b) ≡ true → b ≡ true
and_right true b h = h
and_right false b h = let z : false ≡ true = h in cc

-- Where each holds, both do.
pub and_both : {a b : Bool} → a ≡ true → b ≡ true → (a && b) ≡ true
and_both p q = rw (p, q)

-- Where the first fails, both do not hold.
pub and_no_left : (a b : Bool) → a ≡ false → (a && b) ≡ false
and_no_left a b h = rw h

-- Where the second fails, both do not hold.
pub and_no_right : (a b : Bool) → b ≡ false → (a && b) ≡ false
and_no_right true b h = h
and_no_right false b h = refl

-- Where the first holds, the second decides.
pub and_yes : {a b r : Bool} → a ≡ true → r ≡ b → r ≡ (a && b)
and_yes {b = b} p e = e ∙ ap (λ (t : Bool). t && b) (sym p)

-- Where the first fails, the answer is no.
pub and_no : {a r : Bool} (b : Bool) → a ≡ false → r ≡ false → r ≡ (a && b)
and_no b p e = e ∙ ap (λ (t : Bool). t && b) (sym p)

-- One of two holds and the second fails: the first does.
pub or_first : (a b : Bool) → (a || b) ≡ true → b ≡ false → a ≡ true
or_first true b h e = refl
or_first false b h e = sym e ∙ h

-- One of two holds and the first fails: the second does.
pub or_second : (a b : Bool) → (a || b) ≡ true → a ≡ false → b ≡ true
or_second a b h e = rw e at h

-- The second holds: one of two does.
pub or_yes : (a : Bool) {b : Bool} → b ≡ true → (a || b) ≡ true
or_yes true e = refl
or_yes false e = e

-- Neither of two holds: both fail.
pub or_neither : (a b : Bool) → (a || b) ≡ false → (a ≡ false) × (b ≡ false)
or_neither true b e = absurd (true≢false e)
or_neither false b e = (refl, e)

-- Not the first without the second: the first fails, or the second holds.
pub not_both : (a b : Bool) → not (a && not b) ≡ (not a || b)
not_both true true = refl
not_both true false = refl
not_both false b = refl

-- The opposite of what fails holds.
pub not_yes : {b : Bool} → b ≡ false → not b ≡ true
not_yes e = ap not e

-- The opposite of what holds fails.
pub not_no : {b : Bool} → b ≡ true → not b ≡ false
not_no e = ap not e

-- A result that equals a test: where its opposite holds, the test fails.
pub flag_no : {r s : Bool} → r ≡ s → not r ≡ true → s ≡ false
flag_no e h = sym e ∙ not-true _ h

-- A result that equals a test: where its opposite fails, the test holds.
pub flag_yes : {r s : Bool} → r ≡ s → not r ≡ false → s ≡ true
flag_yes e h = sym e ∙ not-false _ h
