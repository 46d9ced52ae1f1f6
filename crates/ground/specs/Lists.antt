-- Parts of lists, by value. Assumes nothing.
use Rattle.std.specs.Prelude.{ℕ, List, ◌++◌, length, take, drop}

-- The n elements from place a on: what a part that is lent is.
abbrev pub part : {A : Type 0} → ℕ → ℕ → List A → List A
part a n d = take n (drop a d)

-- The start of d replaced by p; what stands past it stays.
unfoldable pub over : {A : Type 0} → List A → List A → List A
over p d = p ++ drop (length p) d

-- d with ys from place a on: what a part that was lent comes back as.
unfoldable pub put_at : {A : Type 0} → ℕ → List A → List A → List A
put_at a ys d = take a d ++ (ys ++ drop (length ys) (drop a d))
