-- Fields of a word. Bit 0 is the lowest. A layout is the list of its fields' widths, the top field first. Assumes nothing.
use Rattle.std.specs.Prelude.{ℕ, zero, suc, ◌+◌, ◌*◌, ◌/◌, ◌%◌, ◌^◌, Bool, true, false, List, [], ◌∷◌, eqb}

-- The field of j bits whose lowest bit is bit k. (The clause at zero makes it compute to `w % 2 ^ j`.)
abbrev pub field : ℕ → ℕ → ℕ → ℕ
field zero j w = w % 2 ^ j
field (suc k) j w = w / 2 ^ suc k % 2 ^ j

-- Bit k is set.
abbrev pub flag : ℕ → ℕ → Bool
flag k w = eqb (field k 1 w) 1

-- A bit for a test.
abbrev pub bit : Bool → ℕ
bit true = 1
bit false = 0

-- The word with 0 in its field of j bits from bit k on.
abbrev pub without : ℕ → ℕ → ℕ → ℕ
without k j w = w / 2 ^ (k + j) * 2 ^ (k + j) + w % 2 ^ k

-- The word with v there instead.
abbrev pub with_field : ℕ → ℕ → ℕ → ℕ → ℕ
with_field k j v w = without k j w + v * 2 ^ k

-- The width of a whole layout.
abbrev pub width : List ℕ → ℕ
width [] = 0
width (j ∷ js) = j + width js

-- The word that has the values vs in the fields of a layout.
abbrev pub pack : List ℕ → List ℕ → ℕ
pack [] vs = 0
pack (j ∷ js) [] = 0
pack (j ∷ js) (v ∷ vs) = v * 2 ^ width js + pack js vs

-- The values in the fields of a layout.
abbrev pub unpack : List ℕ → ℕ → List ℕ
unpack [] w = []
unpack (j ∷ js) w = field (width js) j w ∷ unpack js w
