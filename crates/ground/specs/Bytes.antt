-- Words of four bytes, the highest first. Assumes nothing.
use Rattle.std.specs.Prelude.{ℕ, ◌+◌, ◌*◌, ◌/◌, ◌%◌, ◌^◌, List, [], ◌∷◌, ◌++◌, get_or}

-- The word of four bytes.
abbrev pub join : ℕ → ℕ → ℕ → ℕ → ℕ
join a b c d = a * 2 ^ 24 + b * 2 ^ 16 + c * 2 ^ 8 + d

-- The word at byte i.
abbrev pub word_at : List ℕ → ℕ → ℕ
word_at s i = join (get_or s i 0) (get_or s (i + 1) 0) (get_or s (i + 2) 0) (get_or s (i + 3) 0)

-- The bytes of a word.
abbrev pub bytes_of : ℕ → List ℕ
bytes_of w = (w / 2 ^ 24) ∷ (w / 2 ^ 16 % 256) ∷ (w / 2 ^ 8 % 256) ∷ (w % 256) ∷ []

-- The bytes of a row of words.
abbrev pub to_bytes : List ℕ → List ℕ
to_bytes [] = []
to_bytes (w ∷ ws) = bytes_of w ++ to_bytes ws
