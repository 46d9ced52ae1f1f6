-- What the parts of a line leave in a lent buffer. Assumes nothing.
use Rattle.std.specs.Prelude.{ℕ, ◌+◌, ◌≡◌, List, length}
use Rattle.std.proofs.lemmas.List.Edits.{sets}

-- A line's bytes at most: two numbers of three digits, a word of eleven letters, eight digits, three spaces and the line's end.
abbrev pub line_most : ℕ
line_most = 29

-- The buffer after a text was written from a place on, and where it ends.
pub record Written (text : List ℕ) (at : ℕ) (before after : List ℕ) (next : ℕ) : Type 0 where
  pub buffer : after ≡ sets before at text
  pub ends : next ≡ at + length text
