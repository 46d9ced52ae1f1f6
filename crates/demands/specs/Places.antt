-- Where blocks stand: waiting, at the empty end of a list, as an untaken notice of a list. Assumes nothing.
use Rattle.std.specs.Prelude.{map, ℕ, zero, suc, ◌+◌, ◌/◌, Bool, ◌||◌, List, [], ◌∷◌, ◌++◌, eqb, length, get_or}
use Rattle.ground.specs.Choice.{pick}
use Rattle.ground.specs.Field.{bit}
use Rattle.rules.specs.Memory.{Machine, block_size, lists, list, block, nbqr_from, next_of}
use Rattle.rules.specs.Queues.{entry_word}
use Rattle.rules.specs.Notices.{head_of, place_of}
use Rattle.rules.specs.Calls.{words_of}
use Rattle.demands.specs.Types.{Queue, Notice}
use Rattle.demands.specs.Runs.{notice_in}

-- ---- rows of numbers

-- The sum of f over a row.
abbrev pub sum : (ℕ → ℕ) → List ℕ → ℕ
sum f [] = 0
sum f (x ∷ xs) = f x + sum f xs

-- How often b stands in a row.
abbrev pub count : ℕ → List ℕ → ℕ
count b xs = sum (λ x. bit (eqb b x)) xs

-- The rows g 0 to g (n - 1), one after the other.
unfoldable pub across : (ℕ → List ℕ) → ℕ → List ℕ
across g zero = []
across g (suc n) = across g n ++ g n

-- ---- the three kinds of places

-- The n waiting blocks from entry k on.
unfoldable pub entries : List ℕ → Queue → ℕ → ℕ → List ℕ
entries receive q k zero = []
entries receive q k (suc n) = get_or receive (entry_word nbqr_from q k) 0 ∷ entries receive q (k + 1) n

-- The waiting blocks, the oldest first.
abbrev pub waiting : Machine → List ℕ
waiting m = entries m.receive m.saved.nbqr 0 m.saved.nbqr.length

-- The block of a head, where it is set.
unfoldable pub block_of : ℕ → List ℕ
block_of a = pick (eqb a 0) [] (a ∷ [])

-- The block at the empty end of list k.
abbrev pub empty_end : Machine → ℕ → List ℕ
empty_end m k = block_of (head_of m.receive (list k))

-- No notice stands at an address: it is 0, or its block's next is.
abbrev pub is_bare : List ℕ → ℕ → Bool
is_bare notices a = eqb a 0 || eqb (next_of notices (block a)) 0

-- The blocks found by walking from an address on, at most n of them.
unfoldable pub walk : ℕ → List ℕ → ℕ → List ℕ
walk zero notices a = []
walk (suc n) notices a = pick (is_bare notices a) [] (a ∷ walk n notices (next_of notices (block a)))

-- The blocks of list k's untaken notices: "found by walking from the reader's place".
abbrev pub untaken : Machine → ℕ → List ℕ
untaken m k = walk (length m.notices / block_size) m.notices (place_of m.receive (list k))

-- All blocks that stand at some place.
abbrev pub standing : Machine → List ℕ
standing m = waiting m ++ across (λ k. untaken m k ++ empty_end m k) lists

-- ---- notices

-- The notice in a block.
unfoldable pub notice_at : List ℕ → ℕ → Notice
notice_at notices a = notice_in (words_of notices (block a))

-- The notices found by walking list k.
abbrev pub found : Machine → ℕ → List Notice
found m k = map (notice_at m.notices) (untaken m k)
