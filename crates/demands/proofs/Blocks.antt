-- Blocks of notice memory: what a store in one leaves of the others. Assumes nothing.
use Prim.Native.Nat.{ℕ, ◌+◌, ◌/◌, ◌%◌, ◌≤◌, ◌<◌}
use mathlib.Core.Path.{◌≡◌, sym, ap, ◌∙◌}
use mathlib.Core.Logic.{◌≢◌}
use mathlib.Core.Bool.{◌||◌}
use mathlib.Core.List.{List}
use native.Mathlib.Omega.{arith}
use native.Mathlib.Decide.{dec_lt}
use lib.Dec.{eqb}
use lib.ListN.{length, get_or}
use lib.Seq.{sets}
use Rattle.ground.specs.Lists.{part, put_at}
use Rattle.ground.proofs.Lists.{get_or_sets_in, get_or_part, sets_put, part_put, part_put_before, part_put_after}
use Rattle.rules.specs.Memory.{block, next_of}
use Rattle.rules.specs.Notices.{block_words}
use Rattle.laws.specs.Sound.{Block}
use Rattle.demands.specs.Types.{Notice}
use Rattle.demands.specs.Runs.{notice_in}
use Rattle.demands.specs.Places.{is_bare, notice_at}

-- The next word of the block at an address.
abbrev pub next : List ℕ → ℕ → ℕ
next ws b = next_of ws (block b)

-- ws' has the words of ws in every block but b.
pub record Only (b : ℕ) (ws ws' : List ℕ) : Type 0 where
  pub at : (c : ℕ) → c % 32 ≡ 0 → c ≢ b → part (c / 4) 8 ws' ≡ part (c / 4) 8 ws

-- A run of stores inside block b.
pub only_sets : (ws : List ℕ) (b i : ℕ) (vs : List ℕ) → Block (length ws) b → b / 4 ≤ i → i + length vs ≤ b / 4 + 8 → Only b ws (sets ws i vs)
only_sets ws b i vs k low high = record { at = λ c al d. ap (part (c / 4) 8) (sets_put ws i vs (omega (arith, k))) ∙ side c al d (dec_lt c b) }
  where
    side : (c : ℕ) → c % 32 ≡ 0 → c ≢ b → Dec (c < b) → part (c / 4) 8 (put_at i vs ws) ≡ part (c / 4) 8 ws
    side c al d (yes lt) = part_put_before (c / 4) 8 i vs ws (omega (arith, k)) (omega (arith, k))
    side c al d (no ge) = part_put_after (c / 4) 8 i vs ws (omega (arith, k)) (omega (arith, k))

module _ {b : ℕ} {ws ws' : List ℕ} (only : Only b ws ws') where
  -- So its next, whether it is bare and its notice are the same.
  pub next_only : (c : ℕ) → c % 32 ≡ 0 → c ≢ b → next ws' c ≡ next ws c
  next_only c al d =
      sym (get_or_part (c / 4) 8 ws' 3 0 (omega arith)) ∙ ap (λ (x : List ℕ). get_or x 3 0) (only.at c al d) ∙ get_or_part (c / 4) 8 ws 3 0 (omega arith)

  pub bare_only : (c : ℕ) → c % 32 ≡ 0 → c ≢ b → is_bare ws' c ≡ is_bare ws c
  bare_only c al d = ap (λ (x : ℕ). eqb c 0 || eqb x 0) (next_only c al d)

  pub notice_only : (c : ℕ) → c % 32 ≡ 0 → c ≢ b → notice_at ws' c ≡ notice_at ws c
  unfolding notice_at
  notice_only c al d = ap notice_in (only.at c al d)

-- The block that holds the notice n, with q as its next.
module _ (ws : List ℕ) (b : ℕ) (n : Notice) (q : ℕ) (k : Block (length ws) b) where
  pub filled_next : next (sets ws (b / 4) (block_words n q)) b ≡ q
  filled_next = get_or_sets_in ws (b / 4) (block_words n q) 3 0 (omega arith) k.inside

  pub filled_notice : notice_at (sets ws (b / 4) (block_words n q)) b ≡ n
  unfolding notice_at
  filled_notice =
      ap (λ (x : List ℕ). notice_in (part (b / 4) 8 x)) (sets_put ws (b / 4) (block_words n q) k.inside)
      ∙ ap notice_in (part_put (b / 4) (block_words n q) ws (omega (arith, k)))
