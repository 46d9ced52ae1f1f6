-- Chains of blocks, from a reader's place by the next words to the empty end, and what a store in one block leaves of them. Assumes nothing.
use Prim.Native.Nat.{ℕ, zero, suc, ◌%◌, ◌≤◌}
use mathlib.Core.Path.{◌≡◌, refl, sym, ap, ap₂, ◌∙◌, subst}
use mathlib.Core.Logic.{◌≢◌, ◌⊎◌, inl, inr}
use mathlib.Core.Bool.{true, false}
use mathlib.Core.List.{List, [], ◌∷◌, ◌++◌, map}
use native.Mathlib.Omega.{arith}
use lib.Dec.{eqb}
use lib.ListN.{length}
use borrow.Author.Tests.{eqb-false, eq-eqb, ne_eqb}
use Rattle.ground.specs.Choice.{pick}
use Rattle.ground.proofs.Choice.{pick_yes, pick_no}
use Rattle.ground.proofs.Tests.{or_yes, or_neither}
use Rattle.laws.specs.Sound.{Block}
use Rattle.demands.specs.Places.{sum, count, block_of, is_bare, walk, notice_at}
use Rattle.demands.proofs.Sums.{same, same_self, not_first}
use Rattle.demands.proofs.Blocks.{next, Only, next_only, bare_only, notice_only}

-- ---- bare addresses

-- By the next.
pub bare : (ws : List ℕ) (p : ℕ) → next ws p ≡ 0 → is_bare ws p ≡ true
bare ws p e = or_yes (eqb p 0) (eq-eqb (next ws p) 0 e)

-- A notice stands there.
pub not_bare : (ws : List ℕ) (p : ℕ) → p ≢ 0 → next ws p ≢ 0 → is_bare ws p ≡ false
not_bare ws p d e = rw (ne_eqb p 0 d, ne_eqb (next ws p) 0 e)

-- ---- chains

-- From the place p by the next words through the blocks bs to the empty end h.
abbrev pub Linked : List ℕ → ℕ → List ℕ → ℕ → Type 0
Linked ws p [] h = (p ≡ h) × (is_bare ws h ≡ true)
Linked ws p (b ∷ bs) h = (p ≡ b) × (is_bare ws b ≡ false) × Block (length ws) b × Linked ws (next ws b) bs h

-- Each block has 0 for its next.
abbrev pub Waiting : List ℕ → List ℕ → Type 0
Waiting ws [] = Unit {0}
Waiting ws (b ∷ bs) = (next ws b ≡ 0) × Block (length ws) b × Waiting ws bs

-- One more at the end.
pub waiting_more : (ws bs : List ℕ) (b : ℕ) → Waiting ws bs → next ws b ≡ 0 → Block (length ws) b → Waiting ws (bs ++ (b ∷ []))
waiting_more ws [] b w e k = (e, k, tt)
waiting_more ws (c ∷ cs) b w e k = (w.0, w.1, waiting_more ws cs b w.2 e k)

-- A chain to 0 is empty.
pub linked_none : (ws : List ℕ) (p : ℕ) (bs : List ℕ) → Linked ws p bs 0 → bs ≡ []
linked_none ws p [] l = refl
linked_none ws p (b ∷ []) l = absurd (eqb-false _ _ (or_neither (eqb b 0) (eqb (next ws b) 0) l.1).1 l.3.0)
linked_none ws p (b ∷ (c ∷ cs)) l =
    let z : (c ∷ cs) ≡ [] = linked_none ws (next ws b) (c ∷ cs) l.3 in
    cc

-- The walk finds the chain.
pub walk_linked : (k : ℕ) (ws : List ℕ) (p : ℕ) (bs : List ℕ) (h : ℕ) → length bs ≤ k → Linked ws p bs h → walk k ws p ≡ bs
unfolding walk pick
walk_linked zero ws p [] h e l = refl
walk_linked zero ws p (b ∷ bs) h e l = absurd (omega arith)
walk_linked (suc k) ws p [] h e l = rw (l.0, l.1, walk)
walk_linked (suc k) ws p (b ∷ bs) h e l =
    rw (l.0, l.1, walk) (ap (λ (r : List ℕ). b ∷ r) (walk_linked k ws (next ws b) bs h (omega arith) l.3))

-- ---- a store in block b

module _ {b : ℕ} {ws ws' : List ℕ} (only : Only b ws ws') (size : length ws' ≡ length ws) where
  -- Blocks stay blocks.
  pub block_only : {c : ℕ} → Block (length ws) c → Block (length ws') c
  block_only {c} k = subst (λ (n : ℕ). Block n c) (sym size) k

  -- A chain in which b does not stand stays.
  pub linked_only : (p : ℕ) (bs : List ℕ) (h : ℕ) → h % 32 ≡ 0 → h ≢ b → count b bs ≡ 0 → Linked ws p bs h → Linked ws' p bs h
  linked_only p [] h al d e l = (l.0, bare_only only h al d ∙ l.1)
  linked_only p (c ∷ cs) h al d e l =
      let dc : c ≢ b = not_first b c cs e in
      let ac : c % 32 ≡ 0 = l.2.aligned in (
        l.0,
        bare_only only c ac dc ∙ l.1,
        block_only l.2,
        rw (next_only only c ac dc) (linked_only (next ws c) cs h al d (omega arith) l.3),
      )

  -- So do waiting blocks of which b is none.
  pub waiting_only : (bs : List ℕ) → count b bs ≡ 0 → Waiting ws bs → Waiting ws' bs
  waiting_only [] e l = tt
  waiting_only (c ∷ cs) e l =
      (next_only only c l.1.aligned (not_first b c cs e) ∙ l.0, block_only l.1, waiting_only cs (omega arith) l.2)

  -- And the notices of a chain in which b does not stand.
  pub notices_only : (p : ℕ) (bs : List ℕ) (h : ℕ) → count b bs ≡ 0 → Linked ws p bs h → map (notice_at ws') bs ≡ map (notice_at ws) bs
  notices_only p [] h e l = refl
  notices_only p (c ∷ cs) h e l =
      ap₂ ◌∷◌ (notice_only only c l.2.aligned (not_first b c cs e)) (notices_only (next ws c) cs h (omega arith) l.3)

  -- The empty end b gets q as its next: the chain goes on to q.
  pub linked_more : (p : ℕ) (bs : List ℕ) (q : ℕ) → Block (length ws) b → next ws' b ≡ q → q ≢ 0 → is_bare ws' q ≡ true → count b bs ≡ 0
      → Linked ws p bs b → Linked ws' p (bs ++ (b ∷ [])) q
  linked_more p [] q k nx nz bq e l =
      (l.0, not_bare ws' b (omega (arith, k.low)) (λ z. nz (sym nx ∙ z)), block_only k, (nx, bq))
  linked_more p (c ∷ cs) q k nx nz bq e l =
      let dc : c ≢ b = not_first b c cs e in
      let ac : c % 32 ≡ 0 = l.2.aligned in (
        l.0,
        bare_only only c ac dc ∙ l.1,
        block_only l.2,
        rw (next_only only c ac dc) (linked_more (next ws c) cs q k nx nz bq (omega arith) l.3),
      )

-- ---- empty ends

-- A head: none, or a block.
abbrev pub Tip : ℕ → ℕ → Type 0
Tip n h = (h ≡ 0) ⊎ Block n h

-- Either is a multiple of 32.
pub tip_aligned : (n h : ℕ) → Tip n h → h % 32 ≡ 0
tip_aligned n h (inl e) = rw e
tip_aligned n h (inr k) = k.aligned

-- One that is set is a block.
pub tip_block : (n h : ℕ) → h ≢ 0 → Tip n h → Block n h
tip_block n h d (inl e) = absurd (d e)
tip_block n h d (inr k) = k

-- The sum at an end that is not set, and at one that is.
pub sum_none : (f : ℕ → ℕ) (h : ℕ) → h ≡ 0 → sum f (block_of h) ≡ 0
unfolding block_of
sum_none f h e = ap (sum f) (pick_yes [] (h ∷ []) (eq-eqb h 0 e))

pub sum_end : (f : ℕ → ℕ) (h : ℕ) → h ≢ 0 → sum f (block_of h) ≡ f h
unfolding block_of
sum_end f h d = ap (sum f) (pick_no [] (h ∷ []) (ne_eqb h 0 d)) ∙ omega arith

-- An end at which b does not stand is not b.
pub end_apart : (b h : ℕ) → b ≢ 0 → count b (block_of h) ≡ 0 → h ≢ b
end_apart b h d e q = omega (arith, sum_end (same b) h (λ z. d (sym q ∙ z)), ap (same b) q, same_self b)
