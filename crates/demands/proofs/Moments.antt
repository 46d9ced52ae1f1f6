-- From what holds at each moment to the third demand at a moment. Assumes nothing.
use Prim.Native.Nat.{ℕ, ◌/◌, ◌≤◌, ◌<◌}
use mathlib.Core.Path.{◌≡◌, ◌∙◌}
use mathlib.Core.List.{List, [], ◌∷◌, ◌++◌}
use native.Mathlib.Omega.{arith}
use lib.ListN.{length}
use Rattle.rules.specs.Memory.{Machine, lists, list}
use Rattle.rules.specs.Notices.{head_of, place_of}
use Rattle.demands.specs.Types.{Notice}
use Rattle.demands.specs.Places.{sum, count, across, empty_end, untaken, waiting, standing, found}
use Rattle.demands.proofs.Sums.{sum_append, same, sum_across, total_same, total_part}
use Rattle.demands.proofs.Pigeons.{Within, pigeons}
use Rattle.demands.proofs.Blocks.{next}
use Rattle.demands.proofs.Chain.{Linked, walk_linked}
use Rattle.demands.proofs.Invariant.{Inv, share}
use Rattle.demands.proofs.Sight.{below_at, view}

-- The blocks of a chain are blocks of notice memory.
within : (ws : List ℕ) (p : ℕ) (bs : List ℕ) (h : ℕ) → Linked ws p bs h → Within (length ws / 8) bs
within ws p [] h l = tt
within ws p (b ∷ bs) h l = (l.2.aligned, omega (arith, l.2.aligned, l.2.inside), within ws (next ws b) bs h l.3)

module _ (m : Machine) {handed : List ℕ} {posted taken : ℕ → List Notice} {chain : ℕ → List ℕ} (inv : Inv (view m) handed posted taken chain)
    (once : (b : ℕ) → count b handed ≤ 1) where
  -- Walking finds the chain.
  untaken_chain : (k : ℕ) → k < lists → untaken m k ≡ chain k
  untaken_chain k h =
      let ws : List ℕ = m.notices in
      let l : Linked ws (place_of m.receive (list k)) (chain k) ((view m).head k) = rw (below_at (λ k. place_of m.receive (list k)) k h) at (inv.linked k h) in
      walk_linked (length ws / 8) ws (place_of m.receive (list k)) (chain k) ((view m).head k)
      (pigeons (length ws / 8) (chain k) (within ws (place_of m.receive (list k)) (chain k) ((view m).head k) l)
      (λ b. omega (arith, once b, inv.stand (same b), total_part (share (same b) (view m) chain) lists k h)))
      l

  -- What stands weighs what was handed over.
  pub sum_standing : (f : ℕ → ℕ) → sum f (standing m) ≡ sum f handed
  sum_standing f =
      let g : ℕ → List ℕ = λ k. untaken m k ++ empty_end m k in
      omega (
        arith,
        inv.stand f,
        sum_append f (waiting m) (across g lists),
        sum_across f g lists,
        total_same (share f (view m) chain) (λ k. sum f (g k)) lists
            (λ k h. sum_append f (untaken m k) (empty_end m k) ∙ rw (untaken_chain k h, below_at (λ k. head_of m.receive (list k)) k h)),
      )

  -- What is found by walking, after what was taken, is what was posted.
  pub in_order : (k : ℕ) → k < lists → taken k ++ found m k ≡ posted k
  in_order k h = rw (untaken_chain k h) (inv.order k h)
