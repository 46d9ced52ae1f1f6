-- What a reset clears, turn by turn. Assumes nothing.
use mathlib.Core.Path.{◌≡◌, refl, sym, ap, ◌∙◌}
use mathlib.Core.List.{List, ◌++◌}
use Prim.Native.Nat.{ℕ, zero, suc, ◌+◌, ◌*◌, ◌<◌, ◌≤◌}
use native.Mathlib.Omega.{arith}
use lib.ListN.{length, drop, replicate}
use lib.Seq.{sets, length-sets}
use Rattle.ground.specs.Lists.{over}
use Rattle.ground.proofs.Lists.{sets_append, sets_first}
use Rattle.rules.specs.declared.Saved.{Saved}
use Rattle.rules.specs.Memory.{descriptor, descriptor_first}
use Rattle.rules.specs.Saved.{without_reset, reset_saved}
use Rattle.rules.specs.Writes.{clear_descriptor, clear_descriptors, reset}
use Rattle.registers.specs.Writing.{Rams, Resets}

-- ---- the descriptors

-- The first d descriptors are clear: what is left to store gives what all of it gives.
pub record ClearedTo (old new : List ℕ) (d : ℕ) : Type 0 where
  pub low : d ≤ 4
  pub size : length new ≡ length old
  pub rest : sets new (16 * d) (drop (16 * d) clear_descriptors) ≡ sets old 0 clear_descriptors

pub descriptors_none : (old : List ℕ) → ClearedTo old old 0
descriptors_none old = record { low = omega arith; size = refl; rest = refl }

-- What is left begins with a clear descriptor.
next_clear : (d : ℕ) → d < 4 → drop (16 * d) clear_descriptors ≡ clear_descriptor ++ drop (16 * (d + 1)) clear_descriptors
unfolding clear_descriptors
next_clear zero h = refl
next_clear (suc zero) h = refl
next_clear (suc (suc zero)) h = refl
next_clear (suc (suc (suc zero))) h = refl
next_clear (suc (suc (suc (suc d)))) h = absurd (omega arith)

pub descriptors_more : (old new new₂ : List ℕ) (d : ℕ) → d < 4 → ClearedTo old new d → new₂ ≡ sets new (descriptor_first (descriptor d)) clear_descriptor
    → ClearedTo old new₂ (d + 1)
descriptors_more old new new₂ d h c e =
    let tail : List ℕ = drop (16 * (d + 1)) clear_descriptors in
    let at : 16 * (d + 1) ≡ 16 * d + 16 = omega arith in
    record {
      low = omega arith;
      size = ap length e ∙ length-sets new (16 * d) clear_descriptor ∙ c.size;
      rest =
          (λ i. sets (e i) (at i) tail)
          ∙ sym (sets_append new (16 * d) clear_descriptor tail)
          ∙ ap (sets new (16 * d)) (sym (next_clear d h))
          ∙ c.rest;
    }

pub descriptors_all : (old new : List ℕ) (d : ℕ) → 4 ≤ d → length old ≡ 1024 → ClearedTo old new d → new ≡ over clear_descriptors old
unfolding clear_descriptors
descriptors_all old new d h size c =
    let e : d ≡ 4 = omega (arith, c.low) in
    rw e at c.rest ∙ sets_first clear_descriptors old (omega arith)

pub ruleset clearing = (descriptors_none, descriptors_more, descriptors_all)

-- ---- the reset

pub resets : (v : ℕ) (send receive notices : List ℕ) {s₂ : Saved} {send₂ receive₂ notices₂ : List ℕ} → Rams (length send) (length receive)
    → send₂ ≡ over clear_descriptors send → receive₂ ≡ replicate (length receive) 0 → notices₂ ≡ replicate (length notices) 0
    → s₂ ≡ reset_saved (without_reset v) → Resets v send receive notices s₂ send₂ receive₂ notices₂
unfolding reset
resets v send receive notices rams a b c e = record { whole = λ s bytes. rw (a, b, c, e, rams.receive) }
