-- Which descriptor sends: its next packet, what that posts, and the search, turn by turn. Assumes nothing.
use mathlib.Core.Path.{◌≡◌, refl, sym, ap, ◌∙◌}
use mathlib.Core.Bool.{Bool, true, false, not, ◌&&◌}
use mathlib.Core.List.{List}
use Prim.Native.Nat.{ℕ, suc, ◌+◌, ◌-◌, ◌%◌, ◌<◌, ◌≤◌}
use native.Mathlib.Omega.{arith}
use Rattle.ground.specs.Choice.{pick, all_below}
use Rattle.ground.proofs.Choice.{pick_yes, pick_no}
use Rattle.rules.specs.declared.Descriptor.{Descriptor}
use Rattle.rules.specs.declared.DescriptorIndex.{DescriptorIndex}
use Rattle.rules.specs.declared.Saved.{Saved}
use Rattle.rules.specs.Words.{is_control_pkt}
use Rattle.rules.specs.Memory.{descriptor}
use Rattle.rules.specs.Sending.{descriptor_at, is_active, next_payload, is_ready, first_from, none_active}
use Rattle.std.specs.Prelude.{Option, Some, None}
use Rattle.std.specs.List.{list_all, range_with_len}

-- ---- the next packet

module _ (d : Descriptor) where
  -- "control_pkt sends none".
  pub none_sent : is_control_pkt d.control1 ≡ true → 0 ≡ next_payload d
  unfolding next_payload
  none_sent e = sym (pick_yes _ _ e)

-- ---- none active

-- None is active where the test fails of each of the four.
pub none_of : (send : List ℕ) {r : Bool} → r ≡ list_all (λ k. not (is_active (descriptor_at send (descriptor k)))) (range_with_len 0 4) → r ≡ none_active send
unfolding none_active all_below
none_of send e = e ∙ same (p 0) (p 1) (p 2) (p 3)
  where
    p : ℕ → Bool
    p k = not (is_active (descriptor_at send (descriptor k)))

    same : (a b c d : Bool) → (a && (b && (c && (d && true)))) ≡ (((true && a) && b) && c && d)
    same true true true true = refl
    same true true true false = refl
    same true true false d = refl
    same true false c d = refl
    same false b c d = refl

-- ---- the search

-- The place k after the last sender, going round.
abbrev pub place : ℕ → ℕ → DescriptorIndex
place last k = descriptor ((last + 1 + k) % 4)

-- What the search from place k of the four on finds.
abbrev pub from_place : Saved → List ℕ → List ℕ → ℕ → Option DescriptorIndex
from_place s send receive k = first_from (λ d. is_ready s receive (descriptor_at send d)) s.lastsender k (4 - k)

module _ (s : Saved) (send receive : List ℕ) where
  -- Past the last place there is none.
  pub none_left : (k : ℕ) → 4 ≤ k → from_place s send receive k ≡ None
  unfolding first_from
  none_left k past = let z : 4 - k ≡ 0 = omega arith in rw z

  module _ (k : ℕ) (on : k < 4) {t : Bool} (says : t ≡ is_ready s receive (descriptor_at send (place s.lastsender k))) where
    -- This place, or those after it.
    turn : from_place s send receive k ≡ pick t (Some (place s.lastsender k)) (from_place s send receive (k + 1))
    unfolding first_from
    turn = let more : 4 - k ≡ suc (4 - (k + 1)) = omega arith in rw (more, says)

    -- The first that is ready.
    pub met : t ≡ true → from_place s send receive k ≡ Some (place s.lastsender k)
    met e = turn ∙ pick_yes _ _ e

    -- One that is not.
    pub passed : t ≡ false → from_place s send receive k ≡ from_place s send receive (k + 1)
    passed e = turn ∙ pick_no _ _ e

-- quiet, as the judge asks it.
pub quiet : (send : List ℕ) {none : Bool} → none ≡ none_active send → none ≡ true → not (none_active send) ≡ false
quiet send e h = ap not (sym e ∙ h)
