-- Refusals by their numbers, and what the gate says, the rows that stand before every call's own. Assumes nothing.
use mathlib.Core.Path.{◌≡◌}
use mathlib.Core.Logic.{◌≢◌}
use mathlib.Core.Bool.{false}
use Prim.Native.Nat.{ℕ}
use native.Mathlib.Omega.{arith}
use Rattle.ground.proofs.Choice.{need_holds}
use Rattle.rules.specs.Memory.{Machine}
use Rattle.rules.specs.Sound.{is_sized, is_sound}
use Rattle.rules.specs.Replies.{refusal_number}
use Rattle.rules.specs.Calls.{gate}
use Rattle.laws.specs.Types.{Refusal}
use Rattle.laws.specs.Sound.{Sound}
use Rattle.laws.specs.Verdicts.{Unfit, unsound, Refuses}
use Rattle.laws.proofs.Sound.{sound}
use Rattle.std.specs.Prelude.{Result, Ok, Err}

-- A refusal that says nothing of the machine.
pub plain : {m : Machine} {n : ℕ} → (n ≢ 0) × (n ≢ 9) × (n ≢ 15) × (n ≢ 13) × (n ≢ 14) → Refuses m n
plain d = record { done = d.0; fault = d.1; fabric = d.2; sizes = λ e. absurd (d.3 e); unsound = λ e. absurd (d.4 e) }

-- Sizes, and unsound.
pub sizes : {m : Machine} → is_sized m ≡ false → Refuses m 13
sizes h = record { done = omega arith; fault = omega arith; fabric = omega arith; sizes = λ e. h; unsound = λ e. absurd (omega arith) }

pub unfit : {m : Machine} → Unfit m → Refuses m 14
unfit h = record { done = omega arith; fault = omega arith; fabric = omega arith; sizes = λ e. absurd (omega arith); unsound = λ e. h }

-- What holds of every outcome of the first two rows.
pub gate_holds : {A : Type 0} (m : Machine) {rest : Result A Refusal} (P : Result A Refusal → Type 0)
    → ((why : Refusal) → Refuses m (refusal_number why) → P (Err why)) → (Sound m → P rest) → P (gate m rest)
unfolding gate
gate_holds m P stops goes =
    need_holds P (is_sized m) (λ e. stops _ (sizes e)) λ z. need_holds P (is_sound m) (λ e. stops _ (unfit (unsound e))) λ s. goes (sound m z s)

-- A judgement that is no refusal: the machine is sound, and the rest decided.
pub past_gate : {A : Type 0} (m : Machine) (rest : Result A Refusal) {x : A} → gate m rest ≡ Ok x → Sound m × (rest ≡ Ok x)
past_gate m rest {x} =
    gate_holds m (λ r. r ≡ Ok x → Sound m × (rest ≡ Ok x)) (λ why r e. let z : ◌≡◌ {A = ℕ} 0 1 = cc in absurd (omega arith)) (λ s e. (s, e))
