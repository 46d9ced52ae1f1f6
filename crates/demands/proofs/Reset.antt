-- What an accepted reset leaves. Assumes nothing.
use Prim.Native.Nat.{ℕ}
use mathlib.Core.Path.{◌≡◌, refl}
use mathlib.Core.Bool.{Bool, true, false, ◌||◌, false≢true}
use native.Mathlib.Omega.{arith}
use Rattle.ground.specs.Choice.{pick, need}
use Rattle.rules.specs.Memory.{Machine}
use Rattle.rules.specs.Saved.{resets, pcsr0_ok}
use Rattle.rules.specs.Registers.{pcsr0_number, single, mapped, decode, reach, stepped}
use Rattle.rules.specs.Writes.{judge_register, judge_reached, reset}
use Rattle.rules.specs.Sound.{is_sized, is_sound}
use Rattle.rules.specs.Calls.{writes, perform, is_reset, judge_write, write_done, act_write, write_call}
use Rattle.demands.specs.Types.{Writing, Number, Sizes, Unsound, BadValue, Mapped, Register}
use Rattle.demands.specs.History.{begun}
use Rattle.std.specs.Prelude.{Ok, Err}

-- A reset that was accepted: what it met, and what it left.
pub record Accepted (v : ℕ) (m : Machine) : Type 0 where
  pub sized : is_sized m ≡ true
  pub value : pcsr0_ok v ≡ true
  pub left : begun v m ≡ reset v m

-- A write that is judged by these tests: where its reply is done, all held.
judged : (v : ℕ) (m : Machine) (a b c d : Bool) → d ≡ true
    → let o = act_write m (Mapped.Single Register.Pcsr0) v (need a (Err Sizes) (need b (Err Unsound) (need c (Err BadValue) (pick d (Ok Writing.Reset) (Ok (Writing.Sets Number.Pcsr0)))))) in
    o.reply ≡ 0 → (a ≡ true) × (c ≡ true) × (o.machine ≡ reset v m)
unfolding act_write write_done need pick stepped
judged v m true true true true e h = (refl, refl, refl)
judged v m true true true false e h = absurd (false≢true e)
judged v m true true false d e h = absurd (omega arith)
judged v m true false c d e h = absurd (omega arith)
judged v m false b c d e h = absurd (omega arith)

-- By its reply.
pub accepted : (v : ℕ) (m : Machine) → resets v ≡ true → (perform (writes pcsr0_number v) m).reply ≡ 0 → Accepted v m
unfolding perform write_call judge_write judge_reached judge_register reach decode mapped single pick
accepted v m e h =
    let j = judged v m (is_sized m) (is_reset pcsr0_number v || is_sound m) (pcsr0_ok v) (resets v) e h in
    record { sized = j.0; value = j.1; left = j.2 }
