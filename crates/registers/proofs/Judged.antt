-- A write's judgement, by the parts that the code reads. Assumes nothing.
use mathlib.Core.Path.{◌≡◌, refl, sym}
use mathlib.Core.Bool.{Bool, true, false, not, ◌||◌}
use mathlib.Core.List.{List}
use Prim.Native.Nat.{ℕ}
use lib.ListN.{length}
use Rattle.ground.proofs.Choice.{go_on, stop}
use Rattle.ground.proofs.Tests.{flag_no, flag_yes}
use Rattle.rules.specs.declared.Refusal.{Refusal}
use Rattle.rules.specs.declared.Saved.{Saved}
use Rattle.rules.specs.Memory.{machine, sizes_ok}
use Rattle.rules.specs.Writes.{judge_reached}
use Rattle.rules.specs.Registers.{decode, reach}
use Rattle.rules.specs.Sound.{sound_ok}
use Rattle.rules.specs.Calls.{is_reset, judge_write}
use Rattle.std.specs.Prelude.{Err}

-- ---- the whole judgement

-- By what the code says of the sizes.
module _ (s : Saved) (send receive bytes notices : List ℕ) (a v : ℕ) {ok : Bool}
    (told : ok ≡ sizes_ok (length send) (length receive) (length bytes) (length notices)) where
  pub write_sizes : not ok ≡ true → Err Refusal.Sizes ≡ judge_write (machine s send receive bytes notices) a v
  unfolding judge_write
  write_sizes h = stop _ (flag_no told h) refl

  -- And of soundness, where that is asked.
  module _ (h : not ok ≡ false) {on : Bool} (said : on ≡ (is_reset a v || sound_ok s send receive (length bytes) (length notices))) where
    pub write_unsound : not on ≡ true → Err Refusal.Unsound ≡ judge_write (machine s send receive bytes notices) a v
    unfolding judge_write
    write_unsound g = go_on _ (flag_yes told h) (stop _ (flag_no said g) refl)

    pub write_goes : not on ≡ false
        → judge_write (machine s send receive bytes notices) a v ≡ judge_reached (machine s send receive bytes notices) (reach s (decode a)) v
    unfolding judge_write
    write_goes g = sym (go_on _ (flag_yes told h) (go_on _ (flag_yes said g) refl))

pub ruleset writing = (write_sizes, write_unsound, write_goes)
