-- How the judgement of any call goes past the gate or stops at it, by what the code's gate says. Assumes nothing.
use mathlib.Core.Path.{◌≡◌, refl, sym, ap, ◌∙◌}
use mathlib.Core.List.{List}
use Prim.Native.Nat.{ℕ}
use native.Mathlib.Omega.{arith}
use lib.ListN.{length}
use Rattle.ground.specs.Choice.{need}
use Rattle.ground.proofs.Choice.{need_ap}
use Rattle.rules.specs.declared.Refusal.{Refusal}
use Rattle.rules.specs.declared.Saved.{Saved}
use Rattle.rules.specs.Memory.{Machine, machine}
use Rattle.rules.specs.Sound.{is_sized, is_sound}
use Rattle.rules.specs.Calls.{gate}
use Rattle.laws.specs.Sound.{Sound}
use Rattle.laws.proofs.Gate.{past_gate}
use Rattle.sound.specs.Gated.{Gated}
use Rattle.std.specs.Prelude.{Result, Ok, Err, IsErr, IsErrAnd, ⊤}
use Rattle.std.proofs.lemmas.Result.{err_from_is_err_and}

-- A judgement by the gate's verdict: the rest of it, or the refusal.
abbrev pub by : {A : Type 0} → Result A Refusal → Result ⊤ Refusal → Result A Refusal
by rest (Ok x) = rest
by rest (Err why) = Err why

module _ {A : Type 0} (m : Machine) (rest : Result A Refusal) where
  -- Every call's judgement is decided so.
  pub gate_by : gate m rest ≡ by rest (gate m (Ok tt))
  unfolding gate
  gate_by =
      let f : Result ⊤ Refusal → Result A Refusal = by rest in
      sym (need_ap f (is_sized m) _ _ ∙ ap (need (is_sized m) (f (Err Refusal.Sizes))) (need_ap f (is_sound m) _ _))

-- At the two arms of a match on what the code's gate says.
module _ (s : Saved) (send receive bytes notices : List ℕ) {v : Result ⊤ Refusal} (told : Gated s send receive (length bytes) (length notices) v) where
  -- What it says is the gate's verdict.
  said : v ≡ gate (machine s send receive bytes notices) (Ok tt)
  said = told.verdict bytes notices refl refl

  pub gated_go : {A : Type 0} {rest r : Result A Refusal} {x : ⊤} → v ≡ Ok x → r ≡ rest → r ≡ gate (machine s send receive bytes notices) rest
  gated_go {rest} go e = e ∙ sym (gate_by _ rest ∙ ap (by rest) (sym said ∙ go))

  -- The exit of a `?` on it, whose refusal is handed on.
  pub gated_no : {A : Type 0} (rest : Result A Refusal) {why : Refusal} {r : Result A Refusal} → v ≡ Err why
      → IsErr r × IsErrAnd r (λ other. other ≡ why) → r ≡ gate (machine s send receive bytes notices) rest
  gated_no rest not e =
      let p = err_from_is_err_and _ e.1 in
      p.1 ∙ ap Err p.2 ∙ sym (gate_by _ rest ∙ ap (by rest) (sym said ∙ not))

  pub gated_sound : {x : ⊤} → v ≡ Ok x → Sound (machine s send receive bytes notices)
  gated_sound go = (past_gate (machine s send receive bytes notices) (Ok tt) (sym said ∙ go)).0
