-- `demands::third_demand` meets its contract: the invariant holds after the reset, and each event of the run keeps it. Assumes nothing.
use Prim.Native.Nat.{ℕ, ◌≤◌}
use mathlib.Core.Path.{refl, sym, ◌∙◌}
use mathlib.Core.List.{List, []}
use native.Mathlib.Omega.{arith}
use lib.ListN.{get_or-replicate}
use Rattle.rules.specs.Memory.{Machine, list, head_word, place_word}
use Rattle.rules.specs.Writes.{reset}
use Rattle.demands.specs.Runs.{Run, start, ◌▸◌, calls, outside, AtEachMoment, after_event, after, act}
use Rattle.demands.specs.History.{gathered, NoReset, begun, AfterReset, handed_by, handed, posted, taken}
use Rattle.demands.specs.Places.{count, entries, standing}
use Rattle.demands.specs.Demands.{Moment}
use Rattle.demands.proofs.Reset.{accepted}
use Rattle.demands.proofs.Sums.{same, sum_append, sum_length}
use Rattle.demands.proofs.Sight.{below_at, view}
use Rattle.demands.proofs.Invariant.{Inv, act_inv, first_inv}
use Rattle.demands.proofs.Moments.{sum_standing, in_order}
use Rattle.demands.proofs.Steps.{call_step}
use Rattle.demands.proofs.third_demand.Statement.{statement}
use Rattle.demands.proofs.third_demand.Tie as tie

-- No block is handed over more than once.
abbrev Once : List ℕ → Type 0
Once xs = (b : ℕ) → count b xs ≤ 1

-- What holds after a run, with the chains of blocks.
abbrev After : Machine → Run → Type 0
After s r = (chain : ℕ → List ℕ) × Inv (view (after s r)) (handed s r) (λ k. posted k s r) (λ k. taken k s r) chain

-- After the reset.
first : (v : ℕ) (m : Machine) → Inv (view (reset v m)) [] (λ k. []) (λ k. []) (λ k. [])
unfolding reset entries
first v m =
    first_inv (view (reset v m))
    (λ k h. below_at _ k h ∙ get_or-replicate 2048 (head_word (list k)) 0 0 (omega arith))
    (λ k h. below_at _ k h ∙ get_or-replicate 2048 (place_word (list k)) 0 0 (omega arith))
    refl

-- After each event.
run_inv : (s : Machine) → Inv (view s) [] (λ k. []) (λ k. []) (λ k. []) → (r : Run) → NoReset s r → Once (handed s r) → After s r
unfolding after after_event gathered
run_inv s h start calm once = ((λ k. []), h)
run_inv s h (r ▸ calls c) calm once =
    let before : Once (handed s r) = λ b. omega (arith, once b, sum_append (same b) (handed s r) (handed_by (act c (after s r)))) in
    let i : After s r = run_inv s h r calm.0 before in
    let step = call_step c (after s r) calm.1 in
    rw step.is (act_inv i.1 before (act c (after s r)) step.may)
run_inv s h (r ▸ outside new) calm once = run_inv s h r calm once

-- At a moment.
moment : (v : ℕ) (m : Machine) (r : Run) → AfterReset v m r → Once (handed (begun v m) r) → Moment (begun v m) r
moment v m r h once =
    let s : Machine = begun v m in
    let i : After s r = run_inv s (rw (accepted v m h.asked h.done).left (first v m)) r h.only once in
    let weight = sum_standing (after s r) {chain = i.0} i.1 once in
    record {
      stands = λ b. weight (same b);
      number = sym (sum_length (standing (after s r))) ∙ weight (λ x. 1) ∙ sum_length (handed s r);
      order = in_order (after s r) {chain = i.0} i.1 once;
    }

-- At each moment: a beginning of such a run is such a run.
each : (v : ℕ) (m : Machine) (r : Run) → AfterReset v m r → Once (handed (begun v m) r) → AtEachMoment (Moment (begun v m)) r
unfolding gathered
each v m start h once = moment v m start h once
each v m (r ▸ calls c) h once =
    let s : Machine = begun v m in
    let before : Once (handed s r) = λ b. omega (arith, once b, sum_append (same b) (handed s r) (handed_by (act c (after s r)))) in
    (each v m r (record { asked = h.asked; done = h.done; only = h.only.0 }) before, moment v m (r ▸ calls c) h once)
each v m (r ▸ outside new) h once =
    (each v m r (record { asked = h.asked; done = h.done; only = h.only }) once, moment v m (r ▸ outside new) h once)

returns : tie.Need-returns
returns c = record { holds = each }

pub third_demand_spec : {M : Type 1} → statement M
third_demand_spec = tie.close (tie.spec returns)
