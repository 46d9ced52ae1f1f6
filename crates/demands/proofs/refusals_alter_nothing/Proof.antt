-- `demands::refusals_alter_nothing` meets its contract: a refusal is given on the machine as it is. Assumes nothing.
use mathlib.Core.Path.{refl}
use mathlib.Core.Logic.{◌≢◌}
use mathlib.Core.List.{List}
use Rattle.rules.specs.Memory.{Machine}
use Rattle.rules.specs.Replies.{Outcome}
use Rattle.demands.specs.Demands.{Kept}
use Rattle.demands.proofs.Answers.{Answered, done, fault, refusal, waits, answered}
use Rattle.demands.proofs.refusals_alter_nothing.Statement.{statement}
use Rattle.demands.proofs.refusals_alter_nothing.Tie as tie

-- By how the call answers.
kept : {m : Machine} {room : List _} {o : Outcome} → Answered m room o → o.reply ≢ 0 → o.reply ≢ 9 → Kept m room o
kept (done e) h k = absurd (h e)
kept (fault e) h k = absurd (k e)
kept (refusal why r e) h k =
    rw e (record { value = refl; interrupts = refl; room = refl; machine = λ d. refl; marked = λ f. absurd (r.fabric f) })
kept (waits d chosen e) h k =
    rw e (record { value = refl; interrupts = refl; room = refl; machine = λ f. absurd (f refl); marked = λ f. (d, chosen, refl) })

returns : tie.Need-returns
returns c = record { holds = λ c m. kept (answered c m) }

pub refusals_alter_nothing_spec : {M : Type 1} → statement M
refusals_alter_nothing_spec = tie.close (tie.spec returns)
