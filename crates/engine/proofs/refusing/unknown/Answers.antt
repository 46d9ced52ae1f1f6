-- The refusal of an unknown call: the gate's, or no-register. Assumes nothing.
use mathlib.Core.Path.{refl, sym, ap, ◌∙◌}
use mathlib.Core.List.{[]}
use Rattle.engine.proofs.Verdicts.{refusal_by, unknown_whole}
use Rattle.engine.proofs.refusing.unknown.Goals as goal
use Rattle.engine.proofs.refusing.unknown.Goals.{in-Err, in-Ok}

pub returns : goal.returns
returns c =
    unknown_whole _
    (c.gate.ensures.verdict _ _ refl refl)
    (elim c.match-gate.branch [
      | in-Err w ↦ w.why-is ∙ ap refusal_by (sym w.in-Err.is)
      | in-Ok w ↦ w.why-is ∙ ap refusal_by (sym w.in-Ok.is)
    ])
    (c.refuse.ensures.whole _ _ _ _ [])
