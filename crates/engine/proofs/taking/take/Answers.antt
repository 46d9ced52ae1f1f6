-- What `taking::take` needs beside the check's own search: the call is what its verdict says. Assumes nothing.
use mathlib.Core.Path.{sym}
use Rattle.notices.proofs.Facts.{takeable}
use Rattle.engine.proofs.Verdicts.{take_whole}
use Rattle.engine.proofs.taking.take.Goals as goal

pub act_take-requires : goal.act_take-requires
act_take-requires c = takeable _ _ _ (sym c.judge_take-taking.ensures)

pub returns : goal.returns
returns c = take_whole _ _ _ c.judge_take-taking.ensures (c.act_take.ensures.whole _ _)
