-- What `reading::judge_read` needs beside the check's own search: the gate stops it, or what the map reaches decides. Assumes nothing.
use Rattle.rules.specs.Calls.{judge_read}
use Rattle.sound.proofs.Passing.{gated_go, gated_no}
use Rattle.registers.proofs.reading.judge_read.Goals as goal

pub returns-in_err-gate : goal.returns-in_err-gate
unfolding judge_read
returns-in_err-gate c = gated_no _ _ _ _ _ c.gate.ensures _ c.in_err-gate.was c.from_residual.ensures

pub returns : goal.returns
unfolding judge_read
returns c = gated_go _ _ _ _ _ c.gate.ensures c.in_ok-gate.was (cc)
