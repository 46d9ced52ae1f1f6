-- What `judging::judge_send` needs beside the check's own search: past the gate, the rows in their order. Assumes nothing.
use Rattle.ground.proofs.Choice.{judging}
use Rattle.rules.specs.Calls.{judge_send}
use Rattle.sound.proofs.Passing.{gated_go, gated_no}
use Rattle.sender.proofs.Choice.{quiet}
use Rattle.sender.proofs.judging.judge_send.Goals as goal

pub returns-in_err-gate : goal.returns-in_err-gate
unfolding judge_send
returns-in_err-gate c = gated_no _ _ _ _ _ c.gate.ensures _ c.in_err-gate.was c.from_residual.ensures

pub returns-then-not-enable : goal.returns-then-not-enable
unfolding judge_send
returns-then-not-enable c = gated_go _ _ _ _ _ c.gate.ensures c.in_ok-gate.was (search judging)

pub returns-then-room-lt-PACKET_MOST : goal.returns-then-room-lt-PACKET_MOST
unfolding judge_send
returns-then-room-lt-PACKET_MOST c = gated_go _ _ _ _ _ c.gate.ensures c.in_ok-gate.was (search judging)

pub returns-then-none_active : goal.returns-then-none_active
unfolding judge_send
returns-then-none_active c = gated_go _ _ _ _ _ c.gate.ensures c.in_ok-gate.was (search (judging, quiet))
