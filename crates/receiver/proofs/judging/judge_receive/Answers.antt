-- What `judging::judge_receive` needs beside the check's own search: past the gate, the rows in their order. Assumes nothing.
use Rattle.ground.proofs.Choice.{judging}
use Rattle.rules.specs.Calls.{judge_receive}
use Rattle.sound.proofs.Passing.{gated_go, gated_no}
use Rattle.receiver.proofs.Receipts.{answerable}
use Rattle.receiver.proofs.Rooms.{judgeable}
use Rattle.receiver.proofs.judging.judge_receive.Goals as goal

pub returns-in_err-gate : goal.returns-in_err-gate
unfolding judge_receive
returns-in_err-gate c = gated_no _ _ _ _ _ c.gate.ensures _ c.in_err-gate.was c.from_residual.ensures

pub returns-then-not-enable : goal.returns-then-not-enable
unfolding judge_receive
returns-then-not-enable c = gated_go _ _ _ _ _ c.gate.ensures c.in_ok-gate.was (search judging)

pub returns-then-not-is_packet : goal.returns-then-not-is_packet
unfolding judge_receive
returns-then-not-is_packet c = gated_go _ _ _ _ _ c.gate.ensures c.in_ok-gate.was (search judging)

pub receipt_of-requires : goal.receipt_of-requires
receipt_of-requires c =
    judgeable _ _ _ _ _ _ c.gate.ensures c.in_ok-gate.was c.is_packet.ensures c.if-not-is_packet.false c.fields-p.ensures

pub has_room_for-requires : goal.has_room_for-requires
has_room_for-requires c =
    answerable _ _ _ _ _
    (judgeable _ _ _ _ _ _ c.gate.ensures c.in_ok-gate.was c.is_packet.ensures c.if-not-is_packet.false c.fields-p.ensures)
    c.receipt_of.ensures

pub returns-then-not-has_room_for : goal.returns-then-not-has_room_for
unfolding judge_receive
returns-then-not-has_room_for c =
    gated_go _ _ _ _ _ c.gate.ensures c.in_ok-gate.was
    (rw (← c.fields-p.ensures, ← c.receipt_of.ensures) (search judging depth 16))
