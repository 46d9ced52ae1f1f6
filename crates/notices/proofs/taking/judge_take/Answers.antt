-- What `taking::judge_take` needs beside the check's own search: past the gate, the rows in their order. Assumes nothing.
use Rattle.std.proofs.Common.{rules}
use Rattle.ground.proofs.Choice.{judging}
use Rattle.rules.specs.Calls.{judge_take}
use Rattle.sound.proofs.Passing.{gated_go, gated_no}
use Rattle.notices.proofs.Steps.{next_asks}
use Rattle.notices.proofs.taking.judge_take.Goals as goal

pub returns-in_err-gate : goal.returns-in_err-gate
unfolding judge_take
returns-in_err-gate c = gated_no _ _ _ _ _ c.gate.ensures _ c.in_err-gate.was c.from_residual.ensures

pub returns-then-l-ge-LISTS : goal.returns-then-l-ge-LISTS
unfolding judge_take
returns-then-l-ge-LISTS c = gated_go _ _ _ _ _ c.gate.ensures c.in_ok-gate.was (search judging)

pub returns-then-room-lt-BLOCK_SIZE : goal.returns-then-room-lt-BLOCK_SIZE
unfolding judge_take
returns-then-room-lt-BLOCK_SIZE c = gated_go _ _ _ _ _ c.gate.ensures c.in_ok-gate.was (search judging)

pub returns-then-place-eq0 : goal.returns-then-place-eq0
unfolding judge_take
returns-then-place-eq0 c = gated_go _ _ _ _ _ c.gate.ensures c.in_ok-gate.was (rw (← c.place_of-place.ensures) (search judging))

pub next_of-next-requires : goal.next_of-next-requires
next_of-next-requires c = next_asks _ _ _ _ _ c.gate.ensures c.in_ok-gate.was _ _ c.if-l-ge-LISTS.false c.place_of-place.ensures c.if-place-eq0.false

pub returns-then-next-eq0 : goal.returns-then-next-eq0
unfolding judge_take
returns-then-next-eq0 c =
    gated_go _ _ _ _ _ c.gate.ensures c.in_ok-gate.was (rw (← c.place_of-place.ensures, ← c.next_of-next.ensures) (search judging))

pub returns-then-not-is_block : goal.returns-then-not-is_block
unfolding judge_take
returns-then-not-is_block c =
    gated_go _ _ _ _ _ c.gate.ensures c.in_ok-gate.was (rw (← c.place_of-place.ensures, ← c.next_of-next.ensures) (search judging depth 16))
