-- What was judged can be acted on.
use Rattle.receiver.proofs.Steps.{board_asks}
use Rattle.receiver.proofs.acting.act_receive.Goals as goal

pub receive_on_board-done-requires : goal.receive_on_board-done-requires
receive_on_board-done-requires c = search board_asks
