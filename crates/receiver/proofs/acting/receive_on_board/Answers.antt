-- The landing, the posting and the count, one after the other.
use Rattle.receiver.proofs.Steps.{on_board_lem}
use Rattle.receiver.proofs.acting.receive_on_board.Goals as goal

pub returns : goal.returns
returns c =
    on_board_lem _ _ _ _ _ _ c.receipt_posting-posting.ensures c.land-landed.ensures _ _ _ _ _
    c.post_all-posted.ensures
    c.count.ensures
