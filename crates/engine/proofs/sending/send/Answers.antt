-- What `sending::send` needs beside the check's own search: the call is what its verdict says. Assumes nothing.
use mathlib.Core.Path.{sym}
use Rattle.sender.proofs.Facts.{sendable}
use Rattle.engine.proofs.Verdicts.{send_whole}
use Rattle.engine.proofs.sending.send.Goals as goal

pub act_send-requires : goal.act_send-requires
act_send-requires c = sendable _ _ _ (sym c.judge_send-sending.ensures)

pub returns : goal.returns
returns c = send_whole _ _ _ c.judge_send-sending.ensures c.act_send.ensures.whole
