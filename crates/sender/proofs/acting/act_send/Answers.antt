-- What `acting::act_send` needs beside the check's own search. Assumes nothing.
use Rattle.std.proofs.Common.{Ok, ap, ◌∙◌}
use Rattle.sender.proofs.acting.act_send.Goals as goal

pub act_sends-requires : goal.act_sends-requires
act_sends-requires c = c.requires.sends _ (c.in-Ok-Sends.is ∙ ap Ok (rw c.in-Ok-Sends.is at c.in-Ok-Sends.field-0-is))
