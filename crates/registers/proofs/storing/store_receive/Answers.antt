-- What `storing::store_receive` needs beside the check's own search: a slot that is read, rewritten and stored. Assumes nothing.
use Rattle.registers.proofs.Slots.{word_stored, word2_stored}
use Rattle.registers.proofs.storing.store_receive.Goals as goal

pub returns-in-SlotWord : goal.returns-in-SlotWord
returns-in-SlotWord c = search word_stored

pub returns-in-SlotWord2 : goal.returns-in-SlotWord2
returns-in-SlotWord2 c = search word2_stored
