-- What `reading::receive_word` needs beside the check's own search: a word of a slot. Assumes nothing.
use Rattle.std.proofs.Common.{rules}
use Rattle.registers.proofs.Slots.{word_read}
use Rattle.registers.proofs.reading.receive_word.Goals as goal

pub returns-then-i-lt-LISTS_FROM : goal.returns-then-i-lt-LISTS_FROM
returns-then-i-lt-LISTS_FROM c = search (rules, word_read)
