-- What `lines::put_line` leaves open. Assumes nothing.
use Rattle.lines.proofs.Lines.{line}
use Rattle.lines.proofs.put_line.Goals as goal

pub returns-clause-written : goal.returns-clause-written
returns-clause-written c =
    rw (← c.from.ensures, ← c.value.ensures)
    (line _ _ _ _ c.put_decimal-kind_end.ensures.written (rw c.word_of.ensures.word at c.put_bytes-word_end.ensures)
    c.put_hexadecimal-value_end.ensures.written c.put_decimal.ensures.written)
