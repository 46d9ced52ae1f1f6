-- What `lines::digits::put_decimal` leaves open. Assumes nothing.
use Rattle.lines.proofs.Lines.{put_one, put_two, put_three}
use Rattle.lines.proofs.digits.put_decimal.Goals as goal

pub returns-then-n-lt10-clause-written : goal.returns-then-n-lt10-clause-written
returns-then-n-lt10-clause-written c = put_one _ _ c.if-n-lt10.true c.last_decimal.ensures c.put_bytes.ensures

pub returns-then-n-lt100-clause-written : goal.returns-then-n-lt100-clause-written
returns-then-n-lt100-clause-written c =
    put_two _ _ c.if-n-lt10.false c.if-n-lt100.true c.last_decimal-then-n-lt100.ensures c.last_decimal-then-n-lt100-2.ensures
    c.put_bytes-then-n-lt100.ensures

pub returns-else-n-lt100-clause-written : goal.returns-else-n-lt100-clause-written
returns-else-n-lt100-clause-written c =
    put_three _ _ c.if-n-lt100.false c.last_decimal-hundreds.ensures c.last_decimal-else-n-lt100.ensures c.last_decimal-else-n-lt100-2.ensures
    c.put_bytes-else-n-lt100.ensures
