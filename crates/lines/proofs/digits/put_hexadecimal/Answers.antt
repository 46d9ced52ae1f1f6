-- What `lines::digits::put_hexadecimal` leaves open. Assumes nothing.
use Rattle.lines.proofs.Lines.{put_eight}
use Rattle.lines.proofs.digits.put_hexadecimal.Goals as goal

pub returns-clause-written : goal.returns-clause-written
returns-clause-written c =
    put_eight c.args.n c.last_hexadecimal.ensures c.last_hexadecimal-2.ensures c.last_hexadecimal-3.ensures c.last_hexadecimal-4.ensures
    c.last_hexadecimal-5.ensures c.last_hexadecimal-6.ensures c.last_hexadecimal-7.ensures c.last_hexadecimal-8.ensures c.put_bytes.ensures
