-- `words::copy_words`: a turn stores one word more. Assumes nothing.
use Rattle.ground.proofs.Bytes.{row_more}
use Rattle.words.proofs.copy_words.Goals as goal

pub loop-i-preserved : goal.loop-i-preserved
loop-i-preserved c = row_more _ c.args.from.now c.args.at c.loop-i.i c.loop-i.invariant c.loop-i-test.true c.put.ensures
