-- The scan of the blocks that wait. Assumes nothing.
use Rattle.std.proofs.Common.{rules, tests}
use Rattle.ground.proofs.All.{all_of_fold}
use Rattle.rules.specs.Sound.{waiting_ok}
use Rattle.sound.proofs.lists.waiting_ok.Goals as goal

pub returns : goal.returns
unfolding waiting_ok
returns c = all_of_fold c.fold.ensures.ran (cc) (λ a x b q k. search (rules, tests))
