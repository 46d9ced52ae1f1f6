-- The scan of the heads. Assumes nothing.
use Rattle.std.proofs.Common.{rules, tests}
use Rattle.ground.proofs.All.{all_of_fold}
use Rattle.rules.specs.Sound.{heads_ok}
use Rattle.sound.proofs.lists.heads_ok.Goals as goal

pub returns : goal.returns
unfolding heads_ok
returns c = all_of_fold c.fold.ensures.ran (cc) (λ a x b q k. search (rules, tests))
