-- The scan of the descriptors. Assumes nothing.
use Rattle.std.proofs.Common.{rules, tests}
use Rattle.ground.proofs.All.{all_of_range}
use Rattle.rules.specs.Sound.{descriptors_ok}
use Rattle.sound.proofs.descriptors.descriptors_ok.Goals as goal

pub returns : goal.returns
unfolding descriptors_ok
returns c = all_of_range c.all.ensures.ran (cc) (λ x b q k. search (rules, tests))
