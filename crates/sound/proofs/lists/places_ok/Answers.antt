-- The scan of the places. Assumes nothing.
use Rattle.std.proofs.Common.{rules, tests}
use Rattle.ground.proofs.All.{all_of_fold}
use Rattle.rules.specs.Sound.{places_ok}
use Rattle.sound.proofs.lists.places_ok.Goals as goal

pub returns : goal.returns
unfolding places_ok
returns c = all_of_fold c.fold.ensures.ran (cc) (λ a x b q k. search (rules, tests))
