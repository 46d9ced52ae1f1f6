-- What `choosing::none_active` needs beside the check's own search. Assumes nothing.
use Rattle.std.proofs.Common.{rules, refl, not}
use borrow.Author.Tests.{tests}
use Rattle.std.proofs.lemmas.Iterator.{YieldsList-from_range}
use Rattle.std.proofs.lemmas.Iterator.Search.{all_from_yields_List}
use Rattle.rules.specs.Memory.{descriptor}
use Rattle.rules.specs.Sending.{descriptor_at, is_active}
use Rattle.sender.proofs.Choice.{none_of}
use Rattle.sender.proofs.choosing.none_active.Goals as goal

pub returns : goal.returns
returns c =
    none_of _
    (all_from_yields_List (λ k. not (is_active (descriptor_at c.args.send.now (descriptor k)))) _ _ _ c.all.ensures.ran
    (YieldsList-from_range 0 4 4 refl refl)
    (λ x b q k. search (rules, tests)))
