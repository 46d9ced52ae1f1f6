-- `rules::Queue::remove` meets its contract. Assumes nothing.
use borrow.Author.Rules.{rules}
use Rattle.ground.proofs.Choice.{branches}
use Rattle.rules.specs.Queues.{oldest, removed}
use Rattle.rules.proofs.Queue.remove.Statement.{statement}
use Rattle.rules.proofs.Queue.remove.Tie as tie

pub remove_spec : {M : Type 1} → statement M
unfolding oldest removed
remove_spec =
    tie.close
    (tie.spec
    (λ c. search (rules, branches))
    (λ c. search rules)
    (λ c. search rules)
    (λ c. search rules)
    (λ c. search rules)
    (λ c. search rules)
    (λ c. search rules)
    (λ c. search (rules, branches)))
