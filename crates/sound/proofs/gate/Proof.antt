-- `sound::gate` meets its contract. Assumes nothing.
use borrow.Author.Rules.{rules}
use Rattle.ground.proofs.Choice.{judging}
use Rattle.ground.proofs.Tests.{flag_yes}
use Rattle.rules.specs.Calls.{gate}
use Rattle.laws.proofs.Sound.{sized}
use Rattle.sound.proofs.gate.Statement.{statement}
use Rattle.sound.proofs.gate.Tie as tie

pub gate_spec : {M : Type 1} → statement M
unfolding gate
gate_spec =
    tie.close
    (tie.spec
    (λ c κs. search rules)
    (λ c. record { verdict = λ bytes notices b n. rw (b, n) (search judging) })
    (λ c κs. search (sized, flag_yes))
    (λ c. record { verdict = λ bytes notices b n. rw (b, n) (search judging) })
    (λ c. record { verdict = λ bytes notices b n. rw (b, n) (search judging) }))
