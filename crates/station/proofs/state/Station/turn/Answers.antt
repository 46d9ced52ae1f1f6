-- `station::state::Station::turn`: the records answered, the bytes counted. Assumes nothing.
use Rattle.std.proofs.Common.{ap, ◌+◌}
use Rattle.station.proofs.Turns.{in_memories}
use Rattle.station.proofs.state.Station.turn.Goals as goal

pub returns : goal.returns
returns c = in_memories {left = c.answer-next.new.self} c.requires c.answer-next.ensures.answers (ap (λ k. k + c.args.n) c.answer-next.ensures.count_unchanged)
