-- `station::state::Station::read_on`: a read behind the room's first record leaves that record. Assumes nothing.
use Rattle.std.proofs.Common.{arith, rules}
use Rattle.std.proofs.lemmas.Slice.{take-put_mid_below}
use Rattle.rules.specs.Station.{record_size}
use Rattle.station.specs.Turns.{machine_in}
use Rattle.station.proofs.Turns.{still_waits}
use Rattle.station.proofs.state.Station.read_on.Goals as goal

pub returns-clause-input_unchanged : goal.returns-clause-input_unchanged
returns-clause-input_unchanged g c =
    take-put_mid_below record_size _ c.args.self.now.input _ record_size (omega arith) (search rules)

-- And so the bytes that wait.
pub returns-clause-held_unchanged : goal.returns-clause-held_unchanged
returns-clause-held_unchanged g c =
    let waits =
    still_waits c.args.self.now.input _ c.args.self.now.kept c.args.self.now.less (search rules) (search rules)
    (returns-clause-input_unchanged g c) in
    λ i. record { machine = machine_in c.args.self.now; waits = waits i }
