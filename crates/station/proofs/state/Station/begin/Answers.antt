-- `station::state::Station::begin`: the opening reset over memories of zeros. Assumes nothing.
use Rattle.std.proofs.Common.{refl}
use Rattle.station.proofs.Turns.{begun_in}
use Rattle.station.proofs.state.Station.begin.Goals as goal

pub returns : goal.returns
returns c = begun_in c.requires c.open-self.ensures refl refl
