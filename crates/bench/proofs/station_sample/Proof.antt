-- `bench::station_sample` meets its contract: the sample's lines compute. Assumes nothing.
use mathlib.Core.Path.{refl}
use Rattle.rules.specs.Opened.{every_rule}
use Rattle.bench.proofs.station_sample.Statement.{statement}
use Rattle.bench.proofs.station_sample.Tie as tie

returns : tie.Need-returns
unfolding every_rule
returns c = record { five_records = refl; torn_record = refl }

pub station_sample_spec : {M : Type 1} → statement M
station_sample_spec = tie.close (tie.spec returns)
