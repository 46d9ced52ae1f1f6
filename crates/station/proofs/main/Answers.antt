-- `station::main`: what a turn asks holds, and goes on holding after it. Assumes nothing.
use Rattle.std.proofs.Common.{◌<◌, arith, length}
use Rattle.ground.proofs.Lists.{length_part}
use Rattle.rules.specs.Station.{record_size}
use Rattle.station.specs.Turns.{came_in}
use Rattle.station.proofs.Turns.{at_first}
use Rattle.station.proofs.main.Goals as goal
use Rattle.station.proofs.main.Goals.{Else-n-eq0}

some_came : (c : Else-n-eq0) → 0 < length (came_in c.read_on-n.new.self.input c.read_on-n.result)
some_came c =
    omega (arith, length_part record_size c.read_on-n.result c.read_on-n.new.self.input c.read_on-n.ensures.result_in_bounds, c.if-n-eq0.false)

pub loop-station-init : goal.loop-station-init
loop-station-init c = at_first c.begin.ensures

-- A read leaves what the turns before left.
pub turn-next-requires : goal.turn-next-requires
turn-next-requires c =
    let read = c.read_on-n.ensures in
    record {
      fits = read.result_in_bounds;
      counts = omega (arith, read.count_unchanged, c.loop-station-test.true);
      so_far = rw (read.held_unchanged, read.count_unchanged) c.loop-station.invariant;
    }

pub loop-station-smaller : goal.loop-station-smaller
loop-station-smaller c =
    omega (arith, c.turn-next.ensures.counted, some_came c, c.read_on-n.ensures.count_unchanged, c.loop-station-test.true)

-- Some bytes came, so the next turn can go on.
pub loop-station-preserved : goal.loop-station-preserved
loop-station-preserved c = c.turn-next.ensures.goes_on (some_came c)
