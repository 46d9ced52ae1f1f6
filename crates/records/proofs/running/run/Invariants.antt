-- `records::running::run`: a line for each record that is left has room, and what is left gives the rest. Assumes nothing.
use Rattle.std.proofs.Common.{◌≡◌, ◌+◌, ◌*◌, ◌/◌, ◌≤◌, length}
use Rattle.std.specs.Slice.Iter.{chunks_rest, chunks_size}
use Rattle.rules.specs.Station.{record_size, lines_from}
use Rattle.lines.specs.Lines.{line_most}
use Rattle.records.specs.Records.{machine_of, Keeps, machine_after}
use Rattle.records.proofs.Rows.{Left}
use Rattle.records.proofs.running.run.Given as goal

abbrev pub invariant-loop-record : goal.invariant-loop-record
invariant-loop-record l =
    let first = machine_of l.initial.m in
    let input = chunks_rest l.initial.record-iterator in
    let rest = chunks_rest l.record-iterator in
    Keeps l.initial.m l.m
    × (chunks_size l.record-iterator ≡ record_size)
    × (line_most * ((length rest + 191) / record_size) + l.next ≤ length l.out)
    × Left (machine_after (length input) first input) (lines_from (length input) first input) l.initial.out
    (machine_of l.m) rest l.next l.out
