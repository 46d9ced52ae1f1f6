-- `records::running::run`: each chunk is the next record of what is left. Assumes nothing.
use Rattle.std.proofs.Common.{◌≡◌, arith, rules, ap, min, length, length-append, ◌∙◌}
use Rattle.std.specs.Slice.Iter.{chunks_rest}
use Rattle.records.specs.Records.{machine_of}
use Rattle.records.proofs.Rows.{begun, onward, ended, keeps_same, keeps_then}
use Rattle.records.proofs.running.run.Goals as goal

pub loop-record-init : goal.loop-record-init
loop-record-init c = (keeps_same _, search rules, search rules, begun _ _ _)

pub step-next-requires : goal.step-next-requires
step-next-requires c = omega (arith, c.loop-record.invariant.2, c.in-Some.ensures.steps.1.2)

pub loop-record-preserved : goal.loop-record-preserved
loop-record-preserved c =
    let inv = c.loop-record.invariant in
    let cut = c.in-Some.ensures.steps in
    let size = cut.1.1 ∙ ap (λ k. min k (length (chunks_rest c.loop-record.record-iterator))) inv.1 in (
      keeps_then inv.0 c.step-next.ensures.keeps,
      cut.0 ∙ inv.1,
      omega (arith, inv.2, size, ap length cut.1.0, length-append c.in-Some.record.now (chunks_rest c.next.new.self), c.step-next.ensures.steps.short),
      onward {m₂ = machine_of c.step-next.new.m} cut.1.2 cut.1.0 size c.step-next.ensures.steps inv.3,
    )

pub returns-clause-keeps : goal.returns-clause-keeps
returns-clause-keeps c = c.loop-record.invariant.0

pub returns-clause-runs : goal.returns-clause-runs
returns-clause-runs c =
    let inv = c.loop-record.invariant in
    let all : chunks_rest c.into_iter-record-iterator.result ≡ c.args.input.now =
    ap chunks_rest c.into_iter-record-iterator.ensures.into_iter_gives ∙ c.chunks-record-items.ensures.rest in
    let e = ended (chunks_rest c.loop-record.record-iterator) c.in-None.ensures.steps.1.0 inv.3 in
    record { state = rw all at e.0; lines = rw all at e.1; inside = omega (arith, inv.2) }
