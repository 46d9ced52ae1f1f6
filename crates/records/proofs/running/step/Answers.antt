-- `records::running::step`: the call, and its line. Assumes nothing.
use Rattle.records.proofs.Rows.{stepped, keeps_same, keeps_then}
use Rattle.records.proofs.running.step.Goals as goal

pub returns-clause-keeps : goal.returns-clause-keeps
returns-clause-keeps c =
    let k = c.call-a.ensures.keeps in
    record { send = k.send; receive = k.receive; bytes = k.bytes; notices = k.notices }

pub returns-clause-steps : goal.returns-clause-steps
returns-clause-steps c = stepped c.call-a.result c.call-a.ensures.gives c.kind_of.ensures c.put_line.ensures.written c.put_line.ensures.upper_bound
