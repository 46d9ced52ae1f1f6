-- `records::calling::call`: a torn record's call. Assumes nothing.
use Rattle.std.proofs.Common.{[]}
use Rattle.rules.specs.Calls.{perform}
use Rattle.records.proofs.Asked.{call_torn, gives}
use Rattle.records.proofs.Rows.{keeps_same}
use Rattle.records.proofs.calling.call.Goals as goal

pub returns-else-record-eq-RECORD_SIZE : goal.returns-else-record-eq-RECORD_SIZE
unfolding perform
returns-else-record-eq-RECORD_SIZE c =
    let r = c.args.«record».now in
    record { keeps = keeps_same _; gives = gives r _ [] (call_torn r c.if-record-eq-RECORD_SIZE.false) c.unknown.ensures }
