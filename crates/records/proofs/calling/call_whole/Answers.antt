-- `records::calling::call_whole`: by its kind. Assumes nothing.
use Rattle.std.proofs.Common.{[], arith, refl}
use Rattle.rules.specs.Calls.{perform}
use Rattle.records.proofs.Asked.{call_write, call_read, call_receive, call_send, call_take, call_unknown, gives}
use Rattle.records.proofs.calling.call_whole.Goals as goal

pub returns-in-1 : goal.returns-in-1
unfolding perform
returns-in-1 c = let r = c.args.«record».now in record { keeps = record { send = refl; receive = refl; bytes = refl; notices = refl }; gives = gives r _ [] (call_write r c.requires c.in-1.is) (rw (c.get-first.ensures, c.get.ensures) at c.write.ensures) }

pub returns-in-2 : goal.returns-in-2
unfolding perform
returns-in-2 c = let r = c.args.«record».now in record { keeps = record { send = refl; receive = refl; bytes = refl; notices = refl }; gives = gives r _ [] (call_read r c.requires c.in-2.is) (rw c.get-first.ensures at c.read.ensures) }

pub returns-in-3 : goal.returns-in-3
unfolding perform
returns-in-3 c = let r = c.args.«record».now in record { keeps = record { send = refl; receive = refl; bytes = refl; notices = refl }; gives = gives r _ [] (call_receive r c.requires c.in-3.is) (rw c.packet_end-end.ensures.packet at c.receive.ensures) }

pub returns-in-4 : goal.returns-in-4
unfolding perform
returns-in-4 c = let r = c.args.«record».now in record { keeps = record { send = refl; receive = refl; bytes = refl; notices = refl }; gives = gives r _ _ (call_send r c.requires c.in-4.is) (rw c.get-first.ensures at c.send.ensures) }

pub returns-in-5 : goal.returns-in-5
unfolding perform
returns-in-5 c = let r = c.args.«record».now in record { keeps = record { send = refl; receive = refl; bytes = refl; notices = refl }; gives = gives r _ _ (call_take r c.requires c.in-5.is) (rw c.get-first.ensures at c.take.ensures) }

pub returns-in_default : goal.returns-in_default
unfolding perform
returns-in_default c =
    let r = c.args.«record».now in
    record {
      keeps = record { send = refl; receive = refl; bytes = refl; notices = refl };
      gives = gives r _ [] (call_unknown r c.requires (omega arith) (omega arith) (omega arith) (omega arith) (omega arith)) c.unknown.ensures;
    }
