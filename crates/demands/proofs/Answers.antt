-- How each call answers: it is carried out, it is refused on the machine as it is, or its descriptor waits. Assumes nothing.
use mathlib.Core.Path.{◌≡◌, refl}
use Rattle.std.specs.Prelude.{Some, Result, Ok, Err, ℕ, List, [], length}
use Rattle.rules.specs.Memory.{Machine, with_send}
use Rattle.rules.specs.Registers.{decode}
use Rattle.rules.specs.Sending.{next_sender, mark_stalled}
use Rattle.rules.specs.Receipt.{received}
use Rattle.rules.specs.Replies.{Outcome, outcome, refusal_number, refused}
use Rattle.rules.specs.Calls.{Call, writes, reads, receives, sends, takes, unknown, perform, why_unknown, receipt_reply, unknown_call, judge_read, read_done, act_read, read_call, judge_write, write_done, act_write, write_call, judge_receive, act_receive, receive_call, judge_send, act_send, send_call, judge_take, act_take, take_call}
use Rattle.laws.specs.Verdicts.{Refuses, OfRead, OfReceive, OfSend, OfTake}
use Rattle.laws.specs.Writing.{OfWrite}
use Rattle.laws.proofs.Verdicts.{of_unknown, of_receive, of_send, of_take}
use Rattle.laws.proofs.Reading.{of_read}
use Rattle.laws.proofs.Writing.{of_write}
use Rattle.demands.specs.Types.{DescriptorIndex, Refusal, NoRegister, Fabric, Mapped, Reach, Writing, Packet, Receipt, Receiving, Sending, Taking}
use Rattle.demands.specs.Demands.{room_of}

-- By what it gives, on this machine with this room.
pub data Answered (m : Machine) (room : List ℕ) (o : Outcome) : Type 0 where
  done : o.reply ≡ 0 → Answered m room o
  fault : o.reply ≡ 9 → Answered m room o
  refusal : (why : Refusal) → Refuses m (refusal_number why) → o ≡ refused why m room → Answered m room o
  waits : (d : DescriptorIndex) → next_sender m.saved m.send m.receive ≡ Some d → o ≡ refused Fabric (with_send (mark_stalled m.send d) m) room
      → Answered m room o

-- Each call, by its verdict.
read_answered : (m : Machine) (r : Mapped) (x : Result Reach Refusal) → OfRead m x → Answered m [] (act_read m r x)
unfolding act_read read_done
read_answered m r (Err why) h = refusal why h refl
read_answered m r (Ok (Reach.Itself x)) h = done refl
read_answered m r (Ok (Reach.InSend i)) h = done refl
read_answered m r (Ok (Reach.InReceive i)) h = done refl

write_answered : (m : Machine) (r : Mapped) (v : ℕ) (w : Result Writing Refusal) → OfWrite m v w → Answered m [] (act_write m r v w)
unfolding act_write write_done
write_answered m r v (Err why) h = refusal why h refl
write_answered m r v (Ok Writing.Reset) h = done refl
write_answered m r v (Ok (Writing.Sets n)) h = done refl
write_answered m r v (Ok (Writing.Gives b)) h = done refl
write_answered m r v (Ok (Writing.StoresSend w)) h = done refl
write_answered m r v (Ok (Writing.StoresReceive w)) h = done refl

-- By what the packet comes to.
receipt_answered : (m : Machine) (packet : List ℕ) (p : Packet) (r : Receipt) → Answered m [] (outcome (receipt_reply r) (received packet p r m) [])
receipt_answered m packet p (Receipt.Fails f) = fault refl
receipt_answered m packet p (Receipt.Acks i v) = done refl
receipt_answered m packet p (Receipt.Lands i v) = done refl

receive_answered : (m : Machine) (packet : List ℕ) (r : Result Receiving Refusal) → OfReceive m packet r → Answered m [] (act_receive m packet r)
unfolding act_receive
receive_answered m packet (Err why) h = refusal why h refl
receive_answered m packet (Ok v) h = receipt_answered m packet v.packet v.receipt

send_answered : (m : Machine) (room : List ℕ) (s : Result Sending Refusal) → OfSend m (length room) s → Answered m room (act_send m room s)
unfolding act_send
send_answered m room (Err why) h = refusal why h refl
send_answered m room (Ok (Sending.Sends d)) h = done refl
send_answered m room (Ok (Sending.Waits d)) h = waits d h.first refl

take_answered : (m : Machine) (room : List ℕ) (t : Result Taking Refusal) → OfTake m (length room) t → Answered m room (act_take m room t)
unfolding act_take
take_answered m room (Err why) h = refusal why h refl
take_answered m room (Ok t) h = done refl

-- Any call.
pub answered : (c : Call) (m : Machine) → Answered m (room_of c) (perform c m)
unfolding perform read_call write_call receive_call send_call take_call unknown_call
answered (writes a v) m = write_answered m (decode a) v (judge_write m a v) (of_write m a v)
answered (reads a) m = read_answered m (decode a) (judge_read m (decode a)) (of_read m a)
answered (receives packet) m = receive_answered m packet (judge_receive m packet) (of_receive m packet)
answered (sends ready room) m = send_answered m room (judge_send m ready (length room)) (of_send m ready (length room))
answered (takes l room) m = take_answered m room (judge_take m l (length room)) (of_take m l (length room))
answered unknown m = refusal (why_unknown m) (of_unknown m) refl
