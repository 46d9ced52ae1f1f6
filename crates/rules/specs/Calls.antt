-- The five calls and the unknown one: each is judged, refusals in the order of the reply table ("Order as listed"), and then acts. Assumes nothing.
use Rattle.ground.specs.Choice.{pick, need}
use Rattle.ground.specs.Lists.{part, over}
use Rattle.std.specs.Prelude.{ℕ, Option, Some, None, Result, Ok, Err, Bool, not, ◌&&◌, ◌||◌, List, [], eqb, ltb, leb, length, get_or}
use Rattle.rules.specs.Types.{BlockAddress, DescriptorIndex, Refusal, Sizes, Unsound, NoRegister, BadValue, Off, Short, NoPacket, Empty, Full, Quiet, Stalled, Fabric}
use Rattle.rules.specs.Types.{Reply, Mapped, Reach, Shown, Writing, Receipt, Receiving, Sending, Taking}
use Rattle.rules.specs.Memory.{Machine, with_saved, with_send, with_receive, lists, list, block, block_size, block_first, is_block, next_of}
use Rattle.rules.specs.Saved.{with_last_sender, resets, enables, own_node}
use Rattle.rules.specs.Queues.{has_room}
use Rattle.rules.specs.Registers.{pcsr0_number, decode, reach, stepped, shows, shown_itself}
use Rattle.rules.specs.Writes.{judge_reached, number_set, send_stored, receive_stored, reset}
use Rattle.rules.specs.Sending.{descriptor_at, store_descriptor, send_posting, next_sender, none_active, next_packet, after_packet, mark_stalled}
use Rattle.rules.specs.Packet.{packet_most, is_packet, packet_of}
use Rattle.rules.specs.Receipt.{fault_status, receipt_of, has_room_for, received}
use Rattle.rules.specs.Board.{Effect, silently, on_board}
use Rattle.rules.specs.Notices.{place_of, push_nbqr, post_all, take_block}
use Rattle.rules.specs.Sound.{is_sized, is_sound}
use Rattle.rules.specs.Replies.{Outcome, outcome, refused}

-- The rows sizes and unsound, which stand before every call's own (a write has them with its exception).
unfoldable pub gate : {A : Type 0} → Machine → Result A Refusal → Result A Refusal
gate m rest = need (is_sized m) (Err Sizes) (need (is_sound m) (Err Unsound) rest)

-- ---- an unknown call

-- sizes, unsound, no-register: "unknown call".
unfoldable pub why_unknown : Machine → Refusal
why_unknown m = need (is_sized m) Sizes (need (is_sound m) Unsound NoRegister)

-- It is nothing but that refusal.
unfoldable pub unknown_call : Machine → Outcome
unknown_call m = refused (why_unknown m) m []

-- ---- read

-- sizes, unsound, no-register.
unfoldable pub judge_read : Machine → Mapped → Result Reach Refusal
judge_read m r = gate m (reach m.saved r)

-- The value is "a read's word".
unfoldable pub read_done : Machine → Mapped → Shown → Outcome
read_done m r w = outcome (Reply.Done w.word) (silently (with_saved (stepped r w.saved) m)) []

-- By what is reached.
unfoldable pub act_read : Machine → Mapped → Result Reach Refusal → Outcome
act_read m r (Err why) = refused why m []
act_read m r (Ok (Reach.Itself x)) = read_done m r (shown_itself m.saved m.receive x)
act_read m r (Ok (Reach.InSend i)) = read_done m r (shows m.saved (get_or m.send i 0))
act_read m r (Ok (Reach.InReceive i)) = read_done m r (shows m.saved (get_or m.receive i 0))

-- A read of register number a.
unfoldable pub read_call : Machine → ℕ → Outcome
read_call m a = act_read m (decode a) (judge_read m (decode a))

-- ---- write

-- "A PCSR0 write with reset".
unfoldable pub is_reset : ℕ → ℕ → Bool
is_reset a v = eqb a pcsr0_number && resets v

-- sizes; unsound, where "A PCSR0 write with reset skips 14"; then no-register, and what the word takes.
unfoldable pub judge_write : Machine → ℕ → ℕ → Result Writing Refusal
judge_write m a v =
    need (is_sized m) (Err Sizes)
    (need (is_reset a v || is_sound m) (Err Unsound)
    (judge_reached m (reach m.saved (decode a)) v))

-- A write that was carried out.
unfoldable pub write_done : Mapped → Machine → Outcome
write_done r m = outcome (Reply.Done 0) (silently (with_saved (stepped r m.saved) m)) []

-- By what it does.
unfoldable pub act_write : Machine → Mapped → ℕ → Result Writing Refusal → Outcome
act_write m r v (Err why) = refused why m []
act_write m r v (Ok Writing.Reset) = write_done r (reset v m)
act_write m r v (Ok (Writing.Sets n)) = write_done r (with_saved (number_set n v m.saved) m)
act_write m r v (Ok (Writing.Gives b)) = write_done r (on_board (push_nbqr b) (silently m)).machine
act_write m r v (Ok (Writing.StoresSend w)) = write_done r (with_send (send_stored w v m.send) m)
act_write m r v (Ok (Writing.StoresReceive w)) = write_done r (with_receive (receive_stored w v m.receive) m)

-- A write of v to register number a.
unfoldable pub write_call : Machine → ℕ → ℕ → Outcome
write_call m a v = act_write m (decode a) v (judge_write m a v)

-- ---- receive

-- What a packet comes to by the table of steps.
abbrev pub receipt : Machine → List ℕ → Receipt
receipt m packet = receipt_of m.saved m.receive (length m.bytes) packet

-- sizes, unsound, off, no-packet, stalled; then the packet as it is read, and what the table says, a fault too.
unfoldable pub judge_receive : Machine → List ℕ → Result Receiving Refusal
judge_receive m packet =
    gate m
    (need (enables m.saved.pcsr0) (Err Off)
    (need (is_packet packet) (Err NoPacket)
    (need (has_room_for m.saved m.receive (packet_of packet) (receipt m packet)) (Err Stalled)
    (Ok (record { packet = packet_of packet; receipt = receipt m packet })))))

-- fault: "fault notice posted"; the value is "a fault's status".
abbrev pub receipt_reply : Receipt → Reply
receipt_reply (Receipt.Fails f) = Reply.Fault (fault_status f)
receipt_reply (Receipt.Acks i v) = Reply.Done 0
receipt_reply (Receipt.Lands i v) = Reply.Done 0

-- By what it does.
unfoldable pub act_receive : Machine → List ℕ → Result Receiving Refusal → Outcome
act_receive m packet (Err why) = refused why m []
act_receive m packet (Ok v) = outcome (receipt_reply v.receipt) (received packet v.packet v.receipt m) []

-- A receipt of a packet.
unfoldable pub receive_call : Machine → List ℕ → Outcome
receive_call m packet = act_receive m packet (judge_receive m packet)

-- ---- send

-- stalled: "send: none ready"; "fabric not ready".
unfoldable pub sending_of : Bool → Option DescriptorIndex → Result Sending Refusal
sending_of ready None = Err Stalled
sending_of ready (Some d) = pick ready (Ok (Sending.Sends d)) (Ok (Sending.Waits d))

-- sizes, unsound, off, short ("packet room below 168 bytes"), quiet ("none active"), stalled, fabric.
unfoldable pub judge_send : Machine → Bool → ℕ → Result Sending Refusal
judge_send m ready room =
    gate m
    (need (enables m.saved.pcsr0) (Err Off)
    (need (leb packet_most room) (Err Short)
    (need (not (none_active m.send)) (Err Quiet)
    (sending_of ready (next_sender m.saved m.send m.receive)))))

-- The packet that a descriptor sends now.
unfoldable pub packet_from : Machine → DescriptorIndex → List ℕ
packet_from m i = next_packet (own_node m.saved.pcsr0) (descriptor_at m.send i) m.send m.bytes

-- The descriptor moves on, it is the last sender, and its notice is posted.
unfoldable pub sent : DescriptorIndex → Machine → Effect
sent i m =
    let d = descriptor_at m.send i in
    let moved = with_saved (with_last_sender i.0 m.saved) (with_send (store_descriptor m.send i (after_packet d)) m) in
    on_board (post_all (send_posting d)) (silently moved)

-- By what it does: the value is "a sent length"; "Bytes past a sent packet stay"; fabric: "stalled set on the chosen descriptor, no more".
unfoldable pub act_send : Machine → List ℕ → Result Sending Refusal → Outcome
act_send m room (Err why) = refused why m room
act_send m room (Ok (Sending.Sends i)) = outcome (Reply.Done (length (packet_from m i))) (sent i m) (over (packet_from m i) room)
act_send m room (Ok (Sending.Waits i)) = refused Fabric (with_send (mark_stalled m.send i) m) room

-- A send, with the fabric ready or not, into a packet room.
unfoldable pub send_call : Machine → Bool → List ℕ → Outcome
send_call m ready room = act_send m room (judge_send m ready (length room))

-- ---- take

-- sizes, unsound, bad-value ("list 64 or more"), short ("notice room below 8 words"), empty ("place 0 or next 0"), full; "A take whose next is
-- neither 0 nor a block address is 14 in place of full."
unfoldable pub judge_take : Machine → ℕ → ℕ → Result Taking Refusal
judge_take m l room =
    gate m
    (need (ltb l lists) (Err BadValue)
    (need (leb block_size room) (Err Short)
    (let place = place_of m.receive (list l) in
    need (not (eqb place 0)) (Err Empty)
    (let next = next_of m.notices (block place) in
    need (not (eqb next 0)) (Err Empty)
    (need (is_block (length m.notices) next) (Err Unsound)
    (need (has_room m.saved.nbqr) (Err Full)
    (Ok (record { list = list l; block = block place; next = block next }))))))))

-- The eight words of a block.
abbrev pub words_of : List ℕ → BlockAddress → List ℕ
words_of notices b = part (block_first b) block_size notices

-- By what it does: "copies the reader's block to 8 lent words"; the value is "a taken word 0".
unfoldable pub act_take : Machine → List ℕ → Result Taking Refusal → Outcome
act_take m room (Err why) = refused why m room
act_take m room (Ok t) =
    outcome
    (Reply.Done (get_or m.notices (block_first t.block) 0))
    (on_board (take_block t.list t.block t.next) (silently m))
    (over (words_of m.notices t.block) room)

-- A take from the list with number l, into a notice room.
unfoldable pub take_call : Machine → ℕ → List ℕ → Outcome
take_call m l room = act_take m room (judge_take m l (length room))

-- ---- any call

-- A call with what it is given: register and value, register, packet, fabric ready and packet room, list and notice room.
pub data Call : Type 0 where
  writes : ℕ → ℕ → Call
  reads : ℕ → Call
  receives : List ℕ → Call
  sends : Bool → List ℕ → Call
  takes : ℕ → List ℕ → Call
  unknown : Call

-- What a call gives.
unfoldable pub perform : Call → Machine → Outcome
perform (writes a v) m = write_call m a v
perform (reads a) m = read_call m a
perform (receives packet) m = receive_call m packet
perform (sends ready room) m = send_call m ready room
perform (takes l room) m = take_call m l room
perform unknown m = unknown_call m
