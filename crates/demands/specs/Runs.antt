-- Runs of calls, and what each call does to blocks and notices, by its own verdict. Assumes nothing.
use Rattle.ground.specs.Choice.{pick}
use Rattle.std.specs.Prelude.{Option, Some, None, Result, Ok, Err, ℕ, List, eqb, length, get_or}
use Rattle.rules.specs.Memory.{Machine, with_bytes, metadata_at}
use Rattle.rules.specs.Receipt.{receipt_posting}
use Rattle.rules.specs.Sending.{descriptor_at, send_posting}
use Rattle.rules.specs.Calls.{Call, writes, reads, receives, sends, takes, unknown, perform, judge_write, judge_receive, judge_send, judge_take}
use Rattle.demands.specs.Types.{ListIndex, BlockAddress, Notice, Posting, ReceiveStore, Writing, Receiving, Sending, Taking}
use Rattle.rules.specs.declared.Refusal.{Refusal}

-- ---- runs

-- What happens: a call, or data memory written from outside.
pub data Event : Type 0 where
  calls : Call → Event
  outside : List ℕ → Event

-- Events in their order, `start ▸ e₁ ▸ e₂`.
infixl 50 ◌▸◌
pub data Run : Type 0 where
  start : Run
  ◌▸◌ : Run → Event → Run

-- "at each moment": it holds of each beginning of the run.
abbrev pub AtEachMoment : (Run → Type 0) → Run → Type 0
AtEachMoment P start = P start
AtEachMoment P (r ▸ e) = AtEachMoment P r × P (r ▸ e)

-- Data memory written from outside keeps its length.
unfoldable pub rewritten : List ℕ → List ℕ → List ℕ
rewritten new old = pick (eqb (length new) (length old)) new old

-- The machine after an event.
unfoldable pub after_event : Machine → Event → Machine
after_event m (calls c) = (perform c m).machine
after_event m (outside new) = with_bytes (rewritten new m.bytes) m

-- The machine after a run: each call meets what the one before left.
unfoldable pub after : Machine → Run → Machine
after m start = m
after m (r ▸ e) = after_event (after m r) e

-- ---- what a call does

-- It hands a block over, to NBQR or as a list's head; it posts a notice on a list; it takes a notice from a list; nothing of that; it is a
-- reset that was accepted.
pub data Act : Type 0 where
  gives : BlockAddress → Act
  opens : ListIndex → BlockAddress → Act
  posts : ListIndex → Notice → Act
  gets : ListIndex → Notice → Act
  rests : Act
  clears : Act

-- A store in Receive RAM: an accepted write to a list's head hands its block over.
unfoldable pub store_act : ReceiveStore → Act
store_act (ReceiveStore.SlotWord i k) = rests
store_act (ReceiveStore.SlotWord2 i) = rests
store_act (ReceiveStore.FirstBlock l b) = opens l b
store_act (ReceiveStore.ListToken l) = rests

-- A write.
unfoldable pub writing_act : Result Writing Refusal → Act
writing_act (Err why) = rests
writing_act (Ok Writing.Reset) = clears
writing_act (Ok (Writing.Sets n)) = rests
writing_act (Ok (Writing.Gives b)) = gives b
writing_act (Ok (Writing.StoresSend w)) = rests
writing_act (Ok (Writing.StoresReceive w)) = store_act w

-- What a receipt or a send has to post.
unfoldable pub posting_act : Option Posting → Act
posting_act None = rests
posting_act (Some p) = posts p.list p.notice

-- A receipt.
unfoldable pub receiving_act : Result Receiving Refusal → Act
receiving_act (Err why) = rests
receiving_act (Ok v) = posting_act (receipt_posting v.packet v.receipt)

-- A send.
unfoldable pub sending_act : Machine → Result Sending Refusal → Act
sending_act m (Err why) = rests
sending_act m (Ok (Sending.Sends d)) = posting_act (send_posting (descriptor_at m.send d))
sending_act m (Ok (Sending.Waits d)) = rests

-- The notice in eight words.
abbrev pub notice_in : List ℕ → Notice
notice_in ws = record { word0 = get_or ws 0 0; word1 = get_or ws 1 0; word2 = get_or ws 2 0; metadata = metadata_at ws 4 }

-- A take, with what the lent room then holds.
unfoldable pub taking_act : List ℕ → Result Taking Refusal → Act
taking_act room (Err why) = rests
taking_act room (Ok t) = gets t.list (notice_in room)

-- Any call, by the verdict that it acts on.
unfoldable pub act : Call → Machine → Act
act (writes a v) m = writing_act (judge_write m a v)
act (reads a) m = rests
act (receives packet) m = receiving_act (judge_receive m packet)
act (sends ready room) m = sending_act m (judge_send m ready (length room))
act (takes l room) m = taking_act (perform (takes l room) m).room (judge_take m l (length room))
act unknown m = rests
