-- "Replies": their numbers and values, and all that a call gives. Assumes nothing.
use Rattle.ground.specs.Text.{ascii}
use Rattle.std.specs.Prelude.{ℕ, List, [], ◌∷◌}
use Rattle.rules.specs.Types.{Refusal, Sizes, Unsound, NoRegister, ReadOnly, Active, BadValue, Off, Short, NoPacket, Empty, Full, Quiet, Stalled, Fabric, Reply, Answer}
use Rattle.rules.specs.Memory.{Machine, machine}
use Rattle.rules.specs.Board.{Effect, silently}

-- The column "No." of the table, in its order.
abbrev pub refusal_number : Refusal → ℕ
refusal_number Sizes = 13
refusal_number Unsound = 14
refusal_number NoRegister = 2
refusal_number ReadOnly = 3
refusal_number Active = 5
refusal_number BadValue = 4
refusal_number Off = 1
refusal_number Short = 10
refusal_number NoPacket = 7
refusal_number Empty = 12
refusal_number Full = 6
refusal_number Quiet = 11
refusal_number Stalled = 8
refusal_number Fabric = 15

-- The column "Word", by number from 0 to 15.
unfoldable pub reply_words : List (List ℕ)
reply_words =
    ascii "done"
    ∷ ascii "off"
    ∷ ascii "no-register"
    ∷ ascii "read-only"
    ∷ ascii "bad-value"
    ∷ ascii "active"
    ∷ ascii "full"
    ∷ ascii "no-packet"
    ∷ ascii "stalled"
    ∷ ascii "fault"
    ∷ ascii "short"
    ∷ ascii "quiet"
    ∷ ascii "empty"
    ∷ ascii "sizes"
    ∷ ascii "unsound"
    ∷ ascii "fabric"
    ∷ []

-- A reply's number.
abbrev pub reply_number : Reply → ℕ
reply_number (Reply.Done value) = 0
reply_number (Reply.Fault status) = 9
reply_number (Reply.Refused why) = refusal_number why

-- "Value is 0 except: a read's word, a sent length, a fault's status, a taken word 0."
abbrev pub reply_value : Reply → ℕ
reply_value (Reply.Done value) = value
reply_value (Reply.Fault status) = status
reply_value (Reply.Refused why) = 0

-- All that a call gives: the reply's number and value, the interrupts, the saved state and the four memories at exit, and the room lent
-- with the call: the packet room of a send, the notice room of a take, none with the others.
pub record Outcome : Type 0 where
  pub reply : ℕ
  pub value : ℕ
  pub interrupts : ℕ
  pub machine : Machine
  pub room : List ℕ

-- The outcome of a reply and what was done.
abbrev pub outcome : Reply → Effect → List ℕ → Outcome
outcome r e room = record { reply = reply_number r; value = reply_value r; interrupts = e.interrupts; machine = e.machine; room = room }

-- The outcome of the code's answer, with what the lent memories and the room hold at exit.
abbrev pub answered : Answer → List ℕ → List ℕ → List ℕ → List ℕ → List ℕ → Outcome
answered a send receive bytes notices room =
    outcome a.reply (record { machine = machine a.saved send receive bytes notices; interrupts = a.interrupts }) room

-- "Every reply but done and fault is a refusal": value 0, interrupts "0 on a refusal", over the machine and the room that it leaves.
abbrev pub refused : Refusal → Machine → List ℕ → Outcome
refused why m room = outcome (Reply.Refused why) (silently m) room
