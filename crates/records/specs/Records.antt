-- What a record, and what a row of records, makes of a machine and of the output. Assumes nothing.
use Rattle.std.specs.Prelude.{ℕ, zero, suc, ◌+◌, ◌-◌, ◌*◌, ◌/◌, ◌%◌, ◌≤◌, ◌≡◌, List, [], ◌∷◌, ◌++◌, length, take, drop}
use Rattle.ground.specs.Lists.{part}
use Rattle.rules.specs.Memory.{Machine, machine}
use Rattle.rules.specs.Saved.{reset_saved}
use Rattle.rules.specs.Registers.{pcsr0_number}
use Rattle.rules.specs.Replies.{Outcome}
use Rattle.rules.specs.Calls.{writes, perform}
use Rattle.rules.specs.Station.{record_size, record_packet, call_of, record_line, lines_from}
use Rattle.lines.specs.Lines.{Written, line_most}
use Rattle.records.specs.declared.machine.Lent.{Lent}

-- The machine that is lent.
abbrev pub machine_of : Lent → Machine
machine_of m = machine m.saved m.send.now m.receive.now m.bytes.now m.notices.now

-- The memories are the ones that were lent.
pub record Keeps (m left : Lent) : Type 0 where
  pub send : left.send.ghost_name ≡ m.send.ghost_name
  pub receive : left.receive.ghost_name ≡ m.receive.ghost_name
  pub bytes : left.bytes.ghost_name ≡ m.bytes.ghost_name
  pub notices : left.notices.ghost_name ≡ m.notices.ghost_name

-- ---- the beginning

-- A machine is what the opening reset makes of these memories.
pub record Opens (send receive bytes notices : List ℕ) (m : Machine) : Type 0 where
  pub reset : m ≡ (perform (writes pcsr0_number 0x80000000) (machine (reset_saved 0) send receive bytes notices)).machine

-- ---- one record

-- The outcome of a record's call on a machine.
abbrev pub outcome_of : Machine → List ℕ → Outcome
outcome_of m r = perform (call_of r) m

-- Where a whole record's packet ends.
pub record PacketTo (r : List ℕ) (end : ℕ) : Type 0 where
  pub least : 16 ≤ end
  pub most : end ≤ record_size
  pub packet : part 16 (end - 16) r ≡ record_packet r

-- A record's call left what it should, whatever its room holds: the station looks at no room.
pub record Gives (m : Machine) (r : List ℕ) (leaves : List ℕ → Outcome) : Type 0 where
  pub room : List ℕ
  pub whole : leaves room ≡ outcome_of m r

-- A record's call was made and its line written.
pub record Steps (m : Machine) (r : List ℕ) (at : ℕ) (before : List ℕ) (next : ℕ) (left : Machine) (after : List ℕ) : Type 0 where
  pub state : left ≡ (outcome_of m r).machine
  pub line : Written (record_line r (outcome_of m r)) at before after next
  pub short : next ≤ at + line_most

-- ---- a row of records

-- The machine after an input of at most n records; the last record may be torn.
unfoldable pub machine_after : ℕ → Machine → List ℕ → Machine
machine_after zero m input = m
machine_after (suc n) m [] = m
machine_after (suc n) m (x ∷ xs) = machine_after n (outcome_of m (take record_size (x ∷ xs))).machine (drop record_size (x ∷ xs))

-- A buffer has room for the lines of an input.
abbrev pub Roomy : List ℕ → List ℕ → Type 0
Roomy input out = line_most * ((length input + 191) / record_size) ≤ length out

-- The calls of an input were made, and their lines written from the start of a buffer on.
pub record Runs (m : Machine) (input before : List ℕ) (next : ℕ) (left : Machine) (after : List ℕ) : Type 0 where
  pub state : left ≡ machine_after (length input) m input
  pub lines : Written (lines_from (length input) m input) 0 before after next
  pub inside : next ≤ length after

-- ---- an input in parts

-- "a line for each record" however the input comes: after whole records the rest goes on from the machine that they left.
pub record Parted : Type 0 where
  pub lines : (m : Machine) (a b : List ℕ) → length a % record_size ≡ 0
      → lines_from (length (a ++ b)) m (a ++ b) ≡ lines_from (length a) m a ++ lines_from (length b) (machine_after (length a) m a) b
  pub state : (m : Machine) (a b : List ℕ) → length a % record_size ≡ 0
      → machine_after (length (a ++ b)) m (a ++ b) ≡ machine_after (length b) (machine_after (length a) m a) b
