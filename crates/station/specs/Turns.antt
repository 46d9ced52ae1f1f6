-- What a turn of the station makes of bytes that came, and what its turns write together. Assumes nothing.
-- The reads and writes promise nothing of the system's bytes: which bytes came, and that the lines went out, no contract can say.
use Rattle.std.specs.Prelude.{ℕ, ◌+◌, ◌-◌, ◌*◌, ◌/◌, ◌%◌, ◌^◌, ◌<◌, ◌≤◌, ◌≡◌, List, [], ◌++◌, eqb, length, take, drop, replicate}
use Rattle.ground.specs.Choice.{pick}
use Rattle.ground.specs.Lists.{part}
use Rattle.rules.specs.Memory.{Machine, machine, send_size, receive_size, data_most, notices_most}
use Rattle.rules.specs.Station.{record_size, first_machine, lines_from, station}
use Rattle.records.specs.Records.{machine_after}
use Rattle.station.specs.declared.state.Station.{Station}

-- ---- the bytes at hand

-- Where the records end that are answered: the whole ones, and at the end of the input, where no byte came, "A torn last record" too.
unfoldable pub answered_to : ℕ → ℕ → ℕ
answered_to came filled = pick (eqb came 0) filled (filled / record_size * record_size)

-- The bytes of the records that are answered.
abbrev pub answered_of : ℕ → List ℕ → List ℕ
answered_of came hand = take (answered_to came (length hand)) hand

-- The bytes that wait for the rest of their record.
abbrev pub waiting_of : ℕ → List ℕ → List ℕ
waiting_of came hand = drop (answered_to came (length hand)) hand

-- The lines of an input, from a machine on.
abbrev pub lines_of : Machine → List ℕ → List ℕ
lines_of m input = lines_from (length input) m input

-- The bytes that wait stand at the end of the room's first record, so that what comes next stands behind them.
abbrev pub waiting_in : List ℕ → ℕ → List ℕ
waiting_in input kept = part (record_size - kept) kept input

-- What came stands from the second record on.
abbrev pub came_in : List ℕ → ℕ → List ℕ
came_in input n = part record_size n input

-- Both.
abbrev pub hand_in : List ℕ → ℕ → ℕ → List ℕ
hand_in input kept n = part (record_size - kept) (kept + n) input

-- Less than a record stands from one place to another.
pub record Begins (input : List ℕ) (from to : ℕ) : Type 0 where
  pub order : from ≤ to
  pub inside : to ≤ length input
  pub less : to < from + record_size
  pub first : record_size ≤ length input

-- The station's machine.
abbrev pub machine_in : Station → Machine
machine_in s = machine s.saved s.send s.receive s.bytes s.notices

-- Of the bytes at hand, so many of which came last, the records are answered, and the other bytes wait.
pub record Answers (m : Machine) (came : ℕ) (hand : List ℕ) (next : ℕ) (left : Station) : Type 0 where
  pub state : machine_in left ≡ machine_after (length (answered_of came hand)) m (answered_of came hand)
  pub lines : take next left.out ≡ lines_of m (answered_of came hand)
  pub inside : next ≤ length left.out
  pub waits : waiting_in left.input left.kept ≡ waiting_of came hand

-- ---- between two turns

-- What a turn leaves to the next: the machine, and the bytes that wait for the rest of their record.
pub record Held : Type 0 where
  pub machine : Machine
  pub waits : List ℕ

-- As the station has it.
abbrev pub held : Station → Held
held s = record { machine = machine_in s; waits = waiting_in s.input s.kept }

-- Before the first turn: the machine after the opening reset, and no byte waits.
abbrev pub opened : Held
opened = record { machine = first_machine; waits = [] }

-- Memories of zeros.
pub record Zeros (s : Station) : Type 0 where
  pub send : s.send ≡ replicate send_size 0
  pub receive : s.receive ≡ replicate receive_size 0
  pub bytes : s.bytes ≡ replicate data_most 0
  pub notices : s.notices ≡ replicate notices_most 0

-- The station has it, whatever its input's room holds.
pub record Begun (s : Station) : Type 0 where
  pub opens : (input : List ℕ) → held (record s { input = input }) ≡ opened
  pub nothing : s.kept ≡ 0
  pub none : s.count ≡ 0

-- ---- a turn

-- The records that bytes make whole, behind those that wait.
abbrev pub now_whole : Held → List ℕ → List ℕ
now_whole h came = answered_of (length came) (h.waits ++ came)

-- What bytes that came leave.
unfoldable pub gone_on : Held → List ℕ → Held
gone_on h came =
    record { machine = machine_after (length (now_whole h came)) h.machine (now_whole h came); waits = waiting_of (length came) (h.waits ++ came) }

-- The lines that they give.
unfoldable pub lines_now : Held → List ℕ → List ℕ
lines_now h came = lines_of h.machine (now_whole h came)

-- ---- all turns

-- What the reads gave, turn by turn: `none ▸ first ▸ second`.
infixl 50 ◌▸◌
pub data Reads : Type 0 where
  none : Reads
  ◌▸◌ : Reads → List ℕ → Reads

-- All that was read.
abbrev pub read : Reads → List ℕ
read none = []
read (r ▸ came) = read r ++ came

-- What the turns leave to the next.
abbrev pub after : Reads → Held
after none = opened
after (r ▸ came) = gone_on (after r) came

-- All that they write.
abbrev pub written : Reads → List ℕ
written none = []
written (r ▸ came) = written r ++ lines_now (after r) came

-- None of them met the end of the input.
abbrev pub Going : Reads → Type 0
Going none = Unit {0}
Going (r ▸ came) = Going r × (0 < length came)

-- No input has so many bytes.
abbrev pub count_most : ℕ
count_most = 2 ^ 63

-- What turns left that read so many bytes and did not meet the end of the input. By the count no byte of a begun record is dropped between
-- two turns: `InTurns.waits`.
pub record SoFar (h : Held) (count : ℕ) : Type 0 where
  pub reads : Reads
  pub going : Going reads
  pub many : length (read reads) ≡ count
  pub left : h ≡ after reads

-- What a turn asks of the station: so many bytes came into its room, and it has what the turns before left.
pub record Turnable (s : Station) (n : ℕ) : Type 0 where
  pub fits : record_size + n ≤ length s.input
  pub counts : s.count < count_most
  pub so_far : SoFar (held s) s.count

-- A turn made of what the turns before left, and of what came, just what it should; and so, whatever was read before, all that was written
-- by now is what the turns write, and at the end of the input the station's lines of all that was read. Else the next turn can go on.
pub record Turned (before : Held) (count : ℕ) (came : List ℕ) (next : ℕ) (left : Held) (count₂ : ℕ) (out : List ℕ) : Type 0 where
  pub state : left ≡ gone_on before came
  pub lines : take next out ≡ lines_now before came
  pub inside : next ≤ length out
  pub so_far : (r : Reads) → before ≡ after r → (left ≡ after (r ▸ came)) × (written r ++ take next out ≡ written (r ▸ came))
  pub whole : (r : Reads) → Going r → before ≡ after r → length came ≡ 0 → written r ++ take next out ≡ station (read r)
  pub counted : count₂ ≡ count + length came
  pub goes_on : 0 < length came → SoFar left count₂

-- However the reads cut the input: the station's lines are those written so far, and then those of what waits and comes later; once the end
-- of the input is met, they are all written; and before that, what waits is all that was read but the whole records.
pub record InTurns : Type 0 where
  pub onward : (r : Reads) → Going r → (later : List ℕ) → station (read r ++ later) ≡ written r ++ lines_of (after r).machine ((after r).waits ++ later)
  pub whole : (r : Reads) → Going r → written (r ▸ []) ≡ station (read r)
  pub waits : (r : Reads) → Going r → length (after r).waits ≡ length (read r) % record_size
