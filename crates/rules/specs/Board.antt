-- The notice board: what queues, postings and takes change of a machine, with the interrupts summed so far. Assumes nothing.
use Rattle.std.specs.Prelude.{ℕ, List}
use Rattle.rules.specs.Types.{Saved}
use Rattle.rules.specs.Memory.{Machine, machine}

-- The saved state, Receive RAM, notice memory, and the interrupts.
pub record Board : Type 0 where
  pub saved : Saved
  pub receive : List ℕ
  pub notices : List ℕ
  pub interrupts : ℕ

-- The board of its parts.
abbrev pub board : Saved → List ℕ → List ℕ → ℕ → Board
board s receive notices interrupts = record { saved = s; receive = receive; notices = notices; interrupts = interrupts }

-- With its saved state changed.
abbrev pub on_saved : (Saved → Saved) → Board → Board
on_saved f b = board (f b.saved) b.receive b.notices b.interrupts

-- With its Receive RAM changed.
abbrev pub on_receive : (List ℕ → List ℕ) → Board → Board
on_receive f b = board b.saved (f b.receive) b.notices b.interrupts

-- What a call has done: the machine it leaves, and its interrupts.
pub record Effect : Type 0 where
  pub machine : Machine
  pub interrupts : ℕ

-- A machine, and no interrupt.
abbrev pub silently : Machine → Effect
silently m = record { machine = m; interrupts = 0 }

-- A step that changes the board alone.
abbrev pub on_board : (Board → Board) → Effect → Effect
on_board f e =
    let m = e.machine in
    let b = f (board m.saved m.receive m.notices e.interrupts) in
    record { machine = machine b.saved m.send b.receive m.bytes b.notices; interrupts = b.interrupts }
