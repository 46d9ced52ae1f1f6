-- A machine whose memories are lent to a call: by what the slices hold as it finds them, and as it leaves them. Assumes nothing.
use Rattle.std.specs.Prelude.{ℕ, List}
use Rattle.rules.specs.declared.Answer.{Answer}
use Rattle.rules.specs.declared.Saved.{Saved}
use Rattle.rules.specs.declared.Seen.{Seen}
use Rattle.rules.specs.Memory.{Machine, machine}
use Rattle.rules.specs.Replies.{Outcome, answered}

-- The machine before the call.
abbrev pub before : Saved → List ℕ → List ℕ → List ℕ → List ℕ → Machine
before s send receive bytes notices = machine s send receive bytes notices

-- The machine that is lent for reading.
abbrev pub seen : Seen → Machine
seen m = machine m.saved m.send.now m.receive.now m.bytes.now m.notices.now

-- The machine after it, with that saved state.
abbrev pub after : Saved → List ℕ → List ℕ → List ℕ → List ℕ → Machine
after s send receive bytes notices = machine s send receive bytes notices

-- What a call leaves, with what its room holds then.
abbrev pub leaves : Answer → List ℕ → List ℕ → List ℕ → List ℕ → List ℕ → Outcome
leaves r send receive bytes notices room = answered r send receive bytes notices room

-- Where it was lent one.
abbrev pub fills : Answer → List ℕ → List ℕ → List ℕ → List ℕ → List ℕ → Outcome
fills r send receive bytes notices room = leaves r send receive bytes notices room
