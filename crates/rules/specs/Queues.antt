-- The three queues: one push and one removal for NQR, AQR and NBQR. Each is told by the word from which its entries stand. Assumes nothing.
use Rattle.ground.specs.Choice.{pick}
use Rattle.std.specs.Prelude.{ℕ, ◌+◌, ◌-◌, ◌%◌, Bool, List, eqb, ltb, get_or, set}
use Rattle.rules.specs.Types.{Queue}
use Rattle.rules.specs.Memory.{queue_size}

-- "A queue's entries stand from its place on, going round after 255": where entry k stands.
abbrev pub entry_word : ℕ → Queue → ℕ → ℕ
entry_word from q k = from + (q.place + k) % queue_size

-- Nothing waits.
abbrev pub is_empty : Queue → Bool
is_empty q = eqb q.length 0

-- There is room for one entry more.
abbrev pub has_room : Queue → Bool
has_room q = ltb q.length queue_size

-- One entry more: the queue.
abbrev pub pushed : Queue → Queue
pushed q = record { place = q.place; length = q.length + 1 }

-- Receive RAM after that.
abbrev pub pushed_word : ℕ → Queue → ℕ → List ℕ → List ℕ
pushed_word from q w receive = set receive (entry_word from q q.length) w

-- "the oldest entry; an empty queue reads 0".
unfoldable pub oldest : ℕ → Queue → List ℕ → ℕ
oldest from q receive = pick (is_empty q) 0 (get_or receive (from + q.place) 0)

-- The queue without it; "a removed entry's word stays".
unfoldable pub removed : Queue → Queue
removed q = pick (is_empty q) q (record { place = (q.place + 1) % queue_size; length = q.length - 1 })
