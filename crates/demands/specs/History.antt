-- What the history of a run says: receipts answered, blocks handed over, notices posted and taken. Assumes nothing.
use Rattle.std.specs.Prelude.{◌≡◌, ◌≢◌, ℕ, true, List, [], ◌∷◌, ◌++◌, eqb}
use Rattle.ground.specs.Choice.{pick}
use Rattle.rules.specs.Memory.{Machine}
use Rattle.rules.specs.Saved.{resets}
use Rattle.rules.specs.Registers.{pcsr0_number}
use Rattle.rules.specs.Calls.{Call, writes, reads, receives, sends, takes, unknown, perform}
use Rattle.demands.specs.Types.{ListIndex, Notice}
use Rattle.demands.specs.Runs.{Run, start, ◌▸◌, calls, outside, after, Act, gives, opens, posts, gets, rests, clears, act}

-- What the calls of a run give, in their order: f of each call and the machine that it meets.
unfoldable pub gathered : {A : Type 0} → (Call → Machine → List A) → Machine → Run → List A
gathered f m start = []
gathered f m (r ▸ calls c) = gathered f m r ++ f c (after m r)
gathered f m (r ▸ outside new) = gathered f m r

-- ---- runs after a reset

-- No call of the run is a reset that was accepted.
abbrev pub NoReset : Machine → Run → Type 0
NoReset m start = Unit {0}
NoReset m (r ▸ calls c) = NoReset m r × (act c (after m r) ≢ clears)
NoReset m (r ▸ outside new) = NoReset m r

-- The machine after PCSR0 is written.
abbrev pub begun : ℕ → Machine → Machine
begun v m = (perform (writes pcsr0_number v) m).machine

-- A run after a reset: the reset was accepted, and no call of the run is another.
pub record AfterReset (v : ℕ) (m : Machine) (r : Run) : Type 0 where
  pub asked : resets v ≡ true
  pub done : (perform (writes pcsr0_number v) m).reply ≡ 0
  pub only : NoReset (begun v m) r

-- ---- receipts

-- The reply's number, of a receipt alone.
unfoldable pub answer_of : Call → Machine → List ℕ
answer_of (writes a v) m = []
answer_of (reads a) m = []
answer_of (receives packet) m = (perform (receives packet) m).reply ∷ []
answer_of (sends ready room) m = []
answer_of (takes l room) m = []
answer_of unknown m = []

-- The answers to the receipts.
abbrev pub answers : Machine → Run → List ℕ
answers m r = gathered answer_of m r

-- ---- blocks and notices

-- The block that an act hands over.
unfoldable pub handed_by : Act → List ℕ
handed_by (gives b) = b.0 ∷ []
handed_by (opens l b) = b.0 ∷ []
handed_by (posts l n) = []
handed_by (gets l n) = []
handed_by rests = []
handed_by clears = []

-- The notice, where it is one of list k.
unfoldable pub on_list : ℕ → ListIndex → Notice → List Notice
on_list k l n = pick (eqb k l.0) (n ∷ []) []

-- The notice that an act posts on list k.
unfoldable pub posted_by : ℕ → Act → List Notice
posted_by k (gives b) = []
posted_by k (opens l b) = []
posted_by k (posts l n) = on_list k l n
posted_by k (gets l n) = []
posted_by k rests = []
posted_by k clears = []

-- The notice that an act takes from list k.
unfoldable pub taken_by : ℕ → Act → List Notice
taken_by k (gives b) = []
taken_by k (opens l b) = []
taken_by k (posts l n) = []
taken_by k (gets l n) = on_list k l n
taken_by k rests = []
taken_by k clears = []

-- The blocks handed over: the accepted writes to NBQR and to heads.
abbrev pub handed : Machine → Run → List ℕ
handed m r = gathered (λ c s. handed_by (act c s)) m r

-- The notices posted on list k.
abbrev pub posted : ℕ → Machine → Run → List Notice
posted k m r = gathered (λ c s. posted_by k (act c s)) m r

-- The notices taken from list k, as they stood in the lent rooms.
abbrev pub taken : ℕ → Machine → Run → List Notice
taken k m r = gathered (λ c s. taken_by k (act c s)) m r
