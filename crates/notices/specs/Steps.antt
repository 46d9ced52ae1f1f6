-- What the steps of postings and takes ask and give. What a step gives holds whatever the memories hold that it is not lent, and whatever
-- was summed of the interrupts before it. Assumes nothing.
use Rattle.std.specs.Prelude.{Some, Ok, Option, Result, ◌≡◌, true, List, ℕ, ◌+◌, ◌<◌, ◌≤◌, length}
use Rattle.rules.specs.declared.Queue.{Queue}
use Rattle.rules.specs.declared.Saved.{Saved}
use Rattle.rules.specs.declared.ListIndex.{ListIndex}
use Rattle.rules.specs.declared.BlockAddress.{BlockAddress}
use Rattle.rules.specs.declared.Notice.{Notice}
use Rattle.rules.specs.declared.Posting.{Posting}
use Rattle.rules.specs.declared.Answer.{Answer}
use Rattle.rules.specs.declared.Taking.{Taking}
use Rattle.rules.specs.Memory.{machine, receive_size, lists, queue_size, block_size, block, block_first}
use Rattle.rules.specs.Queues.{pushed, pushed_word}
use Rattle.rules.specs.Board.{Board, board}
use Rattle.rules.specs.Notices.{head_of, token_of, enqueues, bit_after, interrupt_of, push_nbqr, take_block}
use Rattle.rules.specs.Replies.{answered}
use Rattle.rules.specs.Calls.{act_take}
use Rattle.notices.specs.declared.posting.Pushed.{Pushed}
use Rattle.notices.specs.declared.Step.{Step}
use Rattle.rules.specs.declared.Refusal.{Refusal}

-- ---- queues

-- A queue takes one entry more.
pub record Pushable (q : Queue) (receive : List ℕ) : Type 0 where
  pub size : length receive ≡ receive_size
  pub place : q.place < queue_size
  pub room : q.length < queue_size

-- A block went on NBQR.
pub record Returns (b : BlockAddress) (s : Saved) (receive : List ℕ) (s₂ : Saved) (receive₂ : List ℕ) : Type 0 where
  pub whole : (notices : List ℕ) (sum : ℕ) → board s₂ receive₂ notices sum ≡ push_nbqr b (board s receive notices sum)

-- A word went on a queue that interrupts.
pub record Pushes (from number : ℕ) (q : Queue) (old word : ℕ) (receive : List ℕ) (r : Pushed) (receive₂ : List ℕ) : Type 0 where
  pub queue : r.queue ≡ pushed q
  pub bit : r.bit ≡ bit_after q old
  pub interrupt : r.interrupt ≡ interrupt_of number q old
  pub most : r.interrupt ≤ number
  pub words : receive₂ ≡ pushed_word from q word receive

-- ---- postings

-- A step of the board that leaves notice memory, and how high its interrupts are at most.
pub record Does (f : Board → Board) (most : ℕ) (s : Saved) (receive : List ℕ) (r : Step) (receive₂ : List ℕ) : Type 0 where
  pub whole : (notices : List ℕ) (sum : ℕ) → board r.saved receive₂ notices (sum + r.interrupts) ≡ f (board s receive notices sum)
  pub small : r.interrupts ≤ most

-- A step of the board.
pub record Posts (f : Board → Board) (most : ℕ) (s : Saved) (receive notices : List ℕ) (r : Step) (receive₂ notices₂ : List ℕ) : Type 0 where
  pub whole : (sum : ℕ) → board r.saved receive₂ notices₂ (sum + r.interrupts) ≡ f (board s receive notices sum)
  pub small : r.interrupts ≤ most

-- A token word can be acted on: NQR has room where it enqueues.
pub record Enqueues (w : ℕ) (s : Saved) (receive : List ℕ) : Type 0 where
  pub size : length receive ≡ receive_size
  pub place : s.nqr.place < queue_size
  pub room : enqueues w ≡ true → s.nqr.length < queue_size

-- A list can be posted to: its head is a block, and NQR has room where it enqueues.
pub record Postable (s : Saved) (receive : List ℕ) (n : ℕ) (l : ListIndex) : Type 0 where
  pub size : length receive ≡ receive_size
  pub low : l.0 < lists
  pub head : block_first (block (head_of receive l)) + block_size ≤ n
  pub nbqr : s.nbqr.place < queue_size
  pub nqr : s.nqr.place < queue_size
  pub room : enqueues (token_of receive l) ≡ true → s.nqr.length < queue_size

-- What a call has to post, if anything, can be posted.
pub record PostableAll (s : Saved) (receive : List ℕ) (n : ℕ) (p : Option Posting) : Type 0 where
  pub on : (q : Posting) → p ≡ Some q → Postable s receive n q.list

-- ---- the take

-- A block of a list can be taken.
pub record Takeable (s : Saved) (receive : List ℕ) (n : ℕ) (l : ListIndex) (b : BlockAddress) : Type 0 where
  pub low : l.0 < lists
  pub inside : block_first b + block_size ≤ n
  pub push : Pushable s.nbqr receive

-- A take into a room of so many words can be acted on; a refusal asks nothing.
pub record TakeableTo (t : Result Taking Refusal) (s : Saved) (receive : List ℕ) (n words : ℕ) : Type 0 where
  pub block : (x : Taking) → t ≡ Ok x → Takeable s receive n x.list x.block
  pub room : (x : Taking) → t ≡ Ok x → block_size ≤ words

-- A block was taken off its list.
pub record Takes (t : Taking) (s : Saved) (receive notices : List ℕ) (s₂ : Saved) (receive₂ notices₂ : List ℕ) : Type 0 where
  pub whole : (sum : ℕ) → board s₂ receive₂ notices₂ sum ≡ take_block t.list t.block t.next (board s receive notices sum)

-- A take was carried out or refused.
pub record Acts (t : Result Taking Refusal) (s : Saved) (receive notices room : List ℕ) (r : Answer) (receive₂ notices₂ room₂ : List ℕ) : Type 0 where
  pub whole : (send bytes : List ℕ) → answered r send receive₂ bytes notices₂ room₂ ≡ act_take (machine s send receive bytes notices) room t
