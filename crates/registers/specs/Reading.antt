-- What the steps of a read ask and give. What a read gives holds whatever the memories hold that it is not lent. Assumes nothing.
use Rattle.std.specs.Prelude.{Result, Ok, ◌≡◌, List, [], ℕ, ◌<◌, ◌≤◌, length}
use Rattle.rules.specs.declared.Answer.{Answer}
use Rattle.rules.specs.declared.Mapped.{Mapped}
use Rattle.rules.specs.declared.Reach.{Reach}
use Rattle.rules.specs.declared.Register.{Register}
use Rattle.rules.specs.declared.Saved.{Saved}
use Rattle.rules.specs.Memory.{machine, receive_size, queue_size}
use Rattle.rules.specs.Replies.{answered}
use Rattle.rules.specs.Calls.{act_read}
use Rattle.rules.specs.declared.Refusal.{Refusal}

-- ---- what is asked

-- Every register can be shown: PCSR1 fits its word, and the queues lie in Receive RAM.
pub record Showable (s : Saved) (receive : List ℕ) : Type 0 where
  pub size : length receive ≡ receive_size
  pub inthi : s.inthi ≤ 1
  pub intlo : s.intlo ≤ 1
  pub nqr : s.nqr.place < queue_size
  pub aqr : s.aqr.place < queue_size

-- A word of Receive RAM.
pub record InsideReceive (receive : List ℕ) (i : ℕ) : Type 0 where
  pub size : length receive ≡ receive_size
  pub low : i < receive_size

-- What is reached can be read; a refusal asks nothing.
pub record Readable (s : Saved) (send receive : List ℕ) (v : Result Reach Refusal) : Type 0 where
  pub itself : (x : Register) → v ≡ Ok (Reach.Itself x) → Showable s receive
  pub insend : (i : ℕ) → v ≡ Ok (Reach.InSend i) → i < length send
  pub inreceive : (i : ℕ) → v ≡ Ok (Reach.InReceive i) → InsideReceive receive i

-- ---- what is given

-- A read was carried out or refused.
pub record Reads (r : Mapped) (v : Result Reach Refusal) (s : Saved) (send receive : List ℕ) (a : Answer) : Type 0 where
  pub whole : (bytes notices : List ℕ) → answered a send receive bytes notices [] ≡ act_read (machine s send receive bytes notices) r v
