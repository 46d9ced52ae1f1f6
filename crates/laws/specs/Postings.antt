-- What is known of a posting. Assumes nothing.
use Rattle.std.specs.Prelude.{◌≡◌, ◌≢◌, Option, Some, true, List, ℕ, ◌<◌}
use Rattle.rules.specs.Memory.{lists, queue_size}
use Rattle.rules.specs.Notices.{head_of, token_of, enqueues}
use Rattle.laws.specs.Types.{Saved, ListIndex, Posting}

-- What a call has to post, if anything, is on one of the 64 lists.
pub record Listed (p : Option Posting) : Type 0 where
  pub low : (q : Posting) → p ≡ Some q → q.list.0 < lists

-- A list that can be posted to: "a set head, NBQR not empty, and NQR not full when enqueuing".
pub record Open (s : Saved) (receive : List ℕ) (l : ListIndex) : Type 0 where
  pub head : head_of receive l ≢ 0
  pub nbqr : s.nbqr.length ≢ 0
  pub nqr : enqueues (token_of receive l) ≡ true → s.nqr.length < queue_size
