-- What of a machine blocks and notices live in, and what each act does to it. Assumes nothing.
use Prim.Native.Nat.{ℕ, ◌+◌, ◌/◌, ◌<◌}
use mathlib.Core.Path.{◌≡◌}
use mathlib.Core.Logic.{◌≢◌}
use mathlib.Core.Bool.{false}
use mathlib.Core.List.{List, [], ◌∷◌, ◌++◌}
use lib.ListN.{length, get_or, set, drop}
use lib.Seq.{sets}
use Rattle.rules.specs.Memory.{lists}
use Rattle.rules.specs.Notices.{block_words}
use Rattle.laws.specs.Sound.{Block}
use Rattle.demands.specs.Types.{Notice}
use Rattle.demands.specs.Runs.{Act, gives, opens, posts, gets, rests, clears}
use Rattle.demands.specs.Places.{is_bare, notice_at}
use Rattle.demands.proofs.Sums.{upd}
use Rattle.demands.proofs.Blocks.{next}

-- Notice memory, the head and the reader's place of each list, and the waiting blocks, the oldest first.
pub record View : Type 0 where
  pub words : List ℕ
  pub head : ℕ → ℕ
  pub place : ℕ → ℕ
  pub queue : List ℕ

-- A block waits.
abbrev pub given : ℕ → View → View
given b v = record { words = v.words; head = v.head; place = v.place; queue = v.queue ++ (b ∷ []) }

-- A block is the head and the reader's place of list l.
abbrev pub opened : ℕ → ℕ → View → View
opened l b v = record { words = v.words; head = upd l b v.head; place = upd l b v.place; queue = v.queue }

-- The head of list l is filled with a notice; the block q, of the waiting ones, is its next and the new head.
abbrev pub hung : ℕ → Notice → ℕ → List ℕ → View → View
hung l n q rest v = record { words = sets v.words (v.head l / 4) (block_words n q); head = upd l q v.head; place = v.place; queue = rest }

-- The reader of list l goes on; its block, with 0 for its next, waits again.
abbrev pub read_on : ℕ → View → View
read_on l v =
    let p = v.place l in
    record { words = set v.words (p / 4 + 3) 0; head = v.head; place = upd l (next v.words p) v.place; queue = v.queue ++ (p ∷ []) }

-- What an act makes of a view.
abbrev pub moved : Act → View → View
moved (gives b) v = given b.0 v
moved (opens l b) v = opened l.0 b.0 v
moved (posts l n) v = hung l.0 n (get_or v.queue 0 0) (drop 1 v.queue) v
moved (gets l n) v = read_on l.0 v
moved rests v = v
moved clears v = v

-- What the calls see to before they act so.
abbrev pub May : Act → View → Type 0
May (gives b) v = Block (length v.words) b.0 × (next v.words b.0 ≡ 0)
May (opens l b) v = Block (length v.words) b.0 × (next v.words b.0 ≡ 0) × (l.0 < lists) × (v.head l.0 ≡ 0)
May (posts l n) v = (l.0 < lists) × (v.head l.0 ≢ 0) × (0 < length v.queue)
May (gets l n) v = (l.0 < lists) × (n ≡ notice_at v.words (v.place l.0)) × (is_bare v.words (v.place l.0) ≡ false)
May rests v = Unit {0}
May clears v = ⊥
