-- Heads, reader's places, waiting blocks and nexts are block addresses, whatever is handed over: each act keeps that. Assumes nothing.
use Prim.Native.Nat.{ℕ, ◌+◌, ◌/◌, ◌<◌}
use mathlib.Core.Path.{◌≡◌, ◌∙◌}
use mathlib.Core.Logic.{inl, inr}
use mathlib.Core.List.{List, [], ◌∷◌, ◌++◌}
use native.Mathlib.Omega.{arith}
use native.Mathlib.Decide.{dec_lt}
use lib.Dec.{eqb}
use lib.ListN.{length, get_or, length-append, length-drop, length-set, get_or-append}
use lib.Seq.{length-sets, get_or-append_seam, get_or-drop, get_or-set_same}
use borrow.Author.Tests.{eqb-false}
use Rattle.ground.proofs.Tests.{or_neither}
use Rattle.rules.specs.Memory.{lists}
use Rattle.rules.specs.Notices.{block_words}
use Rattle.laws.specs.Sound.{Block}
use Rattle.demands.specs.Runs.{Act, gives, opens, posts, gets, rests, clears}
use Rattle.demands.proofs.Sums.{upd, upd_same, upd_other, at_each}
use Rattle.demands.proofs.Blocks.{next, Only, only_sets, next_only, filled_next}
use Rattle.demands.proofs.Chain.{Tip, tip_block}
use Rattle.demands.proofs.View.{View, moved, May}

-- Of a view with n words of notice memory.
pub record Sane (n : ℕ) (v : View) : Type 0 where
  pub size : length v.words ≡ n
  pub head : (k : ℕ) → k < lists → Tip n (v.head k)
  pub place : (k : ℕ) → k < lists → Tip n (v.place k)
  pub queue : (k : ℕ) → k < length v.queue → Block n (get_or v.queue k 0)
  pub next : (b : ℕ) → Block n b → Tip n (next v.words b)

-- Blocks, and one more.
more : (n : ℕ) (q : List ℕ) (b : ℕ) → ((k : ℕ) → k < length q → Block n (get_or q k 0)) → Block n b
    → (k : ℕ) → k < length (q ++ (b ∷ [])) → Block n (get_or (q ++ (b ∷ [])) k 0)
more n q b h e k lt = go (dec_lt k (length q))
  where
    go : Dec (k < length q) → Block n (get_or (q ++ (b ∷ [])) k 0)
    go (yes inside) = rw (get_or-append q (b ∷ []) 0 k inside) (h k inside)
    go (no past) =
        let z : k ≡ length q = omega (arith, lt, length-append q (b ∷ [])) in
        rw (z, get_or-append_seam q b [] 0) e

-- One of the lists gets a block.
one : (n l x : ℕ) (f : ℕ → ℕ) → Tip n x → ((k : ℕ) → k < lists → Tip n (f k)) → (k : ℕ) → k < lists → Tip n (upd l x f k)
one n l x f t h =
    at_each (λ k. k < lists → Tip n (upd l x f k)) l (λ lt. rw (upd_same l x f) t) (λ k d lt. rw (upd_other l x f k d) (h k lt))

-- Block b gets another next.
nexts : {ws ws' : List ℕ} (n b : ℕ) → Only b ws ws' → Tip n (next ws' b) → ((c : ℕ) → Block n c → Tip n (next ws c)) → (c : ℕ) → Block n c → Tip n (next ws' c)
nexts {ws} {ws'} n b only own h =
    at_each (λ c. Block n c → Tip n (next ws' c)) b (λ k. own) (λ c d k. rw (next_only only c k.aligned d) (h c k))

-- Each act keeps it.
pub act_sane : {n : ℕ} (a : Act) (v : View) → May a v → Sane n v → Sane n (moved a v)
act_sane {n} (gives b) v may s =
    record { size = s.size; head = s.head; place = s.place; queue = more n v.queue b.0 s.queue (rw s.size at may.0); next = s.next }
act_sane {n} (opens l b) v may s =
    let t : Tip n b.0 = inr (rw s.size at may.0) in
    record {
      size = s.size;
      head = one n l.0 b.0 v.head t s.head;
      place = one n l.0 b.0 v.place t s.place;
      queue = s.queue;
      next = s.next;
    }
act_sane {n} (posts l w) v may s =
    let ws : List ℕ = v.words in
    let h : ℕ = v.head l.0 in
    let q : ℕ = get_or v.queue 0 0 in
    let vs : List ℕ = block_words w q in
    let k : Block (length ws) h = rw s.size (tip_block n h may.1 (s.head l.0 may.0)) in
    let first : Tip n q = inr (s.queue 0 may.2) in
    record {
      size = length-sets ws (h / 4) vs ∙ s.size;
      head = one n l.0 q v.head first s.head;
      place = s.place;
      queue = λ j lt. rw (get_or-drop 1 v.queue j 0) (s.queue (1 + j) (omega (arith, lt, length-drop 1 v.queue)));
      next = nexts n h (only_sets ws h (h / 4) vs k (omega arith) (omega arith)) (rw (filled_next ws h w q k) first) s.next;
    }
act_sane {n} (gets l w) v may s =
    let ws : List ℕ = v.words in
    let p : ℕ = v.place l.0 in
    let b : Block n p = tip_block n p (eqb-false p 0 (or_neither (eqb p 0) (eqb (next ws p) 0) may.2).0) (s.place l.0 may.0) in
    let k : Block (length ws) p = rw s.size b in
    record {
      size = length-set ws (p / 4 + 3) 0 ∙ s.size;
      head = s.head;
      place = one n l.0 (next ws p) v.place (s.next p b) s.place;
      queue = more n v.queue p s.queue b;
      next =
          nexts n p (only_sets ws p (p / 4 + 3) (0 ∷ []) k (omega arith) (omega arith))
          (inl (get_or-set_same ws (p / 4 + 3) 0 0 (omega (arith, k.inside)))) s.next;
    }
act_sane rests v may s = s
act_sane clears v may s = absurd may
