-- What holds at each moment of a run, and that each act keeps it. Assumes nothing.
use Prim.Native.Nat.{ℕ, ◌+◌, ◌/◌, ◌≤◌, ◌<◌}
use mathlib.Core.Path.{◌≡◌, refl, sym, ap, ◌∙◌}
use mathlib.Core.Logic.{◌≢◌, inl, inr}
use mathlib.Core.Bool.{false, true≢false}
use mathlib.Core.List.{List, [], ◌∷◌, ◌++◌, map, map-append, append-nil, append_assoc}
use native.Mathlib.Omega.{arith}
use lib.ListN.{length, get_or, set, drop, length-set}
use lib.Seq.{sets, length-sets, get_or-set_same, drop-cons, append_snoc}
use borrow.Author.Tests.{eq-eqb, ne_eqb}
use Rattle.ground.proofs.Choice.{pick_yes, pick_no}
use Rattle.rules.specs.Memory.{lists}
use Rattle.rules.specs.Notices.{block_words}
use Rattle.laws.specs.Sound.{Block}
use Rattle.demands.specs.Types.{ListIndex, Notice}
use Rattle.demands.specs.Runs.{Act, gives, opens, posts, gets, rests, clears}
use Rattle.demands.specs.History.{handed_by, on_list, posted_by, taken_by}
use Rattle.demands.specs.Places.{sum, count, block_of, is_bare, notice_at}
use Rattle.demands.proofs.Sums.{sum_append, same, same_self, not_first, upd, upd_same, upd_other, at_each, total, total_change, total_none, alone}
use Rattle.demands.proofs.Blocks.{next, Only, only_sets, next_only, filled_next, filled_notice}
use Rattle.demands.proofs.Chain.{Linked, Waiting, waiting_more, linked_none, bare, block_only, linked_only, waiting_only, notices_only, linked_more, Tip, tip_aligned, tip_block, sum_none, sum_end, end_apart}
use Rattle.demands.proofs.View.{View, given, opened, hung, read_on, moved, May}

-- What list k holds, summed: the blocks of its notices, and its empty end.
abbrev pub share : (ℕ → ℕ) → View → (ℕ → List ℕ) → ℕ → ℕ
share f v chain k = sum f (chain k) + sum f (block_of (v.head k))

-- chain k: the blocks of list k's untaken notices; handed: the blocks handed over; posted k, taken k: the notices of list k.
pub record Inv (v : View) (handed : List ℕ) (posted taken : ℕ → List Notice) (chain : ℕ → List ℕ) : Type 0 where
  pub linked : (k : ℕ) → k < lists → Linked v.words (v.place k) (chain k) (v.head k)
  pub tip : (k : ℕ) → k < lists → Tip (length v.words) (v.head k)
  pub waits : Waiting v.words v.queue
  pub order : (k : ℕ) → k < lists → taken k ++ map (notice_at v.words) (chain k) ≡ posted k
  pub stand : (f : ℕ → ℕ) → sum f v.queue + total (share f v chain) lists ≡ sum f handed

-- The notice of list l, on l and on another list.
list_same : (l : ListIndex) (n : Notice) → on_list l.0 l n ≡ n ∷ []
unfolding on_list
list_same l n = pick_yes (n ∷ []) [] (eq-eqb l.0 l.0 refl)

list_other : (k : ℕ) (l : ListIndex) (n : Notice) → k ≢ l.0 → on_list k l n ≡ []
unfolding on_list
list_other k l n d = pick_no (n ∷ []) [] (ne_eqb k l.0 d)

module _ {v : View} {handed : List ℕ} {posted taken : ℕ → List Notice} {chain : ℕ → List ℕ} (inv : Inv v handed posted taken chain)
  where
    -- A block is handed over to the queue.
    gives_inv : (b : ℕ) → Block (length v.words) b → next v.words b ≡ 0 → Inv (given b v) (handed ++ (b ∷ [])) posted taken chain
    gives_inv b k e =
        record {
          linked = inv.linked;
          tip = inv.tip;
          waits = waiting_more v.words v.queue b inv.waits e k;
          order = inv.order;
          stand = λ f. omega (arith, inv.stand f, sum_append f handed (b ∷ []), sum_append f v.queue (b ∷ []));
        }

    -- A block is handed over to a list without a head, whose chain is empty.
    opens_inv : (l b : ℕ) → Block (length v.words) b → next v.words b ≡ 0 → l < lists → v.head l ≡ 0
        → Inv (opened l b v) (handed ++ (b ∷ [])) posted taken chain
    opens_inv l b k e lt unset =
        let empty : chain l ≡ [] = linked_none v.words (v.place l) (chain l) (rw unset at (inv.linked l lt)) in
        record {
          linked =
              at_each (λ j. j < lists → Linked v.words (upd l b v.place j) (chain j) (upd l b v.head j)) l
              (λ h. rw (upd_same l b v.place, upd_same l b v.head, empty) (refl, bare v.words b e))
              (λ j d h. rw (upd_other l b v.place j d, upd_other l b v.head j d) (inv.linked j h));
          tip =
              at_each (λ j. j < lists → Tip (length v.words) (upd l b v.head j)) l
              (λ h. rw (upd_same l b v.head) (inr k))
              (λ j d h. rw (upd_other l b v.head j d) (inv.tip j h));
          waits = inv.waits;
          order = inv.order;
          stand =
              λ f. omega (
                arith,
                inv.stand f,
                sum_append f handed (b ∷ []),
                sum_none f (v.head l) unset,
                ap (λ (h : ℕ). sum f (block_of h)) (upd_same l b v.head),
                sum_end f b (omega (arith, k.low)),
                total_change (share f v chain) (share f (opened l b v) chain) lists l lt (λ j h d. rw (upd_other l b v.head j d)),
              );
        }

    module _ (once : (b : ℕ) → count b handed ≤ 1) where
      -- Block b stands in list l: nowhere else, and there once.
      only_in : (l b : ℕ) → l < lists → 1 ≤ share (same b) v chain l
          → (count b v.queue ≡ 0) × (share (same b) v chain l ≡ 1) × ((k : ℕ) → k < lists → k ≢ l → share (same b) v chain k ≡ 0)
      only_in l b lt some = alone (share (same b) v chain) lists l (count b v.queue) lt some (omega (arith, inv.stand (same b), once b))

      -- A notice is posted: the old head ends the chain, the block q is the new end.
      posts_inv : (l : ListIndex) (n : Notice) (q : ℕ) (rest : List ℕ) → l.0 < lists → v.head l.0 ≢ 0 → v.queue ≡ q ∷ rest
          → Inv (hung l.0 n q rest v) handed (λ k. posted k ++ on_list k l n) taken (upd l.0 (chain l.0 ++ (v.head l.0 ∷ [])) chain)
      posts_inv i n q rest lt isset e =
          let l : ℕ = i.0 in
          let ws : List ℕ = v.words in
          let h : ℕ = v.head l in
          let longer : List ℕ = chain l ++ (h ∷ []) in
          let hb : Block (length ws) h = tip_block (length ws) h isset (inv.tip l lt) in
          let ws' : List ℕ = sets ws (h / 4) (block_words n q) in
          let only : Only h ws ws' = only_sets ws h (h / 4) (block_words n q) hb (omega arith) (omega arith) in
          let size : length ws' ≡ length ws = length-sets ws (h / 4) (block_words n q) in
          let w : Waiting ws (q ∷ rest) = rw e at inv.waits in
          let one : sum (same h) (block_of h) ≡ 1 = sum_end (same h) h isset ∙ same_self h in
          let al = only_in l h lt (omega arith) in
          let away : count h (q ∷ rest) ≡ 0 = rw e at al.0 in
          let none : (k : ℕ) → k < lists → count h (chain k) ≡ 0 =
          at_each (λ k. k < lists → count h (chain k) ≡ 0) l (λ hk. omega (arith, al.1)) (λ k d hk. omega (arith, al.2 k hk d)) in
          let blank : next ws' q ≡ 0 = next_only only q w.1.aligned (not_first h q rest away) ∙ w.0 in
          let nz : q ≢ 0 = omega (arith, w.1.low) in
          record {
            linked =
                at_each (λ k. k < lists → Linked ws' (v.place k) (upd l longer chain k) (upd l q v.head k)) l
                (λ hl. rw (upd_same l longer chain, upd_same l q v.head)
                (linked_more only size (v.place l) (chain l) q hb (filled_next ws h n q hb) nz (bare ws' q blank) (none l hl) (inv.linked l hl)))
                (λ k d hk. rw (upd_other l longer chain k d, upd_other l q v.head k d)
                (linked_only only size (v.place k) (chain k) (v.head k) (tip_aligned (length ws) (v.head k) (inv.tip k hk))
                (end_apart h (v.head k) isset (omega (arith, al.2 k hk d))) (none k hk) (inv.linked k hk)));
            tip =
                at_each (λ k. k < lists → Tip (length ws') (upd l q v.head k)) l
                (λ hl. rw (upd_same l q v.head) (inr (block_only only size w.1)))
                (λ k d hk. rw (upd_other l q v.head k d, size) (inv.tip k hk));
            waits = waiting_only only size rest (omega arith) w.2;
            order =
                at_each (λ k. k < lists → taken k ++ map (notice_at ws') (upd l longer chain k) ≡ posted k ++ on_list k i n) l
                (λ hl. rw (upd_same l longer chain, list_same i n, map-append, notices_only only size (v.place l) (chain l) h (none l hl) (inv.linked l hl))
                (rw (filled_notice ws h n q hb, ← append_assoc, inv.order l hl)))
                (λ k d hk. rw (upd_other l longer chain k d, list_other k i n d, append-nil)
                (rw (notices_only only size (v.place k) (chain k) (v.head k) (none k hk) (inv.linked k hk)) (inv.order k hk)));
            stand =
                λ f. omega (
                  arith,
                  inv.stand f,
                  ap (sum f) e,
                  sum_end f h isset,
                  sum_end f q nz,
                  sum_append f (chain l) (h ∷ []),
                  ap (sum f) (upd_same l longer chain),
                  ap (λ (x : ℕ). sum f (block_of x)) (upd_same l q v.head),
                  total_change (share f v chain) (share f (hung l n q rest v) (upd l longer chain)) lists l lt (λ k hk d. rw (upd_other l longer chain k d, upd_other l q v.head k d)),
                );
          }

      -- A notice is taken: its block c begins the chain.
      gets_inv : (l : ListIndex) (n : Notice) (c : ℕ) (cs : List ℕ) → l.0 < lists → n ≡ notice_at v.words (v.place l.0) → chain l.0 ≡ c ∷ cs
          → Inv (read_on l.0 v) handed posted (λ k. taken k ++ on_list k l n) (upd l.0 cs chain)
      gets_inv i n c cs lt copied e =
          let l : ℕ = i.0 in
          let ws : List ℕ = v.words in
          let ln : Linked ws (v.place l) (c ∷ cs) (v.head l) = rw e at (inv.linked l lt) in
          let ws' : List ℕ = set ws (c / 4 + 3) 0 in
          let q : ℕ = next ws c in
          let only : Only c ws ws' = only_sets ws c (c / 4 + 3) (0 ∷ []) ln.2 (omega arith) (omega arith) in
          let size : length ws' ≡ length ws = length-set ws (c / 4 + 3) 0 in
          let cz : c ≢ 0 = omega (arith, ln.2.low) in
          let held : count c (chain l) ≡ 1 + count c cs = ap (count c) e ∙ omega (arith, same_self c) in
          let al = only_in l c lt (omega arith) in
          let blank : next ws' c ≡ 0 = get_or-set_same ws (c / 4 + 3) 0 0 (omega (arith, ln.2.inside)) in
          rw ln.0 (record {
            linked =
                at_each (λ k. k < lists → Linked ws' (upd l q v.place k) (upd l cs chain k) (v.head k)) l
                (λ hl. rw (upd_same l q v.place, upd_same l cs chain)
                (linked_only only size q cs (v.head l) (tip_aligned (length ws) (v.head l) (inv.tip l hl))
                (end_apart c (v.head l) cz (omega (arith, al.1))) (omega (arith, al.1)) ln.3))
                (λ k d hk. rw (upd_other l q v.place k d, upd_other l cs chain k d)
                (linked_only only size (v.place k) (chain k) (v.head k) (tip_aligned (length ws) (v.head k) (inv.tip k hk))
                (end_apart c (v.head k) cz (omega (arith, al.2 k hk d))) (omega (arith, al.2 k hk d)) (inv.linked k hk)));
            tip = λ k hk. rw size (inv.tip k hk);
            waits = waiting_more ws' v.queue c (waiting_only only size v.queue al.0 inv.waits) blank (block_only only size ln.2);
            order =
                at_each (λ k. k < lists → (taken k ++ on_list k i n) ++ map (notice_at ws') (upd l cs chain k) ≡ posted k) l
                (λ hl. rw (upd_same l cs chain, list_same i n, copied, ln.0)
                (rw (notices_only only size q cs (v.head l) (omega (arith, al.1)) ln.3, append_snoc) (rw e at (inv.order l hl))))
                (λ k d hk. rw (upd_other l cs chain k d, list_other k i n d, append-nil)
                (rw (notices_only only size (v.place k) (chain k) (v.head k) (omega (arith, al.2 k hk d)) (inv.linked k hk)) (inv.order k hk)));
            stand =
                λ f. omega (
                  arith,
                  inv.stand f,
                  sum_append f v.queue (c ∷ []),
                  ap (sum f) e,
                  ap (sum f) (upd_same l cs chain),
                  total_change (share f v chain) (share f (read_on l v) (upd l cs chain)) lists l lt (λ k hk d. rw (upd_other l cs chain k d)),
                );
          })

      -- A list with a notice at its reader's place has a chain that begins there.
      begins : (l : ℕ) → l < lists → is_bare v.words (v.place l) ≡ false → (c : ℕ) × (cs : List ℕ) × (chain l ≡ c ∷ cs)
      begins l lt there = go (chain l) refl
        where
          go : (bs : List ℕ) → chain l ≡ bs → (c : ℕ) × (cs : List ℕ) × (chain l ≡ c ∷ cs)
          go [] e =
              let ln : Linked v.words (v.place l) [] (v.head l) = rw e at (inv.linked l lt) in
              absurd (true≢false (sym ln.1 ∙ (rw ln.0 at there)))
          go (c ∷ cs) e = (c, cs, e)

      -- Any act.
      pub act_inv : (a : Act) → May a v
          → (longer : ℕ → List ℕ) × Inv (moved a v) (handed ++ handed_by a) (λ k. posted k ++ posted_by k a) (λ k. taken k ++ taken_by k a) longer
      unfolding handed_by posted_by taken_by
      act_inv (gives b) m = (chain, simp append-nil (gives_inv b.0 m.0 m.1))
      act_inv (opens l b) m = (chain, simp append-nil (opens_inv l.0 b.0 m.0 m.1 m.2 m.3))
      act_inv (posts l n) m = (
        upd l.0 (chain l.0 ++ (v.head l.0 ∷ [])) chain,
        simp append-nil (posts_inv l n (get_or v.queue 0 0) (drop 1 v.queue) m.0 m.1 (drop-cons v.queue 0 0 m.2)),
      )
      act_inv (gets l n) m =
          let f = begins l.0 m.0 m.2 in
          (upd l.0 f.1 chain, simp append-nil (gets_inv l n f.0 f.1 m.0 m.1 f.2))
      act_inv rests m = (chain, simp append-nil inv)
      act_inv clears m = absurd m

-- What a reset leaves.
pub first_inv : (v : View) → ((k : ℕ) → k < lists → v.head k ≡ 0) → ((k : ℕ) → k < lists → v.place k ≡ 0) → v.queue ≡ []
    → Inv v [] (λ k. []) (λ k. []) (λ k. [])
first_inv v heads places queue =
    record {
      linked = λ k h. rw (heads k h, places k h) (refl, refl);
      tip = λ k h. inl (heads k h);
      waits = rw queue tt;
      order = λ k h. refl;
      stand = λ f. rw queue (omega (arith, total_none (share f v (λ k. [])) lists (λ k h. omega (arith, sum_none f (v.head k) (heads k h)))));
    }
