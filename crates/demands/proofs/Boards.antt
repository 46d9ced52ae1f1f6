-- What a push on NBQR, a posting and a take make of the view. Assumes nothing.
use Prim.Native.Nat.{ℕ, ◌+◌, ◌/◌, ◌<◌}
use mathlib.Core.Path.{◌≡◌, refl, sym, ap, ◌∙◌}
use mathlib.Core.Logic.{◌≢◌}
use mathlib.Core.Bool.{true}
use mathlib.Core.List.{List, [], ◌∷◌, ◌++◌}
use native.Mathlib.Omega.{arith}
use lib.ListN.{length, get_or, set, drop, length-set}
use lib.Seq.{sets, get_or-set_same, get_or-set_other}
use Rattle.ground.proofs.Choice.{pick_holds}
use Rattle.rules.specs.Memory.{list, block, lists, head_word, place_word, nbqr_from}
use Rattle.rules.specs.Queues.{oldest, removed}
use Rattle.rules.specs.Board.{Board, board}
use Rattle.rules.specs.Notices.{head_of, token_of, enqueues, token, place_of, block_words, push_nbqr, can_post_all, fill_head, enqueue_token, post, post_all, take_block}
use Rattle.laws.specs.Postings.{Listed}
use Rattle.laws.proofs.Postings.{can_post_lem}
use Rattle.demands.specs.Types.{Queue, ListIndex, BlockAddress, Notice, Posting}
use Rattle.demands.specs.Runs.{Act, posts, posting_act}
use Rattle.demands.specs.Places.{entries}
use Rattle.demands.proofs.Blocks.{next}
use Rattle.demands.proofs.View.{View, given, read_on, moved, May}
use Rattle.demands.proofs.Ring.{entry, entries_length, entries_same, entries_push, entries_pop}
use Rattle.demands.proofs.Sight.{below, below_at, below_same, below_upd, board_view, Quiet, quiet_view, quiet_same, quiet_nqr}
use Rattle.std.specs.Prelude.{Option, Some, None}

-- An act is allowed, and leads from one view to the other.
pub record Step (a : Act) (v v' : View) : Type 0 where
  pub may : May a v
  pub is : v' ≡ moved a v

-- The parts of Receive RAM.
abbrev pub heads : List ℕ → ℕ → ℕ
heads r k = head_of r (list k)

abbrev pub places : List ℕ → ℕ → ℕ
places r k = place_of r (list k)

module _ (b : Board) (size : length b.receive ≡ 2048) where
  -- A block on NBQR.
  pub push_view : (a : BlockAddress) → b.saved.nbqr.length < 256 → board_view (push_nbqr a b) ≡ given a.0 (board_view b)
  unfolding push_nbqr
  push_view a room =
      let q : Queue = b.saved.nbqr in
      let r : List ℕ = b.receive in
      let i : ℕ = entry q q.length in
      let r' : List ℕ = set r i a.0 in
      λ t. record {
        words = b.notices;
        head = below_same (heads r) (heads r') (λ k h. get_or-set_other r i (head_word (list k)) a.0 0 (omega arith)) t;
        place = below_same (places r) (places r') (λ k h. get_or-set_other r i (place_word (list k)) a.0 0 (omega arith)) t;
        queue = entries_push r q a.0 room size t;
      }

  -- The head of list l is filled.
  fill_view : (l : ListIndex) (n : Notice) → l.0 < lists → b.saved.nbqr.length ≢ 0 → b.saved.nbqr.place < 256
      → board_view (fill_head l n b) ≡ moved (posts l n) (board_view b)
  unfolding fill_head
  fill_view l n lt some inside =
      let q : Queue = b.saved.nbqr in
      let r : List ℕ = b.receive in
      let row : List ℕ = entries r q 0 q.length in
      let x : ℕ = oldest nbqr_from q r in
      let r' : List ℕ = set r (head_word l) x in
      let pop : row ≡ x ∷ entries r (removed q) 0 (removed q).length = entries_pop r q inside some in
      let first : x ≡ get_or row 0 0 = sym (ap (λ (w : List ℕ). get_or w 0 0) pop) in
      let head : head_of r l ≡ below (heads r) l.0 = sym (below_at (heads r) l.0 lt) in
      λ t. record {
        words = sets b.notices (head t / 4) (block_words n (first t));
        head =
            below_upd (heads r) (heads r') l.0 (get_or row 0 0) lt (get_or-set_same r (head_word l) x 0 (omega arith) ∙ first)
            (λ k h d. get_or-set_other r (head_word l) (head_word (list k)) x 0 (omega arith)) t;
        place = below_same (places r) (places r') (λ k h. get_or-set_other r (head_word l) (place_word (list k)) x 0 (omega arith)) t;
        queue =
            (entries_same r r' (removed q) 0 (removed q).length (λ j h. get_or-set_other r (head_word l) (entry (removed q) (0 + j)) x 0 (omega arith))
            ∙ sym (ap (drop 1) pop)) t;
      }

  -- A posting: the token on NQR is not shown.
  post_view : (l : ListIndex) (n : Notice) → l.0 < lists → b.saved.nbqr.length ≢ 0 → b.saved.nbqr.place < 256
      → board_view (post l n b) ≡ moved (posts l n) (board_view b)
  unfolding post enqueue_token
  post_view l n lt some inside =
      let w : ℕ = token_of b.receive l in
      let c : Board = fill_head l n b in
      quiet_view (pick_holds (Quiet c) (enqueues w) (quiet_nqr (token w) c) (quiet_same c)) ∙ fill_view l n lt some inside

-- A take of the block at the reader's place of list l.
pub take_view : (l : ListIndex) (b : Board) → length b.receive ≡ 2048 → l.0 < lists → b.saved.nbqr.length < 256
    → let p = place_of b.receive l in board_view (take_block l (block p) (block (next b.notices p)) b) ≡ read_on l.0 (board_view b)
unfolding take_block
take_view l b size lt room =
    let q : Queue = b.saved.nbqr in
    let r : List ℕ = b.receive in
    let p : ℕ = place_of r l in
    let x : ℕ = next b.notices p in
    let r' : List ℕ = set r (place_word l) x in
    let at : p ≡ below (places r) l.0 = sym (below_at (places r) l.0 lt) in
    push_view (board b.saved r' (set b.notices (p / 4 + 3) 0) b.interrupts) (length-set r (place_word l) x ∙ size) (block p) room
    ∙ (λ t. record {
      words = set b.notices (at t / 4 + 3) 0;
      head = below_same (heads r) (heads r') (λ k h. get_or-set_other r (place_word l) (head_word (list k)) x 0 (omega arith)) t;
      place =
          below_upd (places r) (places r') l.0 (next b.notices (below (places r) l.0)) lt
          (get_or-set_same r (place_word l) x 0 (omega arith) ∙ ap (next b.notices) at)
          (λ k h d. get_or-set_other r (place_word l) (place_word (list k)) x 0 (omega arith)) t;
      queue = entries_same r r' q 0 q.length (λ j h. get_or-set_other r (place_word l) (entry q (0 + j)) x 0 (omega arith)) t ++ (at t ∷ []);
    })

-- What a call has to post is posted, after stores that the view does not show.
pub post_step : (p : Option Posting) (b b' : Board) → Quiet b b' → Listed p → can_post_all b.saved b.receive p ≡ true
    → b.saved.nbqr.place < 256 → length b.receive ≡ 2048 → Step (posting_act p) (board_view b) (board_view (post_all p b'))
unfolding can_post_all post_all posting_act
post_step None b b' q listed e inside size = record { may = tt; is = quiet_view q }
post_step (Some o) b b' q listed e inside size =
    let l : ListIndex = o.list in
    let n : Notice = o.notice in
    let at : l.0 < lists = listed.low o refl in
    let s : Queue = b.saved.nbqr in
    let c = can_post_lem b.saved b.receive l e in
    record {
      may = (
        at,
        λ z. c.head (sym (below_at (heads b.receive) l.0 at) ∙ z),
        omega (arith, entries_length b.receive s 0 s.length, c.nbqr),
      );
      is =
          post_view b' (q.alike.size ∙ size) l n at (rw q.queue c.nbqr) (rw q.queue inside)
          ∙ ap (moved (posts l n)) (quiet_view q);
    }
