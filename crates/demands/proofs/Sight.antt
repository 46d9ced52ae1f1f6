-- The view of a machine, and which stores it does not show. Assumes nothing.
use Prim.Native.Nat.{ℕ, ◌+◌, ◌%◌, ◌<◌, ◌≤◌}
use mathlib.Core.Path.{◌≡◌, refl, sym, ◌∙◌}
use mathlib.Core.Logic.{◌≢◌}
use mathlib.Core.Bool.{Bool, true, false}
use mathlib.Core.List.{List}
use native.Mathlib.Omega.{arith}
use lib.Dec.{ltb}
use lib.ListN.{length, get_or, set, length-set}
use lib.Seq.{sets, length-sets, get_or-set_other}
use borrow.Author.Tests.{lt-ltb, ltb-true}
use Rattle.ground.specs.Choice.{pick}
use Rattle.ground.proofs.Choice.{pick_yes}
use Rattle.ground.proofs.Lists.{get_or_sets_after}
use Rattle.rules.specs.Memory.{Machine, lists, list, head_word, token_word, place_word, nbqr_from}
use Rattle.rules.specs.Board.{Board, board}
use Rattle.rules.specs.Notices.{head_of, token_of, place_of, push_nqr, push_aqr}
use Rattle.demands.specs.Types.{Queue, Saved, ListIndex}
use Rattle.demands.specs.Places.{entries}
use Rattle.demands.proofs.Sums.{upd, upd_same, upd_other, at_each}
use Rattle.demands.proofs.Ring.{entries_same}
use Rattle.demands.proofs.View.{View}

-- f at the lists that there are.
pub below : (ℕ → ℕ) → ℕ → ℕ
below f k = pick (ltb k lists) (f k) 0

-- At a list that there is.
pub below_at : (f : ℕ → ℕ) (k : ℕ) → k < lists → below f k ≡ f k
unfolding below
below_at f k h = pick_yes (f k) 0 (lt-ltb k lists h)

-- Functions that agree there.
pub below_same : (f g : ℕ → ℕ) → ((k : ℕ) → k < lists → g k ≡ f k) → below g ≡ below f
unfolding below pick
below_same f g h = λ i k. go k (ltb k lists) refl i
  where
    go : (k : ℕ) (t : Bool) → ltb k lists ≡ t → pick t (g k) 0 ≡ pick t (f k) 0
    go k true e = h k (ltb-true k lists e)
    go k false e = refl

-- One that is changed at one list.
pub below_upd : (f g : ℕ → ℕ) (l x : ℕ) → l < lists → g l ≡ x → ((k : ℕ) → k < lists → k ≢ l → g k ≡ f k) → below g ≡ upd l x (below f)
unfolding below pick
below_upd f g l x lt e h =
    λ i k. at_each (λ k. below g k ≡ upd l x (below f) k) l
    (below_at g l lt ∙ e ∙ sym (upd_same l x (below f)))
    (λ k d. go k d (ltb k lists) refl ∙ sym (upd_other l x (below f) k d)) k i
  where
    go : (k : ℕ) → k ≢ l → (t : Bool) → ltb k lists ≡ t → pick t (g k) 0 ≡ pick t (f k) 0
    go k d true a = h k (ltb-true k lists a) d
    go k d false a = refl

-- By NBQR, Receive RAM and notice memory.
abbrev pub seen : Queue → List ℕ → List ℕ → View
seen q receive notices =
    record {
      words = notices;
      head = below (λ k. head_of receive (list k));
      place = below (λ k. place_of receive (list k));
      queue = entries receive q 0 q.length;
    }

-- Of a machine, and of a board.
abbrev pub view : Machine → View
view m = seen m.saved.nbqr m.receive m.notices

abbrev pub board_view : Board → View
board_view b = seen b.saved.nbqr b.receive b.notices

-- ---- stores that it does not show

-- Two Receive RAMs have the same heads, reader's places and NBQR.
pub record Alike (r r' : List ℕ) : Type 0 where
  pub size : length r' ≡ length r
  pub head : (k : ℕ) → k < lists → head_of r' (list k) ≡ head_of r (list k)
  pub place : (k : ℕ) → k < lists → place_of r' (list k) ≡ place_of r (list k)
  pub queue : (j : ℕ) → j < 256 → get_or r' (nbqr_from + j) 0 ≡ get_or r (nbqr_from + j) 0

-- One after the other.
pub alike_then : {r r' r'' : List ℕ} → Alike r r' → Alike r' r'' → Alike r r''
alike_then a b =
    record {
      size = b.size ∙ a.size;
      head = λ k h. b.head k h ∙ a.head k h;
      place = λ k h. b.place k h ∙ a.place k h;
      queue = λ j h. b.queue j h ∙ a.queue j h;
    }

-- A word that is no head, no reader's place and no word of NBQR.
pub record Away (i : ℕ) : Type 0 where
  pub head : (k : ℕ) → k < lists → head_word (list k) ≢ i
  pub place : (k : ℕ) → k < lists → place_word (list k) ≢ i
  pub queue : (j : ℕ) → j < 256 → nbqr_from + j ≢ i

-- A store elsewhere.
pub alike_set : (r : List ℕ) (i x : ℕ) → Away i → Alike r (set r i x)
alike_set r i x a =
    record {
      size = length-set r i x;
      head = λ k h. get_or-set_other r i (head_word (list k)) x 0 (a.head k h);
      place = λ k h. get_or-set_other r i (place_word (list k)) x 0 (a.place k h);
      queue = λ j h. get_or-set_other r i (nbqr_from + j) x 0 (a.queue j h);
    }

-- Stores in slots.
pub alike_slots : (r : List ℕ) (i : ℕ) (vs : List ℕ) → i + length vs ≤ 1024 → Alike r (sets r i vs)
alike_slots r i vs h =
    record {
      size = length-sets r i vs;
      head = λ k lt. get_or_sets_after r i vs (head_word (list k)) 0 (omega arith);
      place = λ k lt. get_or_sets_after r i vs (place_word (list k)) 0 (omega arith);
      queue = λ j lt. get_or_sets_after r i vs (nbqr_from + j) 0 (omega arith);
    }

-- They show the same.
pub seen_alike : (q : Queue) {r r' : List ℕ} (notices : List ℕ) → Alike r r' → seen q r' notices ≡ seen q r notices
seen_alike q {r} {r'} notices a =
    λ i. record {
      words = notices;
      head = below_same (λ k. head_of r (list k)) (λ k. head_of r' (list k)) a.head i;
      place = below_same (λ k. place_of r (list k)) (λ k. place_of r' (list k)) a.place i;
      queue = entries_same r r' q 0 q.length (λ j h. a.queue ((q.place + (0 + j)) % 256) (omega arith)) i;
    }

-- A board with the same NBQR, an alike Receive RAM and the same notice memory shows the same. (Its tokens are the same too.)
pub record Quiet (b b' : Board) : Type 0 where
  pub queue : b'.saved.nbqr ≡ b.saved.nbqr
  pub alike : Alike b.receive b'.receive
  pub token : (l : ListIndex) → l.0 < lists → token_of b'.receive l ≡ token_of b.receive l
  pub notices : b'.notices ≡ b.notices

-- It does.
pub quiet_view : {b b' : Board} → Quiet b b' → board_view b' ≡ board_view b
quiet_view {b} {b'} p = rw (p.queue, p.notices) (seen_alike b.saved.nbqr b.notices p.alike)

-- Nothing changed, and one after the other.
pub quiet_same : (b : Board) → Quiet b b
quiet_same b =
    record {
      queue = refl;
      alike = record { size = refl; head = λ k h. refl; place = λ k h. refl; queue = λ j h. refl };
      token = λ l h. refl;
      notices = refl;
    }

pub quiet_then : {a b c : Board} → Quiet a b → Quiet b c → Quiet a c
quiet_then p q =
    record {
      queue = q.queue ∙ p.queue;
      alike = alike_then p.alike q.alike;
      token = λ l h. q.token l h ∙ p.token l h;
      notices = q.notices ∙ p.notices;
    }

-- A store in NQR or AQR.
quiet_set : (b : Board) (t : Saved) (i w interrupts : ℕ) → t.nbqr ≡ b.saved.nbqr → 1152 ≤ i → i < 1664 → Quiet b (board t (set b.receive i w) b.notices interrupts)
quiet_set b t i w interrupts e low high =
    record {
      queue = e;
      alike = alike_set b.receive i w (omega arith);
      token = λ l h. get_or-set_other b.receive i (token_word l) w 0 (omega arith);
      notices = refl;
    }

-- A push on NQR, and on AQR.
pub quiet_nqr : (w : ℕ) (b : Board) → Quiet b (push_nqr w b)
unfolding push_nqr
quiet_nqr w b = quiet_set b _ _ w _ refl (omega arith) (omega arith)

pub quiet_aqr : (w : ℕ) (b : Board) → Quiet b (push_aqr w b)
unfolding push_aqr
quiet_aqr w b = quiet_set b _ _ w _ refl (omega arith) (omega arith)
