-- The saved state's numbers: all but the counts stay in their ranges, and the counts stay where no receipt is counted. Assumes nothing.
use Prim.Native.Nat.{ℕ, ◌+◌, ◌%◌, ◌<◌, ◌≤◌}
use mathlib.Core.Path.{◌≡◌, refl}
use mathlib.Core.Bool.{Bool, true, not, ◌&&◌}
use mathlib.Core.List.{List}
use native.Mathlib.Omega.{arith}
use lib.ListN.{length, length-set}
use borrow.Author.Tests.{eqb-true, eq-eqb, lt-ltb, leb-true}
use Rattle.ground.specs.Field.{flag}
use Rattle.ground.specs.Choice.{pick}
use Rattle.ground.proofs.Choice.{pick_holds, pick_by}
use Rattle.ground.proofs.Tests.{and_both, not_yes}
use Rattle.rules.specs.Memory.{send_size, receive_size}
use Rattle.rules.specs.Saved.{resets, pcsr0_ok, with_pcsr0, with_bits, with_slots, with_counts, with_pointers, with_queues, with_last_sender, reset_saved}
use Rattle.rules.specs.Queues.{is_empty, pushed, removed}
use Rattle.rules.specs.Board.{Board}
use Rattle.rules.specs.Notices.{token_of, enqueues, token, bit_after, interrupting, push_aqr, push_nqr, push_nbqr, can_post_all, fill_head, enqueue_token, post, post_all}
use Rattle.rules.specs.Registers.{pointer_ok, pointer_on, stepped, shown_itself}
use Rattle.rules.specs.Writes.{bits_cleared, number_set}
use Rattle.laws.specs.Sound.{Ring, Ranges}
use Rattle.laws.specs.Writing.{OfNumber}
use Rattle.laws.proofs.Sound.{tests}
use Rattle.laws.proofs.Postings.{can_post_lem}
use Rattle.demands.specs.Types.{Queue, Saved, BlockAddress, Posting, Number, Mapped, Register}
use Rattle.demands.proofs.Access.{after_step, after_shown}
use Rattle.std.specs.Prelude.{Option, Some, None}

-- All of the saved state, with these counts: t taken, n faulted.
pub record Numbers (t n : ℕ) (s : Saved) : Type 0 where
  pub registers : Ranges s
  pub nqr : Ring s.nqr
  pub aqr : Ring s.aqr
  pub nbqr : Ring s.nbqr
  pub taken : s.taken ≡ t
  pub faulted : s.faulted ≡ n

-- ---- parts set one at a time, as Saved of rules sets them: what holds of the new part; each other number stays, whichever there are

module _ {t n : ℕ} (s : Saved) (f : Numbers t n s) where
  pcsr0_set : (v : ℕ) → (not (resets v) && pcsr0_ok v) ≡ true → Numbers t n (with_pcsr0 v s)
  pcsr0_set v h = search

  bits_set : (hi lo : ℕ) → hi ≤ 1 → lo ≤ 1 → Numbers t n (with_bits hi lo s)
  bits_set hi lo h l = search

  slots_set : (v : ℕ) → v ≤ 64 → Numbers t n (with_slots v s)
  slots_set v h = search

  pointers_set : (send receive : ℕ) → pointer_ok send_size send ≡ true → pointer_ok receive_size receive ≡ true → Numbers t n (with_pointers send receive s)
  pointers_set send receive h k = search

  queues_set : (nqr aqr nbqr : Queue) → Ring nqr → Ring aqr → Ring nbqr → Numbers t n (with_queues nqr aqr nbqr s)
  queues_set nqr aqr nbqr h k l = search

  pub sender_set : (v : ℕ) → v < 4 → Numbers t n (with_last_sender v s)
  sender_set v h = search

  pub counts_set : {t' n' : ℕ} (taken faulted : ℕ) → taken ≡ t' → faulted ≡ n' → Numbers t' n' (with_counts taken faulted s)
  counts_set taken faulted h k = search

-- ---- queues

-- After a removal, a push, and for the interrupt bit of a push.
pub ring_removed : (q : Queue) → Ring q → Ring (removed q)
unfolding removed
ring_removed q f = pick_holds Ring (is_empty q) f (record { place = omega arith; length = omega arith })

ring_pushed : (q : Queue) → q.length < 256 → Ring q → Ring (pushed q)
ring_pushed q lt f = record { place = f.place; length = omega arith }

bit_after_lem : (q : Queue) (bit : ℕ) → bit ≤ 1 → bit_after q bit ≤ 1
unfolding bit_after
bit_after_lem q bit h = pick_holds (λ x. x ≤ 1) (interrupting q bit) (omega arith) h

-- ---- a reset

-- Every number but PCSR0 as it starts.
pub reset_numbers : (w : ℕ) → (not (resets w) && pcsr0_ok w) ≡ true → Numbers 0 0 (reset_saved w)
reset_numbers w h = search arith

-- ---- accesses

-- A pointer that moves on stays a pointer.
send_on : (p : ℕ) → pointer_ok send_size p ≡ true → pointer_ok send_size (pointer_on send_size p) ≡ true
send_on p h =
    let e : p % 4 ≡ 0 = eqb-true (p % 4) 0 (search tests) in
    and_both (eq-eqb ((p + 4) % 4096 % 4) 0 (omega arith)) (lt-ltb ((p + 4) % 4096) 4096 (omega arith))

receive_on : (p : ℕ) → pointer_ok receive_size p ≡ true → pointer_ok receive_size (pointer_on receive_size p) ≡ true
receive_on p h =
    let e : p % 4 ≡ 0 = eqb-true (p % 4) 0 (search tests) in
    and_both (eq-eqb ((p + 4) % 8192 % 4) 0 (omega arith)) (lt-ltb ((p + 4) % 8192) 8192 (omega arith))

-- After a step, a read, a number set.
pub step_numbers : {t f : ℕ} (r : Mapped) (s : Saved) → Numbers t f s → Numbers t f (stepped r s)
step_numbers {t} {f = n} r s f =
    let g = f.registers in
    after_step (Numbers t n) s f
    (pointers_set s f _ _ (send_on s.sendpointer g.sendpointer) g.receivepointer)
    (pointers_set s f _ _ g.sendpointer (receive_on s.receivepointer g.receivepointer)) r

pub shown_numbers : {t f : ℕ} (r : Register) (s : Saved) (receive : List ℕ) → Numbers t f s → Numbers t f (shown_itself s receive r).saved
shown_numbers {t} {f = n} r s receive f =
    after_shown (Numbers t n) s receive f
    (queues_set s f _ _ _ (ring_removed s.nqr f.nqr) f.aqr f.nbqr)
    (queues_set s f _ _ _ f.nqr (ring_removed s.aqr f.aqr) f.nbqr) r

pub number_numbers : {t f : ℕ} (n : Number) (v : ℕ) (s : Saved) → OfNumber v n → Numbers t f s → Numbers t f (number_set n v s)
unfolding number_set bits_cleared
number_numbers Number.Pcsr0 v s h f = pcsr0_set s f v (and_both (not_yes h.1) h.0)
number_numbers Number.InterruptBits v s h f =
    let low : (t : Bool) (x : ℕ) → x ≤ 1 → pick t x 0 ≤ 1 = λ t x e. pick_holds (λ y. y ≤ 1) t e (omega arith) in
    bits_set s f _ _ (low (flag 30 v) s.inthi f.registers.inthi) (low (flag 29 v) s.intlo f.registers.intlo)
number_numbers Number.SlotCount v s h f = slots_set s f v (leb-true v 64 h)
number_numbers Number.SendPointer v s h f = pointers_set s f v s.receivepointer h f.registers.receivepointer
number_numbers Number.ReceivePointer v s h f = pointers_set s f s.sendpointer v f.registers.sendpointer h

-- ---- the board

-- After a push on AQR, NQR, NBQR.
pub aqr_numbers : {t f : ℕ} (w : ℕ) (b : Board) → b.saved.aqr.length < 256 → Numbers t f b.saved → Numbers t f (push_aqr w b).saved
unfolding push_aqr
aqr_numbers {t} {f = n} w b room f =
    let s : Saved = b.saved in
    let g : Numbers t n (with_bits _ _ s) = bits_set s f _ _ (bit_after_lem s.aqr s.inthi f.registers.inthi) f.registers.intlo in
    queues_set _ g _ _ _ f.nqr (ring_pushed s.aqr room f.aqr) f.nbqr

nqr_numbers : {t f : ℕ} (w : ℕ) (b : Board) → b.saved.nqr.length < 256 → Numbers t f b.saved → Numbers t f (push_nqr w b).saved
unfolding push_nqr
nqr_numbers {t} {f = n} w b room f =
    let s : Saved = b.saved in
    let g : Numbers t n (with_bits _ _ s) = bits_set s f _ _ f.registers.inthi (bit_after_lem s.nqr s.intlo f.registers.intlo) in
    queues_set _ g _ _ _ (ring_pushed s.nqr room f.nqr) f.aqr f.nbqr

pub nbqr_numbers : {t f : ℕ} (a : BlockAddress) (b : Board) → b.saved.nbqr.length < 256 → Numbers t f b.saved → Numbers t f (push_nbqr a b).saved
unfolding push_nbqr
nbqr_numbers a b room f = queues_set b.saved f _ _ _ f.nqr f.aqr (ring_pushed b.saved.nbqr room f.nbqr)

-- A push on NBQR keeps the length of Receive RAM.
pub push_length : (a : BlockAddress) (b : Board) → length (push_nbqr a b).receive ≡ length b.receive
unfolding push_nbqr
push_length a b = simp length-set

-- NQR has room where a posting pushes a token.
abbrev pub TokenFits : Queue → List ℕ → Option Posting → Type 0
TokenFits nqr receive None = Unit {0}
TokenFits nqr receive (Some o) = enqueues (token_of receive o.list) ≡ true → nqr.length < 256

-- By the test before a posting.
pub token_fits : (s : Saved) (receive : List ℕ) (p : Option Posting) → can_post_all s receive p ≡ true → TokenFits s.nqr receive p
unfolding can_post_all
token_fits s receive None e = tt
token_fits s receive (Some o) e = (can_post_lem s receive o.list e).nqr

-- After a posting.
pub post_numbers : {t f : ℕ} (p : Option Posting) (b : Board) → TokenFits b.saved.nqr b.receive p → Numbers t f b.saved → Numbers t f (post_all p b).saved
unfolding post_all post enqueue_token fill_head
post_numbers None b h f = f
post_numbers {t} {f = n} (Some o) b h f =
    let x : ℕ = token_of b.receive o.list in
    let c : Board = fill_head o.list o.notice b in
    let g : Numbers t n c.saved = queues_set b.saved f _ _ _ f.nqr f.aqr (ring_removed b.saved.nbqr f.nbqr) in
    pick_by (λ (y : Board). Numbers t n y.saved) (enqueues x) (λ e. nqr_numbers (token x) c (h e) g) (λ e. g)

-- A posting keeps the length of Receive RAM.
pub post_length : (p : Option Posting) (b : Board) → length (post_all p b).receive ≡ length b.receive
unfolding post_all post enqueue_token fill_head push_nqr
post_length None b = refl
post_length (Some o) b =
    pick_holds (λ (x : Board). length x.receive ≡ length b.receive) (enqueues (token_of b.receive o.list))
    (simp length-set) (simp length-set)
