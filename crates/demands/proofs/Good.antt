-- What keeps a machine sized and sound, call after call. Assumes nothing.
use Prim.Native.Nat.{ℕ, ◌%◌, ◌^◌}
use mathlib.Core.Path.{◌≡◌, ap}
use mathlib.Core.Logic.{inl, inr}
use mathlib.Core.Bool.{Bool, true, ◌&&◌, ◌||◌}
use mathlib.Core.List.{List}
use lib.Dec.{eqb, ltb, leb}
use lib.ListN.{length, get_or}
use borrow.Author.Tests.{eq-eqb, le-leb, lt-ltb}
use Rattle.ground.proofs.All.{all_each}
use Rattle.ground.proofs.Tests.{and_both, or_yes}
use Rattle.rules.specs.Memory.{Machine, lists, list, is_block, is_block_or_none, descriptors, descriptor, nbqr_from}
use Rattle.rules.specs.Queues.{entry_word}
use Rattle.rules.specs.Notices.{head_of, place_of}
use Rattle.rules.specs.Sending.{descriptor_at}
use Rattle.rules.specs.Sound.{is_sized, is_sound, sound_ok, registers_ok, queues_ok, heads_ok, places_ok, waiting_ok, descriptor_ok, descriptors_ok}
use Rattle.laws.specs.Sound.{Ring, Block, Ranges}
use Rattle.demands.specs.Types.{Queue, Saved}
use Rattle.demands.specs.Places.{count}
use Rattle.demands.proofs.Chain.{Tip}
use Rattle.demands.proofs.Ring.{entries_length, entries_at}
use Rattle.demands.proofs.Sight.{below_at, view}
use Rattle.demands.proofs.Boards.{heads, places}
use Rattle.demands.proofs.Descriptors.{Rules}
use Rattle.demands.proofs.Sane.{Sane}
use Rattle.demands.proofs.Numbers.{Numbers}

-- How many answers to receipts have this number, as a register counts them.
abbrev pub tally : ℕ → List ℕ → ℕ
tally reply answered = count reply answered % 2 ^ 32

-- Sized, and every part of soundness, with every next of a block a block address or 0, after these answers to receipts.
pub record Good (answered : List ℕ) (m : Machine) : Type 0 where
  pub sized : is_sized m ≡ true
  pub numbers : Numbers (tally 0 answered) (tally 9 answered) m.saved
  pub sane : Sane (length m.notices) (view m)
  pub rules : Rules m.send (length m.bytes)

-- ---- it is sound

-- By the tests.
pub block_test : (n a : ℕ) → Block n a → is_block n a ≡ true
block_test n a k = and_both (and_both (eq-eqb _ 0 k.aligned) (le-leb 32 a k.low)) (le-leb _ n k.inside)

tip_test : (n a : ℕ) → Tip n a → is_block_or_none n a ≡ true
tip_test n a (inl e) = ap (λ (t : Bool). t || is_block n a) (eq-eqb a 0 e)
tip_test n a (inr k) = or_yes (eqb a 0) (block_test n a k)

-- The registers.
registers_ok_lem : (s : Saved) → Ranges s → registers_ok s ≡ true
unfolding registers_ok
registers_ok_lem s g =
    and_both (and_both (and_both (and_both (and_both (and_both
    g.pcsr0 (le-leb s.inthi 1 g.inthi)) (le-leb s.intlo 1 g.intlo)) (le-leb s.slots 64 g.slots))
    g.sendpointer) g.receivepointer) (lt-ltb s.lastsender 4 g.lastsender)

-- All six parts.
pub good_sound : {xs : List ℕ} (m : Machine) → Good xs m → is_sound m ≡ true
unfolding sound_ok queues_ok heads_ok places_ok waiting_ok descriptors_ok
good_sound m g =
    let n : ℕ = length m.notices in
    let s : Saved = m.saved in
    let r : List ℕ = m.receive in
    let f = g.numbers in
    let queue : (q : Queue) → Ring q → (ltb q.place 256 && leb q.length 256) ≡ true =
    λ q h. and_both (lt-ltb q.place 256 h.place) (le-leb q.length 256 h.length) in
    and_both (and_both (and_both (and_both (and_both
    (registers_ok_lem s f.registers)
    (and_both (and_both (queue s.nqr f.nqr) (queue s.aqr f.aqr)) (queue s.nbqr f.nbqr)))
    (all_each (λ l. is_block_or_none n (head_of r (list l))) lists (λ l h. tip_test n (head_of r (list l)) (rw (below_at (heads r) l h) at (g.sane.head l h)))))
    (all_each (λ l. is_block_or_none n (place_of r (list l))) lists (λ l h. tip_test n (place_of r (list l)) (rw (below_at (places r) l h) at (g.sane.place l h)))))
    (all_each (λ k. is_block n (get_or r (entry_word nbqr_from s.nbqr k) 0)) s.nbqr.length
    (λ k h. block_test n (get_or r (entry_word nbqr_from s.nbqr k) 0)
    (rw (entries_at r s.nbqr s.nbqr.length k h) at (g.sane.queue k (rw (entries_length r s.nbqr 0 s.nbqr.length) h))))))
    (all_each (λ d. descriptor_ok (length m.bytes) (descriptor_at m.send (descriptor d))) descriptors g.rules)
