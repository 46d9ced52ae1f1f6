-- A reset leaves a good machine, and each event of a run keeps it good. Assumes nothing.
use Prim.Native.Nat.{ℕ, zero, suc}
use mathlib.Core.Path.{◌≡◌, refl, sym, ◌∙◌}
use mathlib.Core.Logic.{◌≢◌, inl}
use mathlib.Core.Bool.{true, not, ◌&&◌}
use mathlib.Core.List.{List, [], ◌++◌}
use native.Mathlib.Omega.{arith}
use lib.Dec.{eqb, leb}
use lib.ListN.{length, replicate, length-replicate, get_or-replicate}
use borrow.Author.Tests.{eqb-true}
use Rattle.ground.specs.Field.{field}
use Rattle.ground.specs.Lists.{over}
use Rattle.ground.proofs.Choice.{pick_by}
use Rattle.ground.proofs.Field.{field_field}
use Rattle.ground.proofs.Lists.{length_over}
use Rattle.rules.specs.Memory.{Machine, list, head_word, place_word, sizes_ok}
use Rattle.rules.specs.Saved.{resets, pcsr0_ok, without_reset}
use Rattle.rules.specs.Sending.{descriptor_at}
use Rattle.rules.specs.Writes.{clear_descriptors, reset}
use Rattle.rules.specs.Sound.{is_sized}
use Rattle.rules.specs.Calls.{Call, perform}
use Rattle.laws.proofs.Sound.{sized}
use Rattle.demands.specs.Runs.{Run, start, ◌▸◌, calls, outside, rewritten, after_event, after, clears, act}
use Rattle.demands.specs.History.{gathered, NoReset, begun, AfterReset, answer_of, answers}
use Rattle.demands.specs.Places.{entries}
use Rattle.demands.proofs.Reset.{accepted}
use Rattle.demands.proofs.Sight.{below_at, view}
use Rattle.demands.proofs.Steps.{call_step}
use Rattle.demands.proofs.Descriptors.{Rules, idle}
use Rattle.demands.proofs.Numbers.{reset_numbers}
use Rattle.demands.proofs.Sane.{Sane, act_sane}
use Rattle.demands.proofs.Good.{Good}
use Rattle.demands.proofs.Left.{call_left}

-- ---- a reset

-- Its descriptors are not active.
cleared : (send : List ℕ) (n : ℕ) → Rules (over clear_descriptors send) n
unfolding over clear_descriptors descriptor_at
cleared send n zero lt = idle n _ refl
cleared send n (suc zero) lt = idle n _ refl
cleared send n (suc (suc zero)) lt = idle n _ refl
cleared send n (suc (suc (suc zero))) lt = idle n _ refl
cleared send n (suc (suc (suc (suc d)))) lt = absurd (omega arith)

-- Its memories have their sizes.
reset_sized : (v : ℕ) (m : Machine) → is_sized m ≡ true → is_sized (reset v m) ≡ true
unfolding reset clear_descriptors
reset_sized v m h =
    let zero_word : ℕ = 0 in
    let known = sized (length m.send) (length m.receive) (length m.bytes) (length m.notices) h in
    let send : length (over clear_descriptors m.send) ≡ length m.send = length_over clear_descriptors m.send (omega (arith, known.send)) in
    let receive : length (replicate 2048 zero_word) ≡ length m.receive = length-replicate 2048 zero_word ∙ sym known.receive in
    let notices : length (replicate (length m.notices) zero_word) ≡ length m.notices = length-replicate (length m.notices) zero_word in
    (λ i. sizes_ok (send i) (receive i) (length m.bytes) (notices i)) ∙ h

-- Its heads, places and nexts are 0, and nothing waits.
reset_sane : (v : ℕ) (m : Machine) → Sane (length (reset v m).notices) (view (reset v m))
unfolding reset entries
reset_sane v m =
    let n : ℕ = length m.notices in
    record {
      size = refl;
      head = λ k h. inl (below_at _ k h ∙ get_or-replicate 2048 (head_word (list k)) 0 0 (omega arith));
      place = λ k h. inl (below_at _ k h ∙ get_or-replicate 2048 (place_word (list k)) 0 0 (omega arith));
      queue = λ k h. absurd (omega arith);
      next = λ b k. inl (get_or-replicate n _ 0 0 (omega (arith, k.inside, length-replicate {A = ℕ} n 0)));
    }

-- So it is good, before any receipt.
good_reset : (v : ℕ) (m : Machine) → is_sized m ≡ true → pcsr0_ok v ≡ true → Good [] (reset v m)
unfolding reset
good_reset v m h ok =
    let w : ℕ = without_reset v in
    let off : field 31 1 w ≡ 0 = omega arith in
    let control : (not (resets w) && pcsr0_ok w) ≡ true =
    (λ i. not (eqb (off i) 1) && (eqb (field_field 20 10 1 0 v i) 0 && leb (field_field 0 16 15 0 v i) 4095)) ∙ ok in
    record {
      sized = reset_sized v m h;
      numbers = reset_numbers w control;
      sane = reset_sane v m;
      rules = cleared m.send (length m.bytes);
    }

-- ---- runs

-- A call that is no other reset.
good_call : (xs : List ℕ) (c : Call) (m : Machine) → act c m ≢ clears → Good xs m → Good (xs ++ answer_of c m) (perform c m).machine
good_call xs c m d g =
    let l = call_left xs c m d g in
    let step = call_step c m d in
    let sane : Sane (length m.notices) (view (perform c m).machine) = rw step.is (act_sane (act c m) (view m) step.may g.sane) in
    record {
      sized = (λ i. sizes_ok (l.send i) (l.receive i) (l.bytes i) (sane.size i)) ∙ g.sized;
      numbers = l.numbers;
      sane = rw sane.size sane;
      rules = rw l.bytes l.rules;
    }

-- Data memory written from outside.
rewritten_length : (new old : List ℕ) → length (rewritten new old) ≡ length old
unfolding rewritten
rewritten_length new old = pick_by (λ (x : List ℕ). length x ≡ length old) (eqb (length new) (length old)) (λ e. eqb-true (length new) (length old) e) (λ e. refl)

-- Every event.
good_run : (s : Machine) → Good [] s → (r : Run) → NoReset s r → Good (answers s r) (after s r)
unfolding after after_event gathered
good_run s g start calm = g
good_run s g (r ▸ calls c) calm = good_call (answers s r) c (after s r) calm.1 (good_run s g r calm.0)
good_run s g (r ▸ outside new) calm =
    let m : Machine = after s r in
    let h : Good (answers s r) m = good_run s g r calm in
    let e : length (rewritten new m.bytes) ≡ length m.bytes = rewritten_length new m.bytes in
    record {
      sized = (λ i. sizes_ok (length m.send) (length m.receive) (e i) (length m.notices)) ∙ h.sized;
      numbers = h.numbers;
      sane = h.sane;
      rules = rw e h.rules;
    }

-- After any run after a reset.
pub good_since : (v : ℕ) (m : Machine) (r : Run) → AfterReset v m r → Good (answers (begun v m) r) (after (begun v m) r)
good_since v m r h =
    let a = accepted v m h.asked h.done in
    good_run (begun v m) (rw a.left (good_reset v m a.sized a.value)) r h.only
