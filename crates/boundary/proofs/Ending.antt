-- How a call over plain slices refuses, and how it ends. Assumes nothing.
use Prim.Native.Nat.{ℕ, ◌+◌, ◌≤◌}
use mathlib.Core.Path.{◌≡◌, refl, sym, ap, ◌∙◌}
use mathlib.Core.Bool.{Bool, true, false, not}
use mathlib.Core.List.{List, append-nil}
use native.Mathlib.Nat.{zero-add}
use native.Mathlib.Omega.{arith}
use borrow.Author.Tests.{eqb-true, eq-eqb, leb-true, le-leb, not-true, not-false}
use lib.Dec.{eqb, leb}
use lib.ListN.{length}
use lib.Seq.{sets, sets-eq, drop-length}
use Rattle.ground.proofs.Choice.{pick_yes, pick_no}
use Rattle.ground.proofs.Tests.{and_left, and_right}
use Rattle.rules.specs.declared.Answer.{Answer}
use Rattle.rules.specs.declared.Saved.{Saved}
use Rattle.rules.specs.Memory.{Machine, machine}
use Rattle.rules.specs.Replies.{Outcome, answered}
use Rattle.boundary.specs.Boundary.{saved_size, answer_size, saved_of, lent_ok, Lent, lent, left, leaves, exported, Writable, Ends}

-- As many words stored as there are leave just those.
pub full : (w vs : List ℕ) → length w ≡ length vs → sets w 0 vs ≡ vs
full w vs h =
    let l : 0 + length vs ≤ length w = omega arith in
    sets-eq vs w 0 l ∙ rw (zero-add (length vs), ← h, drop-length w) (append-nil vs)

-- The test of the two lengths did not fail: both slices can be written, and the saved state's has its size.
pub writable : {w answer : List ℕ} {ok : Bool} → ok ≡ lent_ok (length w) (length answer) → not ok ≡ false → Writable w answer
writable {w} {answer} {ok} said passed =
    let both : lent_ok (length w) (length answer) ≡ true = sym said ∙ not-false ok passed in
    record {
      size = eqb-true _ _ (and_left (eqb (length w) saved_size) (leb answer_size (length answer)) both);
      room = leb-true _ _ (and_right (eqb (length w) saved_size) (leb answer_size (length answer)) both);
    }

pub sized : (w answer : List ℕ) {ok : Bool} → ok ≡ lent_ok (length w) (length answer) → not ok ≡ false → length w ≡ saved_size
sized w answer said passed = (writable {w = w} {answer = answer} said passed).size

module _ (call : Machine → List ℕ → Outcome) (l : Lent) where
  -- It failed.
  pub refuses : {ok : Bool} → ok ≡ lent_ok (length l.saved) (length l.answer) → not ok ≡ true → left 13 l ≡ exported call l
  unfolding exported
  refuses {ok} said failed = sym (pick_no _ _ (sym said ∙ not-true ok failed))

  -- Carried out.
  pub ends : {s : Saved} {a : Answer} {r : ℕ} {saved₂ send₂ receive₂ bytes₂ notices₂ room₂ answer₂ : List ℕ} → Writable l.saved l.answer
      → s ≡ saved_of l.saved
      → answered a send₂ receive₂ bytes₂ notices₂ room₂ ≡ call (machine s l.send l.receive l.bytes l.notices) l.room
      → Ends a l.answer r saved₂ answer₂
      → left r (lent saved₂ send₂ receive₂ bytes₂ notices₂ room₂ answer₂) ≡ exported call l
  unfolding exported
  ends {s} {a} {r} {saved₂} {send₂} {receive₂} {bytes₂} {notices₂} {room₂} {answer₂} w loaded called e =
      let both : lent_ok (length l.saved) (length l.answer) ≡ true = rw (eq-eqb _ _ w.size, le-leb _ _ w.room) refl in
      let o : Outcome = answered a send₂ receive₂ bytes₂ notices₂ room₂ in
      let same : left r (lent saved₂ send₂ receive₂ bytes₂ notices₂ room₂ answer₂) ≡ left o.reply (leaves o l.answer) =
      λ i. left (e.number i) (lent (e.saved i) send₂ receive₂ bytes₂ notices₂ room₂ (e.answer i)) in
      same
      ∙ ap (λ (x : Outcome). left x.reply (leaves x l.answer)) (called ∙ ap (λ (t : Saved). call (machine t l.send l.receive l.bytes l.notices) l.room) loaded)
      ∙ sym (pick_yes _ _ both)
