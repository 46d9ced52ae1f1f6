-- `demands::never_unsound` meets its contract: a good machine is sized, and not unsound. Assumes nothing.
use Prim.Native.Nat.{ℕ}
use mathlib.Core.Path.{sym, ◌∙◌}
use mathlib.Core.Logic.{◌≢◌}
use mathlib.Core.Bool.{true≢false}
use mathlib.Core.List.{List}
use native.Mathlib.Omega.{arith}
use lib.ListN.{length}
use Rattle.rules.specs.Memory.{Machine, list}
use Rattle.rules.specs.Notices.{place_of}
use Rattle.rules.specs.Replies.{Outcome}
use Rattle.rules.specs.Calls.{Call, perform}
use Rattle.laws.specs.Sound.{Block}
use Rattle.laws.specs.Verdicts.{Unfit, unsound, bad_next}
use Rattle.demands.specs.Runs.{Run, after}
use Rattle.demands.specs.History.{begun, AfterReset}
use Rattle.demands.proofs.Blocks.{next}
use Rattle.demands.proofs.Chain.{tip_block}
use Rattle.demands.proofs.Sight.{below_at}
use Rattle.demands.proofs.Boards.{places}
use Rattle.demands.proofs.Answers.{Answered, done, fault, refusal, waits, answered}
use Rattle.demands.proofs.Good.{Good, good_sound, block_test}
use Rattle.demands.proofs.Since.{good_since}
use Rattle.demands.proofs.never_unsound.Statement.{statement}
use Rattle.demands.proofs.never_unsound.Tie as tie

-- A good machine is not unfit: where a reader's place is a block, its next is one or 0.
good_fit : {xs : List ℕ} (m : Machine) → Good xs m → Unfit m → ⊥
good_fit m g (unsound e) = true≢false (sym (good_sound m g) ∙ e)
good_fit m g (bad_next l b) =
    let n : ℕ = length m.notices in
    let p : ℕ = place_of m.receive (list l) in
    let k : Block n p = tip_block n p b.place (rw (below_at (places m.receive) l b.there) at (g.sane.place l b.there)) in
    true≢false (sym (block_test n (next m.notices p) (tip_block n (next m.notices p) b.next (g.sane.next p k))) ∙ b.bad)

-- However a call answers.
answers_fit : {xs : List ℕ} (m : Machine) {room : List ℕ} {o : Outcome} → Good xs m → Answered m room o → (o.reply ≢ 13) × (o.reply ≢ 14)
answers_fit m g (done e) = (omega arith, omega arith)
answers_fit m g (fault e) = (omega arith, omega arith)
answers_fit m g (refusal why r e) =
    rw e ((λ n. true≢false (sym g.sized ∙ r.sizes n)), (λ n. good_fit m g (r.unsound n)))
answers_fit m g (waits d chosen e) = rw e (omega arith, omega arith)

-- After a run.
fits : (v : ℕ) (m : Machine) (r : Run) → AfterReset v m r → (c : Call)
    → ((perform c (after (begun v m) r)).reply ≢ 13) × ((perform c (after (begun v m) r)).reply ≢ 14)
fits v m r h c = answers_fit (after (begun v m) r) (good_since v m r h) (answered c (after (begun v m) r))

returns : tie.Need-returns
returns c = record { sizes = λ v m r h c. (fits v m r h c).0; unsound = λ v m r h c. (fits v m r h c).1 }

pub never_unsound_spec : {M : Type 1} → statement M
never_unsound_spec = tie.close (tie.spec returns)
