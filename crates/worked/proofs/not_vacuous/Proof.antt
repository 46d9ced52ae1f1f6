-- `worked::not_vacuous` meets its contract: the worked run computes. Assumes nothing.
use Prim.Native.Nat.{ℕ, zero, suc, ◌^◌, ◌<◌, ◌≤◌}
use mathlib.Core.Path.{◌≡◌, refl}
use mathlib.Core.Logic.{◌≢◌}
use mathlib.Core.Bool.{Bool, true, ◌&&◌}
use mathlib.Core.List.{List, [], ◌∷◌}
use native.Mathlib.Omega.{arith}
use native.Mathlib.Decide.{ℕ_discrete}
use lib.Dec.{eqb, ltb}
use borrow.Author.Tests.{ltb-true}
use Rattle.ground.proofs.Field.{bit_lt}
use Rattle.ground.proofs.Tests.{and_left, and_right}
use Rattle.rules.specs.Opened.{every_rule}
use Rattle.rules.specs.declared.ListIndex.{ListIndex}
use Rattle.rules.specs.declared.BlockAddress.{BlockAddress}
use Rattle.rules.specs.declared.Notice.{Notice}
use Rattle.demands.specs.Runs.{rewritten, after_event, after, gives, opens, posts, gets, rests, clears, store_act, writing_act, posting_act, receiving_act, sending_act, taking_act, act}
use Rattle.demands.specs.History.{gathered, answer_of, handed_by, on_list, posted_by, taken_by}
use Rattle.demands.specs.Places.{count, across, entries, block_of, walk, notice_at}
use Rattle.demands.specs.Fields.{Below}
use Rattle.demands.proofs.Sums.{same_other}
use Rattle.worked.specs.Worked.{sender, packet}
use Rattle.worked.proofs.not_vacuous.Statement.{statement}
use Rattle.worked.proofs.not_vacuous.Tie as tie

-- No act of the run is a reset.
rests_on : rests ≢ clears
rests_on e = let z : ◌≡◌ {A = ℕ} 0 1 = cc in omega arith

opens_on : {l : ListIndex} {b : BlockAddress} → opens l b ≢ clears
opens_on e = let z : ◌≡◌ {A = ℕ} 0 1 = cc in omega arith

gives_on : {b : BlockAddress} → gives b ≢ clears
gives_on e = let z : ◌≡◌ {A = ℕ} 0 1 = cc in omega arith

posts_on : {l : ListIndex} {n : Notice} → posts l n ≢ clears
posts_on e = let z : ◌≡◌ {A = ℕ} 0 1 = cc in omega arith

gets_on : {l : ListIndex} {n : Notice} → gets l n ≢ clears
gets_on e = let z : ◌≡◌ {A = ℕ} 0 1 = cc in omega arith

-- Two blocks, each once.
two : (b : ℕ) → count b (32 ∷ 64 ∷ []) ≤ 1
two b = go (ℕ_discrete b 32)
  where
    go : Dec (b ≡ 32) → count b (32 ∷ 64 ∷ []) ≤ 1
    go (yes e) = rw e (omega arith)
    go (no d) = omega (arith, same_other b 32 d, bit_lt (eqb b 64))

-- Each number of a row is below n, by a test that computes.
below : ℕ → List ℕ → Bool
below n [] = true
below n (x ∷ xs) = ltb x n && below n xs

each : (n : ℕ) (xs : List ℕ) → 0 < n → below n xs ≡ true → Below n xs
unfolding below
each n [] z h i = z
each n (x ∷ xs) z h zero = ltb-true x n (and_left (ltb x n) (below n xs) h)
each n (x ∷ xs) z h (suc i) = each n xs z (and_right (ltb x n) (below n xs) h) i

returns : tie.Need-returns
unfolding below every_rule rewritten after_event after store_act writing_act posting_act receiving_act sending_act taking_act act gathered answer_of handed_by on_list posted_by taken_by across entries block_of walk notice_at
returns c =
    record {
      after_reset = record { asked = refl; done = refl; only = (((((tt, rests_on), opens_on), gives_on), posts_on), gets_on) };
      once = two;
      gave = refl;
      answered = refl;
      post = refl;
      walked = refl;
      stood = refl;
      took = refl;
      stands = refl;
      words = each (2 ^ 32) sender.send (omega arith) refl;
      data_bytes = each 256 sender.bytes (omega arith) refl;
      sized = refl;
      sound = refl;
      active = refl;
      sent = refl;
      formed = refl;
      packet_bytes = each 256 packet (omega arith) refl;
      well_formed_lem = refl;
      received = refl;
    }

pub not_vacuous_spec : {M : Type 1} → statement M
not_vacuous_spec = tie.close (tie.spec returns)
