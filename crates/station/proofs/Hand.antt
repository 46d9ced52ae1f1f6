-- The bytes at hand: which are answered, which wait, and where. Assumes nothing.
use Prim.Native.Nat.{ℕ, ◌+◌, ◌-◌, ◌*◌, ◌/◌, ◌%◌, ◌<◌, ◌≤◌}
use mathlib.Core.Path.{◌≡◌, refl, sym, ap, ◌∙◌}
use mathlib.Core.List.{List}
use native.Mathlib.Omega.{arith}
use borrow.Author.Tests.{eq-eqb, ne_eqb}
use lib.Dec.{eqb}
use lib.ListN.{length, take, drop}
use lib.Seq.{sets, length-sets, drop_at, take-take}
use Rattle.ground.specs.Lists.{part}
use Rattle.ground.proofs.Choice.{arm_yes, arm_no, pick_holds}
use Rattle.ground.proofs.Lists.{part_sets, part_add, length_part}
use Rattle.rules.specs.Memory.{Machine, machine}
use Rattle.station.specs.declared.state.Station.{Station}
use Rattle.rules.specs.Station.{record_size, lines_from}
use Rattle.records.specs.Records.{machine_after, Runs}
use Rattle.station.specs.Turns.{answered_to, answered_of, waiting_of, waiting_in, hand_in, Begins, Answers}

-- ---- which are answered

-- None came: all of them.
pub at_the_end : (came filled : ℕ) → came ≡ 0 → filled ≡ answered_to came filled
unfolding answered_to
at_the_end came filled e = arm_yes (filled / record_size * record_size) (eq-eqb came 0 e) refl

-- Some came: the whole records.
pub before_the_end : (came filled : ℕ) → (came ≡ 0 → ⊥) → filled - filled % record_size ≡ answered_to came filled
unfolding answered_to
before_the_end came filled n = arm_no filled (ne_eqb came 0 n) (omega arith)

-- All but less than a record.
pub nearly_all : {end : ℕ} (came filled : ℕ) → end ≡ answered_to came filled → (end ≤ filled) × (filled < end + record_size)
unfolding answered_to
nearly_all {end} came filled e =
    rw e
    (pick_holds (λ (k : ℕ). (k ≤ filled) × (filled < k + record_size)) (eqb came 0) (omega arith, omega arith) (omega arith, omega arith))

-- ---- bytes that wait

-- What was stored_there there.
stored_there : (i n : ℕ) (v l : List ℕ) → length v ≡ n → i + n ≤ length l → part i n (sets l i v) ≡ v
stored_there i n v l e h = ap (λ (k : ℕ). part i k (sets l i v)) (sym e) ∙ part_sets l i v (omega arith)

-- A part that came there by way of another room.
pub to_wait : {room after : List ℕ} (from to : ℕ) (input rest : List ℕ)
    → Begins input from to → record_size ≤ length rest → room ≡ sets rest 0 (part from (to - from) input) → after ≡ sets input (record_size - (to - from)) (take (to - from) room)
    → waiting_in after (to - from) ≡ part from (to - from) input
to_wait from to input rest h wide there back =
    let n : ℕ = to - from in
    let v : List ℕ = part from n input in
    let e : length v ≡ n = length_part from n input (omega (arith, h.order, h.inside)) in
    let held : take n (sets rest 0 v) ≡ v = stored_there 0 n v rest e (omega (arith, h.less, wide)) in
    ap (λ (x : List ℕ). waiting_in x n) back
    ∙ ap (λ (x : List ℕ). waiting_in (sets input (record_size - n) (take n x)) n) there
    ∙ ap (λ (x : List ℕ). waiting_in (sets input (record_size - n) x) n) held
    ∙ stored_there (record_size - n) n v input e (omega (arith, h.less, h.first))

-- ---- the records answered, the rest kept

-- The start of a part, and the rest of it.
part_start : (a k n : ℕ) (l : List ℕ) → k ≤ n → take k (part a n l) ≡ part a k l
part_start a k n l h = take-take k n (drop a l) h

pub part_rest : (a k n : ℕ) (l : List ℕ) → k ≤ n → a + n ≤ length l → drop k (part a n l) ≡ part (a + k) (n - k) l
part_rest a k n l h f =
    let e : n ≡ k + (n - k) = omega arith in
    ap (λ (x : ℕ). drop k (part a x l)) e
    ∙ ap (drop k) (part_add a k (n - k) l)
    ∙ drop_at (part a k l) (part (a + k) (n - k) l) k (length_part a k l (omega arith))

-- Where the records end that are answered, and what is left from there on.
module _ {to : ℕ} (input : List ℕ) (kept came : ℕ) (less : kept < record_size) (fits : record_size + came ≤ length input) (e : to ≡ answered_to came (kept + came)) where
  pub end_inside : record_size - kept + to ≤ length input
  end_inside = omega (arith, less, fits, (nearly_all came (kept + came) e).0)

  pub rest_begins : Begins input (record_size - kept + to) (record_size + came)
  rest_begins =
      let near = nearly_all came (kept + came) e in
      record { order = omega (arith, less, near.0); inside = fits; less = omega (arith, less, near.1); first = omega (arith, fits) }

  -- Less than a record waits.
  pub less_waits : record_size + came - (record_size - kept + to) < record_size
  less_waits = let near = nearly_all came (kept + came) e in omega (arith, less, near.0, near.1)

-- The records up to their end were run, and the bytes from there on kept.
pub answers : {m end : Machine} {before : List ℕ} {t : ℕ} {left : Station} (input : List ℕ) (kept came to : ℕ)
    → kept < record_size → record_size + came ≤ length input → to ≡ answered_to came (kept + came)
    → Runs m (part (record_size - kept) (record_size - kept + to - (record_size - kept)) input) before t end left.out
    → machine left.saved left.send left.receive left.bytes left.notices ≡ end
    → left.kept ≡ record_size + came - (record_size - kept + to)
    → waiting_in left.input (record_size + came - (record_size - kept + to)) ≡ part (record_size - kept + to) (record_size + came - (record_size - kept + to)) input
    → Answers m came (hand_in input kept came) t left
answers {m} {end} {before} {t} {left} input kept came to less fits e ran stored many waits =
    let start : ℕ = record_size - kept in
    let cut : start + to - start ≡ to = omega arith in
    let r : Runs m (part start to input) before t end left.out = rw cut at ran in
    let hand : List ℕ = hand_in input kept came in
    let near = nearly_all came (kept + came) e in
    let size : length hand ≡ kept + came = length_part start (kept + came) input (omega arith) in
    let whole : answered_to came (length hand) ≡ to = ap (answered_to came) size ∙ sym e in
    let first : answered_of came hand ≡ part start to input = ap (λ (n : ℕ). take n hand) whole ∙ part_start start to (kept + came) input near.0 in
    let over : left.kept ≡ kept + came - to = omega (arith, many, near.0) in
    let others : waiting_of came hand ≡ part (start + to) left.kept input =
    ap (λ (n : ℕ). drop n hand) whole
    ∙ part_rest start to (kept + came) input near.0 (omega arith)
    ∙ ap (λ (n : ℕ). part (start + to) n input) (sym over) in
    let lines : List ℕ = lines_from (length (part start to input)) m (part start to input) in
    let long : length left.out ≡ length before = ap length r.lines.buffer ∙ length-sets before 0 lines in
    let written : take t left.out ≡ lines =
    ap (take t) r.lines.buffer ∙ stored_there 0 t lines before (omega (arith, r.lines.ends)) (omega (arith, r.inside)) in
    record {
      state = stored
          ∙ r.state
          ∙ ap (λ (l : List ℕ). machine_after (length l) m l) (sym first);
      lines = written ∙ ap (λ (l : List ℕ). lines_from (length l) m l) (sym first);
      inside = r.inside;
      waits = ap (waiting_in left.input) many ∙ waits ∙ ap (λ (n : ℕ). part (start + to) n input) (sym many) ∙ sym others;
    }
