-- A row of records taken one at a time. Assumes nothing.
use Prim.Native.Nat.{ℕ, zero, suc, ◌+◌, ◌*◌, ◌/◌, ◌<◌, ◌≤◌, min}
use mathlib.Core.Path.{◌≡◌, refl, sym, ap, ap₂, ◌∙◌}
use mathlib.Core.List.{List, [], ◌∷◌, ◌++◌, append_assoc}
use native.Mathlib.Omega.{arith}
use lib.ListN.{length, take, drop, length-append, length-drop}
use lib.Seq.{sets, take-append_seam, drop-append_seam, take-append-le, drop-append-le}
use Rattle.std.proofs.lemmas.List.{take_min, drop_min}
use Rattle.ground.proofs.Lists.{sets_append}
use Rattle.rules.specs.declared.Answer.{Answer}
use Rattle.rules.specs.Memory.{Machine, machine}
use Rattle.rules.specs.Replies.{Outcome, answered, reply_number, reply_value}
use Rattle.rules.specs.Station.{record_size, kind_of, line_of, record_line, lines_from}
use Rattle.lines.specs.Lines.{Written, line_most}
use Rattle.records.specs.Records.{Keeps, outcome_of, Gives, Steps, machine_after, Parted}
use Rattle.records.specs.declared.machine.Lent.{Lent}

-- ---- one record

-- Its call and its line.
pub stepped : {m : Machine} {r : List ℕ} (a : Answer) {send receive bytes notices before after : List ℕ} {at n : ℕ} {kind : ℕ}
    → Gives m r (answered a send receive bytes notices) → kind ≡ kind_of r
    → Written (line_of kind (reply_number a.reply) (reply_value a.reply) a.interrupts) at before after n → n ≤ at + line_most
    → Steps m r at before n (machine a.saved send receive bytes notices) after
unfolding record_line
stepped {m} {r} a g k w short =
    let line : Outcome → List ℕ = λ o. line_of (kind_of r) o.reply o.value o.interrupts in
    let same : line_of (kind_of r) (reply_number a.reply) (reply_value a.reply) a.interrupts ≡ line (outcome_of m r) = ap line g.whole in
    record { state = ap (λ (o : Outcome). o.machine) g.whole; line = rw (k, same) at w; short = short }

-- ---- the lent memories

-- As they are.
pub keeps_same : (m : Lent) → Keeps m m
keeps_same m = record { send = refl; receive = refl; bytes = refl; notices = refl }

-- After one step and the next.
pub keeps_then : {a b c : Lent} → Keeps a b → Keeps b c → Keeps a c
keeps_then k l = record { send = l.send ∙ k.send; receive = l.receive ∙ k.receive; bytes = l.bytes ∙ k.bytes; notices = l.notices ∙ k.notices }

-- ---- as many turns as there are bytes are enough

rest : (x : ℕ) (xs : List ℕ) (n : ℕ) → length (x ∷ xs) ≤ suc n → length (drop record_size (x ∷ xs)) ≤ n
rest x xs n h = omega (arith, length-drop record_size (x ∷ xs))

enough : (n k : ℕ) (m : Machine) (l : List ℕ) → length l ≤ n → length l ≤ k
    → (lines_from n m l ≡ lines_from k m l) × (machine_after n m l ≡ machine_after k m l)
unfolding lines_from machine_after
enough zero zero m l h g = (refl, refl)
enough zero (suc k) m [] h g = (refl, refl)
enough zero (suc k) m (x ∷ xs) h g = absurd (omega arith)
enough (suc n) zero m [] h g = (refl, refl)
enough (suc n) zero m (x ∷ xs) h g = absurd (omega arith)
enough (suc n) (suc k) m [] h g = (refl, refl)
enough (suc n) (suc k) m (x ∷ xs) h g =
    let r : List ℕ = take record_size (x ∷ xs) in
    let on = enough n k (outcome_of m r).machine (drop record_size (x ∷ xs)) (rest x xs n h) (rest x xs k g) in
    (ap (λ (t : List ℕ). record_line r (outcome_of m r) ++ t) on.0, on.1)

-- ---- a row

-- What stands past the first record has enough turns either way.
others : (m : Machine) (x : ℕ) (xs : List ℕ) → let l = drop record_size (x ∷ xs) in let m₂ = (outcome_of m (take record_size (x ∷ xs))).machine in
    (lines_from (length xs) m₂ l ≡ lines_from (length l) m₂ l) × (machine_after (length xs) m₂ l ≡ machine_after (length l) m₂ l)
others m x xs =
    let l : List ℕ = drop record_size (x ∷ xs) in
    enough (length xs) (length l) (outcome_of m (take record_size (x ∷ xs))).machine l (rest x xs (length xs) (omega arith)) (omega arith)

-- The lines of an input, the first one and the others.
lines_first : (m : Machine) (l : List ℕ) → 0 < length l
    → lines_from (length l) m l
    ≡ record_line (take record_size l) (outcome_of m (take record_size l))
    ++ lines_from (length (drop record_size l)) (outcome_of m (take record_size l)).machine (drop record_size l)
unfolding lines_from
lines_first m [] h = absurd (omega arith)
lines_first m (x ∷ xs) h =
    ap (λ (t : List ℕ). record_line (take record_size (x ∷ xs)) (outcome_of m (take record_size (x ∷ xs))) ++ t)
    (others m x xs).0

machine_first : (m : Machine) (l : List ℕ) → 0 < length l
    → machine_after (length l) m l ≡ machine_after (length (drop record_size l)) (outcome_of m (take record_size l)).machine (drop record_size l)
unfolding machine_after
machine_first m [] h = absurd (omega arith)
machine_first m (x ∷ xs) h = (others m x xs).1

-- What is left of an input gives the end that the whole gives.
pub record Left (final : Machine) (total before : List ℕ) (m : Machine) (l : List ℕ) (next : ℕ) (out : List ℕ) : Type 0 where
  pub state : machine_after (length l) m l ≡ final
  pub stored : sets out next (lines_from (length l) m l) ≡ sets before 0 total
  pub place : next + length (lines_from (length l) m l) ≡ length total

-- At first the whole is left.
pub begun : (m : Machine) (input out : List ℕ) → Left (machine_after (length input) m input) (lines_from (length input) m input) out m input 0 out
begun m input out = record { state = refl; stored = refl; place = omega arith }

module _ {final : Machine} {total before : List ℕ} where
  -- One record less.
  pub turn : {m m₂ : Machine} {l : List ℕ} {next : ℕ} {out : List ℕ} {t : ℕ} {out₂ : List ℕ} → 0 < length l
      → Steps m (take record_size l) next out t m₂ out₂ → Left final total before m l next out
      → Left final total before m₂ (drop record_size l) t out₂
  turn {m} {m₂} {l} {next} {out} {t} {out₂} some s f =
      let o : Outcome = outcome_of m (take record_size l) in
      let line : List ℕ = record_line (take record_size l) o in
      let others : List ℕ = lines_from (length (drop record_size l)) o.machine (drop record_size l) in
      let all : lines_from (length l) m l ≡ line ++ others = lines_first m l some in
      let stored : sets out₂ t others ≡ sets before 0 total =
      ap₂ (λ (d : List ℕ) (i : ℕ). sets d i others) s.line.buffer s.line.ends
      ∙ sym (sets_append out next line others)
      ∙ ap (sets out next) (sym all)
      ∙ f.stored in
      let place : t + length others ≡ length total = omega (arith, s.line.ends, f.place, ap length all, length-append line others) in
      rw s.state (record { state = sym (machine_first m l some) ∙ f.state; stored = stored; place = place })

  -- The record that a chunk is.
  pub onward : {m m₂ : Machine} {l others record₁ : List ℕ} {next : ℕ} {out : List ℕ} {t : ℕ} {out₂ : List ℕ} → 0 < length l
      → l ≡ record₁ ++ others → length record₁ ≡ min record_size (length l)
      → Steps m record₁ next out t m₂ out₂ → Left final total before m l next out
      → Left final total before m₂ others t out₂
  onward {l = l} {others} {record₁} some cut size s f =
      let first : record₁ ≡ take record_size l = sym (take-append_seam record₁ others) ∙ (λ i. take (size i) (sym cut i)) ∙ take_min record_size l in
      let rest : others ≡ drop record_size l = sym (drop-append_seam record₁ others) ∙ (λ i. drop (size i) (sym cut i)) ∙ drop_min record_size l in
      rw rest (turn some (rw first at s) f)

  -- None is left.
  pub ended : {m : Machine} {next : ℕ} {out : List ℕ} (l : List ℕ) → length l ≡ 0 → Left final total before m l next out → (m ≡ final) × Written total 0 before out next
  unfolding lines_from machine_after
  ended [] h f = (f.state, record { buffer = f.stored; ends = omega (arith, f.place) })
  ended (x ∷ l) h f = absurd (omega arith)

-- ---- an input in parts

module _ (b : List ℕ) where
  -- So many whole records first.
  parted : (k : ℕ) (m : Machine) (a : List ℕ) → length a ≡ record_size * k
      → (lines_from (length (a ++ b)) m (a ++ b) ≡ lines_from (length a) m a ++ lines_from (length b) (machine_after (length a) m a) b)
      × (machine_after (length (a ++ b)) m (a ++ b) ≡ machine_after (length b) (machine_after (length a) m a) b)
  unfolding lines_from machine_after
  parted zero m [] h = (refl, refl)
  parted zero m (x ∷ a) h = absurd (omega arith)
  parted (suc k) m a h =
      let long : record_size ≤ length a = omega arith in
      let first : take record_size (a ++ b) ≡ take record_size a = take-append-le record_size a b long in
      let others : drop record_size (a ++ b) ≡ drop record_size a ++ b = drop-append-le record_size a b long in
      let o : Outcome = outcome_of m (take record_size a) in
      let some : 0 < length (a ++ b) = omega (arith, length-append a b) in
      let less : length (drop record_size a) ≡ record_size * k = omega (arith, length-drop record_size a) in
      let r = parted k o.machine (drop record_size a) less in
      let there : machine_after (length a) m a ≡ machine_after (length (drop record_size a)) o.machine (drop record_size a) = machine_first m a (omega arith) in
      let line : List ℕ = record_line (take record_size a) o in (
        rw (lines_first m (a ++ b) some, first, others, r.0, lines_first m a (omega arith), there)
            (sym (append_assoc line (lines_from (length (drop record_size a)) o.machine (drop record_size a)) _)),
        rw (machine_first m (a ++ b) some, first, others, r.1, there) refl,
      )

-- Whole records first.
pub in_parts : Parted
in_parts =
    record {
      lines = λ m a b h. let k : length a ≡ record_size * (length a / record_size) = omega arith in (parted b (length a / record_size) m a k).0;
      state = λ m a b h. let k : length a ≡ record_size * (length a / record_size) = omega arith in (parted b (length a / record_size) m a k).1;
    }
