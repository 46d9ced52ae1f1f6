-- Turns after one another: what a turn makes of the memories, and the lines that all turns write. Assumes nothing.
use Prim.Native.Nat.{ℕ, ◌+◌, ◌-◌, ◌%◌, ◌<◌, ◌≤◌}
use mathlib.Core.Path.{◌≡◌, refl, sym, ap, ◌∙◌}
use mathlib.Core.List.{List, [], ◌++◌, append_assoc, append-nil}
use native.Mathlib.Omega.{arith}
use lib.ListN.{length, replicate, length-append, length-drop, take, drop, take-append-drop, drop_of_length-le}
use lib.Seq.{length-take-le, take-length}
use Rattle.ground.specs.Lists.{part}
use Rattle.ground.proofs.Lists.{length_part, part_add}
use Rattle.rules.specs.Memory.{Machine, machine, send_size, receive_size, data_most, notices_most}
use Rattle.rules.specs.Saved.{reset_saved}
use Rattle.rules.specs.Registers.{pcsr0_number}
use Rattle.rules.specs.Calls.{perform, writes}
use Rattle.rules.specs.Station.{record_size, zero_machine, first_machine, station}
use Rattle.records.specs.Records.{Opens}
use Rattle.records.proofs.Rows.{in_parts}
use Rattle.station.specs.declared.state.Station.{Station}
use Rattle.station.specs.Turns.{answered_to, answered_of, lines_of, waiting_in, came_in, hand_in, machine_in, Answers, Held, held, Zeros, Begun, gone_on, lines_now, Reads, none, ◌▸◌, read, after, written, Going, SoFar, Turnable, Turned, InTurns}
use Rattle.station.proofs.Hand.{at_the_end, before_the_end, part_rest}

-- ---- the lines of a turn

module _ (h : Held) (came : List ℕ) where
  -- Some bytes came: whole records were answered, and the others go on from there.
  whole_lines : 0 < length came → (later : List ℕ)
      → lines_of h.machine (h.waits ++ (came ++ later)) ≡ lines_now h came ++ lines_of (gone_on h came).machine ((gone_on h came).waits ++ later)
  unfolding gone_on lines_now
  whole_lines some later =
      let hand : List ℕ = h.waits ++ came in
      let k : ℕ = answered_to (length came) (length hand) in
      let cut : length hand - length hand % record_size ≡ k = before_the_end (length came) (length hand) (λ z. absurd (omega arith)) in
      let long : length (take k hand) ≡ k = length-take-le k hand (omega arith) in
      let same : h.waits ++ (came ++ later) ≡ take k hand ++ (drop k hand ++ later) =
      sym (append_assoc h.waits came later)
      ∙ ap (λ (l : List ℕ). l ++ later) (sym (take-append-drop k hand))
      ∙ append_assoc (take k hand) (drop k hand) later in
      ap (lines_of h.machine) same ∙ in_parts.lines h.machine (take k hand) (drop k hand ++ later) (omega arith)

-- None came: all that waited was answered.
last_lines : (h : Held) → lines_now h [] ≡ lines_of h.machine h.waits
unfolding lines_now
last_lines h =
    let hand : List ℕ = h.waits ++ [] in
    let all : take (length hand) hand ≡ answered_of 0 hand = ap (λ (k : ℕ). take k hand) (at_the_end 0 (length hand) refl) in
    ap (lines_of h.machine) (sym all ∙ take-length hand ∙ append-nil h.waits)

-- ---- all turns

-- Whatever comes later.
onward : (r : Reads) → Going r → (later : List ℕ) → station (read r ++ later) ≡ written r ++ lines_of (after r).machine ((after r).waits ++ later)
unfolding station
onward none g later = refl
onward (r ▸ came) g later =
    ap station (append_assoc (read r) came later)
    ∙ onward r g.0 (came ++ later)
    ∙ ap (λ (l : List ℕ). written r ++ l) (whole_lines (after r) came g.1 later)
    ∙ sym (append_assoc (written r) _ _)

-- What waits is what the whole records leave of all that was read.
many_wait : (r : Reads) → Going r → length (after r).waits ≡ length (read r) % record_size
unfolding gone_on
many_wait none g = refl
many_wait (r ▸ came) g =
    let hand : List ℕ = (after r).waits ++ came in
    let cut : length hand - length hand % record_size ≡ answered_to (length came) (length hand) = before_the_end _ _ (λ z. absurd (omega (arith, g.1, z))) in
    let rest : length (drop (answered_to (length came) (length hand)) hand) ≡ length hand - answered_to (length came) (length hand) = length-drop _ hand in
    let before : length (after r).waits ≡ length (read r) % record_size = many_wait r g.0 in
    omega (arith, rest, cut, before, length-append (after r).waits came, length-append (read r) came)

pub in_turns : InTurns
in_turns =
    record {
      onward = onward;
      waits = many_wait;
      whole = λ r g.
          ap (λ (l : List ℕ). written r ++ l) (last_lines (after r) ∙ ap (lines_of (after r).machine) (sym (append-nil (after r).waits)))
          ∙ sym (onward r g [])
          ∙ ap station (append-nil (read r));
    }

-- ---- from turn to turn

-- A read leaves the bytes that wait.
pub still_waits : (input input₂ : List ℕ) (kept : ℕ) → kept < record_size → record_size ≤ length input → record_size ≤ length input₂
    → take record_size input₂ ≡ take record_size input → waiting_in input₂ kept ≡ waiting_in input kept
still_waits input input₂ kept h long long₂ same =
    let last : (l : List ℕ) → record_size ≤ length l → drop (record_size - kept) (take record_size l) ≡ waiting_in l kept =
    λ l f.
    let at : 0 + (record_size - kept) ≡ record_size - kept = omega arith in
    let many : record_size - (record_size - kept) ≡ kept = omega arith in
    part_rest 0 (record_size - kept) record_size l (omega arith) f ∙ (λ i. part (at i) (many i) l) in
    sym (last input₂ long₂) ∙ ap (drop (record_size - kept)) same ∙ last input long

-- ---- a turn

-- What it made of what was left before: so much for all turns.
turned : {before left : Held} {came out : List ℕ} {next count : ℕ} → left ≡ gone_on before came → take next out ≡ lines_now before came → next ≤ length out
    → SoFar before count → Turned before count came next left (count + length came) out
turned {before} {left} {came} {out} {next} state lines inside f =
    let now : (r : Reads) → before ≡ after r → written r ++ take next out ≡ written (r ▸ came) =
    λ r e. ap (λ (l : List ℕ). written r ++ l) (lines ∙ ap (λ (h : Held). lines_now h came) e) in
    let on : (r : Reads) → before ≡ after r → left ≡ after (r ▸ came) = λ r e. state ∙ ap (λ (h : Held). gone_on h came) e in
    record {
      state = state;
      lines = lines;
      inside = inside;
      so_far = λ r e. (on r e, now r e);
      whole = λ r g e empty.
          let nothing : came ≡ [] = drop_of_length-le came {i = 0} (omega arith) in
          now r e ∙ ap (λ (l : List ℕ). written (r ▸ l)) nothing ∙ in_turns.whole r g;
      counted = refl;
      goes_on = λ some.
          record {
            reads = f.reads ▸ came;
            going = (f.going, some);
            many = length-append (read f.reads) came ∙ ap (λ (k : ℕ). k + length came) f.many;
            left = on f.reads f.left;
          };
    }

-- What came stands behind what waited.
behind : (input : List ℕ) (kept n : ℕ) → kept < record_size → hand_in input kept n ≡ waiting_in input kept ++ came_in input n
behind input kept n h =
    let at : record_size - kept + kept ≡ record_size = omega arith in
    part_add (record_size - kept) kept n input ∙ ap (λ (k : ℕ). waiting_in input kept ++ part k n input) at

-- By its steps: the records answered, the bytes counted.
pub in_memories : {s left : Station} {n next count : ℕ} → Turnable s n → Answers (machine_in s) n (hand_in s.input s.kept n) next left → count ≡ s.count + n
    → Turned (held s) s.count (came_in s.input n) next (held left) count left.out
unfolding gone_on lines_now
in_memories {s} {left} {n} {next} {count} given answers counted =
    let long : length (came_in s.input n) ≡ n = length_part record_size n s.input given.fits in
    let r : Answers (machine_in s) (length (came_in s.input n)) (waiting_in s.input s.kept ++ came_in s.input n) next left =
    rw (long, ← behind s.input s.kept n s.less) answers in
    let t = turned {came = came_in s.input n} {count = s.count} (λ i. record { machine = r.state i; waits = r.waits i }) r.lines r.inside given.so_far in
    rw (long, ← counted) at t

-- ---- the beginning

-- The opening reset over memories of zeros; no byte waits.
pub begun : {s : Station}
    → Opens (replicate send_size 0) (replicate receive_size 0) (replicate data_most 0) (replicate notices_most 0) (machine_in s) → s.kept ≡ 0 → s.count ≡ 0
    → Begun s
unfolding first_machine zero_machine
begun {s} o zero unread =
    record { opens = λ input. λ i. record { machine = o.reset i; waits = waiting_in input (zero i) }; nothing = zero; none = unread }

-- So has a station whose memories were zeros, once the reset is done in them.
pub begun_in : {z s : Station} → Zeros z → Opens z.send z.receive z.bytes z.notices (machine_in s) → s.kept ≡ 0 → s.count ≡ 0 → Begun s
begun_in {z} {s} zeros o kept count =
    let left : List ℕ → List ℕ → List ℕ → List ℕ → Machine =
    λ send. λ receive. λ bytes. λ notices. (perform (writes pcsr0_number 0x80000000) (machine (reset_saved 0) send receive bytes notices)).machine in
    begun
    (record {
      reset = o.reset
          ∙ ap (λ (l : List ℕ). left l z.receive z.bytes z.notices) zeros.send
          ∙ ap (λ (l : List ℕ). left (replicate send_size 0) l z.bytes z.notices) zeros.receive
          ∙ ap (λ (l : List ℕ). left (replicate send_size 0) (replicate receive_size 0) l z.notices) zeros.bytes
          ∙ ap (λ (l : List ℕ). left (replicate send_size 0) (replicate receive_size 0) (replicate data_most 0) l) zeros.notices;
    })
    kept
    count

-- So it has what no turns left.
pub at_first : {s : Station} → Begun s → SoFar (held s) s.count
at_first {s} b = record { reads = none; going = tt; many = sym b.none; left = b.opens s.input }
