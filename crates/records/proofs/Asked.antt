-- Which call a record asks for. Assumes nothing.
use Prim.Native.Nat.{ℕ, ◌+◌, ◌-◌, ◌<◌, ◌≤◌}
use mathlib.Core.Path.{◌≡◌, refl, sym, ap, ◌∙◌}
use mathlib.Core.List.{List, []}
use native.Mathlib.Omega.{arith}
use borrow.Author.Tests.{eq-eqb, ne_eqb, le-leb, lt-leb}
use lib.Dec.{eqb}
use lib.ListN.{length, get_or}
use Rattle.ground.specs.Bytes.{word_at}
use Rattle.ground.specs.Choice.{pick}
use Rattle.ground.specs.Lists.{part}
use Rattle.ground.proofs.Choice.{pick_yes, pick_no}
use Rattle.rules.specs.Memory.{Machine}
use Rattle.rules.specs.Replies.{Outcome}
use Rattle.rules.specs.Calls.{Call, writes, reads, receives, sends, takes, unknown, perform}
use Rattle.rules.specs.Station.{record_size, kind_of, first_number, second_number, record_packet, packet_room, notice_room, call_of}
use Rattle.records.specs.Records.{PacketTo, Gives}

-- ---- the packet

-- Its length is 168 at most.
pub packet_to : (r : List ℕ) {n : ℕ} → n ≡ word_at r 12 → n ≤ 168 → PacketTo r (16 + n)
unfolding record_packet
packet_to r {n} e h =
    let k : 16 + n - 16 ≡ n = omega arith in
    let l : word_at r 12 ≤ 168 = rw e at h in
    record {
      least = omega arith;
      most = omega arith;
      packet = ap (λ (i : ℕ). part 16 i r) (k ∙ e) ∙ sym (pick_yes (part 16 (word_at r 12) r) [] (le-leb _ _ l));
    }

-- It is more.
pub no_packet : (r : List ℕ) {n : ℕ} → n ≡ word_at r 12 → 168 < n → PacketTo r 16
unfolding record_packet
no_packet r {n} e h =
    let l : 168 < word_at r 12 = rw e at h in
    record { least = omega arith; most = omega arith; packet = sym (pick_no (part 16 (word_at r 12) r) [] (lt-leb _ _ l)) }

-- ---- the call

-- A torn record.
module _ (r : List ℕ) (torn : length r ≡ record_size → ⊥) where
  pub kind_torn : 0 ≡ kind_of r
  unfolding kind_of
  kind_torn = sym (pick_no (get_or r 0 0) 0 (ne_eqb _ _ torn))

  pub call_torn : call_of r ≡ unknown
  unfolding call_of pick
  call_torn = rw (← kind_torn) refl

-- A whole one.
module _ (r : List ℕ) (whole : length r ≡ record_size) where
  pub kind_whole : get_or r 0 0 ≡ kind_of r
  unfolding kind_of
  kind_whole = sym (pick_yes (get_or r 0 0) 0 (eq-eqb _ _ whole))

  pub call_write : get_or r 0 0 ≡ 1 → call_of r ≡ writes (first_number r) (second_number r)
  unfolding call_of pick
  call_write e = let k : kind_of r ≡ 1 = sym kind_whole ∙ e in rw k refl

  pub call_read : get_or r 0 0 ≡ 2 → call_of r ≡ reads (first_number r)
  unfolding call_of pick
  call_read e = let k : kind_of r ≡ 2 = sym kind_whole ∙ e in rw k refl

  pub call_receive : get_or r 0 0 ≡ 3 → call_of r ≡ receives (record_packet r)
  unfolding call_of pick
  call_receive e = let k : kind_of r ≡ 3 = sym kind_whole ∙ e in rw k refl

  pub call_send : get_or r 0 0 ≡ 4 → call_of r ≡ sends (eqb (first_number r) 1) packet_room
  unfolding call_of pick
  call_send e = let k : kind_of r ≡ 4 = sym kind_whole ∙ e in rw k refl

  pub call_take : get_or r 0 0 ≡ 5 → call_of r ≡ takes (first_number r) notice_room
  unfolding call_of pick
  call_take e = let k : kind_of r ≡ 5 = sym kind_whole ∙ e in rw k refl

  pub call_unknown : (get_or r 0 0 ≡ 1 → ⊥) → (get_or r 0 0 ≡ 2 → ⊥) → (get_or r 0 0 ≡ 3 → ⊥) → (get_or r 0 0 ≡ 4 → ⊥) → (get_or r 0 0 ≡ 5 → ⊥) → call_of r ≡ unknown
  unfolding call_of pick
  call_unknown a b c d e = rw (← kind_whole, ne_eqb _ 1 a, ne_eqb _ 2 b, ne_eqb _ 3 c, ne_eqb _ 4 d, ne_eqb _ 5 e) refl

-- The call that was made is the one asked for.
pub gives : (r : List ℕ) (m : Machine) {c : Call} {left : List ℕ → Outcome} (room : List ℕ) → call_of r ≡ c → left room ≡ perform c m → Gives m r left
gives r m room asked made = record { room = room; whole = made ∙ ap (λ (x : Call). perform x m) (sym asked) }
