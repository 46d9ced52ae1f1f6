-- Laws of what the steps of forming a packet leave in the room: d is the room before them, x, y and z after one step, two and three.
-- Assumes nothing.
use Prim.Native.Nat.{ℕ, ◌-◌, ◌*◌, ◌≤◌}
use mathlib.Core.Path.{◌≡◌, refl, sym, ap, ap₂, ◌∙◌}
use mathlib.Core.Bool.{true, false}
use mathlib.Core.List.{List, [], ◌∷◌, ◌++◌}
use native.Mathlib.Omega.{arith}
use lib.ListN.{length, take, length-append}
use lib.Seq.{sets, length-sets}
use Rattle.ground.specs.Bytes.{bytes_of, to_bytes}
use Rattle.ground.specs.Lists.{part}
use Rattle.ground.proofs.Choice.{pick_yes, pick_no}
use Rattle.ground.proofs.Lists.{sets_append, sets_swap, sets_first, part_sets, part_sets_before}
use Rattle.rules.specs.declared.Header.{Header}
use Rattle.rules.specs.declared.Metadata.{Metadata}
use Rattle.rules.specs.Checksum.{check_of}
use Rattle.rules.specs.Memory.{metadata_words}
use Rattle.rules.specs.Packet.{packet_most, header_bytes, metadata_bytes, front_bytes, body_check_bytes, form, header_covered}
use Rattle.rules.specs.Words.{meta_flag}
use Rattle.packet.specs.Packet.{Forming, Formed, Stored}

-- Bytes stored where others end.
then : {a b d x y : List ℕ} {i n r : ℕ} → Stored a i d x n → Stored b n x y r → Stored (a ++ b) i d y r
then {a} {b} {d} {x} {y} {i} {n} {r} s t =
    record {
      room = t.room ∙ ap₂ (λ (l : List ℕ) (k : ℕ). sets l k b) s.room s.ends ∙ sym (sets_append d i a b);
      ends = omega (arith, length-append a b);
    }

module _ (h : Header) (m : Metadata) (d : List ℕ) where
  -- "With the flag, four metadata words."
  pub with_metadata : (x : List ℕ) → meta_flag h.control1 ≡ true → x ≡ sets d 20 (to_bytes (metadata_words m))
      → Stored (metadata_bytes h m) 20 d x 36
  unfolding metadata_bytes
  with_metadata x f e = rw (pick_yes (to_bytes (metadata_words m)) [] f) (record { room = e; ends = refl })

  -- Without it, nothing.
  pub without_metadata : meta_flag h.control1 ≡ false → Stored (metadata_bytes h m) 20 d d 20
  unfolding metadata_bytes
  without_metadata f = rw (pick_no (to_bytes (metadata_words m)) [] f) (record { room = refl; ends = refl })

-- The header, the metadata and then the check between them.
module _ (header metadata d x y : List ℕ) (from : ℕ) (long : length header ≡ 16) (room : 36 ≤ length d) (few : from ≤ 36)
    (first : x ≡ sets d 0 header) (second : Stored metadata 20 x y from) where
  -- What the check covers.
  covers : header_covered from y ≡ header ++ metadata
  covers =
      let lx : length x ≡ length d = ap length first ∙ length-sets d 0 header in
      let k : from - 20 ≡ length metadata = omega arith in
      let a : take 16 y ≡ header =
      ap (take 16) second.room
      ∙ part_sets_before 0 16 x 20 metadata (omega arith) (omega arith)
      ∙ ap (take 16) first
      ∙ ap (λ (n : ℕ). take n (sets d 0 header)) (sym long)
      ∙ part_sets d 0 header (omega arith) in
      let b : part 20 (from - 20) y ≡ metadata =
      ap₂ (λ (n : ℕ) (l : List ℕ). part 20 n l) k second.room ∙ part_sets x 20 metadata (omega arith) in
      ap₂ ◌++◌ a b

  -- The check in its place.
  sealed : (check z : List ℕ) → length check ≡ 4 → z ≡ sets y 16 check → Stored (header ++ check ++ metadata) 0 d z from
  sealed check z four e =
      let a : Stored header 0 d x 16 = record { room = first; ends = omega arith } in
      let b : Stored check 16 x (sets x 16 check) 20 = record { room = refl; ends = omega arith } in
      let c : z ≡ sets (sets x 16 check) 20 metadata =
      e ∙ ap (λ (l : List ℕ). sets l 16 check) second.room ∙ sets_swap x 16 check 20 metadata (omega arith) in
      then (then a b) (record { room = c; ends = second.ends })

-- Words 0 to 4 and the metadata.
pub front : (h : Header) (m : Metadata) (d x y z : List ℕ) (from check word : ℕ) → 36 ≤ length d → from ≤ 36 → x ≡ sets d 0 (header_bytes h)
    → Stored (metadata_bytes h m) 20 x y from → check ≡ check_of (header_covered from y) → word ≡ check * 65536 → z ≡ sets y 16 (bytes_of word)
    → Stored (front_bytes h m) 0 d z from
unfolding front_bytes
front h m d x y z from check word room few first second e v g =
    let s = sealed (header_bytes h) (metadata_bytes h m) d x y from refl room few first second in
    let c : check ≡ check_of (header_bytes h ++ metadata_bytes h m) =
    e ∙ ap check_of (covers (header_bytes h) (metadata_bytes h m) d x y from refl room few first second) in
    let w : word ≡ check_of (header_bytes h ++ metadata_bytes h m) * 65536 = v ∙ ap (λ (k : ℕ). k * 65536) c in
    s (bytes_of (check_of (header_bytes h ++ metadata_bytes h m) * 65536)) z refl (g ∙ ap (λ (k : ℕ). sets y 16 (bytes_of k)) w)

-- The body check has at most four bytes.
length_body_check : (l : List ℕ) → length (body_check_bytes l) ≤ 4
length_body_check [] = omega arith
length_body_check (x ∷ l) = omega arith

-- The whole packet.
pub formed : (h : Header) (m : Metadata) (d x y z payload : List ℕ) (from end r : ℕ) → Forming d payload → from ≤ 36
    → Stored (front_bytes h m) 0 d x from → Stored payload from x y end → Stored (body_check_bytes (part from (end - from) y)) end y z r
    → Formed (form h m payload) d z r
unfolding form
formed h m d x y z payload from end r ask short s p t =
    let lx : length x ≡ length d = ap length s.room ∙ length-sets d 0 (front_bytes h m) in
    let l : end - from ≡ length payload = omega (arith, p.ends) in
    let q : part from (end - from) y ≡ payload =
    ap₂ (λ (k : ℕ) (v : List ℕ). part from k v) l p.room ∙ part_sets x from payload (omega (arith, ask.few, ask.roomy)) in
    let w = then (then s p) (rw q at t) in
    let few : r ≤ packet_most = omega (arith, length_body_check (part from (end - from) y), t.ends, p.ends, ask.few) in
    record {
      room = w.room ∙ sets_first (front_bytes h m ++ payload ++ body_check_bytes payload) d (omega (arith, w.ends, ask.roomy));
      size = omega (arith, w.ends);
      short = few;
    }
