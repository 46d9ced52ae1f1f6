-- What is read of a packet that was formed. Assumes nothing.
use Prim.Native.Nat.{ℕ, ◌+◌, ◌-◌, ◌%◌, ◌^◌, ◌<◌, ◌≤◌}
use mathlib.Core.Path.{◌≡◌, refl, sym, ap, ap₂, ◌∙◌}
use mathlib.Core.Logic.{◌⊎◌, inl, inr}
use mathlib.Core.Bool.{Bool, true, false, ◌||◌}
use mathlib.Core.List.{List, [], ◌∷◌, ◌++◌, append_assoc}
use native.Mathlib.Omega.{arith}
use lib.Dec.{eqb}
use lib.ListN.{length, take, length-append}
use lib.Seq.{take_at, drop_at}
use borrow.Author.Tests.{eq-eqb, ne_eqb, le-leb}
use Rattle.ground.specs.Bytes.{word_at, bytes_of, to_bytes}
use Rattle.ground.specs.Choice.{pick}
use Rattle.ground.specs.Field.{field}
use Rattle.ground.specs.Lists.{part}
use Rattle.ground.proofs.Bytes.{Bytes, cut_join, word_bytes, bytes_append, bytes_row}
use Rattle.ground.proofs.Choice.{pick_holds}
use Rattle.rules.specs.Words.{meta_flag}
use Rattle.rules.specs.Memory.{no_metadata, metadata_words}
use Rattle.rules.specs.Checksum.{check_of}
use Rattle.rules.specs.Packet.{header_bytes, metadata_bytes, check_word, body_check_bytes, front_bytes, form, header_of, payload_from, payload_length, payload_of, metadata_of, length_ok, is_packet, header_checks, body_checks}
use Rattle.demands.specs.Types.{Metadata, Header}
use Rattle.demands.specs.Fields.{Below}
use Rattle.demands.proofs.Packets.{check_lt, body_some}

-- What a packet can be formed of.
pub record Fits (h : Header) (m : Metadata) (p : List ℕ) : Type 0 where
  pub header : Below (2 ^ 32) (h.address0 ∷ h.address1 ∷ h.control0 ∷ h.control1 ∷ [])
  pub metadata : Below (2 ^ 32) (metadata_words m)
  pub payload : Bytes p
  pub most : length p ≤ 128
  pub fours : length p % 4 ≡ 0

-- A payload of n bytes with a body check of t.
abbrev Ends : ℕ → ℕ → Type 0
Ends n t = ((n ≡ 0) × (t ≡ 0)) ⊎ ((0 < n) × (t ≡ 4))

-- By the payload.
ends : (p : List ℕ) → Ends (length p) (length (body_check_bytes p))
ends [] = inl (refl, refl)
ends (x ∷ p) = inr (omega arith, refl)

-- The payload's length is what is left of the whole.
left : (from n t : ℕ) → Ends n t → from + (n + t) - from - 4 ≡ n
left from n t (inl e) = omega arith
left from n t (inr e) = omega arith

-- The length's rule.
length_rule : (f : Bool) (k n t : ℕ) → k ≡ pick f 36 20 + (n + t) → n ≤ 128 → n % 4 ≡ 0 → Ends n t → length_ok f k ≡ true
unfolding pick
length_rule true k n t e h z (inl x) = rw (eq-eqb (k % 4) 0 (omega arith), eq-eqb k 36 (omega arith))
length_rule true k n t e h z (inr x) =
    rw (eq-eqb (k % 4) 0 (omega arith), ne_eqb k 36 (λ a. omega arith), le-leb 44 k (omega arith), le-leb k 168 (omega arith))
length_rule false k n t e h z (inl x) = rw (eq-eqb (k % 4) 0 (omega arith), eq-eqb k 20 (omega arith))
length_rule false k n t e h z (inr x) =
    rw (eq-eqb (k % 4) 0 (omega arith), ne_eqb k 20 (λ a. omega arith), le-leb 28 k (omega arith), le-leb k 152 (omega arith))

-- The words at byte 20, by the flag.
metadata_by : (f : Bool) (h : Header) (m : Metadata) (c : ℕ) (p r : List ℕ)
    → let s = header_bytes h ++ to_bytes (c ∷ []) ++ pick f (to_bytes (metadata_words m)) [] ++ p ++ r in
    pick f (record { a = word_at s 20; b = word_at s 24; c = word_at s 28; d = word_at s 32 }) no_metadata ≡ pick f m no_metadata
unfolding pick
metadata_by true h m c p r =
    λ i. record { a = cut_join m.a i; b = cut_join m.b i; c = cut_join m.c i; d = cut_join m.d i }
metadata_by false h m c p r = refl

-- How long what stands before the payload is, by the flag.
length_by : (f : Bool) (m : Metadata) → 20 + length (pick f (to_bytes (metadata_words m)) []) ≡ pick f 36 20
unfolding pick
length_by true m = refl
length_by false m = refl

module _ (h : Header) (m : Metadata) (p : List ℕ) where
  -- Where the payload begins, and what stands before it.
  abbrev from : ℕ
  from = pick (meta_flag h.control1) 36 20

  abbrev front : List ℕ
  front = front_bytes h m

  -- What is read: the header, the word of its check, the metadata, the payload.
  pub header_back : header_of (form h m p) ≡ h
  unfolding form front_bytes
  header_back =
      λ i. record {
        address0 = cut_join h.address0 i;
        address1 = cut_join h.address1 i;
        control0 = cut_join h.control0 i;
        control1 = cut_join h.control1 i;
      }

  pub check_back : word_at (form h m p) 16 ≡ check_word (header_bytes h ++ metadata_bytes h m)
  unfolding form front_bytes
  check_back = cut_join (check_word (header_bytes h ++ metadata_bytes h m))

  from_back : payload_from (form h m p) ≡ from
  unfolding payload_from
  from_back = ap (λ (x : Header). pick (meta_flag x.control1) 36 20) header_back

  pub metadata_back : metadata_of (form h m p) ≡ pick (meta_flag h.control1) m no_metadata
  unfolding metadata_of form front_bytes metadata_bytes
  metadata_back =
      let s : List ℕ = form h m p in
      (λ i. pick (meta_flag (header_back i).control1) (record { a = word_at s 20; b = word_at s 24; c = word_at s 28; d = word_at s 32 }) no_metadata)
      ∙ metadata_by (meta_flag h.control1) h m (check_word (header_bytes h ++ metadata_bytes h m)) p (body_check_bytes p)

  -- The front, then the payload and its check.
  whole : form h m p ≡ front ++ (p ++ body_check_bytes p)
  unfolding form
  whole = append_assoc front p (body_check_bytes p)

  metadata_length : 20 + length (metadata_bytes h m) ≡ from
  unfolding metadata_bytes
  metadata_length = length_by (meta_flag h.control1) m

  front_length : length front ≡ from
  unfolding front_bytes
  front_length = omega (arith, metadata_length)

  form_length : length (form h m p) ≡ from + (length p + length (body_check_bytes p))
  form_length =
      ap length whole ∙ length-append front (p ++ body_check_bytes p) ∙ ap₂ ◌+◌ front_length (length-append p (body_check_bytes p))

  pub payload_length_lem : payload_length (form h m p) ≡ length p
  payload_length_lem = ap₂ (λ (x y : ℕ). x - y - 4) form_length from_back ∙ left from (length p) (length (body_check_bytes p)) (ends p)

  pub payload_back : payload_of (form h m p) ≡ p
  payload_back =
      (λ i. part (from_back i) (payload_length_lem i) (whole i))
      ∙ ap (take (length p)) (drop_at front (p ++ body_check_bytes p) from front_length)
      ∙ take_at p (body_check_bytes p) (length p) refl

  module _ (fits : Fits h m p) where
    -- What is checked: the length, the header check, the body check.
    pub packet_back : is_packet (form h m p) ≡ true
    packet_back =
        ap (λ (x : Header). length_ok (meta_flag x.control1) (length (form h m p))) header_back
        ∙ length_rule (meta_flag h.control1) (length (form h m p)) (length p) (length (body_check_bytes p)) form_length fits.most fits.fours (ends p)

    -- What the header check covers are bytes.
    covered_bytes : Bytes (header_bytes h ++ metadata_bytes h m)
    unfolding metadata_bytes
    covered_bytes =
        bytes_append (header_bytes h) (metadata_bytes h m) (bytes_row (h.address0 ∷ h.address1 ∷ h.control0 ∷ h.control1 ∷ []) fits.header)
        (pick_holds Bytes (meta_flag h.control1) (bytes_row (metadata_words m) fits.metadata) (λ k. omega arith))

    pub header_checked : header_checks (form h m p) ≡ true
    unfolding header_checks form front_bytes
    header_checked =
        let c : ℕ = check_of (header_bytes h ++ metadata_bytes h m) in
        let v : field 16 16 (word_at (form h m p) 16) ≡ c =
        ap (field 16 16) check_back ∙ omega (arith, check_lt (header_bytes h ++ metadata_bytes h m) 0xFFFF (omega arith) covered_bytes) in
        let n : payload_from (form h m p) - 20 ≡ length (metadata_bytes h m) = omega (arith, from_back, metadata_length) in
        let t : part 20 (payload_from (form h m p) - 20) (form h m p) ≡ metadata_bytes h m =
        (λ i. take (n i) (append_assoc (metadata_bytes h m) p (body_check_bytes p) i)) ∙ take_at (metadata_bytes h m) (p ++ body_check_bytes p) _ refl in
        eq-eqb _ _ (v ∙ sym (ap (λ (x : List ℕ). check_of (header_bytes h ++ x)) t))

    pub body_checked : body_checks (form h m p) ≡ true
    unfolding body_checks form front_bytes
    body_checked = go (ends p)
      where
        go : Ends (length p) (length (body_check_bytes p)) → body_checks (form h m p) ≡ true
        go (inl e) = rw (eq-eqb (length (form h m p)) (payload_from (form h m p)) (omega (arith, form_length, from_back)))
        go (inr e) =
            let s : List ℕ = form h m p in
            let w : ℕ = check_word p in
            let n : length s - 4 ≡ length (front ++ p) = omega (arith, form_length, front_length, length-append front p) in
            let a : s ≡ front ++ p ++ (bytes_of w ++ []) = ap (λ (x : List ℕ). front ++ p ++ x) (body_some p e.0) in
            let v : word_at s (length s - 4) ≡ check_word (payload_of s) = ap₂ word_at a n ∙ word_bytes (front ++ p) w [] ∙ sym (ap check_word payload_back) in
            ap (λ (t : Bool). t || eqb (word_at s (length s - 4)) (check_word (payload_of s))) (ne_eqb (length s) (payload_from s) (λ z. omega (arith, form_length, from_back)))
            ∙ eq-eqb _ _ v
