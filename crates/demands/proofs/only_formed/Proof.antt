-- `demands::only_formed` meets its contract: a well-formed packet is formed of what is read of it, part by part, and so laid out of its fields,
-- which are allowed. Assumes nothing.
use Prim.Native.Nat.{ℕ, zero, suc, ◌+◌, ◌-◌, ◌*◌, ◌^◌, ◌<◌, ◌≤◌}
use mathlib.Core.Path.{◌≡◌, refl, sym, ap, ◌∙◌}
use mathlib.Core.Bool.{Bool, true, false, not, ◌||◌}
use mathlib.Core.List.{List, [], ◌∷◌, ◌++◌, append_assoc}
use native.Mathlib.Omega.{arith}
use native.Mathlib.Decide.{dec_lt}
use lib.Dec.{eqb}
use lib.ListN.{length, take, drop, length-drop, take-append-drop, drop_of_length-le}
use lib.Seq.{take_all, take-add, drop-drop}
use borrow.Author.Tests.{eqb-true, ne_eqb, leb-true}
use Rattle.ground.specs.Bytes.{word_at, bytes_of, to_bytes}
use Rattle.ground.specs.Choice.{pick}
use Rattle.ground.specs.Field.{field}
use Rattle.ground.specs.Lists.{part}
use Rattle.ground.proofs.Bytes.{Bytes, word_fits, bytes_part, words_at, bytes_words}
use Rattle.ground.proofs.Choice.{pick_no, pick_holds}
use Rattle.ground.proofs.Field.{field_lt}
use Rattle.ground.proofs.Lists.{length_part, part_holds}
use Rattle.ground.proofs.Tests.{or_second, not_no}
use Rattle.rules.specs.Words.{is_ack_pkt, meta_flag, meta_count, meta_ok}
use Rattle.rules.specs.Memory.{no_metadata, metadata_words}
use Rattle.rules.specs.Checksum.{check_of}
use Rattle.rules.specs.Packet.{header_bytes, metadata_bytes, check_word, body_check_bytes, front_bytes, form, header_of, flagged, payload_from, payload_length, payload_of, metadata_of, packet_of, header_checks, fields_ok, body_checks, well_formed}
use Rattle.laws.proofs.Sound.{tests}
use Rattle.demands.specs.Types.{Metadata, Header}
use Rattle.demands.specs.Fields.{Below, layout, Within, Allowed, fields_in, fields_of}
use Rattle.demands.proofs.Packets.{body_some, Long, long}
use Rattle.demands.proofs.Packed.{Made, laid_formed, words_made, none_fit}
use Rattle.demands.proofs.Taken.{taken_well}
use Rattle.demands.proofs.only_formed.Statement.{statement}
use Rattle.demands.proofs.only_formed.Tie as tie

-- Words of bytes fit 32 bits.
words_fit : (s : List ℕ) (i k : ℕ) → Bytes s → Below (2 ^ 32) (words_at s i k)
words_fit s i zero b j = omega arith
words_fit s i (suc k) b zero = word_fits s i b
words_fit s i (suc k) b (suc j) = words_fit s (i + 4) k b j

-- The metadata's bytes, by the flag.
metadata_by : (s : List ℕ) (f : Bool) → Bytes s → pick f 36 20 ≤ length s
    → pick f (to_bytes (metadata_words (pick f (record { a = word_at s 20; b = word_at s 24; c = word_at s 28; d = word_at s 32 }) no_metadata))) [] ≡ part 20 (pick f 36 20 - 20) s
unfolding pick
metadata_by s true b h = bytes_words s 20 4 b h
metadata_by s false b h = refl

module _ (s : List ℕ) (b : Bytes s) (well : well_formed s ≡ true) where
  -- Its length.
  l : Long (payload_from s) (length s)
  unfolding well_formed payload_from
  l = long (flagged s) (length s) (search tests)

  -- Bytes 0 to 15, and what the header check covers of the rest.
  header : header_bytes (header_of s) ≡ take 16 s
  header = bytes_words s 0 4 b (omega (arith, l))

  covered : List ℕ
  covered = part 20 (payload_from s - 20) s

  -- The metadata, or nothing.
  metadata : metadata_bytes (header_of s) (metadata_of s) ≡ covered
  unfolding metadata_bytes metadata_of payload_from covered
  metadata = metadata_by s (flagged s) b l.least

  -- The word of the header check, zero half included.
  check : to_bytes (check_word (take 16 s ++ covered) ∷ []) ≡ part 16 4 s
  unfolding well_formed header_checks fields_ok packet_of covered
  check =
      let w : ℕ = word_at s 16 in
      let c : ℕ = check_of (take 16 s ++ covered) in
      let h : field 16 16 w ≡ c = eqb-true _ _ (search tests) in
      let z : field 0 16 w ≡ 0 = eqb-true _ _ (search tests) in
      let e : c * 2 ^ 16 ≡ w = omega (arith, word_fits s 16 b) in
      ap (λ (x : ℕ). bytes_of x) e ∙ bytes_part s 16 b (omega (arith, l))

  -- The payload and its check.
  body : Dec (0 < payload_length s) → payload_of s ++ body_check_bytes (payload_of s) ≡ drop (payload_from s) s
  unfolding well_formed body_checks
  body (yes some) =
      let at : ℕ = payload_from s in
      let n : ℕ = payload_length s in
      let p : List ℕ = payload_of s in
      let end : at + n + 4 ≡ length s = omega (arith, l) in
      let size : length p ≡ n = length_part at n s (omega arith) in
      let last : length s - 4 ≡ at + n = omega arith in
      let w : word_at s (length s - 4) ≡ check_word p =
      eqb-true _ _ (or_second (eqb (length s) at) _ (search tests) (ne_eqb (length s) at (λ e. omega arith))) in
      ap (λ (x : List ℕ). p ++ x)
      (body_some p (omega arith)
      ∙ ap (λ (x : ℕ). bytes_of x) (sym w ∙ ap (word_at s) last)
      ∙ bytes_part s (at + n) b (omega arith)
      ∙ take_all 4 (drop (at + n) s) (simp length-drop (omega arith))
      ∙ sym (drop-drop n at s))
      ∙ take-append-drop n (drop at s)
  body (no none) =
      let e : payload_length s ≡ 0 = omega arith in
      let f : length s ≡ payload_from s = l.empty e in
      rw e (sym (drop_of_length-le s {i = payload_from s} (omega arith)))

  -- All parts, put together.
  formed : form (header_of s) (metadata_of s) (payload_of s) ≡ s
  unfolding form front_bytes covered
  formed =
      let at : ℕ = payload_from s in
      let p : List ℕ = payload_of s in
      let e : 20 + (at - 20) ≡ at = omega (arith, l) in
      let head : take 16 s ++ part 16 4 s ++ covered ≡ take at s =
      sym (ap (λ (n : ℕ). take n s) (sym e) ∙ take-add 20 (at - 20) s ∙ ap (λ (x : List ℕ). x ++ covered) (take-add 16 4 s)) in
      (λ i. header i ++ to_bytes (check_word (header i ++ metadata i) ∷ []) ++ metadata i ++ p ++ body_check_bytes p)
      ∙ (λ i. take 16 s ++ check i ++ covered ++ p ++ body_check_bytes p)
      ∙ append_assoc (take 16 s ++ part 16 4 s ++ covered) p (body_check_bytes p)
      ∙ (λ i. head i ++ body (dec_lt 0 (payload_length s)) i)
      ∙ take-append-drop at s

  -- ---- its fields

  -- Words 0 to 3 are packed of them, since their zeros are 0.
  made : Made (fields_of s) (header_of s)
  unfolding well_formed fields_ok packet_of fields_of
  made =
      words_made (header_of s) (metadata_of s) (payload_of s) (words_fit s 0 4 b)
      (eqb-true _ _ (search tests depth 20))
      (eqb-true _ _ (search tests depth 20))
      (eqb-true _ _ (search tests depth 20))

  -- So the layout is the packet.
  laid : layout (fields_of s) ≡ s
  unfolding fields_of fields_in packet_of
  laid = laid_formed (fields_of s) (header_of s) made ∙ formed

  -- The metadata fit, zeros too.
  metadata_fits : Below (2 ^ 32) (metadata_words (metadata_of s))
  unfolding metadata_of
  metadata_fits = pick_holds (λ (m : Metadata). Below (2 ^ 32) (metadata_words m)) (flagged s) (words_fit s 20 4 b) none_fit

  -- Each is within its width.
  within : Within (fields_of s)
  unfolding fields_of fields_in packet_of
  within =
      let h : Header = header_of s in
      record {
        fabtop = field_lt 28 4 h.address0;
        dstnode = field_lt 16 12 h.address0;
        fablow = field_lt 0 16 h.address0;
        dstslot = field_lt 16 16 h.address1;
        srcnode = field_lt 4 12 h.address1;
        incarnation = field_lt 24 4 h.control0;
        offset = field_lt 0 24 h.control0;
        metalen = field_lt 24 3 h.control1;
        msgsize = field_lt 0 24 h.control1;
        metadata = metadata_fits;
        payload = part_holds (λ (x : ℕ). x < 256) (payload_from s) (payload_length s) s 0 (omega arith) b;
      }

  -- And they are what 01 asks.
  allowed : Allowed (fields_of s)
  unfolding well_formed fields_ok packet_of fields_of fields_in metadata_of
  allowed =
      let w : ℕ = word_at s 12 in
      let size : length (payload_of s) ≡ payload_length s = length_part (payload_from s) (payload_length s) s (omega (arith, l)) in
      let meta : meta_ok w ≡ true = search tests depth 20 in
      let ack : (not (is_ack_pkt (word_at s 8)) || eqb (length s) 20) ≡ true = search tests depth 20 in
      record {
        within = within;
        most = omega (arith, l);
        fours = omega (arith, l);
        len = omega (arith, leb-true (meta_count w) 4 (search tests));
        no_len = λ e. eqb-true (meta_count w) 0 (or_second (meta_flag w) _ (search tests) e);
        no_metadata_lem = λ e. pick_no _ no_metadata e;
        ack = λ e. ap length laid ∙ eqb-true (length s) 20 (or_second (not (is_ack_pkt (word_at s 8))) _ ack (not_no e));
      }

returns : tie.Need-returns
returns c = record { holds = λ s b well. record { allowed = allowed s b well; to_the_byte = laid s b well }; taken = taken_well }

pub only_formed_spec : {M : Type 1} → statement M
only_formed_spec = tie.close (tie.spec returns)
