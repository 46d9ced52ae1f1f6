-- The layout's words: words whose zeros are zero are packed of their fields, packed words give their fields back, and what is laid out is what
-- the rules form of these words. Assumes nothing.
use Prim.Native.Nat.{ℕ, zero, suc, ◌^◌, ◌<◌}
use mathlib.Core.Path.{◌≡◌, refl, sym, ap, ◌∙◌}
use mathlib.Core.Bool.{Bool, false}
use mathlib.Core.List.{List, [], ◌∷◌, ◌++◌}
use native.Mathlib.Omega.{arith}
use lib.Dec.{eqb}
use lib.ListN.{length, get_or}
use lib.Pow.{pow_pos}
use Rattle.ground.specs.Bytes.{to_bytes}
use Rattle.ground.specs.Choice.{pick}
use Rattle.ground.specs.Field.{field, bit, pack, unpack}
use Rattle.ground.proofs.Field.{Fit, none, more, pack_lt, unpack_pack, pack_unpack, bit_lt, bit_test, bit_flag}
use Rattle.rules.specs.Words.{zero_low, uses_msg_size, uses_msg_offset, is_ack_pkt, reserved_bit, incarnation, offset, zero_top, meta_flag, meta_count, msg_size}
use Rattle.rules.specs.Memory.{no_metadata, metadata_words}
use Rattle.rules.specs.Checksum.{check_of}
use Rattle.rules.specs.Packet.{header_bytes, metadata_bytes, check_word, body_check_bytes, front_bytes, form}
use Rattle.demands.specs.Types.{Metadata, Header}
use Rattle.demands.specs.Fields.{Below, Fields, word0, word1, word2, word3, first_bytes, flagged_bytes, check_bytes, body_bytes, layout, Within, fields_in}

-- ---- what is laid out is formed

-- Words 0 to 3 are packed of these fields.
pub record Made (f : Fields) (h : Header) : Type 0 where
  pub address0 : word0 f ≡ h.address0
  pub address1 : word1 f ≡ h.address1
  pub control0 : word2 f ≡ h.control0
  pub control1 : word3 f ≡ h.control1
  pub flag : f.metaflag ≡ meta_flag h.control1

-- The word of a check.
check_made : (covered : List ℕ) → check_bytes covered ≡ to_bytes (check_word covered ∷ [])
unfolding check_bytes
check_made covered =
    let e : pack (16 ∷ 16 ∷ []) (check_of covered ∷ 0 ∷ []) ≡ check_word covered = omega arith in
    ap (λ (w : ℕ). to_bytes (w ∷ [])) e

-- The body check, or none.
body_made : (p : List ℕ) → body_bytes p ≡ body_check_bytes p
body_made [] = refl
body_made (x ∷ p) = check_made (x ∷ p)

-- The layout of the fields is what is formed of the words.
pub laid_formed : (f : Fields) (h : Header) → Made f h → layout f ≡ form h f.metadata f.payload
unfolding layout first_bytes flagged_bytes form front_bytes metadata_bytes
laid_formed f h e =
    let p : List ℕ = f.payload in
    let a : first_bytes f ≡ header_bytes h = λ i. to_bytes (e.address0 i ∷ e.address1 i ∷ e.control0 i ∷ e.control1 i ∷ []) in
    let b : flagged_bytes f ≡ metadata_bytes h f.metadata = ap (λ (t : Bool). pick t (to_bytes (metadata_words f.metadata)) []) e.flag in
    (λ i. a i ++ check_bytes (a i ++ b i) ++ b i ++ p ++ body_made p i)
    ∙ (λ i. header_bytes h ++ check_made (header_bytes h ++ metadata_bytes h f.metadata) i ++ metadata_bytes h f.metadata ++ p ++ body_check_bytes p)

-- Without the flag and without a payload it is 20 bytes.
pub plain_length : (f : Fields) → f.metaflag ≡ false → f.payload ≡ [] → length (layout f) ≡ 20
unfolding layout first_bytes flagged_bytes check_bytes pick
plain_length f e n = rw (e, n)

-- ---- words whose zeros are zero

-- control0, where its reserved bit is 0.
pub control0_made : (w : ℕ) → w < 2 ^ 32 → reserved_bit w ≡ 0
    → pack (1 ∷ 1 ∷ 1 ∷ 1 ∷ 4 ∷ 24 ∷ []) (bit (uses_msg_size w) ∷ bit (uses_msg_offset w) ∷ bit (is_ack_pkt w) ∷ 0 ∷ incarnation w ∷ offset w ∷ []) ≡ w
control0_made w h z =
    let js : List ℕ = 1 ∷ 1 ∷ 1 ∷ 1 ∷ 4 ∷ 24 ∷ [] in
    (λ i. pack js (bit_flag 31 w i ∷ bit_flag 30 w i ∷ bit_flag 29 w i ∷ sym z i ∷ incarnation w ∷ offset w ∷ [])) ∙ pack_unpack js w h

-- Words 0 to 3 of a packet, where their zeros are 0.
pub words_made : (h : Header) (m : Metadata) (p : List ℕ) → Below (2 ^ 32) (h.address0 ∷ h.address1 ∷ h.control0 ∷ h.control1 ∷ [])
    → zero_low h.address1 ≡ 0 → reserved_bit h.control0 ≡ 0 → zero_top h.control1 ≡ 0 → Made (fields_in h m p) h
unfolding fields_in word0 word1 word2 word3
words_made h m p fits low reserved top =
    let w : ℕ = h.address1 in
    let v : ℕ = h.control1 in
    record {
      address0 = pack_unpack (4 ∷ 12 ∷ 16 ∷ []) h.address0 (fits 0);
      address1 =
          (λ i. pack (16 ∷ 12 ∷ 4 ∷ []) (field 16 16 w ∷ field 4 12 w ∷ sym low i ∷ [])) ∙ pack_unpack (16 ∷ 12 ∷ 4 ∷ []) w (fits 1);
      control0 = control0_made h.control0 (fits 2) reserved;
      control1 =
          (λ i. pack (4 ∷ 1 ∷ 3 ∷ 24 ∷ []) (sym top i ∷ bit_flag 27 v i ∷ meta_count v ∷ msg_size v ∷ [])) ∙ pack_unpack (4 ∷ 1 ∷ 3 ∷ 24 ∷ []) v (fits 3);
      flag = refl;
    }

-- The zeros that stand for metadata fit too.
pub none_fit : Below (2 ^ 32) (metadata_words no_metadata)
none_fit zero = omega arith
none_fit (suc zero) = omega arith
none_fit (suc (suc zero)) = omega arith
none_fit (suc (suc (suc zero))) = omega arith
none_fit (suc (suc (suc (suc k)))) = omega arith

-- ---- packed words

-- The words that fields make.
abbrev pub header_from : Fields → Header
header_from f = record { address0 = word0 f; address1 = word1 f; control0 = word2 f; control1 = word3 f }

-- A bit that was packed for a test is read as the test.
flag_back : {n : ℕ} (b : Bool) → n ≡ bit b → eqb n 1 ≡ b
flag_back b e = ap (λ (x : ℕ). eqb x 1) e ∙ bit_test b

module _ (f : Fields) (w : Within f) where
  -- Fields within their widths fit the words' layouts.
  fit0 : Fit (4 ∷ 12 ∷ 16 ∷ []) (f.fabtop ∷ f.dstnode ∷ f.fablow ∷ [])
  fit0 = more w.fabtop (more w.dstnode (more w.fablow none))

  fit1 : Fit (16 ∷ 12 ∷ 4 ∷ []) (f.dstslot ∷ f.srcnode ∷ 0 ∷ [])
  fit1 = more w.dstslot (more w.srcnode (more (pow_pos 4) none))

  fit2 : Fit (1 ∷ 1 ∷ 1 ∷ 1 ∷ 4 ∷ 24 ∷ []) (bit f.usemsgsize ∷ bit f.usemsgoffset ∷ bit f.ackpkt ∷ 0 ∷ f.incarnation ∷ f.offset ∷ [])
  fit2 =
      more (bit_lt f.usemsgsize) (more (bit_lt f.usemsgoffset) (more (bit_lt f.ackpkt) (more (pow_pos 1)
      (more w.incarnation (more w.offset none)))))

  fit3 : Fit (4 ∷ 1 ∷ 3 ∷ 24 ∷ []) (0 ∷ bit f.metaflag ∷ f.metalen ∷ f.msgsize ∷ [])
  fit3 = more (pow_pos 4) (more (bit_lt f.metaflag) (more w.metalen (more w.msgsize none)))

  -- The words fit 32 bits.
  pub words_fit : Below (2 ^ 32) (word0 f ∷ word1 f ∷ word2 f ∷ word3 f ∷ [])
  unfolding word0 word1 word2 word3
  words_fit zero = pack_lt fit0
  words_fit (suc zero) = pack_lt fit1
  words_fit (suc (suc zero)) = pack_lt fit2
  words_fit (suc (suc (suc zero))) = pack_lt fit3
  words_fit (suc (suc (suc (suc k)))) = omega arith

  -- What is read of them.
  read0 : unpack (4 ∷ 12 ∷ 16 ∷ []) (word0 f) ≡ f.fabtop ∷ f.dstnode ∷ f.fablow ∷ []
  unfolding word0
  read0 = unpack_pack fit0

  read1 : unpack (16 ∷ 12 ∷ 4 ∷ []) (word1 f) ≡ f.dstslot ∷ f.srcnode ∷ 0 ∷ []
  unfolding word1
  read1 = unpack_pack fit1

  read2 : unpack (1 ∷ 1 ∷ 1 ∷ 1 ∷ 4 ∷ 24 ∷ []) (word2 f) ≡ bit f.usemsgsize ∷ bit f.usemsgoffset ∷ bit f.ackpkt ∷ 0 ∷ f.incarnation ∷ f.offset ∷ []
  unfolding word2
  read2 = unpack_pack fit2

  read3 : unpack (4 ∷ 1 ∷ 3 ∷ 24 ∷ []) (word3 f) ≡ 0 ∷ bit f.metaflag ∷ f.metalen ∷ f.msgsize ∷ []
  unfolding word3
  read3 = unpack_pack fit3

  -- The flag, with it what is laid out, and all fields.
  pub flag_read : meta_flag (word3 f) ≡ f.metaflag
  flag_read = flag_back f.metaflag (ap (λ (l : List ℕ). get_or l 1 0) read3)

  pub packed : layout f ≡ form (header_from f) f.metadata f.payload
  packed = laid_formed f (header_from f) (record { address0 = refl; address1 = refl; control0 = refl; control1 = refl; flag = sym flag_read })

  pub fields_read : fields_in (header_from f) f.metadata f.payload ≡ f
  unfolding fields_in
  fields_read =
      λ i. record {
        fabtop = get_or (read0 i) 0 0;
        dstnode = get_or (read0 i) 1 0;
        fablow = get_or (read0 i) 2 0;
        dstslot = get_or (read1 i) 0 0;
        srcnode = get_or (read1 i) 1 0;
        usemsgsize = flag_back f.usemsgsize (ap (λ (l : List ℕ). get_or l 0 0) read2) i;
        usemsgoffset = flag_back f.usemsgoffset (ap (λ (l : List ℕ). get_or l 1 0) read2) i;
        ackpkt = flag_back f.ackpkt (ap (λ (l : List ℕ). get_or l 2 0) read2) i;
        incarnation = get_or (read2 i) 4 0;
        offset = get_or (read2 i) 5 0;
        metaflag = flag_read i;
        metalen = get_or (read3 i) 2 0;
        msgsize = get_or (read3 i) 3 0;
        metadata = f.metadata;
        payload = f.payload;
      }

  -- The zeros are 0.
  pub low_read : zero_low (word1 f) ≡ 0
  low_read = ap (λ (l : List ℕ). get_or l 2 0) read1

  pub reserved_read : reserved_bit (word2 f) ≡ 0
  reserved_read = ap (λ (l : List ℕ). get_or l 3 0) read2

  pub top_read : zero_top (word3 f) ≡ 0
  top_read = ap (λ (l : List ℕ). get_or l 0 0) read3
