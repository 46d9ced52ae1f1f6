-- Any fields that document 01 allows, laid out, are a well-formed packet that is read as them. Assumes nothing.
use Prim.Native.Nat.{ℕ}
use mathlib.Core.Path.{◌≡◌, refl, sym, ap, ◌∙◌}
use mathlib.Core.Bool.{Bool, true, false}
use mathlib.Core.List.{List}
use native.Mathlib.Omega.{arith}
use lib.ListN.{length}
use borrow.Author.Tests.{le-leb}
use Rattle.ground.specs.Bytes.{word_at}
use Rattle.ground.specs.Choice.{pick}
use Rattle.ground.specs.Field.{field}
use Rattle.ground.proofs.Choice.{pick_by}
use Rattle.ground.proofs.Tests.{and_both}
use Rattle.rules.specs.Words.{is_ack_pkt, meta_flag, meta_count, meta_ok}
use Rattle.rules.specs.Memory.{no_metadata}
use Rattle.rules.specs.Packet.{form, payload_length, metadata_of, packet_of, fields_ok, well_formed}
use Rattle.demands.specs.Types.{Metadata, Header}
use Rattle.demands.specs.Fields.{Fields, word2, word3, layout, Allowed, fields_in, fields_of}
use Rattle.demands.specs.Demands.{ReadAs}
use Rattle.demands.proofs.Formed.{Fits, header_back, check_back, metadata_back, payload_length_lem, payload_back, packet_back, header_checked, body_checked}
use Rattle.demands.proofs.Packed.{header_from, words_fit, flag_read, packed, fields_read, low_read, reserved_read, top_read}

module _ (f : Fields) (a : Allowed f) where
  abbrev h : Header
  h = header_from f

  abbrev m : Metadata
  m = f.metadata

  abbrev p : List ℕ
  p = f.payload

  s : List ℕ
  s = form h m p

  fits : Fits h m p
  fits = record { header = words_fit f a.within; metadata = a.within.metadata; payload = a.within.payload; most = a.most; fours = a.fours }

  -- The metadata, which are zeros without the flag.
  metadata : metadata_of s ≡ m
  unfolding s
  metadata =
      metadata_back h m p
      ∙ ap (λ (b : Bool). pick b m no_metadata) (flag_read f a.within)
      ∙ pick_by (λ (x : Metadata). x ≡ m) f.metaflag (λ e. refl) (λ e. sym (a.no_metadata_lem e))

  -- "meta_len as meta_cnt".
  meta : meta_ok (word3 f) ≡ true
  unfolding fields_in
  meta = go f.metaflag refl (λ i. (fields_read f a.within i).metalen) (flag_read f a.within)
    where
      go : (b : Bool) → f.metaflag ≡ b → meta_count (word3 f) ≡ f.metalen → meta_flag (word3 f) ≡ f.metaflag → meta_ok (word3 f) ≡ true
      go true e count flag = rw (count, flag ∙ e) (and_both (le-leb f.metalen _ (omega (arith, a.len))) refl)
      go false e count flag = rw (count ∙ a.no_len e, flag ∙ e)

  -- "zero and reserved fields, meta_len as meta_cnt, ack is 20 bytes (H)".
  fields : fields_ok (packet_of s) ≡ true
  unfolding fields_ok packet_of fields_in s
  fields =
      let w = a.within in
      let zero-half : field 0 16 (word_at s 16) ≡ 0 = ap (field 0 16) (check_back h m p) ∙ omega arith in
      (λ i. fields_ok (record { header = header_back h m p i; zerohalf = zero-half i; metadata = metadata_of s; length = length s; payloadlength = payload_length s }))
      ∙ go f.ackpkt refl (λ i. (fields_read f w i).ackpkt)
    where
      go : (b : Bool) → f.ackpkt ≡ b → is_ack_pkt (word2 f) ≡ b
          → fields_ok (record { header = h; zerohalf = 0; metadata = metadata_of s; length = length s; payloadlength = payload_length s }) ≡ true
      go true e x =
          let l : length s ≡ 20 = sym (ap length (packed f a.within)) ∙ a.ack e in
          simp (low_read f a.within, reserved_read f a.within, top_read f a.within, meta, x, l)
      go false e x = simp (low_read f a.within, reserved_read f a.within, top_read f a.within, meta, x)

  -- It is well formed, and read as the fields.
  well_formed_lem : well_formed s ≡ true
  unfolding well_formed s
  well_formed_lem = and_both (and_both (and_both (packet_back h m p fits) (header_checked h m p fits)) fields) (body_checked h m p fits)

  read : fields_of s ≡ f
  unfolding fields_of packet_of s
  read = (λ i. fields_in (header_back h m p i) (metadata i) (payload_back h m p i)) ∙ fields_read f a.within

  pub any_read : ReadAs f (layout f)
  unfolding s packet_of
  any_read =
      let e : layout f ≡ s = packed f a.within in
      record {
        laid_out = refl;
        well_formed_lem = ap well_formed e ∙ well_formed_lem;
        fields = ap fields_of e ∙ read;
        payload_length_lem = ap payload_length e ∙ payload_length_lem h m p;
      }
