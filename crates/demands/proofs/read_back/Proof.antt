-- `demands::read_back` meets its contract: the go rule lets a descriptor send only fields that are allowed, laid out. Assumes nothing.
use Prim.Native.Nat.{ℕ, zero, suc, ◌+◌, ◌*◌, ◌/◌, ◌%◌, ◌^◌, min, ◌<◌, ◌≤◌}
use mathlib.Core.Path.{◌≡◌, refl, sym, ap, ◌∙◌}
use mathlib.Core.Bool.{Bool, true, false, not, ◌&&◌, ◌||◌}
use mathlib.Core.List.{List, [], ◌∷◌, ◌++◌}
use native.Mathlib.Omega.{arith}
use lib.Dec.{eqb}
use lib.ListN.{length, take, drop}
use lib.Seq.{take-append_seam}
use borrow.Author.Tests.{eqb-true, leb-true, not-true}
use Rattle.ground.specs.Bytes.{to_bytes}
use Rattle.ground.specs.Choice.{pick}
use Rattle.ground.specs.Lists.{part, over}
use Rattle.ground.proofs.Bytes.{Bytes, row_length, bytes_row}
use Rattle.ground.proofs.Choice.{pick_no, pick_holds}
use Rattle.ground.proofs.Field.{field_lt, field_field, pack_unpack, bit_flag}
use Rattle.ground.proofs.Lists.{length_part, part_holds}
use Rattle.ground.proofs.Tests.{and_left, and_right, or_second, not_no}
use Rattle.rules.specs.Words.{is_ack_pkt, is_direct_io, is_control_pkt, meta_flag, meta_count, meta_ok}
use Rattle.rules.specs.Memory.{Machine, descriptors, no_metadata, metadata_words}
use Rattle.rules.specs.Saved.{own_node}
use Rattle.rules.specs.Packet.{header_bytes, metadata_bytes, check_word, body_check_bytes, front_bytes, form}
use Rattle.rules.specs.Sending.{descriptor_at, is_active, go_rule, next_payload, next_bytes, next_header, next_packet}
use Rattle.rules.specs.Sound.{is_sized, is_sound}
use Rattle.rules.specs.Calls.{sends, perform, judge_send, packet_from, act_send, send_call}
use Rattle.laws.specs.Sound.{Message, Sound}
use Rattle.laws.specs.Verdicts.{OfSend}
use Rattle.laws.proofs.Sound.{tests, own_node_lem, going, sound}
use Rattle.laws.proofs.Verdicts.{of_send}
use Rattle.demands.specs.Types.{DescriptorIndex, Metadata, Descriptor, Header, Sending}
use Rattle.demands.specs.Fields.{Below, Fields, word0, word1, word2, word3, layout, Within, Allowed, sent_fields}
use Rattle.demands.specs.Demands.{ReadAs, Sent}
use Rattle.demands.proofs.Packed.{Made, laid_formed, plain_length, control0_made, none_fit}
use Rattle.demands.proofs.AnyFields.{any_read}
use Rattle.demands.proofs.read_back.Statement.{statement}
use Rattle.demands.proofs.read_back.Tie as tie
use Rattle.std.specs.Prelude.{Result, Ok, Err}
use Rattle.rules.specs.declared.Refusal.{Refusal}

-- A payload that a packet can have.
record Payload (p : List ℕ) : Type 0 where
  bytes : Bytes p
  most : length p ≤ 128
  fours : length p % 4 ≡ 0

-- None.
no_payload : Payload []
no_payload = record { bytes = λ k. omega arith; most = omega arith; fours = refl }

-- The next part of data memory, or of the words of Send RAM.
module _ (send bytes : List ℕ) (words : Below (2 ^ 32) send) (inside : Below 256 bytes) (at size : ℕ) (fours : size % 4 ≡ 0) where
  -- Of data memory.
  from_data : at + size ≤ length bytes → Payload (part at (min 128 size) bytes)
  from_data h =
      let n : length (part at (min 128 size) bytes) ≡ min 128 size = length_part at (min 128 size) bytes (omega arith) in
      record { bytes = part_holds (λ x. x < 256) at (min 128 size) bytes 0 (omega arith) inside; most = omega arith; fours = omega arith }

  -- Of Send RAM.
  from_words : at % 4 ≡ 0 → at + size ≤ length send * 4 → Payload (to_bytes (part (at / 4) (min 128 size / 4) send))
  from_words z h =
      let ws : List ℕ = part (at / 4) (min 128 size / 4) send in
      let n : length ws ≡ min 128 size / 4 = length_part (at / 4) (min 128 size / 4) send (omega arith) in
      record { bytes = bytes_row ws (part_holds (λ x. x < 2 ^ 32) (at / 4) (min 128 size / 4) send 0 (omega arith) words); most = omega (arith, row_length ws); fours = omega (arith, row_length ws) }

-- Metadata that are not sent are not in the packet.
unsent : (b : Bool) (m : Metadata) → pick b (to_bytes (metadata_words (pick b m no_metadata))) [] ≡ pick b (to_bytes (metadata_words m)) []
unfolding pick
unsent true m = refl
unsent false m = refl

-- A descriptor of a machine whose memories are words and bytes.
module _ (m : Machine) (words : Below (2 ^ 32) m.send) (inside : Below 256 m.bytes) (i : DescriptorIndex) where
  d : Descriptor
  d = descriptor_at m.send i

  p : List ℕ
  p = next_bytes d m.send m.bytes

  f : Fields
  f = sent_fields m d

  h : Header
  h = next_header (own_node m.saved.pcsr0) d

  metadata_fits : Below (2 ^ 32) (metadata_words d.metadata)
  unfolding d descriptor_at
  metadata_fits zero = words _
  metadata_fits (suc zero) = words _
  metadata_fits (suc (suc zero)) = words _
  metadata_fits (suc (suc (suc zero))) = words _
  metadata_fits (suc (suc (suc (suc k)))) = omega arith

  -- A control packet has no payload.
  no_bytes : is_control_pkt d.control1 ≡ true → p ≡ []
  unfolding p next_bytes next_payload pick
  no_bytes e = rw e (pick_holds (λ p. p ≡ []) (is_direct_io d.control1) refl refl)

  module _ (size : length m.send ≡ 1024) (node : own_node m.saved.pcsr0 ≤ 4095) (rule : go_rule d d.control1 d.bytestogo (length m.bytes) ≡ true) where
    -- What the go rule lets be sent.
    payload : Payload p
    unfolding p next_bytes next_payload pick
    payload = go (is_control_pkt d.control1) refl (is_direct_io d.control1) refl
      where
        by : (x : Bool) → is_direct_io d.control1 ≡ x → Message d d.control1 d.bytestogo (length m.bytes)
            → Payload (pick x (to_bytes (part (d.msgaddress / 4) (min 128 d.bytestogo / 4) m.send)) (part d.msgaddress (min 128 d.bytestogo) m.bytes))
        by true f k =
            from_words m.send m.bytes words inside d.msgaddress d.bytestogo k.words (k.direct f).whole (omega (arith, size, (k.direct f).most))
        by false f k = from_data m.send m.bytes words inside d.msgaddress d.bytestogo k.words (k.bytes f)

        go : (c : Bool) → is_control_pkt d.control1 ≡ c → (x : Bool) → is_direct_io d.control1 ≡ x
            → Payload (pick x (to_bytes (part (d.msgaddress / 4) (pick c 0 (min 128 d.bytestogo) / 4) m.send)) (part d.msgaddress (pick c 0 (min 128 d.bytestogo)) m.bytes))
        go true e x f = pick_holds Payload x no_payload no_payload
        go false e x f = by x f ((going d d.control1 d.bytestogo (length m.bytes) rule).message e)

    -- The fields are within their widths.
    within : Within f
    unfolding f sent_fields p
    within =
        record {
          fabtop = field_lt 28 4 d.address0;
          dstnode = field_lt 16 12 d.address0;
          fablow = field_lt 0 16 d.address0;
          dstslot = field_lt 16 16 d.address1;
          srcnode = omega arith;
          incarnation = field_lt 24 4 d.control0;
          offset = field_lt 0 24 d.control0;
          metalen = field_lt 24 3 d.control1;
          msgsize = field_lt 0 24 d.control1;
          metadata = pick_holds (λ (x : Metadata). Below (2 ^ 32) (metadata_words x)) (meta_flag d.control1) metadata_fits none_fit;
          payload = payload.bytes;
        }

    -- The go rule lets no others be sent; of an ack neither metadata nor a payload, so that it "is 20 bytes".
    allowed : Allowed f
    unfolding f sent_fields p go_rule
    allowed =
        let c : ℕ = d.control1 in
        let ack : (not (is_ack_pkt d.control0) || (is_control_pkt c && not (meta_flag c))) ≡ true = search tests depth 20 in
        let meta : meta_ok c ≡ true = search tests depth 20 in
        record {
          within = within;
          most = payload.most;
          fours = payload.fours;
          len = omega (arith, leb-true (meta_count c) 4 (search tests));
          no_len = λ e. eqb-true (meta_count c) 0 (or_second (meta_flag c) _ (search tests) e);
          no_metadata_lem = λ e. pick_no _ no_metadata e;
          ack =
              λ e.
              let o : (is_control_pkt c && not (meta_flag c)) ≡ true = or_second (not (is_ack_pkt d.control0)) _ ack (not_no e) in
              plain_length f (not-true _ (and_right (is_control_pkt c) _ o)) (no_bytes (and_left (is_control_pkt c) _ o));
        }

    -- The words that are sent are packed of them.
    made : Made f h
    unfolding f h sent_fields next_header d descriptor_at go_rule word0 word1 word2 word3
    made =
        record {
          address0 = pack_unpack (4 ∷ 12 ∷ 16 ∷ []) d.address0 (words _);
          address1 = omega arith;
          control0 = control0_made d.control0 (words _) (eqb-true _ _ (search tests depth 20));
          control1 = rw (bit_flag 27 d.control1) (omega arith);
          flag = sym (ap (λ (x : ℕ). eqb x 1) (field_field 27 1 0 0 d.control1));
        }

    -- So the packet is their layout.
    sent_laid : packet_from m i ≡ layout f
    unfolding packet_from next_packet form front_bytes metadata_bytes f sent_fields d h p
    sent_laid =
        let e : metadata_bytes h f.metadata ≡ metadata_bytes h d.metadata =
        (λ j. pick (sym made.flag j) (to_bytes (metadata_words f.metadata)) [])
        ∙ unsent (meta_flag d.control1) d.metadata
        ∙ (λ j. pick (made.flag j) (to_bytes (metadata_words d.metadata)) []) in
        sym
        (laid_formed f h made
        ∙ (λ j. header_bytes h ++ to_bytes (check_word (header_bytes h ++ e j) ∷ []) ++ e j ++ p ++ body_check_bytes p))

    read : ReadAs f (packet_from m i)
    read = rw sent_laid (any_read f allowed)

-- Of a machine that is sized and sound.
formed_read : (m : Machine) (i : DescriptorIndex) → Below (2 ^ 32) m.send → Below 256 m.bytes → is_sized m ≡ true → is_sound m ≡ true
    → i.0 < descriptors → is_active (descriptor_at m.send i) ≡ true → ReadAs (sent_fields m (descriptor_at m.send i)) (packet_from m i)
unfolding d f
formed_read m i words inside sized ok lt active =
    let t : Sound m = sound m sized ok in
    read m words inside i t.sized.send (own_node_lem t.ranges) (t.active i lt active)

-- By a send call's verdict: the packet stands at the start of the room.
sent_by : (m : Machine) (room : List ℕ) (v : Result Sending Refusal) → Below (2 ^ 32) m.send → Below 256 m.bytes → OfSend m (length room) v
    → (act_send m room v).reply ≡ 0 → Sent m (act_send m room v)
unfolding d f act_send over
sent_by m room (Err why) words inside h z = absurd (h.done z)
sent_by m room (Ok (Sending.Waits i)) words inside h z = absurd (omega arith)
sent_by m room (Ok (Sending.Sends i)) words inside h z =
    let p : List ℕ = packet_from m i in
    let e : take (length p) (p ++ drop (length p) room) ≡ p = take-append_seam p (drop (length p) room) in
    record {
      descriptor = i;
      chosen = h.first;
      packet = rw e (read m words inside i h.sound.sized.send (own_node_lem h.sound.ranges) h.rule);
    }

-- By the call.
sent_read : (m : Machine) (ready : Bool) (room : List ℕ) → Below (2 ^ 32) m.send → Below 256 m.bytes
    → (perform (sends ready room) m).reply ≡ 0 → Sent m (perform (sends ready room) m)
unfolding perform send_call
sent_read m ready room words inside z = sent_by m room (judge_send m ready (length room)) words inside (of_send m ready (length room)) z

returns : tie.Need-returns
returns c = record { formed = formed_read; sent = sent_read; any = any_read }

pub read_back_spec : {M : Type 1} → statement M
read_back_spec = tie.close (tie.spec returns)
