-- `bench::layouts` meets its contract: each word is read and made by document 01's widths. Assumes nothing.
use mathlib.Core.Path.{◌≡◌, refl, ap, ◌∙◌}
use mathlib.Core.List.{[], ◌∷◌}
use Prim.Native.Nat.{ℕ, ◌+◌, ◌≤◌}
use native.Mathlib.Omega.{arith}
use Rattle.ground.specs.Field.{field, bit, pack, unpack, without}
use Rattle.ground.proofs.Field.{bit_flag, with_same, with_above, with_below, without_same, without_above, without_below}
use Rattle.rules.specs.Registers.{pcsr1}
use Rattle.rules.specs.Words.{offset, meta_flag, meta_count, meta_part, most24}
use Rattle.rules.specs.Saved.{without_reset}
use Rattle.rules.specs.Sending.{next_payload, next_header, after_packet}
use Rattle.rules.specs.Packet.{packet_of}
use Rattle.rules.specs.Receipt.{message_notice, ack_notice, fault_notice}
use Rattle.bench.proofs.layouts.Statement.{statement}
use Rattle.bench.proofs.layouts.Tie as tie

-- The reset bit is the top one.
reset : (w : ℕ) → unpack (1 ∷ 31 ∷ []) (without_reset w) ≡ 0 ∷ field 0 31 w ∷ []
reset w =
    let top : field 31 1 (without_reset w) ≡ 0 = omega arith in
    let rest : field 0 31 (without_reset w) ≡ field 0 31 w = omega arith in
    λ i. top i ∷ rest i ∷ []

-- The use bits are the two at the top, and the offset, which stands lowest, does not reach the others.
after0 : (w n : ℕ) → offset w + n ≤ most24 → unpack (2 ∷ 6 ∷ 24 ∷ []) (without 30 2 w + n) ≡ 0 ∷ field 24 6 w ∷ (offset w + n) ∷ []
after0 w n h =
    let top : field 30 2 (without 30 2 w + n) ≡ 0 = omega arith in
    let rest : field 24 6 (without 30 2 w + n) ≡ field 24 6 w = omega arith in
    let low : field 0 24 (without 30 2 w + n) ≡ offset w + n = omega arith in
    λ i. top i ∷ rest i ∷ low i ∷ []

-- A slot's word 7 and a size make a word as packet word 3.
flag_length_size : (w size : ℕ) → meta_part w + size ≡ pack (4 ∷ 1 ∷ 3 ∷ 24 ∷ []) (0 ∷ bit (meta_flag w) ∷ meta_count w ∷ size ∷ [])
flag_length_size w size = rw (bit_flag 27 w) (omega arith)

returns : tie.Need-returns
unfolding pcsr1 next_header after_packet packet_of message_notice ack_notice fault_notice
returns c =
    record {
      word_pcsr0 = λ w. rw (bit_flag 31 w, bit_flag 30 w);
      reset_cleared = reset;
      word_pcsr1 = λ s. omega arith;
      word_pcsr1_written = λ w. rw (bit_flag 30 w, bit_flag 29 w);
      address0 = λ w. refl;
      address1 = λ w. refl;
      word1 = λ w. refl;
      word1_made = λ slot node. omega arith;
      control0 = λ w. rw (bit_flag 31 w, bit_flag 30 w, bit_flag 29 w);
      control1 = λ w. rw (bit_flag 31 w, bit_flag 30 w, bit_flag 29 w, bit_flag 28 w, bit_flag 27 w);
      control0_after = λ d h. after0 d.control0 (next_payload d) h;
      control1_after = λ d. rw (without_above 24 4 28 4 d.control1 (omega arith), without_same 24 4 d.control1, without_below 24 4 0 24 d.control1 (omega arith));
      word3 = λ w. rw (bit_flag 27 w);
      word3_made = λ node d. rw (bit_flag 27 d.control1) (omega arith);
      word4 = λ bytes. refl;
      word4_made = λ covered. omega arith;
      status2 = λ w. rw (bit_flag 29 w);
      stalled_set = λ w. rw (with_above 30 1 31 1 1 w (omega arith) (omega arith), with_same 30 1 1 w (omega arith), with_below 30 1 0 30 1 w (omega arith));
      stalled_cleared = λ w. rw (without_above 30 1 31 1 w (omega arith), without_same 30 1 w, without_below 30 1 0 30 w (omega arith));
      done_set = λ w. rw (with_above 29 1 30 2 1 w (omega arith) (omega arith), with_same 29 1 1 w (omega arith), with_below 29 1 0 29 1 w (omega arith));
      both_cleared = λ w. rw (without_above 29 2 31 1 w (omega arith), without_same 29 2 w, without_below 29 2 0 29 w (omega arith));
      slot_word2 = λ w. rw (bit_flag 15 w, bit_flag 14 w, bit_flag 13 w, bit_flag 12 w);
      slot_word6 = λ w. refl;
      slot_word7 = λ w. rw (bit_flag 27 w) (omega arith);
      token_word = λ w. rw (bit_flag 0 w);
      message_word0 = λ i h v. omega arith;
      message_word1 = λ i h v. omega arith;
      message_word2 = λ i h v e. ap (λ (w : ℕ). w + v.msgsize) e ∙ flag_length_size v.metaword v.msgsize;
      message_metadata = λ i h v. refl;
      ack_word0 = λ i h. omega arith;
      ack_word1 = λ i h. omega arith;
      ack_word2 = λ i h. rw (bit_flag 27 h.control1);
      fault_word0 = λ h f. omega arith;
      fault_word1 = λ h f. refl;
      fault_word2 = λ h f. omega arith;
    }

pub layouts_spec : {M : Type 1} → statement M
layouts_spec = tie.close (tie.spec returns)
