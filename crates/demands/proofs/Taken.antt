-- A packet that a receive call takes has passed the steps that make it well formed. Assumes nothing.
use Prim.Native.Nat.{ℕ}
use mathlib.Core.Path.{◌≡◌}
use mathlib.Core.Bool.{true, false, not}
use mathlib.Core.List.{List}
use native.Mathlib.Omega.{arith}
use lib.ListN.{length}
use borrow.Author.Tests.{eqb-true, eq-eqb}
use Rattle.ground.specs.Bytes.{word_at}
use Rattle.ground.proofs.Choice.{need_holds}
use Rattle.ground.proofs.Tests.{and_both, or_second}
use Rattle.rules.specs.Words.{is_ack_pkt}
use Rattle.rules.specs.Memory.{Machine}
use Rattle.rules.specs.Packet.{flagged, payload_from, packet_of, is_packet, fields_ok, body_checks, well_formed}
use Rattle.rules.specs.Receipt.{receipt_of}
use Rattle.rules.specs.Replies.{reply_number}
use Rattle.rules.specs.Calls.{receives, perform, gate, judge_receive, receipt_reply, act_receive, receive_call}
use Rattle.laws.proofs.Sound.{tests}
use Rattle.demands.specs.Types.{Saved, Receipt, Receiving}
use Rattle.demands.proofs.Packets.{Long, long}
use Rattle.std.specs.Prelude.{Result}
use Rattle.rules.specs.declared.Refusal.{Refusal}

module _ (s : List ℕ) where
  -- An ack "is 20 bytes", so that it has no body to be checked.
  ack_body : is_packet s ≡ true → fields_ok (packet_of s) ≡ true → not (is_ack_pkt (word_at s 8)) ≡ false → body_checks s ≡ true
  unfolding fields_ok packet_of body_checks payload_from
  ack_body packet fields ack =
      let n : length s ≡ 20 = eqb-true (length s) 20 (or_second (not (is_ack_pkt (word_at s 8))) _ (search tests depth 20) ack) in
      let l : Long (payload_from s) (length s) = long (flagged s) (length s) packet in
      rw (eq-eqb (length s) (payload_from s) (omega arith))

  -- By the table of steps.
  table : is_packet s ≡ true → (v : Saved) (receive : List ℕ) (n : ℕ) → reply_number (receipt_reply (receipt_of v receive n s)) ≡ 0 → well_formed s ≡ true
  unfolding receipt_of well_formed packet_of
  table packet v receive n =
      let P : Receipt → Type 0 = λ r. reply_number (receipt_reply r) ≡ 0 → well_formed s ≡ true in
      need_holds P _ (λ _ z. absurd (omega arith)) λ header.
      need_holds P _ (λ _ z. absurd (omega arith)) λ fields.
      need_holds P _ (λ _ z. absurd (omega arith)) λ _.
      need_holds P _ (λ _ z. absurd (omega arith)) λ _.
      need_holds P _ (λ _ z. absurd (omega arith)) λ _.
      need_holds P _ (λ _ z. absurd (omega arith)) λ _.
      need_holds P _ (λ ack z. and_both (and_both (and_both packet header) fields) (ack_body packet fields ack)) λ _.
      need_holds P _ (λ _ z. absurd (omega arith)) λ _.
      need_holds P _ (λ _ z. absurd (omega arith)) λ _.
      need_holds P _ (λ _ z. absurd (omega arith)) λ _.
      need_holds P _ (λ _ z. absurd (omega arith)) λ body z. and_both (and_both (and_both packet header) fields) body

-- By the call: only what the table does not fail is answered done.
pub taken_well : (m : Machine) (s : List ℕ) → (perform (receives s) m).reply ≡ 0 → well_formed s ≡ true
unfolding perform receive_call judge_receive gate act_receive
taken_well m s =
    let P : Result Receiving Refusal → Type 0 = λ r. (act_receive m s r).reply ≡ 0 → well_formed s ≡ true in
    need_holds P _ (λ _ z. absurd (omega arith)) λ _.
    need_holds P _ (λ _ z. absurd (omega arith)) λ _.
    need_holds P _ (λ _ z. absurd (omega arith)) λ _.
    need_holds P _ (λ _ z. absurd (omega arith)) λ packet.
    need_holds P _ (λ _ z. absurd (omega arith)) λ _. table s packet m.saved m.receive (length m.bytes)
