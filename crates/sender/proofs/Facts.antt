-- What choosing and sending ask, from what was judged. Assumes nothing.
use mathlib.Core.Path.{◌≡◌, refl, ◌∙◌}
use mathlib.Core.Bool.{Bool, true, false}
use mathlib.Core.List.{List}
use Prim.Native.Nat.{ℕ, ◌+◌, ◌^◌, ◌<◌, ◌≤◌}
use native.Mathlib.Omega.{arith}
use lib.ListN.{length}
use Rattle.ground.proofs.Choice.{pick_holds}
use Rattle.rules.specs.declared.Descriptor.{Descriptor}
use Rattle.rules.specs.declared.DescriptorIndex.{DescriptorIndex}
use Rattle.rules.specs.declared.Saved.{Saved}
use Rattle.rules.specs.declared.Sending.{Sending}
use Rattle.rules.specs.Words.{is_control_pkt, is_direct_io}
use Rattle.rules.specs.Memory.{Machine, machine, data_most, direct_to}
use Rattle.rules.specs.Sending.{next_payload, send_posting}
use Rattle.rules.specs.Calls.{judge_send}
use Rattle.laws.specs.Sound.{Going, the_descriptor, Sound}
use Rattle.laws.specs.Verdicts.{Chosen}
use Rattle.laws.proofs.Sound.{own_node_lem, going}
use Rattle.laws.proofs.Postings.{send_listed}
use Rattle.laws.proofs.Verdicts.{of_send}
use Rattle.sound.specs.Gated.{Gated}
use Rattle.sound.proofs.Passing.{gated_sound}
use Rattle.notices.proofs.Facts.{postable_all}
use Rattle.sender.specs.Steps.{Choosable, SendableFrom, Markable, Sendable}
use Rattle.sender.proofs.Choice.{none_sent}
use Rattle.std.specs.Prelude.{Result, Ok, ⊤}
use Rattle.rules.specs.declared.Refusal.{Refusal}

-- ---- choosing

-- A sound machine's sender can be chosen.
choosable : (m : Machine) → Sound m → Choosable m
choosable m sound =
    record {
      last = sound.ranges.lastsender;
      each = λ i low. record {
        low = low;
        words = sound.sized.send;
        lists = sound.sized.receive;
        listed = λ a. send_listed (the_descriptor m i) _ _ (sound.active i low a);
      };
    }

-- What the judge of a send reads, once the gate said go.
module _ (s : Saved) (send receive bytes notices : List ℕ) {v : Result ⊤ Refusal} (told : Gated s send receive (length bytes) (length notices) v)
    {x : ⊤} (go : v ≡ Ok x) where
  pub active_asks : length send ≡ 1024
  active_asks = (gated_sound s send receive bytes notices told go).sized.send

  pub choose_asks : Choosable (machine s send receive bytes notices)
  choose_asks = choosable (machine s send receive bytes notices) (gated_sound s send receive bytes notices told go)

-- ---- the payload

-- A payload is at most what is left.
payload_left : (d : Descriptor) → next_payload d ≤ d.bytestogo
unfolding next_payload
payload_left d = pick_holds (λ (n : ℕ). n ≤ d.bytestogo) (is_control_pkt d.control1) (omega arith) (omega arith)

-- A packet with a payload has no control_pkt.
with_payload : (d : Descriptor) → 0 < next_payload d → is_control_pkt d.control1 ≡ false
with_payload d some = side (is_control_pkt d.control1) refl
  where
    side : (b : Bool) → is_control_pkt d.control1 ≡ b → b ≡ false
    side true c = absurd (omega (arith, none_sent d c))
    side false c = refl

-- A descriptor that keeps the go rule: its payload lies in its memory.
module _ (d : Descriptor) (data_length : ℕ) (keeps : Going d d.control1 d.bytestogo data_length) (some : 0 < next_payload d) where
  in_bytes : is_direct_io d.control1 ≡ false → d.msgaddress + next_payload d ≤ data_length
  in_bytes e = omega (arith, (keeps.message (with_payload d some)).bytes e, payload_left d)

  in_direct : is_direct_io d.control1 ≡ true → d.msgaddress + next_payload d ≤ direct_to
  in_direct e = omega (arith, ((keeps.message (with_payload d some)).direct e).most, payload_left d)

  -- Its address can rise by the payload.
  rises : data_length ≤ data_most → d.msgaddress + next_payload d < 2 ^ 32
  rises small = side (is_direct_io d.control1) refl
    where
      side : (b : Bool) → is_direct_io d.control1 ≡ b → d.msgaddress + next_payload d < 2 ^ 32
      side true e = omega (arith, in_direct e)
      side false e = omega (arith, in_bytes e)

-- ---- what was chosen

module _ (m : Machine) (room : ℕ) (i : DescriptorIndex) (c : Chosen m room i) where
  -- It can send.
  chosen_sends : SendableFrom i m.saved m.send m.receive (length m.bytes) (length m.notices) room
  chosen_sends =
      let d : Descriptor = the_descriptor m i in
      let n : ℕ = length m.bytes in
      let keeps = going d d.control1 d.bytestogo n c.rule in
      let sound = c.sound in
      record {
        packet = record {
          low = c.low;
          size = sound.sized.send;
          forms = record {
            own = own_node_lem sound.ranges;
            roomy = c.long;
            bytes = λ some e. in_bytes d n keeps some e;
            direct = λ some e. omega (arith, in_direct d n keeps some e, sound.sized.send);
          };
          moves = record { address = λ some. rises d n keeps some sound.sized.bytes };
        };
        posts =
            postable_all m.saved m.receive _ sound.sized.receive sound.nqr sound.nbqr (send_posting d) sound.heads c.listed c.posts;
      }

  -- It can be marked.
  chosen_waits : Markable i m.send
  chosen_waits = record { low = c.low; size = c.sound.sized.send }

-- A send that was judged can be done.
pub sendable : (m : Machine) (ready : Bool) (room : ℕ) {v : Result Sending Refusal} → judge_send m ready room ≡ v
    → Sendable v m.saved m.send m.receive (length m.bytes) (length m.notices) room
sendable m ready room h =
    record {
      sends = λ i e. chosen_sends m room i (rw (h ∙ e) at (of_send m ready room));
      waits = λ i e. chosen_waits m room i (rw (h ∙ e) at (of_send m ready room));
    }
