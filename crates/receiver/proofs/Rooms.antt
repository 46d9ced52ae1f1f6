-- What judging a receive asks of its parts, and what finding room says. Assumes nothing.
use Rattle.std.proofs.Common.{◌≡◌, ℕ, Bool, true, not, ◌&&◌, ◌||◌, ltb, List, length, sym, ◌∙◌}
use Rattle.rules.specs.declared.Packet.{Packet}
use Rattle.rules.specs.declared.Posting.{Posting}
use Rattle.rules.specs.declared.Receipt.{Receipt}
use Rattle.rules.specs.declared.Receiving.{Receiving}
use Rattle.rules.specs.declared.Saved.{Saved}
use Rattle.rules.specs.Memory.{receive_size, queue_size}
use Rattle.rules.specs.Packet.{packet_of, is_packet}
use Rattle.rules.specs.Notices.{can_post_all}
use Rattle.rules.specs.Receipt.{receipt_posting, needs_aqr, has_room_for}
use Rattle.packet.proofs.Reading.{sized}
use Rattle.sound.specs.Gated.{Gated}
use Rattle.sound.proofs.Passing.{gated_sound}
use Rattle.laws.specs.Postings.{Listed}
use Rattle.receiver.specs.Judging.{Judgeable, Answerable}
use Rattle.std.specs.Prelude.{Option, Result, Ok, ⊤}
use Rattle.rules.specs.declared.Refusal.{Refusal}

-- A posting asks what its receipt gives.
pub post_asks : {receive : List ℕ} {x : Receiving} {q : Option Posting} → Answerable receive x → q ≡ receipt_posting x.packet x.receipt
    → Listed q × (length receive ≡ receive_size)
post_asks a e = (rw e a.listed, a.size)

-- There is room by the two parts.
pub room : (s : Saved) (receive : List ℕ) (p : Packet) (r : Receipt) {q : Option Posting} {posts entry : Bool} → q ≡ receipt_posting p r
    → entry ≡ needs_aqr p r → posts ≡ can_post_all s receive q
    → (posts && (not entry || ltb s.aqr.length queue_size)) ≡ has_room_for s receive p r
unfolding has_room_for
room s receive p r notice entry posts = rw (posts, entry, notice)

-- Past the gate and the length rule.
pub judgeable : (s : Saved) (send receive bytes notices packet : List ℕ) {v : Result ⊤ Refusal} {whole : Bool} {p : Packet}
    → Gated s send receive (length bytes) (length notices) v → v ≡ (Ok tt) → whole ≡ is_packet packet → whole ≡ true
    → p ≡ packet_of packet → Judgeable s receive packet p
judgeable s send receive bytes notices packet told go e h fields =
    let sound = gated_sound s send receive bytes notices told go in
    record { sized = sized packet (sym e ∙ h); fields = fields; size = sound.sized.receive; slots = sound.ranges.slots }
