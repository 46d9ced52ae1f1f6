-- What the functions of `packet` ask and what they leave. Assumes nothing.
use Rattle.std.specs.Prelude.{ℕ, ◌+◌, ◌≤◌, ◌≡◌, List, length}
use Rattle.std.proofs.lemmas.List.Edits.{sets}
use Rattle.ground.specs.Lists.{over}
use Rattle.rules.specs.Packet.{plain_start, payload_most, packet_most, payload_from, payload_length}

-- ---- reading

-- A payload may start at that byte: past word 4, inside the slice.
pub record Inside (from : ℕ) (bytes : List ℕ) : Type 0 where
  pub least : plain_start ≤ from
  pub most : from ≤ length bytes

-- What the length rule gives.
pub record Sized (packet : List ℕ) : Type 0 where
  pub start : Inside (payload_from packet) packet
  pub short : length packet ≤ packet_most

-- ---- landing

-- A packet whose payload fits from a place of data memory on.
pub record Landing (packet : List ℕ) (at : ℕ) (bytes : List ℕ) : Type 0 where
  pub sized : Sized packet
  pub fits : at + payload_length packet ≤ length bytes

-- ---- forming

-- A room for any packet, and the bytes of a payload.
pub record Forming (room payload : List ℕ) : Type 0 where
  pub roomy : packet_most ≤ length room
  pub few : length payload ≤ payload_most

-- The room after bytes were stored from a place on, and where they end.
pub record Stored (bytes : List ℕ) (at : ℕ) (before after : List ℕ) (next : ℕ) : Type 0 where
  pub room : after ≡ sets before at bytes
  pub ends : next ≡ at + length bytes

-- The room after a packet of n bytes was formed in it, at most 168: "Bytes past a sent packet stay".
pub record Formed (packet before after : List ℕ) (n : ℕ) : Type 0 where
  pub room : after ≡ over packet before
  pub size : n ≡ length packet
  pub short : n ≤ packet_most
