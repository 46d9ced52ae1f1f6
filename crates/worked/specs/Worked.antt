-- A run worked out, so that no premise is empty: two blocks are handed over, a fault is posted on list 0, found there and taken; and a packet, sent
-- by a descriptor that is active and received by the node that it is for. Assumes nothing.
use Rattle.std.specs.Prelude.{◌≤◌, ◌≡◌, ℕ, ◌^◌, true, List, [], ◌∷◌, take, replicate}
use Rattle.ground.specs.Bytes.{to_bytes}
use Rattle.std.proofs.lemmas.List.Edits.{sets}
use Rattle.rules.specs.Memory.{Machine, machine, descriptor, slot, slot_first}
use Rattle.rules.specs.Saved.{with_slots, with_last_sender, reset_saved}
use Rattle.rules.specs.Sending.{descriptor_at, is_active}
use Rattle.rules.specs.Packet.{well_formed}
use Rattle.rules.specs.Notices.{fault}
use Rattle.rules.specs.Sound.{is_sized, is_sound}
use Rattle.rules.specs.Replies.{Outcome}
use Rattle.rules.specs.Calls.{writes, receives, sends, takes, perform}
use Rattle.rules.specs.declared.Notice.{Notice}
use Rattle.demands.specs.Runs.{Run, start, ◌▸◌, calls, outside, after}
use Rattle.demands.specs.History.{begun, AfterReset, answers, handed, posted, taken}
use Rattle.demands.specs.Places.{count, standing, found}
use Rattle.demands.specs.Fields.{Below}

-- A machine that is not sound: its last sender is none.
abbrev before : Machine
before = machine (with_last_sender 9 (reset_saved 0)) (replicate 1024 1) (replicate 2048 1) (0 ∷ []) (replicate 24 1)

-- The reset, as node 7 of incarnation 3 with enable.
abbrev value : ℕ
value = 0xC0030007

-- Block 32 becomes the head of list 0, at word 1024 of Receive RAM; block 64 waits; a packet of zeros fails its header check.
abbrev faulting : Run
faulting =
    start
    ▸ calls (writes 0x080 0x1000)
    ▸ calls (writes 0x084 32)
    ▸ calls (writes 0x01C 64)
    ▸ outside (1 ∷ [])
    ▸ calls (receives (replicate 20 0))

-- Then its notice is taken.
abbrev taking : Run
taking = faulting ▸ calls (takes 0 (replicate 8 0))

-- What the fault's notice says.
abbrev failed : Notice
failed = fault 0 0x0400 0 0

-- Node 7, whose descriptor 0 has four bytes for slot 5 of node 9, with use_msg_size and incarnation 3.
abbrev pub sender : Machine
sender =
    machine (reset_saved 0x40030007)
    (sets (replicate 1024 0) 0 (0 ∷ 0x00090000 ∷ 0x00050000 ∷ 0x83000000 ∷ 4 ∷ 0x10000004 ∷ 0 ∷ []))
    (replicate 2048 0) (1 ∷ 2 ∷ 3 ∷ 4 ∷ []) (replicate 24 0)

-- Its send, and the packet that this writes.
abbrev sending : Outcome
sending = perform (sends true (replicate 168 0)) sender

abbrev pub packet : List ℕ
packet = take sending.value sending.room

-- Node 9, whose slot 5 has a buffer of four bytes.
abbrev receiver : Machine
receiver =
    machine (with_slots 6 (reset_saved 0x40030009)) (replicate 1024 0)
    (sets (replicate 2048 0) (slot_first (slot 5)) (0 ∷ 4 ∷ 0x00008000 ∷ []))
    (replicate 4 0) (replicate 24 0)

-- What the run does: both premises of demand 3 hold, and every part of the history says something. What the sender and the packet are: so do all
-- premises of demand 2.
pub record NotVacuous : Type 0 where
  pub after_reset : AfterReset value before taking
  pub once : (b : ℕ) → count b (handed (begun value before) taking) ≤ 1
  pub gave : handed (begun value before) taking ≡ 32 ∷ 64 ∷ []
  pub answered : answers (begun value before) taking ≡ 9 ∷ []
  pub post : posted 0 (begun value before) taking ≡ failed ∷ []
  pub walked : found (after (begun value before) faulting) 0 ≡ failed ∷ []
  pub stood : standing (after (begun value before) faulting) ≡ 32 ∷ 64 ∷ []
  pub took : taken 0 (begun value before) taking ≡ failed ∷ []
  pub stands : standing (after (begun value before) taking) ≡ 32 ∷ 64 ∷ []
  pub words : Below (2 ^ 32) sender.send
  pub data_bytes : Below 256 sender.bytes
  pub sized : is_sized sender ≡ true
  pub sound : is_sound sender ≡ true
  pub active : is_active (descriptor_at sender.send (descriptor 0)) ≡ true
  pub sent : sending.reply ≡ 0
  pub formed : packet ≡ to_bytes (0x00090000 ∷ 0x00050070 ∷ 0x83000000 ∷ 0x00000004 ∷ 0xB4160000 ∷ 0x01020304 ∷ 0x89C30000 ∷ [])
  pub packet_bytes : Below 256 packet
  pub well_formed_lem : well_formed packet ≡ true
  pub received : (perform (receives packet) receiver).reply ≡ 0
