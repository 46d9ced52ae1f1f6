-- The demands, each as a statement to be read beside it. Assumes nothing.
use Rattle.std.specs.Prelude.{Some, ◌<◌, ◌≤◌, ◌≡◌, ◌≢◌, ℕ, ◌%◌, ◌^◌, Bool, true, List, [], ◌++◌, length, take}
use Rattle.rules.specs.Memory.{Machine, with_send, descriptors, lists}
use Rattle.rules.specs.Packet.{packet_of, well_formed}
use Rattle.rules.specs.Sending.{descriptor_at, is_active, next_sender, mark_stalled}
use Rattle.rules.specs.Sound.{is_sized, is_sound}
use Rattle.rules.specs.Replies.{Outcome}
use Rattle.rules.specs.Calls.{Call, writes, reads, receives, sends, takes, unknown, perform, packet_from}
use Rattle.demands.specs.Types.{DescriptorIndex}
use Rattle.demands.specs.Runs.{Run, AtEachMoment, after}
use Rattle.demands.specs.History.{begun, AfterReset, answers, handed, posted, taken}
use Rattle.demands.specs.Places.{count, standing, found}
use Rattle.demands.specs.Fields.{Below, Fields, layout, Allowed, fields_of, sent_fields}

-- ---- demand 1: "a refusal alters nothing but the stalled mark that 01 names"

-- The room lent with a call.
abbrev pub room_of : Call → List ℕ
room_of (writes a v) = []
room_of (reads a) = []
room_of (receives packet) = []
room_of (sends ready room) = room
room_of (takes l room) = room
room_of unknown = []

-- What a refusal leaves of a machine and a room; with fabric, the descriptor that was chosen is marked stalled, no more.
pub record Kept (m : Machine) (lent : List ℕ) (o : Outcome) : Type 0 where
  pub value : o.value ≡ 0
  pub interrupts : o.interrupts ≡ 0
  pub room : o.room ≡ lent
  pub machine : o.reply ≢ 15 → o.machine ≡ m
  pub marked : o.reply ≡ 15
      → (d : DescriptorIndex) × (next_sender m.saved m.send m.receive ≡ Some d) × (o.machine ≡ with_send (mark_stalled m.send d) m)

-- Every reply but done and fault is a refusal.
pub record RefusalsAlterNothing : Type 0 where
  pub holds : (c : Call) (m : Machine) → (perform c m).reply ≢ 0 → (perform c m).reply ≢ 9 → Kept m (room_of c) (perform c m)

-- ---- demand 2

-- A packet is the layout of these fields, is well formed, and is read as them; the steps have the payload's length besides.
pub record ReadAs (f : Fields) (packet : List ℕ) : Type 0 where
  pub laid_out : packet ≡ layout f
  pub well_formed_lem : well_formed packet ≡ true
  pub fields : fields_of packet ≡ f
  pub payload_length_lem : (packet_of packet).payloadlength ≡ length f.payload

-- What a send call wrote: the packet of the descriptor that was chosen.
pub record Sent (m : Machine) (o : Outcome) : Type 0 where
  pub descriptor : DescriptorIndex
  pub chosen : next_sender m.saved m.send m.receive ≡ Some descriptor
  pub packet : ReadAs (sent_fields m (descriptor_at m.send descriptor)) (take o.value o.room)

-- "What the sender forms, the receiver reads back field for field": what an active descriptor forms and what a send call writes is the layout
-- of the descriptor's fields; and any fields that 01 allows are read back.
pub record ReadBack : Type 0 where
  pub formed : (m : Machine) (i : DescriptorIndex) → Below (2 ^ 32) m.send → Below 256 m.bytes → is_sized m ≡ true → is_sound m ≡ true
      → i.0 < descriptors → is_active (descriptor_at m.send i) ≡ true → ReadAs (sent_fields m (descriptor_at m.send i)) (packet_from m i)
  pub sent : (m : Machine) (ready : Bool) (room : List ℕ) → Below (2 ^ 32) m.send → Below 256 m.bytes
      → (perform (sends ready room) m).reply ≡ 0 → Sent m (perform (sends ready room) m)
  pub any : (f : Fields) → Allowed f → ReadAs f (layout f)

-- The fields read of a packet are allowed, and their layout is the packet.
pub record LaidOut (packet : List ℕ) : Type 0 where
  pub allowed : Allowed (fields_of packet)
  pub to_the_byte : layout (fields_of packet) ≡ packet

-- "and each packet it passes as well formed is, to the byte, what 01's packet layout gives for those fields"; what a receive call takes, it
-- has passed as well formed.
pub record OnlyFormed : Type 0 where
  pub holds : (s : List ℕ) → Below 256 s → well_formed s ≡ true → LaidOut s
  pub taken : (m : Machine) (s : List ℕ) → (perform (receives s) m).reply ≡ 0 → well_formed s ≡ true

-- "it also fixes both packet counts from the calls made", modulo 2^32.
pub record PacketCounts : Type 0 where
  pub taken : (v : ℕ) (m : Machine) (r : Run) → AfterReset v m r → (after (begun v m) r).saved.taken ≡ count 0 (answers (begun v m) r) % 2 ^ 32
  pub faulted : (v : ℕ) (m : Machine) (r : Run) → AfterReset v m r → (after (begun v m) r).saved.faulted ≡ count 9 (answers (begun v m) r) % 2 ^ 32

-- ---- demand 3

-- A moment: the machine, with what the history since the reset says.
pub record Moment (s : Machine) (r : Run) : Type 0 where
  -- "every block handed over stands in exactly one place": counted over all places it stands there once, and any other block not at all
  pub stands : (b : ℕ) → count b (standing (after s r)) ≡ count b (handed s r)
  -- "their number equals the accepted writes"
  pub number : length (standing (after s r)) ≡ length (handed s r)
  -- "on each list the notices taken, then those found by walking from the reader's place, are exactly those that demand 2 posts there, in
  -- order, each once"
  pub order : (k : ℕ) → k < lists → taken k s r ++ found (after s r) k ≡ posted k s r

-- "In any run of calls after a reset (refusals included, no second reset, no block handed over twice, data memory alone written from
-- outside): at each moment .."
pub record ThirdDemand : Type 0 where
  pub holds : (v : ℕ) (m : Machine) (r : Run) → AfterReset v m r → ((b : ℕ) → count b (handed (begun v m) r) ≤ 1)
      → AtEachMoment (Moment (begun v m)) r

-- ---- replies 13 and 14

-- After any run after a reset, a block handed over twice or not, no call is answered sizes or unsound.
pub record NeverUnsound : Type 0 where
  pub sizes : (v : ℕ) (m : Machine) (r : Run) → AfterReset v m r → (c : Call) → (perform c (after (begun v m) r)).reply ≢ 13
  pub unsound : (v : ℕ) (m : Machine) (r : Run) → AfterReset v m r → (c : Call) → (perform c (after (begun v m) r)).reply ≢ 14
