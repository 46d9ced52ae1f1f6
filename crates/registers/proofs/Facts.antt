-- What acting on a write asks, from what was judged. Assumes nothing.
use mathlib.Core.Path.{◌≡◌}
use Prim.Native.Nat.{ℕ}
use lib.ListN.{length}
use Rattle.rules.specs.declared.ReceiveStore.{ReceiveStore}
use Rattle.rules.specs.declared.SendStore.{SendStore}
use Rattle.rules.specs.declared.Writing.{Writing}
use Rattle.rules.specs.Memory.{Machine}
use Rattle.rules.specs.Calls.{judge_write}
use Rattle.laws.specs.Writing.{OfSendStore, OfReceiveStore, OfWrite}
use Rattle.laws.proofs.Writing.{of_write}
use Rattle.registers.specs.Writing.{SendHolds, ReceiveHolds, Asks, Writable}
use Rattle.std.specs.Prelude.{Result, Ok, Err}
use Rattle.rules.specs.declared.Refusal.{Refusal}

module _ (m : Machine) (v : ℕ) where
  -- A store in Send RAM.
  send_asked : (x : SendStore) → OfSendStore m.send (length m.bytes) v x → SendHolds x
  send_asked (SendStore.DirectWord i) h = h.1
  send_asked (SendStore.Word d k) h = (h.0, h.1)
  send_asked (SendStore.Start d) h = h.0

  -- A store in Receive RAM.
  receive_asked : (x : ReceiveStore) → OfReceiveStore m.receive m.notices x → ReceiveHolds x
  receive_asked (ReceiveStore.SlotWord i k) h = (h.0, h.2)
  receive_asked (ReceiveStore.SlotWord2 i) h = h
  receive_asked (ReceiveStore.FirstBlock l b) h = h.0
  receive_asked (ReceiveStore.ListToken l) h = h

  -- By the verdict.
  asked : (w : Result Writing Refusal) → OfWrite m v w → Asks w m.saved m.send m.receive
  asked (Err why) h = tt
  asked (Ok Writing.Reset) h = record { send = h.send; receive = h.receive }
  asked (Ok (Writing.Sets n)) h = tt
  asked (Ok (Writing.Gives b)) h = record { size = h.size; place = h.ring.place; room = h.room }
  asked (Ok (Writing.StoresSend x)) h = record { size = h.0; holds = send_asked x h.1 }
  asked (Ok (Writing.StoresReceive x)) h = record { size = h.0; holds = receive_asked x h.1 }

-- A write can be acted on as it was judged.
pub writable : (m : Machine) (a v : ℕ) {w : Result Writing Refusal} → judge_write m a v ≡ w → Writable w m.saved m.send m.receive
writable m a v {w} h = record { asks = asked m v w (rw h at (of_write m a v)) }
