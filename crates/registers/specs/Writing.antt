-- What a write asks, once it is judged, and what it gives. What it gives holds whatever the memories hold that it is not lent. Assumes nothing.
use Rattle.std.specs.Prelude.{Result, Ok, Err, ◌≡◌, List, [], ◌∷◌, ℕ, ◌<◌, length}
use Rattle.std.proofs.lemmas.List.Edits.{sets}
use Rattle.rules.specs.declared.Answer.{Answer}
use Rattle.rules.specs.declared.ReceiveStore.{ReceiveStore}
use Rattle.rules.specs.declared.Saved.{Saved}
use Rattle.rules.specs.declared.SendStore.{SendStore}
use Rattle.rules.specs.declared.Writing.{Writing}
use Rattle.rules.specs.Memory.{machine, send_size, receive_size, descriptors, descriptor_size, slots_most, lists}
use Rattle.rules.specs.Registers.{decode}
use Rattle.rules.specs.Writes.{reset}
use Rattle.rules.specs.Replies.{answered}
use Rattle.rules.specs.Calls.{act_write}
use Rattle.laws.specs.Writing.{PlainWord}
use Rattle.notices.specs.Steps.{Pushable}
use Rattle.rules.specs.declared.Refusal.{Refusal}

-- ---- what a write asks

-- The two RAMs have their sizes.
pub record Rams (send_length receive_length : ℕ) : Type 0 where
  pub send : send_length ≡ send_size
  pub receive : receive_length ≡ receive_size

-- A store is to a word of Send RAM that is there.
abbrev pub SendHolds : SendStore → Type 0
SendHolds (SendStore.DirectWord i) = i < send_size
SendHolds (SendStore.Word d k) = (d.0 < descriptors) × (k < descriptor_size)
SendHolds (SendStore.Start d) = d.0 < descriptors

-- In a Send RAM of so many words.
pub record InSend (x : SendStore) (words : ℕ) : Type 0 where
  pub size : words ≡ send_size
  pub holds : SendHolds x

-- A store is to a word of Receive RAM that takes it.
abbrev pub ReceiveHolds : ReceiveStore → Type 0
ReceiveHolds (ReceiveStore.SlotWord i k) = (i.0 < slots_most) × PlainWord k
ReceiveHolds (ReceiveStore.SlotWord2 i) = i.0 < slots_most
ReceiveHolds (ReceiveStore.FirstBlock l b) = l.0 < lists
ReceiveHolds (ReceiveStore.ListToken l) = l.0 < lists

-- In a Receive RAM of so many words.
pub record InReceive (x : ReceiveStore) (words : ℕ) : Type 0 where
  pub size : words ≡ receive_size
  pub holds : ReceiveHolds x

-- What each verdict asks: a refusal and a number of the saved state nothing.
abbrev pub Asks : Result Writing Refusal → Saved → List ℕ → List ℕ → Type 0
Asks (Err why) s send receive = Unit {0}
Asks (Ok Writing.Reset) s send receive = Rams (length send) (length receive)
Asks (Ok (Writing.Sets n)) s send receive = Unit {0}
Asks (Ok (Writing.Gives b)) s send receive = Pushable s.nbqr receive
Asks (Ok (Writing.StoresSend x)) s send receive = InSend x (length send)
Asks (Ok (Writing.StoresReceive x)) s send receive = InReceive x (length receive)

-- A write can be acted on.
pub record Writable (w : Result Writing Refusal) (s : Saved) (send receive : List ℕ) : Type 0 where
  pub asks : Asks w s send receive

-- ---- what it gives

-- A slot's row with v in its word 2, and 0 in its words 3, 4, 5 and 7 to 11.
abbrev pub opened : ℕ → List ℕ → List ℕ
opened v row = sets (sets row 2 (v ∷ 0 ∷ 0 ∷ 0 ∷ [])) 7 (0 ∷ 0 ∷ 0 ∷ 0 ∷ 0 ∷ [])

-- A reset was carried out.
pub record Resets (v : ℕ) (send receive notices : List ℕ) (s₂ : Saved) (send₂ receive₂ notices₂ : List ℕ) : Type 0 where
  pub whole : (s : Saved) (bytes : List ℕ) → machine s₂ send₂ receive₂ bytes notices₂ ≡ reset v (machine s send receive bytes notices)

-- A write of v to register number a was acted on.
pub record Writes (w : Result Writing Refusal) (a v : ℕ) (s : Saved) (send receive notices : List ℕ) (r : Answer) (send₂ receive₂ notices₂ : List ℕ) : Type 0 where
  pub whole : (bytes : List ℕ) → answered r send₂ receive₂ bytes notices₂ [] ≡ act_write (machine s send receive bytes notices) (decode a) v w
