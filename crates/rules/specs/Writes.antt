-- "Registers", writes: what each word takes, and what a write that is carried out stores. Assumes nothing.
use Rattle.ground.specs.Choice.{pick, need}
use Rattle.ground.specs.Lists.{over}
use Rattle.std.specs.Prelude.{ℕ, Result, Ok, Err, Bool, not, ◌&&◌, ◌||◌, List, [], ◌∷◌, ◌++◌, eqb, leb, length, set, replicate}
use Rattle.std.proofs.lemmas.List.Edits.{sets}
use Rattle.rules.specs.Types.{Saved, Refusal, ReadOnly, Active, BadValue, Full, Register, Reach, SendPart, ReceivePart, Number, SendStore, ReceiveStore, Writing}
use Rattle.rules.specs.Words.{goes, msg_size}
use Rattle.rules.specs.Memory.{Machine, machine, send_size, receive_size, slots_most, block, descriptor_word, slot_word, head_word, token_word, place_word, send_part, receive_part, is_free_block}
use Rattle.rules.specs.Saved.{with_pcsr0, with_bits, with_slots, with_pointers, resets, pcsr0_ok, without_reset, reset_saved}
use Rattle.rules.specs.Queues.{has_room}
use Rattle.rules.specs.Notices.{head_of, enqueues, token}
use Rattle.rules.specs.Sending.{control1_word, descriptor_at, store_descriptor, is_active, go_rule, started}
use Rattle.rules.specs.Registers.{pointer_ok, int_hi, int_lo}

-- ---- what each word takes, in the order read-only, active, bad-value, full

-- "Read-only: .. descriptor words 4, 6, 7, 12 to 15".
abbrev pub descriptor_word_fixed : ℕ → Bool
descriptor_word_fixed k = eqb k 4 || eqb k 6 || eqb k 7 || leb 12 k

-- "slot words other than 0, 1, 2, 6".
abbrev pub slot_word_fixed : ℕ → Bool
slot_word_fixed k = not (eqb k 0 || eqb k 1 || eqb k 2 || eqb k 6)

-- "A control1 write with go 1".
abbrev pub starts : ℕ → ℕ → Bool
starts k v = eqb k control1_word && goes v

-- "control1 with go 0".
abbrev pub stops : ℕ → ℕ → Bool
stops k v = eqb k control1_word && not (goes v)

-- A word of Send RAM: "Writes to an active descriptor answer active, except control1 with go 0"; "A control1 write with go 1 needs" the go
-- rule of its msg_size. A word of DIO takes any value.
unfoldable pub judge_send_word : List ℕ → ℕ → SendPart → ℕ → Result Writing Refusal
judge_send_word send data_length (SendPart.Direct i) v = Ok (Writing.StoresSend (SendStore.DirectWord i))
judge_send_word send data_length (SendPart.OfDescriptor i k) v =
    let d = descriptor_at send i in
    need (not (descriptor_word_fixed k)) (Err ReadOnly)
    (need (not (is_active d) || stops k v) (Err Active)
    (need (not (starts k v) || go_rule d v (msg_size v) data_length) (Err BadValue)
    (Ok (Writing.StoresSend (pick (starts k v) (SendStore.Start i) (SendStore.Word i k))))))

-- A word of Receive RAM: read-only are also "queues, reader's places and the rest; a head that is not 0. A head otherwise takes what NBQR
-- takes"; "A token word with enqueue 1 and token 0 is a bad value (H)."
unfoldable pub judge_receive_word : List ℕ → List ℕ → ReceivePart → ℕ → Result Writing Refusal
judge_receive_word receive notices (ReceivePart.OfSlot i k) v =
    need (not (slot_word_fixed k)) (Err ReadOnly)
    (Ok (Writing.StoresReceive (pick (eqb k 2) (ReceiveStore.SlotWord2 i) (ReceiveStore.SlotWord i k))))
judge_receive_word receive notices (ReceivePart.Head l) v =
    need (eqb (head_of receive l) 0) (Err ReadOnly)
    (need (is_free_block notices v) (Err BadValue)
    (Ok (Writing.StoresReceive (ReceiveStore.FirstBlock l (block v)))))
judge_receive_word receive notices (ReceivePart.Token l) v =
    need (not (enqueues v && eqb (token v) 0)) (Err BadValue) (Ok (Writing.StoresReceive (ReceiveStore.ListToken l)))
judge_receive_word receive notices ReceivePart.Fixed v = Err ReadOnly

-- A register itself: "Read-only: NLHR, NQR, AQR, both counts"; "slot count 0 to 64"; "NBQR takes a block address whose next word is 0;
-- anything else is a bad value"; full: "NBQR write .. with 256 waiting".
unfoldable pub judge_register : Saved → List ℕ → Register → ℕ → Result Writing Refusal
judge_register s notices Register.Pcsr0 v = need (pcsr0_ok v) (Err BadValue) (pick (resets v) (Ok Writing.Reset) (Ok (Writing.Sets Number.Pcsr0)))
judge_register s notices Register.Pcsr1 v = Ok (Writing.Sets Number.InterruptBits)
judge_register s notices Register.Nlhr v = Err ReadOnly
judge_register s notices Register.SlotCount v = need (leb v slots_most) (Err BadValue) (Ok (Writing.Sets Number.SlotCount))
judge_register s notices Register.Nqr v = Err ReadOnly
judge_register s notices Register.Aqr v = Err ReadOnly
judge_register s notices Register.Nbqr v =
    need (is_free_block notices v) (Err BadValue) (need (has_room s.nbqr) (Err Full) (Ok (Writing.Gives (block v))))
judge_register s notices Register.Taken v = Err ReadOnly
judge_register s notices Register.Faulted v = Err ReadOnly
judge_register s notices Register.SendPointer v = need (pointer_ok send_size v) (Err BadValue) (Ok (Writing.Sets Number.SendPointer))
judge_register s notices Register.ReceivePointer v = need (pointer_ok receive_size v) (Err BadValue) (Ok (Writing.Sets Number.ReceivePointer))

-- A write, by what it reaches.
unfoldable pub judge_reached : Machine → Result Reach Refusal → ℕ → Result Writing Refusal
judge_reached m (Err why) v = Err why
judge_reached m (Ok (Reach.Itself r)) v = judge_register m.saved m.notices r v
judge_reached m (Ok (Reach.InSend i)) v = judge_send_word m.send (length m.bytes) (send_part i) v
judge_reached m (Ok (Reach.InReceive i)) v = judge_receive_word m.receive m.notices (receive_part i) v

-- ---- what a write stores

-- PCSR1: "A write clears int_hi or int_lo where its bit is 0; nothing else."
unfoldable pub bits_cleared : ℕ → Saved → Saved
bits_cleared v s = with_bits (pick (int_hi v) s.inthi 0) (pick (int_lo v) s.intlo 0) s

-- A number of the saved state.
unfoldable pub number_set : Number → ℕ → Saved → Saved
number_set Number.Pcsr0 v s = with_pcsr0 v s
number_set Number.InterruptBits v s = bits_cleared v s
number_set Number.SlotCount v s = with_slots v s
number_set Number.SendPointer v s = with_pointers v s.receivepointer s
number_set Number.ReceivePointer v s = with_pointers s.sendpointer v s

-- In Send RAM: a control1 word with go 1 starts the descriptor; "With go 0 the word is stored, no more."
unfoldable pub send_stored : SendStore → ℕ → List ℕ → List ℕ
send_stored (SendStore.DirectWord i) v send = set send i v
send_stored (SendStore.Word d k) v send = set send (descriptor_word d k) v
send_stored (SendStore.Start d) v send = store_descriptor send d (started v (descriptor_at send d))

-- In Receive RAM: "Writing slot word 2 zeroes words 3, 4, 5 and 7 to 11 (H)"; a head "sets the reader's place too".
unfoldable pub receive_stored : ReceiveStore → ℕ → List ℕ → List ℕ
receive_stored (ReceiveStore.SlotWord i k) v receive = set receive (slot_word i k) v
receive_stored (ReceiveStore.SlotWord2 i) v receive =
    sets (sets receive (slot_word i 2) (v ∷ 0 ∷ 0 ∷ 0 ∷ [])) (slot_word i 7) (0 ∷ 0 ∷ 0 ∷ 0 ∷ 0 ∷ [])
receive_stored (ReceiveStore.FirstBlock l b) v receive = set (set receive (head_word l) b.0) (place_word l) b.0
receive_stored (ReceiveStore.ListToken l) v receive = set receive (token_word l) v

-- ---- a reset

-- A descriptor's words after it: "descriptors (status2 then 0x20000000)".
abbrev pub clear_descriptor : List ℕ
clear_descriptor = 0 ∷ 0 ∷ 0 ∷ 0 ∷ 0 ∷ 0 ∷ 0x20000000 ∷ 0 ∷ 0 ∷ 0 ∷ 0 ∷ 0 ∷ 0 ∷ 0 ∷ 0 ∷ 0 ∷ []

-- All four.
unfoldable pub clear_descriptors : List ℕ
clear_descriptors = clear_descriptor ++ clear_descriptor ++ clear_descriptor ++ clear_descriptor

-- "Reset clears Receive RAM, notice memory, descriptors (status2 then 0x20000000), counts, pointers, slot count, interrupt bits; the other
-- fields are stored with reset 0. DIO and data memory stay. Last sender becomes 3."
unfoldable pub reset : ℕ → Machine → Machine
reset v m =
    machine
    (reset_saved (without_reset v))
    (over clear_descriptors m.send)
    (replicate receive_size 0)
    m.bytes
    (replicate (length m.notices) 0)
