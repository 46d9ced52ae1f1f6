-- Each call makes of the view what its act says. Assumes nothing.
use Prim.Native.Nat.{ℕ, ◌+◌, ◌<◌, ◌≤◌}
use mathlib.Core.Path.{◌≡◌, refl, sym, ap, ◌∙◌}
use mathlib.Core.Logic.{◌≢◌}
use mathlib.Core.List.{List, [], ◌∷◌, ◌++◌}
use native.Mathlib.Omega.{arith}
use lib.ListN.{length, get_or, set, drop, length-set, get_or-append}
use lib.Seq.{get_or-set_same, get_or-set_other}
use Rattle.ground.specs.Lists.{over}
use Rattle.ground.proofs.Choice.{pick_holds}
use Rattle.ground.proofs.Lists.{length_part, get_or_sets_after}
use Rattle.ground.proofs.Tests.{and_left}
use Rattle.rules.specs.Memory.{Machine, list, block, lists, head_word, token_word, place_word, slot_first, slot_word}
use Rattle.rules.specs.Saved.{with_last_sender}
use Rattle.rules.specs.Board.{Board, board, on_receive}
use Rattle.rules.specs.Notices.{place_of, push_nbqr, can_post_all, post_all}
use Rattle.rules.specs.Slots.{slot_words, store_slot}
use Rattle.rules.specs.Receipt.{slot_after, receipt_posting, has_room_for, slot_stored, aqr_entry, aqr_stored, counted_by, received_on_board, received}
use Rattle.rules.specs.Sending.{descriptor_at, send_posting}
use Rattle.rules.specs.Registers.{decode, stepped, shown_itself}
use Rattle.rules.specs.Writes.{bits_cleared, number_set, receive_stored}
use Rattle.rules.specs.Calls.{Call, writes, reads, receives, sends, takes, unknown, perform, unknown_call, judge_read, read_done, act_read, read_call, judge_write, write_done, act_write, write_call, judge_receive, act_receive, receive_call, judge_send, sent, act_send, send_call, judge_take, words_of, act_take, take_call}
use Rattle.laws.specs.Sound.{Block}
use Rattle.laws.specs.Receipts.{OfReceipt}
use Rattle.laws.specs.Verdicts.{OfReceive, OfSend, OfTake}
use Rattle.laws.specs.Writing.{OfReceiveStore, OfWrite}
use Rattle.laws.proofs.Verdicts.{of_receive, of_send, of_take}
use Rattle.laws.proofs.Writing.{of_write}
use Rattle.demands.specs.Types.{Queue, Saved, SlotIndex, ListIndex, Packet, Slot, Descriptor, Number, Mapped, Reach, ReceiveStore, Writing, Receipt, Receiving, Sending, Taking}
use Rattle.demands.specs.Runs.{rests, clears, store_act, writing_act, receiving_act, sending_act, notice_in, taking_act, act}
use Rattle.demands.specs.Places.{notice_at}
use Rattle.demands.proofs.Access.{after_step, after_shown}
use Rattle.demands.proofs.Blocks.{next}
use Rattle.demands.proofs.Chain.{not_bare}
use Rattle.demands.proofs.View.{View, opened}
use Rattle.demands.proofs.Ring.{entry, entries_same}
use Rattle.demands.proofs.Sight.{below_at, below_upd, seen, view, alike_then, alike_set, alike_slots, seen_alike, Quiet, quiet_same, quiet_then, quiet_aqr}
use Rattle.demands.proofs.Boards.{Step, heads, places, push_view, take_view, post_step}
use Rattle.std.specs.Prelude.{Result, Ok, Err}
use Rattle.rules.specs.declared.Refusal.{Refusal}

-- A call that leaves the view.
rest : {v v' : View} → v' ≡ v → Step rests v v'
rest e = record { may = tt; is = e }

-- ---- reads and writes

-- A pointer that moves on leaves NBQR.
step_queue : (r : Mapped) (s : Saved) → (stepped r s).nbqr ≡ s.nbqr
step_queue r s = after_step (λ t. t.nbqr ≡ s.nbqr) s refl refl refl r

-- A read.
read_step : (m : Machine) (r : Mapped) (x : Result Reach Refusal) → view (act_read m r x).machine ≡ view m
unfolding act_read read_done
read_step m r (Err why) = refl
read_step m r (Ok (Reach.Itself x)) =
    rw (step_queue r (shown_itself m.saved m.receive x).saved)
    (after_shown (λ t. seen t.nbqr m.receive m.notices ≡ view m) m.saved m.receive refl refl refl x)
read_step m r (Ok (Reach.InSend i)) = rw (step_queue r m.saved)
read_step m r (Ok (Reach.InReceive i)) = rw (step_queue r m.saved)

-- A number that is set leaves NBQR.
number_queue : (n : Number) (v : ℕ) (s : Saved) → (number_set n v s).nbqr ≡ s.nbqr
unfolding number_set bits_cleared
number_queue Number.Pcsr0 v s = refl
number_queue Number.InterruptBits v s = refl
number_queue Number.SlotCount v s = refl
number_queue Number.SendPointer v s = refl
number_queue Number.ReceivePointer v s = refl

-- A list's first block is its head and its reader's place.
open_view : (q : Queue) (r notices : List ℕ) (l : ListIndex) (x : ℕ) → length r ≡ 2048 → l.0 < lists
    → seen q (set (set r (head_word l) x) (place_word l) x) notices ≡ opened l.0 x (seen q r notices)
open_view q r notices l x size lt =
    let h : List ℕ = set r (head_word l) x in
    let p : List ℕ = set h (place_word l) x in
    λ t. record {
      words = notices;
      head =
          below_upd (heads r) (heads p) l.0 x lt
          (get_or-set_other h (place_word l) (head_word l) x 0 (omega arith) ∙ get_or-set_same r (head_word l) x 0 (omega arith))
          (λ k lk d. get_or-set_other h (place_word l) (head_word (list k)) x 0 (omega arith) ∙ get_or-set_other r (head_word l) (head_word (list k)) x 0 (omega arith)) t;
      place =
          below_upd (places r) (places p) l.0 x lt
          (get_or-set_same h (place_word l) x 0 (omega (arith, length-set r (head_word l) x)))
          (λ k lk d. get_or-set_other h (place_word l) (place_word (list k)) x 0 (omega arith) ∙ get_or-set_other r (head_word l) (place_word (list k)) x 0 (omega arith)) t;
      queue =
          entries_same r p q 0 q.length
          (λ j lj. get_or-set_other h (place_word l) (entry q (0 + j)) x 0 (omega arith) ∙ get_or-set_other r (head_word l) (entry q (0 + j)) x 0 (omega arith)) t;
    }

-- A store in Receive RAM.
store_step : (m : Machine) (w : ReceiveStore) (v : ℕ) → length m.receive ≡ 2048 → OfReceiveStore m.receive m.notices w
    → Step (store_act w) (view m) (seen m.saved.nbqr (receive_stored w v m.receive) m.notices)
unfolding store_act receive_stored
store_step m (ReceiveStore.SlotWord i k) v size h =
    rest (seen_alike m.saved.nbqr m.notices (alike_slots m.receive (slot_word i k) (v ∷ []) (omega arith)))
store_step m (ReceiveStore.SlotWord2 i) v size h =
    let r : List ℕ = m.receive in
    rest (seen_alike m.saved.nbqr m.notices
    (alike_then (alike_slots r (slot_word i 2) (v ∷ 0 ∷ 0 ∷ 0 ∷ []) (omega arith)) (alike_slots _ (slot_word i 7) (0 ∷ 0 ∷ 0 ∷ 0 ∷ 0 ∷ []) (omega arith))))
store_step m (ReceiveStore.FirstBlock l b) v size h =
    record {
      may = (h.2.0, h.2.1, h.0, below_at (heads m.receive) l.0 h.0 ∙ h.1);
      is = open_view m.saved.nbqr m.receive m.notices l b.0 size h.0;
    }
store_step m (ReceiveStore.ListToken l) v size h =
    rest (seen_alike m.saved.nbqr m.notices (alike_set m.receive _ v (omega arith)))

-- A write that is no reset.
write_step : (m : Machine) (r : Mapped) (v : ℕ) (w : Result Writing Refusal) → OfWrite m v w → writing_act w ≢ clears
    → Step (writing_act w) (view m) (view (act_write m r v w).machine)
unfolding act_write write_done writing_act push_nbqr
write_step m r v (Err why) h d = rest refl
write_step m r v (Ok Writing.Reset) h d = absurd (d refl)
write_step m r v (Ok (Writing.Sets n)) h d = rest (rw (step_queue r (number_set n v m.saved), number_queue n v m.saved))
write_step m r v (Ok (Writing.Gives b)) h d = rw (step_queue r _) (record { may = h.free; is = push_view (board m.saved m.receive m.notices 0) h.size b h.room })
write_step m r v (Ok (Writing.StoresSend w)) h d = rest (rw (step_queue r m.saved))
write_step m r v (Ok (Writing.StoresReceive w)) h d = rw (step_queue r m.saved) (store_step m w v h.0 h.1)

-- ---- receipts

-- The slot's store and the AQR entry are not shown.
slot_stored_lem : (b : Board) (i : SlotIndex) (v : Slot) → i.0 < 64 → Quiet b (on_receive (λ r. store_slot r i v) b)
unfolding store_slot
slot_stored_lem b i v lt =
    record {
      queue = refl;
      alike = alike_slots b.receive (slot_first i) (slot_words v) (omega arith);
      token = λ l h. get_or_sets_after b.receive (slot_first i) (slot_words v) (token_word l) 0 (omega arith);
      notices = refl;
    }

pub slot_quiet : (n : ℕ) (p : Packet) (r : Receipt) (b : Board) → OfReceipt b.saved b.receive n p r → b.saved.slots ≤ 64
    → Quiet b (on_receive (slot_stored p r) b)
unfolding slot_stored
slot_quiet n p (Receipt.Fails f) b h few = quiet_same b
slot_quiet n p (Receipt.Acks i v) b h few = quiet_same b
slot_quiet n p (Receipt.Lands i v) b h few = slot_stored_lem b i (slot_after p v) (omega (arith, h.0.low))

pub aqr_quiet : (p : Packet) (r : Receipt) (b : Board) → Quiet b (aqr_stored p r b)
unfolding aqr_stored
aqr_quiet p (Receipt.Fails f) b = quiet_same b
aqr_quiet p (Receipt.Acks i v) b = quiet_same b
aqr_quiet p (Receipt.Lands i v) b = pick_holds (Quiet b) _ (quiet_aqr (aqr_entry i) b) (quiet_same b)

-- A count leaves NBQR.
counted_queue : (r : Receipt) (s : Saved) → (counted_by r s).nbqr ≡ s.nbqr
unfolding counted_by
counted_queue (Receipt.Fails f) s = refl
counted_queue (Receipt.Acks i v) s = refl
counted_queue (Receipt.Lands i v) s = refl

-- A receipt.
receive_step : (m : Machine) (packet : List ℕ) (r : Result Receiving Refusal) → OfReceive m packet r
    → Step (receiving_act r) (view m) (view (act_receive m packet r).machine)
unfolding receiving_act act_receive received received_on_board has_room_for
receive_step m packet (Err why) h = rest refl
receive_step m packet (Ok v) h =
    let p : Packet = v.packet in
    let r : Receipt = v.receipt in
    let b : Board = board m.saved m.receive m.notices 0 in
    let b₁ : Board = on_receive (slot_stored p r) b in
    let b₂ : Board = aqr_stored p r b₁ in
    rw (counted_queue r (post_all (receipt_posting p r) b₂).saved)
    (post_step (receipt_posting p r) b b₂
    (quiet_then (slot_quiet (length m.bytes) p r b h.says h.sound.ranges.slots) (aqr_quiet p r b₁))
    h.listed
    (and_left (can_post_all m.saved m.receive (receipt_posting p r)) _ h.room) h.sound.nbqr.place h.sound.sized.receive)

-- ---- sends

-- The notice is posted once the descriptor has moved on, which is not shown.
send_step : (m : Machine) (room : List ℕ) (s : Result Sending Refusal) → OfSend m (length room) s → Step (sending_act m s) (view m) (view (act_send m room s).machine)
unfolding sending_act act_send sent
send_step m room (Err why) h = rest refl
send_step m room (Ok (Sending.Sends i)) h =
    let d : Descriptor = descriptor_at m.send i in
    let b : Board = board m.saved m.receive m.notices 0 in
    let b₁ : Board = board (with_last_sender i.0 m.saved) m.receive m.notices 0 in
    post_step (send_posting d) b b₁ (record { queue = refl; alike = (quiet_same b).alike; token = λ l h. refl; notices = refl })
    h.listed h.posts h.sound.nbqr.place h.sound.sized.receive
send_step m room (Ok (Sending.Waits i)) h = rest refl

-- ---- takes

-- A notice is read from a room as from its block.
notice_over : (p room : List ℕ) → length p ≡ 8 → notice_in (over p room) ≡ notice_in p
unfolding over
notice_over p room e =
    λ i. record {
      word0 = one 0 (omega arith) i;
      word1 = one 1 (omega arith) i;
      word2 = one 2 (omega arith) i;
      metadata = record { a = one 4 (omega arith) i; b = one 5 (omega arith) i; c = one 6 (omega arith) i; d = one 7 (omega arith) i };
    }
  where
    one : (j : ℕ) → j < 8 → get_or (p ++ drop (length p) room) j 0 ≡ get_or p j 0
    one j h = get_or-append p (drop (length p) room) 0 j (omega arith)

-- A take.
take_step : (m : Machine) (room : List ℕ) (t : Result Taking Refusal) → OfTake m (length room) t
    → Step (taking_act (act_take m room t).room t) (view m) (view (act_take m room t).machine)
unfolding taking_act act_take notice_at
take_step m room (Err why) h = rest refl
take_step m room (Ok t) h =
    let l : ListIndex = t.list in
    let p : ℕ = place_of m.receive l in
    let k : Block (length m.notices) p = rw h.place at h.here in
    let onward : Block (length m.notices) (next m.notices p) = rw (h.next, h.place) at h.onward in
    let at : p ≡ (view m).place l.0 = sym (below_at (places m.receive) l.0 h.low) in
    rw (h.next, h.place) (record {
      may = (
        h.low,
        notice_over (words_of m.notices (block p)) room (length_part _ 8 m.notices k.inside) ∙ ap (notice_at m.notices) at,
        rw (← at) (not_bare m.notices p (λ z. omega (arith, k.low)) (λ z. omega (arith, onward.low))),
      );
      is = take_view l (board m.saved m.receive m.notices 0) h.sound.sized.receive h.low h.queue;
    })

-- ---- any call

-- No reset: what it does is its act.
pub call_step : (c : Call) (m : Machine) → act c m ≢ clears → Step (act c m) (view m) (view (perform c m).machine)
unfolding act perform read_call write_call receive_call send_call take_call unknown_call
call_step (writes a v) m d = write_step m (decode a) v (judge_write m a v) (of_write m a v) d
call_step (reads a) m d = rest (read_step m (decode a) (judge_read m (decode a)))
call_step (receives packet) m d = receive_step m packet (judge_receive m packet) (of_receive m packet)
call_step (sends ready room) m d = send_step m room (judge_send m ready (length room)) (of_send m ready (length room))
call_step (takes l room) m d = take_step m room (judge_take m l (length room)) (of_take m l (length room))
call_step unknown m d = rest refl
