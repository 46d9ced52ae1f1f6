-- What each call leaves of a good machine, besides the view. Assumes nothing.
use Prim.Native.Nat.{ℕ, ◌<◌}
use mathlib.Core.Path.{◌≡◌, refl, sym, ap, ◌∙◌}
use mathlib.Core.Logic.{◌≢◌}
use mathlib.Core.Bool.{Bool, ◌||◌, true, not}
use mathlib.Core.List.{List, [], ◌∷◌, ◌++◌, append-nil}
use native.Mathlib.Omega.{arith}
use lib.ListN.{length, set, length-set}
use lib.Seq.{length-sets}
use borrow.Author.Tests.{ltb-true}
use Rattle.ground.proofs.Choice.{pick_by}
use Rattle.ground.proofs.Tests.{and_left, and_right, or_second, not_no}
use Rattle.rules.specs.Memory.{next_word, Machine, with_saved, descriptor_word, slot_word, token_word, place_word}
use Rattle.rules.specs.Saved.{with_last_sender}
use Rattle.rules.specs.Queues.{has_room}
use Rattle.rules.specs.Board.{Board, board, on_receive}
use Rattle.rules.specs.Notices.{enqueues, push_aqr, can_post_all, take_block}
use Rattle.rules.specs.Packet.{payload_of}
use Rattle.rules.specs.Receipt.{receipt_posting, needs_aqr, has_room_for, slot_stored, payload_stored, aqr_entry, aqr_stored, counted_by, received_on_board, received}
use Rattle.rules.specs.Replies.{refusal_number, reply_number}
use Rattle.rules.specs.Sending.{descriptor_at, started, send_posting, after_packet}
use Rattle.rules.specs.Registers.{decode}
use Rattle.rules.specs.Writes.{send_stored, receive_stored}
use Rattle.rules.specs.Calls.{Call, writes, reads, receives, sends, takes, unknown, perform, unknown_call, judge_read, read_done, act_read, read_call, judge_write, write_done, act_write, write_call, judge_receive, receipt_reply, act_receive, receive_call, judge_send, sent, act_send, send_call, judge_take, act_take, take_call}
use Rattle.laws.specs.Postings.{Listed}
use Rattle.laws.specs.Verdicts.{OfReceive, OfSend, OfTake}
use Rattle.laws.specs.Writing.{OfSendStore, OfWrite}
use Rattle.laws.proofs.Verdicts.{of_receive, of_send, of_take}
use Rattle.laws.proofs.Writing.{of_write}
use Rattle.demands.specs.Types.{Saved, Posting, Packet, Descriptor, SendStore, ReceiveStore, Mapped, Reach, Writing, Receipt, Receiving, Sending, Taking}
use Rattle.demands.specs.Runs.{clears, writing_act, act}
use Rattle.demands.specs.History.{answer_of}
use Rattle.demands.proofs.Sums.{same, same_other, sum_append}
use Rattle.demands.proofs.Sight.{Quiet, quiet_then}
use Rattle.demands.proofs.Descriptors.{Rules, store_length, mark_length, direct_rules, word_rules, start_rules, sent_rules, mark_rules}
use Rattle.demands.proofs.Numbers.{Numbers, sender_set, counts_set, step_numbers, shown_numbers, number_numbers, aqr_numbers, nbqr_numbers, push_length, TokenFits, token_fits, post_numbers, post_length}
use Rattle.demands.proofs.Steps.{slot_quiet, aqr_quiet}
use Rattle.demands.proofs.Good.{tally, Good}
use Rattle.std.specs.Prelude.{Option, Some, None, Result, Ok, Err}
use Rattle.rules.specs.declared.Refusal.{Refusal}

-- The three other memories keep their lengths, and the saved state, after these answers to receipts, and the descriptors are good.
pub record Left (answered : List ℕ) (m m' : Machine) : Type 0 where
  pub send : length m'.send ≡ length m.send
  pub receive : length m'.receive ≡ length m.receive
  pub bytes : length m'.bytes ≡ length m.bytes
  pub numbers : Numbers (tally 0 answered) (tally 9 answered) m'.saved
  pub rules : Rules m'.send (length m.bytes)

-- All is left but the saved state.
saved_left : {xs ys : List ℕ} (m : Machine) (s : Saved) → Good xs m → Numbers (tally 0 ys) (tally 9 ys) s → Left ys m (with_saved s m)
saved_left m s g f = record { send = refl; receive = refl; bytes = refl; numbers = f; rules = g.rules }

-- A read.
read_left : {xs : List ℕ} (m : Machine) (r : Mapped) (x : Result Reach Refusal) → Good xs m → Left xs m (act_read m r x).machine
unfolding act_read read_done
read_left m r (Err why) g = saved_left m m.saved g g.numbers
read_left m r (Ok (Reach.Itself x)) g = saved_left m _ g (step_numbers r _ (shown_numbers x m.saved m.receive g.numbers))
read_left m r (Ok (Reach.InSend i)) g = saved_left m _ g (step_numbers r m.saved g.numbers)
read_left m r (Ok (Reach.InReceive i)) g = saved_left m _ g (step_numbers r m.saved g.numbers)

-- A store in Send RAM.
send_stored_lem : (w : SendStore) (v : ℕ) (send : List ℕ) (n : ℕ) → length send ≡ 1024 → OfSendStore send n v w → Rules send n
    → (length (send_stored w v send) ≡ length send) × Rules (send_stored w v send) n
unfolding send_stored
send_stored_lem (SendStore.DirectWord i) v send n size h rules = (length-set send i v, direct_rules send i v n h.0 rules)
send_stored_lem (SendStore.Word d k) v send n size h rules =
    (length-set send (descriptor_word d k) v, word_rules send d k v n size h.0 h.1 h.2 h.3 h.4 rules)
send_stored_lem (SendStore.Start d) v send n size h rules =
    (store_length send d (started v (descriptor_at send d)), start_rules send d v n size h.0 h.1 rules)

-- A store in Receive RAM.
receive_stored_lem : (w : ReceiveStore) (v : ℕ) (receive : List ℕ) → length (receive_stored w v receive) ≡ length receive
unfolding receive_stored
receive_stored_lem (ReceiveStore.SlotWord i k) v receive = length-set receive (slot_word i k) v
receive_stored_lem (ReceiveStore.SlotWord2 i) v receive = simp length-set
receive_stored_lem (ReceiveStore.FirstBlock l b) v receive = simp length-set
receive_stored_lem (ReceiveStore.ListToken l) v receive = length-set receive (token_word l) v

-- A write that is no reset.
write_left : {xs : List ℕ} (m : Machine) (r : Mapped) (v : ℕ) (w : Result Writing Refusal) → OfWrite m v w → writing_act w ≢ clears → Good xs m → Left xs m (act_write m r v w).machine
unfolding act_write write_done writing_act
write_left m r v (Err why) h d g = saved_left m m.saved g g.numbers
write_left m r v (Ok Writing.Reset) h d g = absurd (d refl)
write_left m r v (Ok (Writing.Sets n)) h d g = saved_left m _ g (step_numbers r _ (number_numbers n v m.saved h g.numbers))
write_left m r v (Ok (Writing.Gives b)) h d g =
    let c : Board = board m.saved m.receive m.notices 0 in
    record { send = refl; receive = push_length b c; bytes = refl; numbers = step_numbers r _ (nbqr_numbers b c h.room g.numbers); rules = g.rules }
write_left m r v (Ok (Writing.StoresSend w)) h d g =
    let x = send_stored_lem w v m.send (length m.bytes) h.0 h.1 g.rules in
    record { send = x.0; receive = refl; bytes = refl; numbers = step_numbers r m.saved g.numbers; rules = x.1 }
write_left m r v (Ok (Writing.StoresReceive w)) h d g =
    record { send = refl; receive = receive_stored_lem w v m.receive; bytes = refl; numbers = step_numbers r m.saved g.numbers; rules = g.rules }

-- ---- receipts and sends

-- What has room for its token has it after stores that change no token.
token_quiet : (p : Option Posting) {b b' : Board} → Quiet b b' → b'.saved.nqr ≡ b.saved.nqr → Listed p → TokenFits b.saved.nqr b.receive p
    → TokenFits b'.saved.nqr b'.receive p
token_quiet None q e on h = tt
token_quiet (Some o) q e on h = λ t. rw e (h (sym (ap enqueues (q.token o.list (on.low o refl))) ∙ t))

-- An AQR entry, where one is needed and has room.
aqr_left : {t f : ℕ} (p : Packet) (r : Receipt) (b : Board) → (needs_aqr p r ≡ true → b.saved.aqr.length < 256) → Numbers t f b.saved
    → ((aqr_stored p r b).saved.nqr ≡ b.saved.nqr) × Numbers t f (aqr_stored p r b).saved
unfolding aqr_stored push_aqr
aqr_left p (Receipt.Fails why) b room f = (refl, f)
aqr_left p (Receipt.Acks i v) b room f = (refl, f)
aqr_left {t} {f = n} p (Receipt.Lands i v) b room f =
    pick_by (λ (x : Board). (x.saved.nqr ≡ b.saved.nqr) × Numbers t n x.saved) (needs_aqr p (Receipt.Lands i v))
    (λ e. (refl, aqr_numbers (aqr_entry i) b (room e) f)) (λ e. (refl, f))

-- Its count, with the answer.
counted_numbers : (r : Receipt) (xs : List ℕ) (s : Saved) → Numbers (tally 0 xs) (tally 9 xs) s
    → let ys = xs ++ (reply_number (receipt_reply r) ∷ []) in Numbers (tally 0 ys) (tally 9 ys) (counted_by r s)
unfolding counted_by
counted_numbers (Receipt.Fails why) xs s f =
    counts_set s f _ _ (omega (arith, f.taken, sum_append (same 0) xs (9 ∷ []))) (omega (arith, f.faulted, sum_append (same 9) xs (9 ∷ [])))
counted_numbers (Receipt.Acks i v) xs s f =
    counts_set s f _ _ (omega (arith, f.taken, sum_append (same 0) xs (0 ∷ []))) (omega (arith, f.faulted, sum_append (same 9) xs (0 ∷ [])))
counted_numbers (Receipt.Lands i v) xs s f =
    counts_set s f _ _ (omega (arith, f.taken, sum_append (same 0) xs (0 ∷ []))) (omega (arith, f.faulted, sum_append (same 9) xs (0 ∷ [])))

-- The payload keeps the length of data memory.
payload_length_lem : (packet : List ℕ) (p : Packet) (r : Receipt) (bytes : List ℕ) → length (payload_stored packet p r bytes) ≡ length bytes
unfolding payload_stored
payload_length_lem packet p (Receipt.Fails f) bytes = refl
payload_length_lem packet p (Receipt.Acks i v) bytes = refl
payload_length_lem packet p (Receipt.Lands i v) bytes = length-sets bytes _ (payload_of packet)

-- A receipt: the slot, the AQR entry, the posting, the count.
receive_left : (xs : List ℕ) (m : Machine) (packet : List ℕ) (r : Result Receiving Refusal) → OfReceive m packet r → Good xs m
    → Left (xs ++ ((act_receive m packet r).reply ∷ [])) m (act_receive m packet r).machine
unfolding act_receive received received_on_board has_room_for
receive_left xs m packet (Err why) h g =
    let n : ℕ = refusal_number why in
    let f = g.numbers in
    saved_left m m.saved g
    (counts_set m.saved f _ _
    (omega (arith, f.taken, sum_append (same 0) xs (n ∷ []), same_other 0 n (λ e. h.done (sym e))))
    (omega (arith, f.faulted, sum_append (same 9) xs (n ∷ []), same_other 9 n (λ e. h.fault (sym e)))))
receive_left xs m packet (Ok v) h g =
    let p : Packet = v.packet in
    let r : Receipt = v.receipt in
    let post : Option Posting = receipt_posting p r in
    let b : Board = board m.saved m.receive m.notices 0 in
    let b₁ : Board = on_receive (slot_stored p r) b in
    let b₂ : Board = aqr_stored p r b₁ in
    let q : Quiet b b₂ = quiet_then (slot_quiet (length m.bytes) p r b h.says h.sound.ranges.slots) (aqr_quiet p r b₁) in
    let can : Bool = can_post_all m.saved m.receive post in
    let aqr : Bool = not (needs_aqr p r) || has_room m.saved.aqr in
    let room : needs_aqr p r ≡ true → m.saved.aqr.length < 256 =
    λ e. ltb-true m.saved.aqr.length 256 (or_second (not (needs_aqr p r)) (has_room m.saved.aqr) (and_right can aqr h.room) (not_no e)) in
    let a = aqr_left p r b₁ room g.numbers in
    record {
      send = refl;
      receive = post_length post b₂ ∙ q.alike.size;
      bytes = payload_length_lem packet p r m.bytes;
      numbers =
          counted_numbers r xs _
          (post_numbers post b₂
          (token_quiet post q a.0 h.listed (token_fits m.saved m.receive post (and_left can aqr h.room))) a.1);
      rules = g.rules;
    }

-- A send, and one that waits.
send_left : {xs : List ℕ} (m : Machine) (room : List ℕ) (s : Result Sending Refusal) → OfSend m (length room) s → Good xs m → Left xs m (act_send m room s).machine
unfolding act_send sent
send_left m room (Err why) h g = saved_left m m.saved g g.numbers
send_left m room (Ok (Sending.Sends i)) h g =
    let d : Descriptor = descriptor_at m.send i in
    let b : Board = board (with_last_sender i.0 m.saved) m.receive m.notices 0 in
    record {
      send = store_length m.send i (after_packet d);
      receive = post_length (send_posting d) b;
      bytes = refl;
      numbers =
          post_numbers (send_posting d) b (token_fits m.saved m.receive (send_posting d) h.posts)
          (sender_set m.saved g.numbers i.0 h.low);
      rules = sent_rules m.send i (length m.bytes) h.sound.sized.send h.low h.rule g.rules;
    }
send_left m room (Ok (Sending.Waits i)) h g =
    record {
      send = mark_length m.send i;
      receive = refl;
      bytes = refl;
      numbers = g.numbers;
      rules = mark_rules m.send i (length m.bytes) h.sound.sized.send h.low g.rules;
    }

-- ---- takes, and any call

-- A take.
take_left : {xs : List ℕ} (m : Machine) (room : List ℕ) (t : Result Taking Refusal) → OfTake m (length room) t → Good xs m → Left xs m (act_take m room t).machine
unfolding act_take take_block
take_left m room (Err why) h g = saved_left m m.saved g g.numbers
take_left m room (Ok t) h g =
    let r : List ℕ = set m.receive (place_word t.list) t.next.0 in
    let c : Board = board m.saved r (set m.notices (next_word t.block) 0) 0 in
    record {
      send = refl;
      receive = push_length t.block c ∙ length-set m.receive (place_word t.list) t.next.0;
      bytes = refl;
      numbers = nbqr_numbers t.block c h.queue g.numbers;
      rules = g.rules;
    }

-- Any call that is no reset.
pub call_left : (xs : List ℕ) (c : Call) (m : Machine) → act c m ≢ clears → Good xs m → Left (xs ++ answer_of c m) m (perform c m).machine
unfolding act perform answer_of read_call write_call receive_call send_call take_call unknown_call
call_left xs (writes a v) m d g =
    rw append-nil (write_left m (decode a) v (judge_write m a v) (of_write m a v) d g)
call_left xs (reads a) m d g = rw append-nil (read_left m (decode a) (judge_read m (decode a)) g)
call_left xs (receives packet) m d g = receive_left xs m packet (judge_receive m packet) (of_receive m packet) g
call_left xs (sends ready room) m d g =
    rw append-nil (send_left m room (judge_send m ready (length room)) (of_send m ready (length room)) g)
call_left xs (takes l room) m d g = rw append-nil (take_left m room (judge_take m l (length room)) (of_take m l (length room)) g)
call_left xs unknown m d g = rw append-nil (saved_left m m.saved g g.numbers)
