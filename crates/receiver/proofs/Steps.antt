-- The steps of acting on a receipt, put together. Assumes nothing.
use Rattle.std.proofs.Common.{◌≡◌, ℕ, ◌+◌, ◌<◌, Bool, true, false, ◌⊎◌, List, [], length, sym, refl, ap, ◌∙◌, add-zero, zero-add, arith}
use denote.Enum.Declared.{tag_of}
use lib.Seq.{sets, length-sets}
use Rattle.ground.proofs.Choice.{pick_yes, pick_no}
use Rattle.rules.specs.declared.Answer.{Answer}
use Rattle.rules.specs.declared.Fault.{Fault}
use Rattle.rules.specs.declared.Packet.{Packet}
use Rattle.rules.specs.declared.Posting.{Posting}
use Rattle.rules.specs.declared.Receipt.{Receipt}
use Rattle.rules.specs.declared.Receiving.{Receiving}
use Rattle.rules.specs.declared.Refusal.{Refusal}
use Rattle.rules.specs.declared.Reply.{Reply}
use Rattle.rules.specs.declared.Saved.{Saved}
use Rattle.rules.specs.declared.Slot.{Slot}
use Rattle.rules.specs.declared.SlotIndex.{SlotIndex}
use Rattle.rules.specs.contracts.Receipt.{the_type}
use Rattle.rules.specs.Words.{offset}
use Rattle.rules.specs.Memory.{slots_most, slot_first}
use Rattle.rules.specs.Packet.{payload_of}
use Rattle.rules.specs.Saved.{with_counts, counted}
use Rattle.rules.specs.Slots.{slot_words, store_slot}
use Rattle.rules.specs.Board.{Board, board, on_saved}
use Rattle.rules.specs.Notices.{post_all, push_aqr}
use Rattle.rules.specs.Receipt.{slot_after, receipt_posting, needs_aqr}
use Rattle.rules.specs.Receipt.{aqr_entry, slot_stored, payload_stored, aqr_stored, counted_by, received_on_board, received}
use Rattle.rules.specs.Calls.{receipt_reply, act_receive}
use Rattle.packet.specs.Packet.{Landing}
use Rattle.replies.specs.Refusing.{Refuses}
use Rattle.notices.specs.declared.Step.{Step}
use Rattle.notices.specs.Steps.{Pushable, Does, Posts, PostableAll}
use Rattle.notices.proofs.Facts.{postable_slot, postable_aqr}
use Rattle.receiver.specs.Acting.{NoData, lands_at, Landable, Enterable, Boardable, Keeps, landed_on_board, Precedes, Receivable, Receives}
use Rattle.receiver.proofs.Meetings.{unless_lands, unless_fails}
use Rattle.std.specs.Prelude.{Option, Result, Ok, Err}

-- ---- data memory

-- The payload where data lands.
pub payload_stored_lem : (packet bytes bytes₂ : List ℕ) (p : Packet) (r : Receipt) (i : SlotIndex) (v : Slot) → r ≡ Receipt.Lands i v
    → bytes₂ ≡ sets bytes (v.base + offset p.header.control0) (payload_of packet) → bytes₂ ≡ payload_stored packet p r bytes
unfolding payload_stored
payload_stored_lem packet bytes bytes₂ p r i v e stored = rw e stored

-- It fits.
pub payload_fits : (bytes packet : List ℕ) (x : Receiving) (i : SlotIndex) (v : Slot) → Landable bytes packet x → x.receipt ≡ Receipt.Lands i v
    → Landing packet (v.base + offset x.packet.header.control0) bytes
payload_fits bytes packet x i v l e = l.landing i v e

-- ---- the slot stored

-- Where data lands.
pub slot_stored_lem : (receive receive₂ : List ℕ) (x : Receiving) (p : Packet) (i : SlotIndex) (v w : Slot) → x ≡ lands_at p i v
    → w ≡ slot_after p v → receive₂ ≡ store_slot receive i w → receive₂ ≡ slot_stored x.packet x.receipt receive
unfolding slot_stored
slot_stored_lem receive receive₂ x p i v w e left stored = rw e (stored ∙ ap (store_slot receive i) left)

-- Else.
pub slot_kept : (receive : List ℕ) (x : Receiving) → NoData x.receipt → receive ≡ slot_stored x.packet x.receipt receive
unfolding slot_stored
slot_kept receive x = unless_lands (λ r. receive ≡ slot_stored x.packet r receive) (λ f. refl) (λ i v. refl) x.receipt

-- Receive RAM has its size.
slot_length : (receive : List ℕ) (p : Packet) (r : Receipt) → length (slot_stored p r receive) ≡ length receive
unfolding slot_stored store_slot
slot_length receive p (Receipt.Fails f) = refl
slot_length receive p (Receipt.Acks i v) = refl
slot_length receive p (Receipt.Lands i v) = length-sets receive (slot_first i) (slot_words (slot_after p v))

-- What could be posted still can.
slot_keeps : (s : Saved) (receive : List ℕ) (p : Packet) (r : Receipt) → ((i : SlotIndex) (v : Slot) → r ≡ Receipt.Lands i v → i.0 < slots_most)
    → Keeps s receive s (slot_stored p r receive)
unfolding slot_stored store_slot
slot_keeps s receive p (Receipt.Fails f) low = record { postable = λ n l h. h }
slot_keeps s receive p (Receipt.Acks i v) low = record { postable = λ n l h. h }
slot_keeps s receive p (Receipt.Lands i v) low =
    record { postable = λ n l. postable_slot s receive n (slot_first i) (slot_words (slot_after p v)) l (omega (arith, low i v refl)) }

-- ---- the entry on AQR

module _ (x : Receiving) (s : Saved) (receive : List ℕ) where
  -- It is pushed where it is needed.
  pub entry_asks : (needed : Bool) → Enterable x s receive → needed ≡ needs_aqr x.packet x.receipt → needed ≡ true → Pushable s.aqr receive
  entry_asks needed a t test = a.aqr (sym t ∙ test)

  pub entered : (p : Packet) (i : SlotIndex) (v : Slot) (needed : Bool) (step : Step) (receive₂ : List ℕ) → x ≡ lands_at p i v
      → needed ≡ needs_aqr x.packet x.receipt → needed ≡ true → Does (push_aqr (aqr_entry i)) 1 s receive step receive₂
      → Precedes (aqr_stored x.packet x.receipt) s receive step receive₂
  unfolding aqr_stored
  entered p i v needed step receive₂ e t test d =
      let yes : needs_aqr p (Receipt.Lands i v) ≡ true = sym (ap (λ (y : Receiving). needs_aqr y.packet y.receipt) e) ∙ sym t ∙ test in
      record {
        board = rw e (record { whole = λ notices sum. d.whole notices sum ∙ sym (pick_yes _ _ yes); small = d.small });
        kept = record { postable = λ n l. postable_aqr (aqr_entry i) s receive receive₂ step n l d };
      }

  -- A receipt that pushes none leaves all as it was.
  none_entered : ((b : Board) → b ≡ aqr_stored x.packet x.receipt b)
      → Precedes (aqr_stored x.packet x.receipt) s receive (record { saved = s; interrupts = 0 }) receive
  none_entered same =
      record {
        board = record { whole = λ notices sum. rw (add-zero sum) (same _); small = omega arith };
        kept = record { postable = λ n l h. h };
      }

  -- Data that needs none.
  pub not_entered : (p : Packet) (i : SlotIndex) (v : Slot) (needed : Bool) → x ≡ lands_at p i v → needed ≡ needs_aqr x.packet x.receipt
      → needed ≡ false → Precedes (aqr_stored x.packet x.receipt) s receive (record { saved = s; interrupts = 0 }) receive
  unfolding aqr_stored
  not_entered p i v needed e t test =
      let no : needs_aqr p (Receipt.Lands i v) ≡ false = sym (ap (λ (y : Receiving). needs_aqr y.packet y.receipt) e) ∙ sym t ∙ test in
      none_entered (λ b. rw e (sym (pick_no _ _ no)))

  -- An ack or a fault.
  pub never_entered : NoData x.receipt → Precedes (aqr_stored x.packet x.receipt) s receive (record { saved = s; interrupts = 0 }) receive
  unfolding aqr_stored
  never_entered t = none_entered (λ b. unless_lands (λ r. b ≡ aqr_stored x.packet r b) (λ f. refl) (λ i v. refl) x.receipt t)

-- ---- the slot and the entry

module _ (x : Receiving) (s : Saved) (receive receive₂ : List ℕ) (a : Enterable x s receive) (stored : receive₂ ≡ slot_stored x.packet x.receipt receive) where
  pub land_asks : Enterable x s receive₂
  land_asks =
      let size : length receive₂ ≡ length receive = ap length stored ∙ slot_length receive x.packet x.receipt in
      record {
        storable = record { known = a.storable.known; size = size ∙ a.storable.size };
        aqr = λ e. let q = a.aqr e in record { size = size ∙ q.size; place = q.place; room = q.room };
      }

  pub lands : (step : Step) (receive₃ : List ℕ) → Precedes (aqr_stored x.packet x.receipt) s receive₂ step receive₃
      → Precedes (landed_on_board x) s receive step receive₃
  lands step receive₃ e =
      let low : (i : SlotIndex) (v : Slot) → x.receipt ≡ Receipt.Lands i v → i.0 < slots_most = λ i v is. (a.storable.known.lands i v is).low in
      record {
        board = record {
          whole = λ notices sum. e.board.whole notices sum ∙ ap (λ (ws : List ℕ). aqr_stored x.packet x.receipt (board s ws notices sum)) stored;
          small = e.board.small;
        };
        kept = record {
          postable = λ n l h. e.kept.postable n l (rw stored ((slot_keeps s receive x.packet x.receipt low).postable n l h));
        };
      }

-- ---- the counts

-- A fault's.
pub counts_fault : (r : Receipt) (s : Saved) (f : Fault) (n : ℕ) → r ≡ Receipt.Fails f → n ≡ counted s.faulted
    → with_counts s.taken n s ≡ counted_by r s
unfolding counted_by
counts_fault r s f n e more = rw (e, more)

-- Every other's.
pub counts_taken : (r : Receipt) (s : Saved) (n : ℕ) → (tag_of the_type r ≡ 1) ⊎ (tag_of the_type r ≡ 2) → n ≡ counted s.taken
    → with_counts n s.faulted s ≡ counted_by r s
unfolding counted_by
counts_taken r s n t more = unless_fails (λ r. with_counts n s.faulted s ≡ counted_by r s) (λ i v. rw more) (λ i v. rw more) r t

-- ---- the board

module _ (x : Receiving) (s : Saved) (receive receive₂ : List ℕ) (step : Step) (posting : Option Posting)
    (made : posting ≡ receipt_posting x.packet x.receipt) (l : Precedes (landed_on_board x) s receive step receive₂) where
  pub post_asks : (n : ℕ) → Boardable x s receive n → PostableAll step.saved receive₂ n posting
  post_asks n a = record { on = λ q e. l.kept.postable _ q.list (a.posting.on q (sym made ∙ e)) }

  pub on_board_lem : (notices notices₂ receive₃ : List ℕ) (step₂ : Step) (s₃ : Saved)
      → Posts (post_all posting) 6 step.saved receive₂ notices step₂ receive₃ notices₂ → s₃ ≡ counted_by x.receipt step₂.saved
      → Posts (received_on_board x.packet x.receipt) 7 s receive notices (record { saved = s₃; interrupts = step.interrupts + step₂.interrupts }) receive₃ notices₂
  unfolding received_on_board
  on_board_lem notices notices₂ receive₃ step₂ s₃ d counts =
      record {
        whole =
            λ sum.
            let z : sum + (step.interrupts + step₂.interrupts) ≡ sum + step.interrupts + step₂.interrupts = omega arith in
            rw (z, counts)
            (ap (on_saved (counted_by x.receipt)) (d.whole (sum + step.interrupts) ∙ rw (l.board.whole notices sum, made)));
        small = omega (arith, l.board.small, d.small);
      }

-- ---- the receipt

-- What acting asks of what was judged.
module _ {s : Saved} {receive bytes : List ℕ} {n : ℕ} {packet : List ℕ} {v : Result Receiving Refusal} (a : Receivable v s receive bytes n packet) {x : Receiving} where
  pub payload_asks : v ≡ Ok x → Landable bytes packet x
  payload_asks e = a.landable x e

  pub board_asks : v ≡ Ok x → Boardable x s receive n
  board_asks e = a.boardable x e

-- By what was judged.
module _ (v : Result Receiving Refusal) (s : Saved) (receive bytes notices packet : List ℕ) where
  -- A refusal changes nothing.
  pub receives_no : (why : Refusal) (a : Answer) → v ≡ Err why → Refuses s why a → Receives v s receive bytes notices packet a receive bytes notices
  unfolding act_receive
  receives_no why a e told = record { whole = λ send. rw e (told.whole send receive bytes notices []) }

  -- The payload in data memory, the rest on the board, the reply.
  pub receives : (x : Receiving) (step : Step) (receive₂ bytes₂ notices₂ : List ℕ) (reply : Reply) → v ≡ Ok x
      → bytes₂ ≡ payload_stored packet x.packet x.receipt bytes
      → Posts (received_on_board x.packet x.receipt) 7 s receive notices step receive₂ notices₂ → reply ≡ receipt_reply x.receipt
      → Receives v s receive bytes notices packet (record { reply = reply; interrupts = step.interrupts; saved = step.saved }) receive₂ bytes₂ notices₂
  unfolding act_receive received
  receives x step receive₂ bytes₂ notices₂ reply is landed d told =
      record { whole = λ send. rw (is, told, landed, ← d.whole 0, zero-add step.interrupts) }
