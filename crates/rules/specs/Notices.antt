-- "Notices and interrupts": what a notice says, when it can be posted, the one posting, and the take. Assumes nothing.
use Rattle.ground.specs.Choice.{pick}
use Rattle.ground.specs.Field.{field, flag, bit}
use Rattle.std.specs.Prelude.{ℕ, Option, Some, None, ◌+◌, ◌*◌, ◌^◌, Bool, true, not, ◌&&◌, ◌||◌, List, ◌∷◌, eqb, get_or, set}
use Rattle.std.proofs.lemmas.List.Edits.{sets}
use Rattle.rules.specs.Types.{Queue, Saved, SlotIndex, ListIndex, BlockAddress, Metadata, Notice, Posting}
use Rattle.rules.specs.Words.{slot_and_source}
use Rattle.rules.specs.Memory.{list, block, head_word, token_word, place_word, nqr_from, aqr_from, nbqr_from, no_metadata, metadata_words, block_first, next_word}
use Rattle.rules.specs.Saved.{with_nqr_and_lo, with_aqr_and_hi, with_nbqr}
use Rattle.rules.specs.Board.{Board, board, on_saved, on_receive}
use Rattle.rules.specs.Queues.{is_empty, has_room, pushed, pushed_word, oldest, removed}

-- ---- what a notice says

-- "Message: word 0 slot 16, src_node 12, zero 4; word 1 zero 2, ack 1, zero 1, incarnation 4, offset 24; word 2 as packet word 3;
-- next; four metadata words or zeros."
abbrev pub message : SlotIndex → ℕ → Bool → ℕ → ℕ → ℕ → Metadata → Notice
message i source ack incarnation offset word2 metadata =
    record { word0 = slot_and_source i.0 source; word1 = bit ack * 2 ^ 29 + incarnation * 2 ^ 24 + offset; word2 = word2; metadata = metadata }

-- "Fault, on list 0: slot 16, status 16; 0; dst_node 16, src_node 16; next; zeros."
abbrev pub fault : ℕ → ℕ → ℕ → ℕ → Notice
fault slot status node source =
    record { word0 = slot * 2 ^ 16 + status; word1 = 0; word2 = node * 2 ^ 16 + source; metadata = no_metadata }

-- "Fault, on list 0".
abbrev pub fault_list : ListIndex
fault_list = list 0

-- "a zero notice".
abbrev pub zero_notice : Notice
zero_notice = record { word0 = 0; word1 = 0; word2 = 0; metadata = no_metadata }

-- The eight words of a block that holds a notice and a next.
abbrev pub block_words : Notice → ℕ → List ℕ
block_words n next = n.word0 ∷ n.word1 ∷ n.word2 ∷ next ∷ metadata_words n.metadata

-- ---- lists

-- A list's head: the address of the block that the next notice fills, or 0.
abbrev pub head_of : List ℕ → ListIndex → ℕ
head_of receive l = get_or receive (head_word l) 0

-- A list's token word: token 31 (31-1), enqueue 1 (0).
abbrev pub token_of : List ℕ → ListIndex → ℕ
token_of receive l = get_or receive (token_word l) 0

-- "enqueue".
abbrev pub enqueues : ℕ → Bool
enqueues w = flag 0 w

-- "the token (31 bits)".
abbrev pub token : ℕ → ℕ
token w = field 1 31 w

-- A list's reader's place: the address of the block that is taken next, or 0.
abbrev pub place_of : List ℕ → ListIndex → ℕ
place_of receive l = get_or receive (place_word l) 0

-- ---- queues, with their interrupts: "Interrupts, summed"

-- "went from empty to non-empty with int_hi off": a push on this queue, with its bit so, interrupts.
abbrev pub interrupting : Queue → ℕ → Bool
interrupting q on = is_empty q && eqb on 0

-- "(sets it)".
unfoldable pub bit_after : Queue → ℕ → ℕ
bit_after q on = pick (interrupting q on) 1 on

-- The interrupt's number, or none.
unfoldable pub interrupt_of : ℕ → Queue → ℕ → ℕ
interrupt_of number q on = pick (interrupting q on) number 0

-- A word on a queue that interrupts: its entries stand from `from` on, its interrupt has this number; `store` saves it with its bit.
abbrev pub push_interrupting : ℕ → ℕ → (Queue → ℕ → Saved → Saved) → Queue → ℕ → ℕ → Board → Board
push_interrupting from number store q on w b =
    board
    (store (pushed q) (bit_after q on) b.saved)
    (pushed_word from q w b.receive)
    b.notices
    (b.interrupts + interrupt_of number q on)

-- "1, AQR went from empty to non-empty with int_hi off (sets it)": a word on AQR.
unfoldable pub push_aqr : ℕ → Board → Board
push_aqr w b = push_interrupting aqr_from 1 with_aqr_and_hi b.saved.aqr b.saved.inthi w b

-- "2, NQR likewise with int_lo": a word on NQR.
unfoldable pub push_nqr : ℕ → Board → Board
push_nqr w b = push_interrupting nqr_from 2 with_nqr_and_lo b.saved.nqr b.saved.intlo w b

-- A block on NBQR.
unfoldable pub push_nbqr : BlockAddress → Board → Board
push_nbqr a b =
    let q = b.saved.nbqr in
    on_saved (with_nbqr (pushed q)) (on_receive (pushed_word nbqr_from q a.0) b)

-- ---- posting

-- "It needs a set head, NBQR not empty, and NQR not full when enqueuing."
unfoldable pub can_post : Saved → List ℕ → ListIndex → Bool
can_post s receive l =
    not (eqb (head_of receive l) 0) && not (is_empty s.nbqr) && (not (enqueues (token_of receive l)) || has_room s.nqr)

-- "4, NBQR became empty by posting", of the queue after its removal.
unfoldable pub empty_interrupt : Queue → ℕ
empty_interrupt q = pick (is_empty q) 4 0

-- "Posting fills the head block, takes the oldest NBQR block as next and as new head".
unfoldable pub fill_head : ListIndex → Notice → Board → Board
fill_head l n b =
    let q = b.saved.nbqr in
    let next = oldest nbqr_from q b.receive in
    board
    (with_nbqr (removed q) b.saved)
    (set b.receive (head_word l) next)
    (sets b.notices (block_first (block (head_of b.receive l))) (block_words n next))
    (b.interrupts + empty_interrupt (removed q))

-- "and with enqueue pushes the token (31 bits) on NQR".
unfoldable pub enqueue_token : ℕ → Board → Board
enqueue_token w b = pick (enqueues w) (push_nqr (token w) b) b

-- A posting: the one definition behind message, ack, fault and the end of a send.
unfoldable pub post : ListIndex → Notice → Board → Board
post l n b = enqueue_token (token_of b.receive l) (fill_head l n b)

-- A notice to post on a list.
abbrev pub posting : ListIndex → Notice → Posting
posting l n = record { list = l; notice = n }

-- A call has it to post.
abbrev pub posts_on : ListIndex → Notice → Option Posting
posts_on l n = Some (posting l n)

-- What a call has to post can be posted.
unfoldable pub can_post_all : Saved → List ℕ → Option Posting → Bool
can_post_all s receive None = true
can_post_all s receive (Some p) = can_post s receive p.list

-- What a call has to post is posted.
unfoldable pub post_all : Option Posting → Board → Board
post_all None b = b
post_all (Some p) b = post p.list p.notice b

-- ---- the take

-- "zeroes its next, moves the reader's place to that next, returns the block to NBQR".
unfoldable pub take_block : ListIndex → BlockAddress → BlockAddress → Board → Board
take_block l a next b =
    push_nbqr a (board b.saved (set b.receive (place_word l) next.0) (set b.notices (next_word a) 0) b.interrupts)
