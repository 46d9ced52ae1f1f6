-- Replies 13 and 14: which memories have their sizes, and which machines are sound. Assumes nothing.
use Rattle.ground.specs.Choice.{all_below}
use Rattle.std.specs.Prelude.{ℕ, Bool, not, ◌&&◌, ◌||◌, List, ltb, leb, length, get_or}
use Rattle.rules.specs.Types.{Queue, Saved, Descriptor}
use Rattle.rules.specs.Memory.{Machine, send_size, receive_size, sizes_ok, descriptors, descriptor, slots_most, lists, list, queue_size, nbqr_from, is_block, is_block_or_none}
use Rattle.rules.specs.Saved.{resets, pcsr0_ok}
use Rattle.rules.specs.Queues.{entry_word}
use Rattle.rules.specs.Notices.{head_of, place_of}
use Rattle.rules.specs.Sending.{descriptor_at, is_active, go_rule}
use Rattle.rules.specs.Registers.{pointer_ok}

-- sizes: "a memory has another size" is that this fails.
abbrev pub is_sized : Machine → Bool
is_sized m = sizes_ok (length m.send) (length m.receive) (length m.bytes) (length m.notices)

-- ---- unsound, part by part

-- "a register field beyond its range, a pointer not a multiple of 4, the reset or a reserved PCSR0 bit set, .. last sender beyond 3".
unfoldable pub registers_ok : Saved → Bool
registers_ok s =
    not (resets s.pcsr0)
    && pcsr0_ok s.pcsr0
    && leb s.inthi 1
    && leb s.intlo 1
    && leb s.slots slots_most
    && pointer_ok send_size s.sendpointer
    && pointer_ok receive_size s.receivepointer
    && ltb s.lastsender descriptors

-- "queue place beyond 255 or length beyond 256".
abbrev pub queue_ok : Queue → Bool
queue_ok q = ltb q.place queue_size && leb q.length queue_size

-- All three.
unfoldable pub queues_ok : Saved → Bool
queues_ok s = queue_ok s.nqr && queue_ok s.aqr && queue_ok s.nbqr

-- "a head .. that is no block address (heads .. may be 0)", in a notice memory of n words.
unfoldable pub heads_ok : List ℕ → ℕ → Bool
heads_ok receive n = all_below lists (λ l. is_block_or_none n (head_of receive (list l)))

-- "reader's place .. (.. places may be 0)".
unfoldable pub places_ok : List ℕ → ℕ → Bool
places_ok receive n = all_below lists (λ l. is_block_or_none n (place_of receive (list l)))

-- "or waiting block that is no block address".
unfoldable pub waiting_ok : List ℕ → Queue → ℕ → Bool
waiting_ok receive q n = all_below q.length (λ k. is_block n (get_or receive (entry_word nbqr_from q k) 0))

-- "an active descriptor failing the go rule for bytes_to_go".
unfoldable pub descriptor_ok : ℕ → Descriptor → Bool
descriptor_ok data_length d = not (is_active d) || go_rule d d.control1 d.bytestogo data_length

-- All four.
unfoldable pub descriptors_ok : List ℕ → ℕ → Bool
descriptors_ok send data_length = all_below descriptors (λ d. descriptor_ok data_length (descriptor_at send (descriptor d)))

-- All of it; data memory and notice memory are told by their lengths.
unfoldable pub sound_ok : Saved → List ℕ → List ℕ → ℕ → ℕ → Bool
sound_ok s send receive data_length n =
    registers_ok s
    && queues_ok s
    && heads_ok receive n
    && places_ok receive n
    && waiting_ok receive s.nbqr n
    && descriptors_ok send data_length

-- unsound is that this fails.
abbrev pub is_sound : Machine → Bool
is_sound m = sound_ok m.saved m.send m.receive (length m.bytes) (length m.notices)
