-- "The station program": records of 192 bytes to calls, and a line of text for each. Assumes nothing.
use Rattle.ground.specs.Bytes.{word_at}
use Rattle.ground.specs.Choice.{pick}
use Rattle.ground.specs.Lists.{part}
use Rattle.ground.specs.Text.{ascii, hexadecimal, decimal}
use Rattle.std.specs.Prelude.{ℕ, zero, suc, List, [], ◌∷◌, ◌++◌, eqb, leb, length, get_or, take, drop, replicate}
use Rattle.rules.specs.Memory.{Machine, machine, send_size, receive_size, data_most, notices_most, block_size}
use Rattle.rules.specs.Saved.{reset_saved}
use Rattle.rules.specs.Registers.{pcsr0_number}
use Rattle.rules.specs.Packet.{packet_most}
use Rattle.rules.specs.Replies.{Outcome, reply_words}
use Rattle.rules.specs.Calls.{Call, writes, reads, receives, sends, takes, unknown, perform}

-- ---- records: "kind, 3 zero bytes, two numbers of 4 bytes, length of 4, 168 bytes of packet, 8 zero"; "The zero bytes are not checked."

-- "records of 192 bytes".
abbrev pub record_size : ℕ
record_size = 192

-- The kind, byte 0. "A torn last record is kind 0, length ignored."
unfoldable pub kind_of : List ℕ → ℕ
kind_of r = pick (eqb (length r) record_size) (get_or r 0 0) 0

-- The first number, at byte 4.
abbrev pub first_number : List ℕ → ℕ
first_number r = word_at r 4

-- The second number, at byte 8.
abbrev pub second_number : List ℕ → ℕ
second_number r = word_at r 8

-- "length; above 168 is no-packet": of no bytes there is no packet.
unfoldable pub record_packet : List ℕ → List ℕ
record_packet r = pick (leb (word_at r 12) packet_most) (part 16 (word_at r 12) r) []

-- The packet room that the station lends to a send.
abbrev pub packet_room : List ℕ
packet_room = replicate packet_most 0

-- The notice room that it lends to a take.
abbrev pub notice_room : List ℕ
notice_room = replicate block_size 0

-- "Kinds: 1 write (register, value), 2 read, 3 receive (..), 4 send (first number 1: fabric ready), 5 take."
unfoldable pub call_of : List ℕ → Call
call_of r =
    pick (eqb (kind_of r) 1) (writes (first_number r) (second_number r))
    (pick (eqb (kind_of r) 2) (reads (first_number r))
    (pick (eqb (kind_of r) 3) (receives (record_packet r))
    (pick (eqb (kind_of r) 4) (sends (eqb (first_number r) 1) packet_room)
    (pick (eqb (kind_of r) 5) (takes (first_number r) notice_room)
    unknown))))

-- ---- lines

-- "Each line: kind, word, value as 8 lowercase hex digits, interrupts"; "Kind and interrupts print in decimal", of a byte three digits at most.
unfoldable pub line_of : ℕ → ℕ → ℕ → ℕ → List ℕ
line_of kind reply value interrupts =
    decimal 3 kind ++ ascii " " ++ get_or reply_words reply [] ++ ascii " " ++ hexadecimal 8 value ++ ascii " " ++ decimal 3 interrupts ++ ascii "\n"

-- ---- the program

-- "Memories are the largest, zero". Of the saved state the reset leaves nothing.
unfoldable pub zero_machine : Machine
zero_machine = machine (reset_saved 0) (replicate send_size 0) (replicate receive_size 0) (replicate data_most 0) (replicate notices_most 0)

-- "then reset by writing 0x80000000 to PCSR0".
unfoldable pub first_machine : Machine
first_machine = (perform (writes pcsr0_number 0x80000000) zero_machine).machine

-- The line of a record.
unfoldable pub record_line : List ℕ → Outcome → List ℕ
record_line r o = line_of (kind_of r) o.reply o.value o.interrupts

-- The lines of an input of at most n records, from a machine on; the last record may be torn.
unfoldable pub lines_from : ℕ → Machine → List ℕ → List ℕ
lines_from zero m input = []
lines_from (suc n) m [] = []
lines_from (suc n) m (x ∷ xs) =
    let r = take record_size (x ∷ xs) in
    let o = perform (call_of r) m in
    record_line r o ++ lines_from n o.machine (drop record_size (x ∷ xs))

-- What the station program writes for its standard input.
unfoldable pub station : List ℕ → List ℕ
station input = lines_from (length input) first_machine input
