-- Document 01 as definitions: its headings in its order, and the files that serve each. Assumes nothing.

-- The types of src/lib.rt by name, and what a call leaves of a machine.
pub mod Types
pub mod Board
-- "Memories and numbers"
pub mod Words
pub mod Memory
-- "Registers": the saved state with PCSR0, the queues, the map with reads and PCSR1, writes with the reset
pub mod Saved
pub mod Queues
pub mod Registers
pub mod Writes
-- "Sending"
pub mod Sending
-- "Packet"
pub mod Packet
pub mod Checksum
-- "Receipt, first failure decides"
pub mod Slots
pub mod Receipt
-- "Notices and interrupts"
pub mod Notices
-- "Replies": numbers, words and values; sizes and unsound; the order of refusals in each call
pub mod Replies
pub mod Sound
pub mod Calls
-- "The station program"
pub mod Station
-- All of these opened at once, for what is proved by computing.
pub mod Opened
