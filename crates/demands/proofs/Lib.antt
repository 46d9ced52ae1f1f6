-- The laws behind the demands, by what they serve. Assumes nothing.
-- ---- a call: what its verdict says, and how it answers
pub mod Access
pub mod Reset
pub mod Answers
-- ---- packets
pub mod Packets
pub mod Formed
pub mod Packed
pub mod AnyFields
pub mod Taken
-- ---- blocks: the view of a machine, and what each call makes of it
pub mod Sums
pub mod Pigeons
pub mod Blocks
pub mod Chain
pub mod View
pub mod Ring
pub mod Sight
pub mod Boards
pub mod Steps
pub mod Invariant
pub mod Moments
-- ---- soundness and the packet counts
pub mod Descriptors
pub mod Sane
pub mod Numbers
pub mod Good
pub mod Left
pub mod Since
