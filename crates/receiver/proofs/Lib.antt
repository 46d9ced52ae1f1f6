-- Laws of receipts. Assumes nothing.
pub mod BytesToGo
pub mod Receipts
pub mod Asked
pub mod Rooms
pub mod Meetings
pub mod Steps
