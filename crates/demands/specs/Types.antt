-- The declared types of `rules`, passed on under one name. Assumes nothing.
pub use Rattle.rules.specs.declared.Queue.{Queue}
pub use Rattle.rules.specs.declared.Saved.{Saved}
pub use Rattle.rules.specs.declared.SlotIndex.{SlotIndex}
pub use Rattle.rules.specs.declared.ListIndex.{ListIndex}
pub use Rattle.rules.specs.declared.BlockAddress.{BlockAddress}
pub use Rattle.rules.specs.declared.DescriptorIndex.{DescriptorIndex}
pub use Rattle.rules.specs.declared.Metadata.{Metadata}
pub use Rattle.rules.specs.declared.Descriptor.{Descriptor}
pub use Rattle.rules.specs.declared.Slot.{Slot}
pub use Rattle.rules.specs.declared.Header.{Header}
pub use Rattle.rules.specs.declared.Packet.{Packet}
pub use Rattle.rules.specs.declared.Notice.{Notice}
pub use Rattle.rules.specs.declared.Posting.{Posting}
pub use Rattle.rules.specs.declared.Refusal.{Refusal}
pub use Rattle.rules.specs.declared.Register.{Register}
pub use Rattle.rules.specs.declared.Mapped.{Mapped}
pub use Rattle.rules.specs.declared.Reach.{Reach}
pub use Rattle.rules.specs.declared.ReceivePart.{ReceivePart}
pub use Rattle.rules.specs.declared.Number.{Number}
pub use Rattle.rules.specs.declared.SendStore.{SendStore}
pub use Rattle.rules.specs.declared.ReceiveStore.{ReceiveStore}
pub use Rattle.rules.specs.declared.Writing.{Writing}
pub use Rattle.rules.specs.declared.Receipt.{Receipt}
pub use Rattle.rules.specs.declared.Receiving.{Receiving}
pub use Rattle.rules.specs.declared.Sending.{Sending}
pub use Rattle.rules.specs.declared.Taking.{Taking}
pub use Rattle.rules.specs.declared.Refusal.TheVariants.{Sizes, Unsound, NoRegister, BadValue, Fabric}
