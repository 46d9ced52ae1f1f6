-- `demands::packet_counts` meets its contract: a machine after a run has the counts of its answers to receipts. Assumes nothing.
use Rattle.demands.proofs.Since.{good_since}
use Rattle.demands.proofs.packet_counts.Statement.{statement}
use Rattle.demands.proofs.packet_counts.Tie as tie

returns : tie.Need-returns
returns c = record { taken = λ v m r h. (good_since v m r h).numbers.taken; faulted = λ v m r h. (good_since v m r h).numbers.faulted }

pub packet_counts_spec : {M : Type 1} → statement M
packet_counts_spec = tie.close (tie.spec returns)
