-- What `packet::form::put_metadata` leaves open. Assumes nothing.
use Rattle.std.proofs.Common.{rules}
use Rattle.packet.proofs.Forming.{with_metadata, without_metadata}
use Rattle.packet.proofs.form.put_metadata.Goals as goal

pub returns-then-meta_flag-clause-stored : goal.returns-then-meta_flag-clause-stored
returns-then-meta_flag-clause-stored c = with_metadata c.args.header c.args.metadata _ _ (search rules) c.copy_words.ensures

pub returns-else-meta_flag-clause-stored : goal.returns-else-meta_flag-clause-stored
returns-else-meta_flag-clause-stored c = without_metadata c.args.header c.args.metadata _ (search rules)
