-- What `packet::form::put_front` leaves open. Assumes nothing.
use Rattle.packet.proofs.Forming.{front}
use Rattle.packet.proofs.form.put_front.Goals as goal

pub returns-clause-stored : goal.returns-clause-stored
returns-clause-stored c =
    front c.args.header c.args.metadata _ _ _ _ _ _ _ c.requires c.put_metadata-from.ensures.upper_bound c.copy_words.ensures
    c.put_metadata-from.ensures.stored c.header_check-check.ensures c.check_word.ensures c.put.ensures
