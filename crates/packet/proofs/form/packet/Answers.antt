-- What `packet::form::packet` leaves open. Assumes nothing.
use Rattle.packet.proofs.Forming.{formed}
use Rattle.packet.proofs.form.packet.Goals as goal

pub returns : goal.returns
returns g c =
    formed c.args.header c.args.metadata _ _ _ _ _ _ _ _ c.requires c.put_front-from.ensures.upper_bound c.put_front-from.ensures.stored
    c.put-end.ensures c.put_body_check.ensures
