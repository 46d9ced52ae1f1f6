-- What `posting::enqueue_token` needs beside the check's own search. Assumes nothing.
use Rattle.notices.proofs.Steps.{enqueued, passed}
use Rattle.notices.proofs.posting.enqueue_token.Goals as goal

pub returns-then-enqueue : goal.returns-then-enqueue
returns-then-enqueue c = search enqueued

pub returns-else-enqueue : goal.returns-else-enqueue
returns-else-enqueue c = search passed
