-- What `posting::post` needs beside the check's own search. Assumes nothing.
use Rattle.notices.proofs.Steps.{enqueue_asks, posted}
use Rattle.notices.proofs.posting.post.Goals as goal

pub enqueue_token-told-requires : goal.enqueue_token-told-requires
enqueue_token-told-requires c = enqueue_asks _ _ c.token_word.ensures c.fill_head-filled.ensures c.requires

pub returns : goal.returns
returns c = posted _ _ c.token_word.ensures c.fill_head-filled.ensures c.enqueue_token-told.ensures
