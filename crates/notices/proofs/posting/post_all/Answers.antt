-- What `posting::post_all` needs beside the check's own search. Assumes nothing.
use Rattle.notices.proofs.posting.post_all.Goals as goal
use Rattle.notices.proofs.Steps.{post_none, post_one}

pub post-requires : goal.post-requires
post-requires c = c.requires.on _ c.in-Some.is

pub returns-in-None : goal.returns-in-None
returns-in-None c = search post_none

pub returns-in-Some : goal.returns-in-Some
returns-in-Some c = post_one _ _ _ _ _ _ _ _ c.in-Some.is c.post.ensures
