-- What a refusal answers. Assumes nothing.
use Rattle.std.specs.Prelude.{◌≡◌, ℕ, List}
use Rattle.rules.specs.declared.Answer.{Answer}
use Rattle.rules.specs.declared.Refusal.{Refusal}
use Rattle.rules.specs.declared.Saved.{Saved}
use Rattle.rules.specs.Memory.{machine}
use Rattle.rules.specs.Replies.{answered, refused}

-- It is the refusal, whatever the memories and the room hold.
pub record Refuses (s : Saved) (why : Refusal) (r : Answer) : Type 0 where
  pub whole : (send receive bytes notices room : List ℕ)
      → answered r send receive bytes notices room ≡ refused why (machine s send receive bytes notices) room
