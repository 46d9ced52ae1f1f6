-- The steps of a send, put together. Assumes nothing.
use mathlib.Core.Path.{◌≡◌, refl, sym, ◌∙◌}
use mathlib.Core.List.{List}
use Prim.Native.Nat.{ℕ}
use lib.ListN.{get_or, set}
use Rattle.rules.specs.declared.Answer.{Answer}
use Rattle.rules.specs.declared.DescriptorIndex.{DescriptorIndex}
use Rattle.rules.specs.declared.Posting.{Posting}
use Rattle.rules.specs.declared.Refusal.{Refusal}
use Rattle.rules.specs.declared.Saved.{Saved}
use Rattle.rules.specs.declared.Sending.{Sending}
use Rattle.rules.specs.Memory.{descriptor_word}
use Rattle.rules.specs.Saved.{with_last_sender}
use Rattle.rules.specs.Sending.{descriptor_at, with_stalled, mark_stalled}
use Rattle.rules.specs.Calls.{act_send}
use Rattle.replies.specs.Refusing.{Refuses}
use Rattle.notices.specs.Steps.{PostableAll}
use Rattle.notices.proofs.Facts.{postable_kept}
use Rattle.sender.specs.Steps.{Acts, Marks}
use Rattle.std.specs.Prelude.{Option, Result, Ok, Err}

-- ---- posting

-- The last sender is not looked at.
pub post_asks : (v : ℕ) (s : Saved) (receive : List ℕ) (n : ℕ) {p q : Option Posting} → q ≡ p → PostableAll s receive n p
    → PostableAll (with_last_sender v s) receive n q
post_asks v s receive n e a = record { on = λ q o. postable_kept n q.list refl refl refl refl refl (a.on q (sym e ∙ o)) }

-- ---- the send

-- Nothing but the mark.
pub marked : (i : DescriptorIndex) (s : Saved) (send : List ℕ) (w : ℕ) (r : Answer) → w ≡ with_stalled (get_or send (descriptor_word i 6) 0)
    → Refuses s Refusal.Fabric r → Marks i s send r (set send (descriptor_word i 6) w)
unfolding act_send mark_stalled descriptor_at
marked i s send w r e told = record { whole = λ receive bytes notices room. record { whole = told.whole _ receive bytes notices room ∙ rw e } }

-- By what was judged.
module _ (v : Result Sending Refusal) (s : Saved) (send receive bytes notices room : List ℕ) where
  -- A refusal changes nothing.
  pub acts_no : (why : Refusal) (r : Answer) → v ≡ Err why → Refuses s why r → Acts v s send receive bytes notices room r send receive notices room
  unfolding act_send
  acts_no why r e told = record { whole = rw e (told.whole send receive bytes notices room) }

  pub acts_waits : (i : DescriptorIndex) (r : Answer) (send₂ : List ℕ) → v ≡ Ok (Sending.Waits i) → Marks i s send r send₂
      → Acts v s send receive bytes notices room r send₂ receive notices room
  acts_waits i r send₂ e a = rw e (a.whole receive bytes notices room)
