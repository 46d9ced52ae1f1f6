-- Which list a posting is on, and what it needs. Assumes nothing.
use mathlib.Core.Path.{◌≡◌}
use mathlib.Core.Bool.{true, not, ◌&&◌, ◌||◌}
use mathlib.Core.List.{List}
use Prim.Native.Nat.{ℕ, ◌<◌}
use native.Mathlib.Omega.{arith}
use borrow.Author.Tests.{ltb-true, eqb-false, not-true}
use lib.Dec.{eqb}
use Rattle.ground.proofs.Choice.{pick_by}
use Rattle.ground.proofs.Tests.{and_right, or_second, not_no}
use Rattle.rules.specs.Words.{notifies}
use Rattle.rules.specs.Memory.{lists}
use Rattle.rules.specs.Queues.{is_empty, has_room}
use Rattle.rules.specs.Notices.{posts_on, posting, head_of, token_of, enqueues, can_post}
use Rattle.rules.specs.Sending.{is_last, send_posting, go_rule}
use Rattle.laws.specs.Types.{Saved, ListIndex, Descriptor, Notice, Posting}
use Rattle.laws.specs.Postings.{Listed, Open}
use Rattle.laws.proofs.Sound.{tests, going}
use Rattle.std.specs.Prelude.{None}

-- A notice on a list is on that list alone.
pub on_list_lem : {l : ListIndex} {m : Notice} → l.0 < lists → Listed (posts_on l m)
on_list_lem {l} {m} low = record { low = λ q e. let same : posting l m ≡ q = cc in rw (← same) low }

-- No notice is on none.
pub on_none : Listed None
on_none = record { low = λ q e. let z : ◌≡◌ {A = ℕ} 0 1 = cc in absurd (omega arith) }

-- What a descriptor that keeps the go rule posts is on a list.
pub send_listed : (d : Descriptor) (size data_length : ℕ) → go_rule d d.control1 size data_length ≡ true → Listed (send_posting d)
unfolding send_posting
send_listed d size data_length rule =
    pick_by Listed (is_last d && notifies d.control1)
    (λ e. on_list_lem ((going d d.control1 size data_length rule).note (and_right (is_last d) _ e))) (λ e. on_none)

-- By the test before a posting.
pub can_post_lem : (s : Saved) (receive : List ℕ) (l : ListIndex) → can_post s receive l ≡ true → Open s receive l
unfolding can_post
can_post_lem s receive l e =
    let set : not (eqb (head_of receive l) 0) ≡ true = search tests depth 20 in
    let some : not (is_empty s.nbqr) ≡ true = search tests depth 20 in
    let room : (not (enqueues (token_of receive l)) || has_room s.nqr) ≡ true = search tests depth 20 in
    record {
      head = eqb-false _ 0 (not-true _ set);
      nbqr = eqb-false _ 0 (not-true _ some);
      nqr = λ h. ltb-true _ _ (or_second (not (enqueues (token_of receive l))) (has_room s.nqr) room (not_no h));
    }
