-- How each call is what its verdict says: the code was told the verdict of the rules, and did what that one gives. Assumes nothing.
use mathlib.Core.Path.{◌≡◌, sym, ap, ◌∙◌}
use mathlib.Core.Bool.{Bool}
use mathlib.Core.List.{List, []}
use Prim.Native.Nat.{ℕ}
use lib.ListN.{length}
use Rattle.rules.specs.declared.Mapped.{Mapped}
use Rattle.rules.specs.declared.Reach.{Reach}
use Rattle.rules.specs.declared.Receiving.{Receiving}
use Rattle.rules.specs.declared.Refusal.{Refusal}
use Rattle.rules.specs.declared.Sending.{Sending}
use Rattle.rules.specs.declared.Taking.{Taking}
use Rattle.rules.specs.declared.Writing.{Writing}
use Rattle.rules.specs.Memory.{Machine}
use Rattle.rules.specs.Registers.{decode}
use Rattle.rules.specs.Replies.{Outcome, refused}
use Rattle.rules.specs.Calls.{gate, why_unknown, unknown_call, judge_read, act_read, read_call, judge_write, act_write, write_call, judge_receive, act_receive, receive_call}
use Rattle.rules.specs.Calls.{judge_send, act_send, send_call, judge_take, act_take, take_call}
use Rattle.rules.specs.Sound.{is_sized, is_sound}
use Rattle.ground.specs.Choice.{need}
use Rattle.ground.proofs.Choice.{need_ap}
use Rattle.std.specs.Prelude.{Result, Ok, Err, ⊤}

-- The read.
pub read_whole : (m : Machine) (a : ℕ) {r : Mapped} {v : Result Reach Refusal} {o : Outcome} → r ≡ decode a → v ≡ judge_read m (decode a) → o ≡ act_read m r v
    → o ≡ read_call m a
unfolding read_call
read_whole m a {r} {v} mapped judged does = does ∙ ap (λ (x : Mapped). act_read m x v) mapped ∙ ap (act_read m (decode a)) judged

-- The write.
pub write_whole : (m : Machine) (a v : ℕ) {w : Result Writing Refusal} {o : Outcome} → w ≡ judge_write m a v → o ≡ act_write m (decode a) v w → o ≡ write_call m a v
unfolding write_call
write_whole m a v judged does = does ∙ ap (act_write m (decode a) v) judged

-- The receive.
pub receive_whole : (m : Machine) (packet : List ℕ) {v : Result Receiving Refusal} {o : Outcome} → v ≡ judge_receive m packet → o ≡ act_receive m packet v
    → o ≡ receive_call m packet
unfolding receive_call
receive_whole m packet judged does = does ∙ ap (act_receive m packet) judged

-- The send.
pub send_whole : (m : Machine) (ready : Bool) (room : List ℕ) {v : Result Sending Refusal} {o : Outcome} → v ≡ judge_send m ready (length room) → o ≡ act_send m room v
    → o ≡ send_call m ready room
unfolding send_call
send_whole m ready room judged does = does ∙ ap (act_send m room) judged

-- The take.
pub take_whole : (m : Machine) (l : ℕ) (room : List ℕ) {v : Result Taking Refusal} {o : Outcome} → v ≡ judge_take m l (length room) → o ≡ act_take m room v
    → o ≡ take_call m l room
unfolding take_call
take_whole m l room judged does = does ∙ ap (act_take m room) judged

-- An unknown call's refusal, by the gate's verdict.
abbrev pub refusal_by : Result ⊤ Refusal → Refusal
refusal_by (Err why) = why
refusal_by (Ok x) = Refusal.NoRegister

why_by : (m : Machine) → why_unknown m ≡ refusal_by (gate m (Ok tt))
unfolding gate why_unknown
why_by m = sym (need_ap refusal_by (is_sized m) _ _ ∙ ap (need (is_sized m) Refusal.Sizes) (need_ap refusal_by (is_sound m) _ _))

-- An unknown call.
pub unknown_whole : (m : Machine) {v : Result ⊤ Refusal} {why : Refusal} {o : Outcome} → v ≡ gate m (Ok tt) → why ≡ refusal_by v
    → o ≡ refused why m [] → o ≡ unknown_call m
unfolding unknown_call
unknown_whole m judged says does = does ∙ ap (λ (why : Refusal). refused why m []) (says ∙ ap refusal_by judged ∙ sym (why_by m))
