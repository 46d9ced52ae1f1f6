-- What a posting and a take ask, from what was judged; and which stores a posting does not mind. Assumes nothing.
use mathlib.Core.Path.{◌≡◌, refl, ap, ◌∙◌}
use mathlib.Core.Bool.{true}
use mathlib.Core.List.{List, []}
use Prim.Native.Nat.{ℕ, ◌+◌, ◌<◌, ◌≤◌}
use native.Mathlib.Omega.{arith}
use borrow.Author.Tests.{ltb-true}
use lib.ListN.{length, set, length-set}
use lib.Seq.{sets, length-sets, get_or-set_other}
use Rattle.ground.proofs.Lists.{get_or_sets_after}
use Rattle.rules.specs.declared.ListIndex.{ListIndex}
use Rattle.rules.specs.declared.Posting.{Posting}
use Rattle.rules.specs.declared.Queue.{Queue}
use Rattle.rules.specs.declared.Saved.{Saved}
use Rattle.rules.specs.declared.Taking.{Taking}
use Rattle.rules.specs.Memory.{Machine, receive_size, block_size, lists, lists_from, aqr_from, is_block_or_none}
use Rattle.rules.specs.Queues.{has_room, entry_word}
use Rattle.rules.specs.Board.{Board}
use Rattle.rules.specs.Notices.{head_of, token_of, can_post, can_post_all, push_aqr}
use Rattle.rules.specs.Calls.{judge_take}
use Rattle.laws.specs.Sound.{Ring}
use Rattle.laws.specs.Postings.{Listed}
use Rattle.laws.specs.Verdicts.{ReadersBlock}
use Rattle.laws.proofs.Sound.{set_block}
use Rattle.laws.proofs.Postings.{can_post_lem}
use Rattle.laws.proofs.Verdicts.{of_take}
use Rattle.notices.specs.declared.Step.{Step}
use Rattle.notices.specs.Steps.{Pushable, Does, Postable, PostableAll, Takeable, TakeableTo}
use Rattle.std.specs.Prelude.{Ok, Option, Result}
use Rattle.rules.specs.declared.Refusal.{Refusal}

-- ---- from judging

-- A queue of a sound machine that has room.
pub pushable : (q : Queue) (receive : List ℕ) → Ring q → length receive ≡ receive_size → has_room q ≡ true → Pushable q receive
pushable q receive ring size h = record { size = size; place = ring.place; room = ltb-true _ _ h }

-- Both queues of a posting lie in their words.
module _ (s : Saved) (receive : List ℕ) (n : ℕ) (size : length receive ≡ receive_size) (nqr : Ring s.nqr) (nbqr : Ring s.nbqr) where
  -- A list that can be posted to, where its head is a block or none.
  pub postable : (l : ListIndex) → l.0 < lists → is_block_or_none n (head_of receive l) ≡ true → can_post s receive l ≡ true → Postable s receive n l
  postable l low head h =
      let can = can_post_lem s receive l h in
      record {
        size = size;
        low = low;
        head = (set_block n (head_of receive l) head can.head).inside;
        nbqr = nbqr.place;
        nqr = nqr.place;
        room = can.nqr;
      }

  -- What a call has to post, where every head is.
  pub postable_all : (p : Option Posting) → ((l : ListIndex) → l.0 < lists → is_block_or_none n (head_of receive l) ≡ true) → Listed p → can_post_all s receive p ≡ true
      → PostableAll s receive n p
  unfolding can_post_all
  postable_all p heads listed h = record { on = λ q e. let low : q.list.0 < lists = listed.low q e in postable q.list low (heads q.list low) (rw e at h) }

-- A take that was judged to go.
goes : (m : Machine) (k room : ℕ) {x : Taking} → judge_take m k room ≡ Ok x → Takeable m.saved m.receive (length m.notices) x.list x.block × (block_size ≤ room)
goes m k room {x} h =
    let t : ReadersBlock m room x.list x.block x.next = rw h at (of_take m k room) in
    let push : Pushable m.saved.nbqr m.receive = record { size = t.sound.sized.receive; place = t.sound.nbqr.place; room = t.queue } in
    (record { low = t.low; inside = t.here.inside; push = push }, t.long)

-- A take that was judged can be acted on.
pub takeable : (m : Machine) (k room : ℕ) {t : Result Taking Refusal} → judge_take m k room ≡ t
    → TakeableTo t m.saved m.receive (length m.notices) room
takeable m k room h = record { block = λ x e. (goes m k room (h ∙ e)).0; room = λ x e. (goes m k room (h ∙ e)).1 }

-- ---- which stores a posting does not mind

-- Only NQR, NBQR, the list's head and its token matter.
pub postable_kept : {s s₂ : Saved} {receive receive₂ : List ℕ} (n : ℕ) (l : ListIndex) → s₂.nqr ≡ s.nqr → s₂.nbqr ≡ s.nbqr
    → length receive₂ ≡ length receive → head_of receive₂ l ≡ head_of receive l → token_of receive₂ l ≡ token_of receive l
    → Postable s receive n l → Postable s₂ receive₂ n l
postable_kept n l nqr nbqr size head token p =
    record {
      size = size ∙ p.size;
      low = p.low;
      head = rw head p.head;
      nbqr = rw nbqr p.nbqr;
      nqr = rw nqr p.nqr;
      room = rw (nqr, token) p.room;
    }

-- A slot's words stand below the lists.
pub postable_slot : (s : Saved) (receive : List ℕ) (n i : ℕ) (vs : List ℕ) (l : ListIndex) → i + length vs ≤ lists_from → Postable s receive n l
    → Postable s (sets receive i vs) n l
postable_slot s receive n i vs l h =
    postable_kept n l refl refl
    (length-sets receive i vs)
    (get_or_sets_after receive i vs _ 0 (omega arith))
    (get_or_sets_after receive i vs _ 0 (omega arith))

-- AQR stands after them.
pub postable_aqr : (w : ℕ) (s : Saved) (receive receive₂ : List ℕ) (r : Step) (n : ℕ) (l : ListIndex) → Does (push_aqr w) 1 s receive r receive₂
    → Postable s receive n l → Postable r.saved receive₂ n l
unfolding push_aqr
postable_aqr w s receive receive₂ r n l d p =
    let words : receive₂ ≡ set receive (entry_word aqr_from s.aqr s.aqr.length) w = ap (λ (b : Board). b.receive) (d.whole [] 0) in
    let low : l.0 < lists = p.low in
    rw words
    (postable_kept n l
    (ap (λ (b : Board). b.saved.nqr) (d.whole [] 0))
    (ap (λ (b : Board). b.saved.nbqr) (d.whole [] 0))
    (length-set receive _ w)
    (get_or-set_other receive _ _ w 0 (omega arith))
    (get_or-set_other receive _ _ w 0 (omega arith))
    p)
