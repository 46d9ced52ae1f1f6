-- The steps of postings and takes, put together. Assumes nothing.
use mathlib.Core.Path.{◌≡◌, sym, ap, ◌∙◌}
use mathlib.Core.Bool.{true, false}
use mathlib.Core.Logic.{◌≢◌}
use mathlib.Core.List.{List}
use Prim.Native.Nat.{ℕ, ◌+◌, ◌-◌, ◌<◌, ◌≤◌}
use native.Mathlib.Nat.{add-zero}
use native.Mathlib.Omega.{arith}
use lib.ListN.{length, get_or, set, take, drop, length-set}
use lib.Seq.{sets}
use Rattle.ground.specs.Lists.{over}
use Rattle.ground.proofs.Choice.{pick_yes, pick_no}
use Rattle.ground.proofs.Lists.{sets_put, put_first, length_part}
use Rattle.rules.specs.declared.Saved.{Saved}
use Rattle.rules.specs.declared.ListIndex.{ListIndex}
use Rattle.rules.specs.declared.BlockAddress.{BlockAddress}
use Rattle.rules.specs.declared.Notice.{Notice}
use Rattle.rules.specs.declared.Posting.{Posting}
use Rattle.rules.specs.declared.queues.Removal.{Removal}
use Rattle.rules.specs.declared.Answer.{Answer}
use Rattle.rules.specs.declared.Refusal.{Refusal}
use Rattle.rules.specs.declared.Reply.{Reply}
use Rattle.rules.specs.declared.Taking.{Taking}
use Rattle.rules.specs.Memory.{block, block_first, head_word, token_word, place_word, nbqr_from}
use Rattle.rules.specs.Saved.{with_nbqr}
use Rattle.rules.specs.Queues.{oldest, removed}
use Rattle.rules.specs.Board.{Board}
use Rattle.rules.specs.Notices.{block_words, enqueues, token, place_of, empty_interrupt, fill_head, push_nqr, enqueue_token, post, post_all, take_block}
use Rattle.rules.specs.Calls.{words_of, act_take}
use Rattle.replies.specs.Refusing.{Refuses}
use Rattle.sound.specs.Gated.{Gated}
use Rattle.laws.proofs.Sound.{set_block}
use Rattle.sound.proofs.Passing.{gated_sound}
use Rattle.notices.specs.declared.Step.{Step}
use Rattle.notices.specs.Steps.{Pushable, Returns, Does, Posts, Enqueues, Postable, Takeable, TakeableTo, Takes, Acts}
use Rattle.std.specs.Prelude.{Some, Option, None, Result, Ok, Err, ⊤}

-- ---- blocks

-- The part of notice memory that is a block, stored from the room's start on.
pub block_copied : (notices room room₂ : List ℕ) (b : BlockAddress) (first : ℕ) → first ≡ block_first b → block_first b + 8 ≤ length notices
    → 8 ≤ length room → room₂ ≡ sets room 0 (take (first + 8 - first) (drop first notices)) → room₂ ≡ over (words_of notices b) room
block_copied notices room room₂ b first e inside long stored =
    let eight : first + 8 - first ≡ 8 = omega arith in
    let words : take (first + 8 - first) (drop first notices) ≡ words_of notices b = rw (eight, e) in
    let fits : 0 + length (words_of notices b) ≤ length room = rw (length_part (block_first b) 8 notices inside) (omega arith) in
    stored ∙ ap (sets room 0) words ∙ sets_put room 0 (words_of notices b) fits ∙ put_first (words_of notices b) room

-- ---- the token

-- NQR takes it where the word enqueues.
pub push_asks : (w : ℕ) (s : Saved) (receive : List ℕ) → Enqueues w s receive → enqueues w ≡ true → Pushable s.nqr receive
push_asks w s receive t e = record { size = t.size; place = t.place; room = t.room e }

-- The push is the step where the word enqueues.
pub enqueued : (w : ℕ) (s : Saved) (receive receive₂ : List ℕ) (r : Step) → enqueues w ≡ true → Does (push_nqr (token w)) 2 s receive r receive₂
    → Does (enqueue_token w) 2 s receive r receive₂
unfolding enqueue_token
enqueued w s receive receive₂ r e d =
    record { whole = λ notices sum. d.whole notices sum ∙ sym (pick_yes _ _ e); small = d.small }

-- Nothing is where it does not.
pub passed : (w : ℕ) (s : Saved) (receive : List ℕ) → enqueues w ≡ false → Does (enqueue_token w) 2 s receive (record { saved = s; interrupts = 0 }) receive
unfolding enqueue_token
passed w s receive e =
    record { whole = λ notices sum. rw (add-zero sum) (sym (pick_no _ _ e)); small = omega arith }

-- ---- the head

-- The head is a block.
pub fill_asks : (s : Saved) (receive : List ℕ) (n : ℕ) (l : ListIndex) (head : ℕ) → head ≡ head_word l → Postable s receive n l
    → block_first (block (get_or receive head 0)) + 8 ≤ n
fill_asks s receive n l head e p = rw e p.head

-- The removal, the block's words, the new head and the interrupt.
pub filled : (l : ListIndex) (n : Notice) (s : Saved) (receive notices notices₂ : List ℕ) (head more : ℕ) (o : Removal) → head ≡ head_word l
    → (o.word ≡ oldest nbqr_from s.nbqr receive) × (o.queue ≡ removed s.nbqr)
    → notices₂ ≡ sets notices (block_first (block (get_or receive head 0))) (block_words n o.word)
    → (more ≡ empty_interrupt o.queue) × (more ≤ 4)
    → Posts (fill_head l n) 4 s receive notices (record { saved = with_nbqr o.queue s; interrupts = more }) (set receive head o.word) notices₂
unfolding fill_head
filled l n s receive notices notices₂ head more o e out words last =
    record { whole = λ sum. rw (last.0, words, out.0, out.1, e); small = last.1 }

-- ---- the posting

module _ (l : ListIndex) (n : Notice) {s : Saved} {receive notices receive₂ notices₂ : List ℕ} {token : ℕ} {h : Step} (e : token ≡ token_word l)
    (fill : Posts (fill_head l n) 4 s receive notices h receive₂ notices₂) where
  -- Filling the head leaves NQR as it was.
  pub enqueue_asks : Postable s receive (length notices) l → Enqueues (get_or receive token 0) h.saved receive₂
  unfolding fill_head
  enqueue_asks p =
      let nqr : h.saved.nqr ≡ s.nqr = ap (λ (b : Board). b.saved.nqr) (fill.whole 0) in
      let size : length receive₂ ≡ length receive = ap (λ (b : Board). length b.receive) (fill.whole 0) ∙ simp length-set in
      record { size = size ∙ p.size; place = rw nqr p.nqr; room = rw (nqr, e) p.room }

  -- The head, then the token.
  pub posted : {receive₃ : List ℕ} {t : Step} → Does (enqueue_token (get_or receive token 0)) 2 h.saved receive₂ t receive₃
      → Posts (post l n) 6 s receive notices (record { saved = t.saved; interrupts = h.interrupts + t.interrupts }) receive₃ notices₂
  unfolding post
  posted {t = t} d =
      record {
        whole =
            λ sum.
            let z : sum + (h.interrupts + t.interrupts) ≡ sum + h.interrupts + t.interrupts = omega arith in
            rw z (d.whole notices₂ (sum + h.interrupts) ∙ rw (fill.whole sum, e));
        small = omega (arith, fill.small, d.small);
      }

module _ (p : Option Posting) (s : Saved) (receive notices : List ℕ) where
  -- Nothing to post.
  pub post_none : p ≡ None → Posts (post_all p) 6 s receive notices (record { saved = s; interrupts = 0 }) receive notices
  unfolding post_all
  post_none e = record { whole = λ sum. rw (e, add-zero sum); small = omega arith }

  -- A notice to post.
  pub post_one : (q : Posting) (r : Step) (receive₂ notices₂ : List ℕ) → p ≡ Some q
      → Posts (post q.list q.notice) 6 s receive notices r receive₂ notices₂ → Posts (post_all p) 6 s receive notices r receive₂ notices₂
  unfolding post_all
  post_one q r receive₂ notices₂ e h = record { whole = λ sum. rw e (h.whole sum); small = h.small }

-- ---- the take

-- What the judge of a take reads, once the gate said go.
module _ (s : Saved) (send receive bytes notices : List ℕ) {v : Result ⊤ Refusal} (told : Gated s send receive (length bytes) (length notices) v)
    {x : ⊤} (go : v ≡ Ok x) where
  pub place_asks : length receive ≡ 2048
  place_asks = (gated_sound s send receive bytes notices told go).sized.receive

  pub next_asks : (l : ListIndex) (place : ℕ) → l.0 < 64 → place ≡ place_of receive l → place ≢ 0 → block_first (block place) + 8 ≤ length notices
  next_asks l place low e filled =
      let sound = gated_sound s send receive bytes notices told go in
      (set_block (length notices) place (rw e (sound.places l low)) filled).inside

-- The place, the block's next, and the block on NBQR.
pub taken : (t : Taking) (s s₂ : Saved) (receive receive₂ notices : List ℕ) (place first : ℕ) → place ≡ place_word t.list
    → first ≡ block_first t.block → Returns t.block s (set receive place t.next.0) s₂ receive₂
    → Takes t s receive notices s₂ receive₂ (set notices (first + 3) 0)
unfolding take_block
taken t s s₂ receive receive₂ notices place first p f r = record { whole = λ sum. r.whole (set notices (first + 3) 0) sum ∙ rw (p, f) }

-- What a verdict to take asks.
module _ {t : Result Taking Refusal} {s : Saved} {receive : List ℕ} {n words : ℕ} (a : TakeableTo t s receive n words) (x : Taking) where
  pub take_asks : t ≡ Ok x → Takeable s receive n x.list x.block
  take_asks e = a.block x e

  pub block_asks : t ≡ Ok x → block_first x.block + 8 ≤ n
  block_asks e = (a.block x e).inside

  pub room_asks : t ≡ Ok x → 8 ≤ words
  room_asks e = a.room x e

  pub value_asks : {first : ℕ} → t ≡ Ok x → first ≡ block_first x.block → first < n
  value_asks e f = omega (arith, f, (a.block x e).inside)

-- By what was judged.
module _ (t : Result Taking Refusal) (s : Saved) (receive notices room : List ℕ) where
  -- A refusal changes nothing.
  pub acts_no : (why : Refusal) (r : Answer) → t ≡ Err why → Refuses s why r → Acts t s receive notices room r receive notices room
  unfolding act_take
  acts_no why r e told = record { whole = λ send bytes. rw e (told.whole send receive bytes notices room) }

  -- The words in the room, the value, and the block off its list.
  pub acts_takes : (x : Taking) (s₂ : Saved) (receive₂ notices₂ room₂ : List ℕ) (first : ℕ) → t ≡ Ok x → first ≡ block_first x.block
      → room₂ ≡ over (words_of notices x.block) room → Takes x s receive notices s₂ receive₂ notices₂
      → Acts t s receive notices room (record { reply = Reply.Done (get_or notices first 0); interrupts = 0; saved = s₂ }) receive₂ notices₂ room₂
  unfolding act_take
  acts_takes x s₂ receive₂ notices₂ room₂ first is f e took = record { whole = λ send bytes. rw (is, f, e, ← took.whole 0) }
