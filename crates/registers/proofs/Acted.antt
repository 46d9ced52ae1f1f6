-- A write acted on, by its verdict. Assumes nothing.
use mathlib.Core.Path.{◌≡◌, ap}
use mathlib.Core.List.{List, []}
use Prim.Native.Nat.{ℕ}
use lib.ListN.{length}
use Rattle.rules.specs.declared.Answer.{Answer}
use Rattle.rules.specs.declared.BlockAddress.{BlockAddress}
use Rattle.rules.specs.declared.ReceiveStore.{ReceiveStore}
use Rattle.rules.specs.declared.Refusal.{Refusal}
use Rattle.rules.specs.declared.Reply.{Reply}
use Rattle.rules.specs.declared.Saved.{Saved}
use Rattle.rules.specs.declared.SendStore.{SendStore}
use Rattle.rules.specs.declared.Writing.{Writing}
use Rattle.rules.specs.Memory.{machine}
use Rattle.rules.specs.Board.{Board}
use Rattle.rules.specs.Registers.{decode, stepped}
use Rattle.rules.specs.Calls.{write_done, act_write}
use Rattle.replies.specs.Refusing.{Refuses}
use Rattle.notices.specs.Steps.{Pushable, Returns}
use Rattle.registers.specs.Writing.{Rams, InSend, InReceive, Writable, Resets, Writes}
use Rattle.std.specs.Prelude.{Result, Ok, Err}

-- ---- what each step asks

module _ {w : Result Writing Refusal} (s : Saved) (send receive : List ℕ) (p : Writable w s send receive) where
  pub reset_asks : w ≡ (Ok Writing.Reset) → Rams (length send) (length receive)
  reset_asks is = rw is at p.asks

  pub push_asks : (b : BlockAddress) → w ≡ Ok (Writing.Gives b) → Pushable s.nbqr receive
  push_asks b is = rw is at p.asks

  pub send_asks : (x : SendStore) → w ≡ Ok (Writing.StoresSend x) → InSend x (length send)
  send_asks x is = rw is at p.asks

  pub receive_asks : (x : ReceiveStore) → w ≡ Ok (Writing.StoresReceive x) → InReceive x (length receive)
  receive_asks x is = rw is at p.asks

-- ---- what each gives

-- The answer of a write that was carried out.
abbrev carried : ℕ → Saved → Answer
carried a s = record { reply = Reply.Done 0; interrupts = 0; saved = stepped (decode a) s }

module _ (a v : ℕ) (s : Saved) (send receive notices : List ℕ) {w : Result Writing Refusal} where
  pub acts_no : (why : Refusal) {r : Answer} → w ≡ Err why → Refuses s why r → Writes w a v s send receive notices r send receive notices
  unfolding act_write
  acts_no why is told = record { whole = λ bytes. rw is (told.whole send receive bytes notices []) }

  module _ {s₂ : Saved} {r : Answer} (told : r ≡ carried a s₂) where
    pub acts_reset : (send₂ receive₂ notices₂ : List ℕ) → w ≡ (Ok Writing.Reset) → Resets v send receive notices s₂ send₂ receive₂ notices₂
        → Writes w a v s send receive notices r send₂ receive₂ notices₂
    unfolding act_write write_done
    acts_reset send₂ receive₂ notices₂ is h = record { whole = λ bytes. rw (told, is) (ap (write_done (decode a)) (h.whole s bytes)) }

    pub acts_gives : (b : BlockAddress) (receive₂ : List ℕ) → w ≡ Ok (Writing.Gives b) → Returns b s receive s₂ receive₂
        → Writes w a v s send receive notices r send receive₂ notices
    unfolding act_write write_done
    acts_gives b receive₂ is h =
        record {
          whole =
              λ bytes.
              rw (told, is)
              (ap (λ (x : Board). write_done (decode a) (machine x.saved send x.receive bytes x.notices)) (h.whole notices 0));
        }

pub ruleset acting = (reset_asks, push_asks, send_asks, receive_asks, acts_no, acts_reset, acts_gives)
