-- The steps of a read, put together. Assumes nothing.
use mathlib.Core.Path.{◌≡◌, ◌∙◌}
use mathlib.Core.List.{List, []}
use Prim.Native.Nat.{ℕ, ◌<◌}
use lib.ListN.{length}
use Rattle.rules.specs.declared.Answer.{Answer}
use Rattle.rules.specs.declared.Mapped.{Mapped}
use Rattle.rules.specs.declared.Reach.{Reach}
use Rattle.rules.specs.declared.Refusal.{Refusal}
use Rattle.rules.specs.declared.Register.{Register}
use Rattle.rules.specs.declared.Saved.{Saved}
use Rattle.rules.specs.Memory.{Machine, send_size, receive_size}
use Rattle.rules.specs.Registers.{decode}
use Rattle.rules.specs.Calls.{judge_read, act_read}
use Rattle.replies.specs.Refusing.{Refuses}
use Rattle.laws.specs.Sound.{Sound}
use Rattle.laws.proofs.Reading.{of_read}
use Rattle.registers.specs.Reading.{Showable, InsideReceive, Readable, Reads}
use Rattle.std.specs.Prelude.{Result, Ok, Err}

module _ (r : Mapped) (s : Saved) (send receive : List ℕ) {v : Result Reach Refusal} where
  -- What each case asks.
  pub itself_asks : Readable s send receive v → (x : Register) → v ≡ Ok (Reach.Itself x) → Showable s receive
  itself_asks p x is = p.itself x is

  pub send_asks : Readable s send receive v → (i : ℕ) → v ≡ Ok (Reach.InSend i) → i < length send
  send_asks p i is = p.insend i is

  pub receive_asks : Readable s send receive v → (i : ℕ) → v ≡ Ok (Reach.InReceive i) → InsideReceive receive i
  receive_asks p i is = p.inreceive i is

  -- What each case gives.
  pub read_refused : (why : Refusal) {a : Answer} → v ≡ Err why → Refuses s why a → Reads r v s send receive a
  unfolding act_read
  read_refused why is told = record { whole = λ bytes notices. rw is (told.whole send receive bytes notices []) }

pub ruleset reading = (itself_asks, send_asks, receive_asks, read_refused)

-- ---- from judging

-- What acting on a read asks, once it was judged.
pub readable : (m : Machine) (a : ℕ) {v : Result Reach Refusal} → judge_read m (decode a) ≡ v → Readable m.saved m.send m.receive v
readable m a h =
    record {
      itself =
          λ x is.
          let sound : Sound m = rw (h ∙ is) at (of_read m a) in
          record {
            size = sound.sized.receive;
            inthi = sound.ranges.inthi;
            intlo = sound.ranges.intlo;
            nqr = sound.nqr.place;
            aqr = sound.aqr.place;
          };
      insend =
          λ i is.
          let found : Sound m × (i < send_size) = rw (h ∙ is) at (of_read m a) in
          rw found.0.sized.send found.1;
      inreceive =
          λ i is.
          let found : Sound m × (i < receive_size) = rw (h ∙ is) at (of_read m a) in
          record { size = found.0.sized.receive; low = found.1 };
    }
