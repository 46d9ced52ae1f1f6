-- What an access leaves of the saved state: what holds however a pointer moves on or a queue is read holds after it. Assumes nothing.
use Rattle.std.specs.Prelude.{List, ℕ}
use Rattle.rules.specs.Memory.{send_size, receive_size}
use Rattle.rules.specs.Saved.{with_pointers, with_nqr, with_aqr}
use Rattle.rules.specs.Queues.{removed}
use Rattle.rules.specs.Registers.{pointer_on, stepped, shown_itself}
use Rattle.demands.specs.Types.{Saved, Register, Mapped}

-- After a pointer's step, or none.
pub after_step : (P : Saved → Type 0) (s : Saved) → P s → P (with_pointers (pointer_on send_size s.sendpointer) s.receivepointer s)
    → P (with_pointers s.sendpointer (pointer_on receive_size s.receivepointer) s) → (r : Mapped) → P (stepped r s)
unfolding stepped
after_step P s p send receive (Mapped.Single r) = p
after_step P s p send receive Mapped.SendWord = p
after_step P s p send receive Mapped.SendStep = send
after_step P s p send receive Mapped.ReceiveWord = p
after_step P s p send receive Mapped.ReceiveStep = receive
after_step P s p send receive (Mapped.DescriptorWord i) = p
after_step P s p send receive (Mapped.SendPage low) = p
after_step P s p send receive (Mapped.ReceivePage low) = p
after_step P s p send receive Mapped.Unmapped = p

-- After a register is read.
pub after_shown : (P : Saved → Type 0) (s : Saved) (receive : List ℕ) → P s → P (with_nqr (removed s.nqr) s) → P (with_aqr (removed s.aqr) s)
    → (r : Register) → P (shown_itself s receive r).saved
unfolding shown_itself
after_shown P s receive p nqr aqr Register.Pcsr0 = p
after_shown P s receive p nqr aqr Register.Pcsr1 = p
after_shown P s receive p nqr aqr Register.Nlhr = p
after_shown P s receive p nqr aqr Register.SlotCount = p
after_shown P s receive p nqr aqr Register.Nqr = nqr
after_shown P s receive p nqr aqr Register.Aqr = aqr
after_shown P s receive p nqr aqr Register.Nbqr = p
after_shown P s receive p nqr aqr Register.Taken = p
after_shown P s receive p nqr aqr Register.Faulted = p
after_shown P s receive p nqr aqr Register.SendPointer = p
after_shown P s receive p nqr aqr Register.ReceivePointer = p
