-- "Registers": the map, what an access reaches, PCSR1, and what a read shows. Assumes nothing.
use Rattle.ground.specs.Choice.{pick}
use Rattle.ground.specs.Field.{bit, flag}
use Rattle.std.specs.Prelude.{ℕ, Result, Ok, Err, ◌+◌, ◌-◌, ◌*◌, ◌/◌, ◌%◌, ◌^◌, Bool, not, ◌&&◌, List, eqb, ltb, leb}
use Rattle.rules.specs.Types.{Saved, Refusal, NoRegister, Register, Mapped, Reach, Shown}
use Rattle.rules.specs.Memory.{send_size, receive_size, nqr_from, aqr_from}
use Rattle.rules.specs.Saved.{with_pointers, with_nqr, with_aqr}
use Rattle.rules.specs.Queues.{is_empty, has_room, oldest, removed}

-- ---- the map

-- "0x000 PCSR0".
abbrev pub pcsr0_number : ℕ
pcsr0_number = 0x000

-- "0x000 PCSR0; 0x004 PCSR1; 0x008 NLHR ..; 0x00C slot count ..; 0x014 NQR; 0x018 AQR; 0x01C NBQR ..; 0x020 packets taken, 0x024 packets
-- faulted (H). Send RAM: pointer 0x040, word 0x044, word then pointer plus 4 0x048. Receive RAM the same at 0x080, 0x084, 0x088."
unfoldable pub single : ℕ → Mapped
single a =
    pick (eqb a pcsr0_number) (Mapped.Single Register.Pcsr0)
    (pick (eqb a 0x004) (Mapped.Single Register.Pcsr1)
    (pick (eqb a 0x008) (Mapped.Single Register.Nlhr)
    (pick (eqb a 0x00C) (Mapped.Single Register.SlotCount)
    (pick (eqb a 0x014) (Mapped.Single Register.Nqr)
    (pick (eqb a 0x018) (Mapped.Single Register.Aqr)
    (pick (eqb a 0x01C) (Mapped.Single Register.Nbqr)
    (pick (eqb a 0x020) (Mapped.Single Register.Taken)
    (pick (eqb a 0x024) (Mapped.Single Register.Faulted)
    (pick (eqb a 0x040) (Mapped.Single Register.SendPointer)
    (pick (eqb a 0x044) Mapped.SendWord
    (pick (eqb a 0x048) Mapped.SendStep
    (pick (eqb a 0x080) (Mapped.Single Register.ReceivePointer)
    (pick (eqb a 0x084) Mapped.ReceiveWord
    (pick (eqb a 0x088) Mapped.ReceiveStep
    Mapped.Unmapped))))))))))))))

-- From low to high, both included.
abbrev pub between : ℕ → ℕ → ℕ → Bool
between low high a = leb low a && leb a high

-- "0x100 to 0x1FC descriptors; 0x200 to 0x2FC and 0x300 to 0x3FC are pages".
unfoldable pub mapped : ℕ → Mapped
mapped a =
    pick (between 0x100 0x1FC a) (Mapped.DescriptorWord ((a - 0x100) / 4))
    (pick (between 0x200 0x2FC a) (Mapped.SendPage (a - 0x200))
    (pick (between 0x300 0x3FC a) (Mapped.ReceivePage (a - 0x300))
    (single a)))

-- no-register: "address not mapped or not a multiple of 4".
unfoldable pub decode : ℕ → Mapped
decode a = pick (eqb (a % 4) 0) (mapped a) Mapped.Unmapped

-- ---- pointers

-- "A pointer is a multiple of 4 inside its RAM (else bad-value)", of n words.
abbrev pub pointer_ok : ℕ → ℕ → Bool
pointer_ok n p = eqb (p % 4) 0 && ltb p (4 * n)

-- "and returns to 0 after the last word".
abbrev pub pointer_on : ℕ → ℕ → ℕ
pointer_on n p = (p + 4) % (4 * n)

-- A page: "the pointer with its low byte replaced".
abbrev pub paged : ℕ → ℕ → ℕ
paged p low = p / 256 * 256 + low

-- What an access reaches. A RAM word is the same by every address, and so "keeps its rules by every address".
unfoldable pub reach : Saved → Mapped → Result Reach Refusal
reach s (Mapped.Single r) = Ok (Reach.Itself r)
reach s Mapped.SendWord = Ok (Reach.InSend (s.sendpointer / 4))
reach s Mapped.SendStep = Ok (Reach.InSend (s.sendpointer / 4))
reach s Mapped.ReceiveWord = Ok (Reach.InReceive (s.receivepointer / 4))
reach s Mapped.ReceiveStep = Ok (Reach.InReceive (s.receivepointer / 4))
reach s (Mapped.DescriptorWord i) = Ok (Reach.InSend i)
reach s (Mapped.SendPage low) = Ok (Reach.InSend (paged s.sendpointer low / 4))
reach s (Mapped.ReceivePage low) = Ok (Reach.InReceive (paged s.receivepointer low / 4))
reach s Mapped.Unmapped = Err NoRegister

-- "word then pointer plus 4": the saved state after an access that is carried out.
unfoldable pub stepped : Mapped → Saved → Saved
stepped (Mapped.Single r) s = s
stepped Mapped.SendWord s = s
stepped Mapped.SendStep s = with_pointers (pointer_on send_size s.sendpointer) s.receivepointer s
stepped Mapped.ReceiveWord s = s
stepped Mapped.ReceiveStep s = with_pointers s.sendpointer (pointer_on receive_size s.receivepointer) s
stepped (Mapped.DescriptorWord i) s = s
stepped (Mapped.SendPage low) s = s
stepped (Mapped.ReceivePage low) s = s
stepped Mapped.Unmapped s = s

-- ---- PCSR1: ready (31), int_hi (30), int_lo (29), idle (28), nbqr_empty (27), nbqr_full (26), 6 zero (25-20), 4 bits (19-16), 16 zero (15-0)

-- "int_hi", of a word that is written.
abbrev pub int_hi : ℕ → Bool
int_hi w = flag 30 w

-- "int_lo".
abbrev pub int_lo : ℕ → Bool
int_lo w = flag 29 w

-- "PCSR1: ready (1), int_hi, int_lo, idle (1), nbqr_empty, nbqr_full, 6 zero, 4 bits holding 4, 16 zero."
unfoldable pub pcsr1 : Saved → ℕ
pcsr1 s =
    2 ^ 31 + s.inthi * 2 ^ 30 + s.intlo * 2 ^ 29 + 2 ^ 28 + bit (is_empty s.nbqr) * 2 ^ 27 + bit (not (has_room s.nbqr)) * 2 ^ 26 + 4 * 2 ^ 16

-- ---- reading

-- A word that is shown, with nothing changed.
abbrev pub shows : Saved → ℕ → Shown
shows s w = record { word = w; saved = s }

-- What a register shows: "NLHR, reads 0x1000", "NBQR, reads 0"; "A read of NQR or AQR removes the oldest entry; an empty queue reads 0."
unfoldable pub shown_itself : Saved → List ℕ → Register → Shown
shown_itself s receive Register.Pcsr0 = shows s s.pcsr0
shown_itself s receive Register.Pcsr1 = shows s (pcsr1 s)
shown_itself s receive Register.Nlhr = shows s 0x1000
shown_itself s receive Register.SlotCount = shows s s.slots
shown_itself s receive Register.Nqr = shows (with_nqr (removed s.nqr) s) (oldest nqr_from s.nqr receive)
shown_itself s receive Register.Aqr = shows (with_aqr (removed s.aqr) s) (oldest aqr_from s.aqr receive)
shown_itself s receive Register.Nbqr = shows s 0
shown_itself s receive Register.Taken = shows s s.taken
shown_itself s receive Register.Faulted = shows s s.faulted
shown_itself s receive Register.SendPointer = shows s s.sendpointer
shown_itself s receive Register.ReceivePointer = shows s s.receivepointer
