-- The saved state: its parts set one at a time, PCSR0's fields, and what a reset leaves of it. Assumes nothing.
use Rattle.ground.specs.Field.{field, flag}
use Rattle.std.specs.Prelude.{ℕ, ◌+◌, ◌%◌, ◌^◌, Bool, ◌&&◌, eqb, leb}
use Rattle.rules.specs.Types.{Queue, Saved}

-- ---- set one at a time

-- The saved state of its parts.
abbrev saved : ℕ → ℕ → ℕ → ℕ → ℕ → ℕ → ℕ → ℕ → Queue → Queue → Queue → ℕ → Saved
saved pcsr0 inthi intlo slots taken faulted sendpointer receivepointer nqr aqr nbqr lastsender =
    record {
      pcsr0 = pcsr0;
      inthi = inthi;
      intlo = intlo;
      slots = slots;
      taken = taken;
      faulted = faulted;
      sendpointer = sendpointer;
      receivepointer = receivepointer;
      nqr = nqr;
      aqr = aqr;
      nbqr = nbqr;
      lastsender = lastsender;
    }

-- With another PCSR0.
abbrev pub with_pcsr0 : ℕ → Saved → Saved
with_pcsr0 v s =
    saved v s.inthi s.intlo s.slots s.taken s.faulted s.sendpointer s.receivepointer s.nqr s.aqr s.nbqr s.lastsender

-- With other int_hi and int_lo.
abbrev pub with_bits : ℕ → ℕ → Saved → Saved
with_bits hi lo s =
    saved s.pcsr0 hi lo s.slots s.taken s.faulted s.sendpointer s.receivepointer s.nqr s.aqr s.nbqr s.lastsender

-- With another slot count.
abbrev pub with_slots : ℕ → Saved → Saved
with_slots v s =
    saved s.pcsr0 s.inthi s.intlo v s.taken s.faulted s.sendpointer s.receivepointer s.nqr s.aqr s.nbqr s.lastsender

-- With other counts of packets taken and faulted.
abbrev pub with_counts : ℕ → ℕ → Saved → Saved
with_counts taken faulted s =
    saved s.pcsr0 s.inthi s.intlo s.slots taken faulted s.sendpointer s.receivepointer s.nqr s.aqr s.nbqr s.lastsender

-- With other pointers into Send and Receive RAM.
abbrev pub with_pointers : ℕ → ℕ → Saved → Saved
with_pointers send receive s =
    saved s.pcsr0 s.inthi s.intlo s.slots s.taken s.faulted send receive s.nqr s.aqr s.nbqr s.lastsender

-- With other queues NQR, AQR and NBQR.
abbrev pub with_queues : Queue → Queue → Queue → Saved → Saved
with_queues nqr aqr nbqr s =
    saved s.pcsr0 s.inthi s.intlo s.slots s.taken s.faulted s.sendpointer s.receivepointer nqr aqr nbqr s.lastsender

-- With another NQR.
abbrev pub with_nqr : Queue → Saved → Saved
with_nqr q s = with_queues q s.aqr s.nbqr s

-- With another AQR.
abbrev pub with_aqr : Queue → Saved → Saved
with_aqr q s = with_queues s.nqr q s.nbqr s

-- With another NBQR.
abbrev pub with_nbqr : Queue → Saved → Saved
with_nbqr q s = with_queues s.nqr s.aqr q s

-- With another NQR and int_lo.
abbrev pub with_nqr_and_lo : Queue → ℕ → Saved → Saved
with_nqr_and_lo q lo s = with_nqr q (with_bits s.inthi lo s)

-- With another AQR and int_hi.
abbrev pub with_aqr_and_hi : Queue → ℕ → Saved → Saved
with_aqr_and_hi q hi s = with_aqr q (with_bits hi s.intlo s)

-- With another last sender.
abbrev pub with_last_sender : ℕ → Saved → Saved
with_last_sender v s =
    saved s.pcsr0 s.inthi s.intlo s.slots s.taken s.faulted s.sendpointer s.receivepointer s.nqr s.aqr s.nbqr v

-- ---- PCSR0: reset 1 (31), enable 1 (30), reserved 10 (29-20), incarnation 4 (19-16), node 16 (15-0)

-- "reset 1".
abbrev pub resets : ℕ → Bool
resets w = flag 31 w

-- "enable 1"; off is "receive or send with enable 0".
abbrev pub enables : ℕ → Bool
enables w = flag 30 w

-- "incarnation 4".
abbrev pub own_incarnation : ℕ → ℕ
own_incarnation w = field 16 4 w

-- "node 16".
abbrev pub own_node : ℕ → ℕ
own_node w = field 0 16 w

-- "reserved 10".
abbrev pub reserved_bits : ℕ → ℕ
reserved_bits w = field 20 10 w

-- "reserved bits or a node above 4095 are a bad value".
abbrev pub pcsr0_ok : ℕ → Bool
pcsr0_ok w = eqb (reserved_bits w) 0 && leb (own_node w) 4095

-- "the other fields are stored with reset 0".
abbrev pub without_reset : ℕ → ℕ
without_reset w = field 0 31 w

-- ---- counts, and a reset

-- "Both packet counts run modulo 2^32": one more.
abbrev pub counted : ℕ → ℕ
counted n = (n + 1) % 2 ^ 32

-- "reset sets place and length to 0".
abbrev pub no_entries : Queue
no_entries = record { place = 0; length = 0 }

-- What a reset leaves, where PCSR0 is stored as w: "counts, pointers, slot count, interrupt bits" are 0, the packet counts "start from 0 at a
-- reset"; "Last sender becomes 3."
abbrev pub reset_saved : ℕ → Saved
reset_saved w = saved w 0 0 0 0 0 0 0 no_entries no_entries no_entries 3
