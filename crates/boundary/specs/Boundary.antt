-- A call over plain slices and numbers. Assumes nothing.
use Rattle.std.specs.Prelude.{ℕ, ◌≤◌, ◌≡◌, Bool, ◌&&◌, List, [], ◌∷◌, eqb, leb, length, get_or}
use Rattle.std.proofs.lemmas.List.Edits.{sets}
use Rattle.ground.specs.Choice.{pick}
use Rattle.rules.specs.declared.Answer.{Answer}
use Rattle.rules.specs.declared.Refusal.{Refusal}
use Rattle.rules.specs.declared.Saved.{Saved}
use Rattle.rules.specs.Memory.{Machine, machine}
use Rattle.rules.specs.Replies.{Outcome, refusal_number, reply_number, reply_value}

-- ---- the saved state in words

-- So many words.
abbrev pub saved_size : ℕ
saved_size = 15

-- The state that they say, in the order of the struct's fields.
unfoldable pub saved_of : List ℕ → Saved
saved_of w =
    record {
      pcsr0 = get_or w 0 0;
      inthi = get_or w 1 0;
      intlo = get_or w 2 0;
      slots = get_or w 3 0;
      taken = get_or w 4 0;
      faulted = get_or w 5 0;
      sendpointer = get_or w 6 0;
      receivepointer = get_or w 7 0;
      nqr = record { place = get_or w 8 0; length = get_or w 9 0 };
      aqr = record { place = get_or w 10 0; length = get_or w 11 0 };
      nbqr = record { place = get_or w 12 0; length = get_or w 13 0 };
      lastsender = get_or w 14 0;
    }

-- The words of a state.
unfoldable pub words_of : Saved → List ℕ
words_of s =
    s.pcsr0
    ∷ s.inthi
    ∷ s.intlo
    ∷ s.slots
    ∷ s.taken
    ∷ s.faulted
    ∷ s.sendpointer
    ∷ s.receivepointer
    ∷ s.nqr.place
    ∷ s.nqr.length
    ∷ s.aqr.place
    ∷ s.aqr.length
    ∷ s.nbqr.place
    ∷ s.nbqr.length
    ∷ s.lastsender
    ∷ []

-- ---- the answer in words: the reply's number, the value, the interrupts

-- So many words.
abbrev pub answer_size : ℕ
answer_size = 3

-- They are the first of the lent ones.
abbrev pub answer_in : ℕ → ℕ → ℕ → List ℕ → List ℕ
answer_in reply value interrupts answer = sets answer 0 (reply ∷ value ∷ interrupts ∷ [])

-- ---- the call

-- All that is lent to it; a call without a room has an empty one.
pub record Lent : Type 0 where
  pub saved : List ℕ
  pub send : List ℕ
  pub receive : List ℕ
  pub bytes : List ℕ
  pub notices : List ℕ
  pub room : List ℕ
  pub answer : List ℕ

abbrev pub lent : List ℕ → List ℕ → List ℕ → List ℕ → List ℕ → List ℕ → List ℕ → Lent
lent s send receive bytes notices room answer =
    record { saved = s; send = send; receive = receive; bytes = bytes; notices = notices; room = room; answer = answer }

-- The number that it returns, and what the lent slices hold then.
pub record Left : Type 0 where
  pub number : ℕ
  pub slices : Lent

abbrev pub left : ℕ → Lent → Left
left number slices = record { number = number; slices = slices }

-- The slices that an outcome leaves.
abbrev pub leaves : Outcome → List ℕ → Lent
leaves o answer =
    lent (words_of o.machine.saved) o.machine.send o.machine.receive o.machine.bytes o.machine.notices o.room
    (answer_in o.reply o.value o.interrupts answer)

-- The machine that the slices say.
abbrev pub machine_of : Lent → Machine
machine_of l = machine (saved_of l.saved) l.send l.receive l.bytes l.notices

-- The saved state's slice has 15 words, the answer's 3 or more.
abbrev pub lent_ok : ℕ → ℕ → Bool
lent_ok saved answer = eqb saved saved_size && leb answer_size answer

-- Then the call's outcome. Else 13, sizes, and nothing is written.
unfoldable pub exported : (Machine → List ℕ → Outcome) → Lent → Left
exported call l =
    let o = call (machine_of l) l.room in
    pick (lent_ok (length l.saved) (length l.answer))
    (left o.reply (leaves o l.answer))
    (left (refusal_number Refusal.Sizes) l)

-- A call without a room returned a number, and left the slices, as it should: by what they held before, and what they hold after.
abbrev pub Exports : (Machine → Outcome) → ℕ → Lent → Lent → Type 0
Exports call r before after = left r after ≡ exported (λ m room. call m) before

-- One with a room.
abbrev pub ExportsFilling : (Machine → List ℕ → Outcome) → ℕ → Lent → Lent → Type 0
ExportsFilling call r before after = left r after ≡ exported call before

-- ---- how it ends

-- The saved state's slice and the answer's are long enough.
pub record Writable (w answer : List ℕ) : Type 0 where
  pub size : length w ≡ saved_size
  pub room : answer_size ≤ length answer

-- The saved state and the answer went into their words.
pub record Ends (a : Answer) (before : List ℕ) (r : ℕ) (w after : List ℕ) : Type 0 where
  pub number : r ≡ reply_number a.reply
  pub saved : w ≡ words_of a.saved
  pub answer : after ≡ answer_in (reply_number a.reply) (reply_value a.reply) a.interrupts before
