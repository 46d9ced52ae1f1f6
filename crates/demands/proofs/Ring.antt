-- NBQR as a row: what a push and a removal make of it. Assumes nothing.
use Prim.Native.Nat.{ℕ, zero, suc, ◌+◌, ◌-◌, ◌%◌, ◌<◌}
use mathlib.Core.Path.{◌≡◌, refl, ap, ap₂, ◌∙◌}
use mathlib.Core.Logic.{◌≢◌}
use mathlib.Core.List.{List, [], ◌∷◌, ◌++◌}
use native.Mathlib.Omega.{arith}
use native.Mathlib.Numerals.{add-one}
use native.Mathlib.Nat.{add-zero, zero-add}
use lib.ListN.{length, get_or, set}
use lib.Seq.{get_or-set_same, get_or-set_other}
use borrow.Author.Tests.{ne_eqb}
use Rattle.ground.specs.Choice.{pick}
use Rattle.rules.specs.Memory.{nbqr_from}
use Rattle.rules.specs.Queues.{entry_word, pushed, pushed_word, oldest, removed}
use Rattle.demands.specs.Types.{Queue}
use Rattle.demands.specs.Places.{entries}

-- Where entry k stands.
abbrev pub entry : Queue → ℕ → ℕ
entry q k = entry_word nbqr_from q k

-- A row has as many entries as are asked for.
pub entries_length : (ram : List ℕ) (q : Queue) (k n : ℕ) → length (entries ram q k n) ≡ n
unfolding entries
entries_length ram q k zero = refl
entries_length ram q k (suc n) = ap suc (entries_length ram q (k + 1) n)

-- Entry j of a row from entry k on.
entries_from_at : (ram : List ℕ) (q : Queue) (k n j : ℕ) → j < n → get_or (entries ram q k n) j 0 ≡ get_or ram (entry q (k + j)) 0
unfolding entries
entries_from_at ram q k zero j h = absurd (omega arith)
entries_from_at ram q k (suc n) zero h = rw (add-zero k)
entries_from_at ram q k (suc n) (suc j) h =
    let e : k + 1 + j ≡ k + suc j = omega arith in
    entries_from_at ram q (k + 1) n j (omega arith) ∙ ap (λ (i : ℕ). get_or ram (entry q i) 0) e

-- Entry j of the row.
pub entries_at : (ram : List ℕ) (q : Queue) (n j : ℕ) → j < n → get_or (entries ram q 0 n) j 0 ≡ get_or ram (entry q j) 0
entries_at ram q n j h = entries_from_at ram q 0 n j h ∙ ap (λ (i : ℕ). get_or ram (entry q i) 0) (zero-add j)

-- Rows from the same word on are the same.
entries_from : (ram : List ℕ) (p q : Queue) (j k n : ℕ) → (p.place + j) % 256 ≡ (q.place + k) % 256 → entries ram p j n ≡ entries ram q k n
unfolding entries
entries_from ram p q j k zero e = refl
entries_from ram p q j k (suc n) e =
    ap₂ ◌∷◌ (ap (λ (i : ℕ). get_or ram (nbqr_from + i) 0) e) (entries_from ram p q (j + 1) (k + 1) n (omega arith))

-- Another RAM with the same entries has the same row.
pub entries_same : (ram ram' : List ℕ) (q : Queue) (k n : ℕ) → ((j : ℕ) → j < n → get_or ram' (entry q (k + j)) 0 ≡ get_or ram (entry q (k + j)) 0)
    → entries ram' q k n ≡ entries ram q k n
unfolding entries
entries_same ram ram' q k zero h = refl
entries_same ram ram' q k (suc n) h =
    ap₂ ◌∷◌
    (rw (add-zero k) at (h 0 (omega arith)))
    (entries_same ram ram' q (k + 1) n (λ j lt.
    let e : k + suc j ≡ k + 1 + j = omega arith in
    rw e at (h (suc j) (omega arith))))

-- A row's last entry.
entries_last : (ram : List ℕ) (q : Queue) (k n : ℕ) → entries ram q k (suc n) ≡ entries ram q k n ++ (get_or ram (entry q (k + n)) 0 ∷ [])
unfolding entries
entries_last ram q k zero = rw (add-zero k)
entries_last ram q k (suc n) =
    let e : k + 1 + n ≡ k + suc n = omega arith in
    ap (λ (r : List ℕ). get_or ram (entry q k) 0 ∷ r)
    (entries_last ram q (k + 1) n ∙ ap (λ (i : ℕ). entries ram q (k + 1) n ++ (get_or ram (entry q i) 0 ∷ [])) e)

-- A push puts one at the end.
pub entries_push : (ram : List ℕ) (q : Queue) (x : ℕ) → q.length < 256 → length ram ≡ 2048
    → entries (pushed_word nbqr_from q x ram) (pushed q) 0 (pushed q).length ≡ entries ram q 0 q.length ++ (x ∷ [])
entries_push ram q x lt size =
    let i : ℕ = entry q q.length in
    entries_from (set ram i x) (pushed q) q 0 0 (q.length + 1) refl
    ∙ ap (entries (set ram i x) q 0) (add-one q.length)
    ∙ entries_last (set ram i x) q 0 q.length
    ∙ ap₂ (λ (r : List ℕ) (y : ℕ). r ++ (y ∷ []))
    (entries_same ram (set ram i x) q 0 q.length (λ j h. get_or-set_other ram i (entry q (0 + j)) x 0 (omega arith)))
    (ap (λ (j : ℕ). get_or (set ram i x) (entry q j) 0) (zero-add q.length) ∙ get_or-set_same ram i x 0 (omega arith))

-- A removal takes the first.
pub entries_pop : (ram : List ℕ) (q : Queue) → q.place < 256 → q.length ≢ 0
    → entries ram q 0 q.length ≡ oldest nbqr_from q ram ∷ entries ram (removed q) 0 (removed q).length
unfolding entries oldest removed pick
entries_pop ram q lt some =
    let one : q.length ≡ suc (q.length - 1) = omega arith in
    let at : (q.place + 0) % 256 ≡ q.place = omega arith in
    rw (ne_eqb q.length 0 some)
    (ap (entries ram q 0) one
    ∙ ap₂ ◌∷◌ (ap (λ (i : ℕ). get_or ram (nbqr_from + i) 0) at)
    (entries_from ram q (record { place = (q.place + 1) % 256; length = q.length - 1 }) 1 0 (q.length - 1) (omega arith)))
