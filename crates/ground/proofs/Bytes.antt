-- Laws of words of four bytes and of the bytes of a row of words. Assumes nothing.
use mathlib.Core.Path.{◌≡◌, refl, sym, ap, ◌∙◌}
use mathlib.Core.List.{List, [], ◌∷◌, ◌++◌, append_assoc}
use Prim.Native.Nat.{ℕ, zero, suc, ◌+◌, ◌*◌, ◌/◌, ◌%◌, ◌^◌, ◌<◌, ◌≤◌}
use native.Mathlib.Numerals.{add-one, add-two, add-three, add-four}
use native.Mathlib.Omega.{arith}
use lib.ListN.{length, get_or, take, drop}
use lib.Seq.{sets, length-take-le, drop-cons, get_or-append-add, get_or-append_seam}
use Rattle.std.proofs.lemmas.List.{take_more}
use Rattle.ground.specs.Bytes.{join, word_at, bytes_of, to_bytes}
use Rattle.ground.specs.Lists.{part}
use Rattle.ground.proofs.Lists.{part_add, sets_append}

-- Every element is a byte.
abbrev pub Bytes : List ℕ → Type 0
Bytes s = (k : ℕ) → get_or s k 0 < 256

-- The bytes of a word that is joined are the bytes.
pub join_0 : (a b c d : ℕ) → b < 256 → c < 256 → d < 256 → join a b c d / 2 ^ 24 ≡ a
join_0 a b c d hb hc hd = omega arith

pub join_1 : (a b c d : ℕ) → b < 256 → c < 256 → d < 256 → join a b c d / 2 ^ 16 % 256 ≡ b
join_1 a b c d hb hc hd = omega arith

pub join_2 : (a b c d : ℕ) → c < 256 → d < 256 → join a b c d / 2 ^ 8 % 256 ≡ c
join_2 a b c d hc hd = omega arith

pub join_3 : (a b c d : ℕ) → d < 256 → join a b c d % 256 ≡ d
join_3 a b c d hd = omega arith

-- A word of four bytes fits 32 bits.
pub join_lt : (a b c d : ℕ) → a < 256 → b < 256 → c < 256 → d < 256 → join a b c d < 2 ^ 32
join_lt a b c d ha hb hc hd = omega arith

-- A word is the join of its bytes.
pub cut_join : (w : ℕ) → join (w / 2 ^ 24) (w / 2 ^ 16 % 256) (w / 2 ^ 8 % 256) (w % 256) ≡ w
cut_join w = omega arith

-- The word at a place of a list of bytes fits 32 bits.
pub word_fits : (s : List ℕ) (i : ℕ) → Bytes s → word_at s i < 2 ^ 32
word_fits s i h =
    join_lt (get_or s i 0) (get_or s (i + 1) 0) (get_or s (i + 2) 0) (get_or s (i + 3) 0) (h i) (h (i + 1)) (h (i + 2)) (h (i + 3))

-- The bytes of the word at a place are the four elements there.
pub bytes_word : (s : List ℕ) (i : ℕ) → Bytes s
    → bytes_of (word_at s i) ≡ get_or s i 0 ∷ get_or s (i + 1) 0 ∷ get_or s (i + 2) 0 ∷ get_or s (i + 3) 0 ∷ []
bytes_word s i h =
    let a : ℕ = get_or s i 0 in
    let b : ℕ = get_or s (i + 1) 0 in
    let c : ℕ = get_or s (i + 2) 0 in
    let d : ℕ = get_or s (i + 3) 0 in
    rw (
      join_0 a b c d (h (i + 1)) (h (i + 2)) (h (i + 3)),
      join_1 a b c d (h (i + 1)) (h (i + 2)) (h (i + 3)),
      join_2 a b c d (h (i + 2)) (h (i + 3)),
      join_3 a b c d (h (i + 3)),
    )

-- Four elements of a list, written out.
pub four : (s : List ℕ) (i : ℕ) → i + 4 ≤ length s
    → drop i s ≡ get_or s i 0 ∷ get_or s (i + 1) 0 ∷ get_or s (i + 2) 0 ∷ get_or s (i + 3) 0 ∷ drop (i + 4) s
four s i h =
    rw (add-one, add-two, add-three, add-four)
    (drop-cons s i 0 (omega arith)
    ∙ ap (λ (l : List ℕ). get_or s i 0 ∷ l) (drop-cons s (suc i) 0 (omega arith))
    ∙ ap (λ (l : List ℕ). get_or s i 0 ∷ get_or s (suc i) 0 ∷ l) (drop-cons s (suc (suc i)) 0 (omega arith))
    ∙ ap (λ (l : List ℕ). get_or s i 0 ∷ get_or s (suc i) 0 ∷ get_or s (suc (suc i)) 0 ∷ l) (drop-cons s (suc (suc (suc i))) 0 (omega arith)))

-- The bytes of the word at a place are the part of four there.
pub bytes_part : (s : List ℕ) (i : ℕ) → Bytes s → i + 4 ≤ length s → bytes_of (word_at s i) ≡ part i 4 s
bytes_part s i b h = bytes_word s i b ∙ sym (ap (take 4) (four s i h))

-- The k words from a place on.
abbrev pub words_at : List ℕ → ℕ → ℕ → List ℕ
words_at s i zero = []
words_at s i (suc k) = word_at s i ∷ words_at s (i + 4) k

-- Their bytes are the part there.
pub bytes_words : (s : List ℕ) (i k : ℕ) → Bytes s → i + k * 4 ≤ length s → to_bytes (words_at s i k) ≡ part i (k * 4) s
bytes_words s i zero b h = refl
bytes_words s i (suc k) b h =
    let e : suc k * 4 ≡ 4 + k * 4 = omega arith in
    (λ j. bytes_part s i b (omega arith) j ++ bytes_words s (i + 4) k b (omega arith) j)
    ∙ sym (ap (λ (n : ℕ). part i n s) e ∙ part_add i 4 (k * 4) s)

-- The word of the bytes of a word that stand after p.
pub word_bytes : (p : List ℕ) (w : ℕ) (r : List ℕ) → word_at (p ++ (bytes_of w ++ r)) (length p) ≡ w
word_bytes p w r =
    let s : List ℕ = bytes_of w ++ r in
    rw (get_or-append_seam p, get_or-append-add p s 1 0, get_or-append-add p s 2 0, get_or-append-add p s 3 0) (cut_join w)

-- Each word of a row has four bytes.
pub row_length : (ws : List ℕ) → length (to_bytes ws) ≡ length ws * 4
row_length [] = refl
row_length (w ∷ ws) = omega (arith, row_length ws)

-- The bytes of a row and of one word more.
pub row_append : (vs ws : List ℕ) → to_bytes (vs ++ ws) ≡ to_bytes vs ++ to_bytes ws
row_append [] ws = refl
row_append (v ∷ vs) ws = ap (λ (x : List ℕ). bytes_of v ++ x) (row_append vs ws) ∙ sym (append_assoc (bytes_of v) (to_bytes vs) (to_bytes ws))

-- One word more of a row is stored.
pub row_more : (l ws : List ℕ) (at i : ℕ) {m n : List ℕ} → m ≡ sets l at (to_bytes (take i ws)) → i < length ws
    → n ≡ sets m (at + i * 4) (bytes_of (get_or ws i 0)) → n ≡ sets l at (to_bytes (take (i + 1) ws))
row_more l ws at i e h f =
    let w : ℕ = get_or ws i 0 in
    let b : List ℕ = to_bytes (take i ws) in
    let k : length b ≡ i * 4 = row_length (take i ws) ∙ ap (λ (x : ℕ). x * 4) (length-take-le i ws (omega arith)) in
    f
    ∙ ap (λ (x : List ℕ). sets x (at + i * 4) (bytes_of w)) e
    ∙ ap (λ (x : ℕ). sets (sets l at b) (at + x) (bytes_of w)) (sym k)
    ∙ sym (sets_append l at b (bytes_of w))
    ∙ ap (sets l at) (sym (ap to_bytes (take_more ws i 0 h) ∙ row_append (take i ws) (w ∷ [])))

-- The bytes of a word of 32 bits are bytes.
pub bytes_of_lem : (w : ℕ) → w < 2 ^ 32 → Bytes (bytes_of w)
bytes_of_lem w h zero = omega arith
bytes_of_lem w h (suc zero) = omega arith
bytes_of_lem w h (suc (suc zero)) = omega arith
bytes_of_lem w h (suc (suc (suc zero))) = omega arith
bytes_of_lem w h (suc (suc (suc (suc k)))) = omega arith

-- Two lists of bytes make one.
pub bytes_append : (a b : List ℕ) → Bytes a → Bytes b → Bytes (a ++ b)
bytes_append [] b ha hb k = hb k
bytes_append (x ∷ a) b ha hb zero = ha zero
bytes_append (x ∷ a) b ha hb (suc k) = bytes_append a b (λ n. ha (suc n)) hb k

-- The bytes of a row of words of 32 bits are bytes.
pub bytes_row : (ws : List ℕ) → ((k : ℕ) → get_or ws k 0 < 2 ^ 32) → Bytes (to_bytes ws)
bytes_row [] h k = omega arith
bytes_row (w ∷ ws) h k = bytes_append (bytes_of w) (to_bytes ws) (bytes_of_lem w (h zero)) (bytes_row ws (λ n. h (suc n))) k
