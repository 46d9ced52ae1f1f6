-- Laws of texts written one after the other, and of the parts of a line. Assumes nothing.
use Prim.Native.Nat.{ℕ, ◌/◌, ◌%◌, ◌<◌, ◌≤◌}
use mathlib.Core.Path.{◌≡◌, sym, ap, ap₂, ◌∙◌}
use mathlib.Core.List.{List, [], ◌∷◌, ◌++◌, append_assoc}
use native.Mathlib.Decide.{dec_lt}
use native.Mathlib.Nat.{div-one}
use native.Mathlib.Omega.{arith}
use lib.ListN.{get_or, length-append}
use lib.Seq.{sets}
use Rattle.ground.specs.Text.{ascii, digit, hexadecimal, decimal}
use Rattle.ground.proofs.Lists.{sets_append}
use Rattle.ground.proofs.Text.{decimal_one, decimal_more}
use Rattle.rules.specs.Replies.{reply_words}
use Rattle.rules.specs.Station.{line_of}
use Rattle.lines.specs.Lines.{Written}

-- A text written where another ends.
pub then : {a b d x y : List ℕ} {i n r : ℕ} → Written a i d x n → Written b n x y r → Written (a ++ b) i d y r
then {a} {b} {d} {x} {y} {i} {n} {r} s t =
    record {
      buffer = t.buffer ∙ ap₂ (λ (l : List ℕ) (k : ℕ). sets l k b) s.buffer s.ends ∙ sym (sets_append d i a b);
      ends = omega (arith, length-append a b);
    }

-- ---- numbers

-- The last decimal digit.
decimal_last : (n : ℕ) → decimal 1 n ≡ digit (n % 10) ∷ []
unfolding decimal
decimal_last n = side (dec_lt n 10)
  where
    side : Dec (n < 10) → decimal 1 n ≡ digit (n % 10) ∷ []
    side (yes l) = let e : n ≡ n % 10 = omega arith in decimal_one 0 n l ∙ ap (λ (k : ℕ). digit k ∷ []) e
    side (no g) = decimal_more 0 n (omega arith)

-- Two decimal digits.
decimal_two : (n : ℕ) → 10 ≤ n → n < 100 → decimal 3 n ≡ digit (n / 10 % 10) ∷ digit (n % 10) ∷ []
decimal_two n h l =
    let e : n / 10 ≡ n / 10 % 10 = omega arith in
    decimal_more 2 n h
    ∙ ap (λ (t : List ℕ). t ++ (digit (n % 10) ∷ [])) (decimal_one 1 (n / 10) (omega arith) ∙ ap (λ (k : ℕ). digit k ∷ []) e)

-- Three, or the last three.
decimal_three : (n : ℕ) → 100 ≤ n → decimal 3 n ≡ digit (n / 100 % 10) ∷ digit (n / 10 % 10) ∷ digit (n % 10) ∷ []
decimal_three n h =
    let e : n / 10 / 10 ≡ n / 100 = omega arith in
    decimal_more 2 n (omega arith)
    ∙ ap (λ (t : List ℕ). t ++ (digit (n % 10) ∷ [])) (decimal_more 1 (n / 10) (omega arith))
    ∙ ap (λ (t : List ℕ). t ++ (digit (n / 10 % 10) ∷ []) ++ (digit (n % 10) ∷ [])) (decimal_last (n / 10 / 10) ∙ ap (λ (k : ℕ). digit (k % 10) ∷ []) e)

-- The digits, and the byte that ends them.
module _ {d x : List ℕ} {at r : ℕ} (n end : ℕ) where
  -- Of a number below 10.
  pub put_one : {a : ℕ} → n < 10 → a ≡ digit (n % 10) → Written (a ∷ end ∷ []) at d x r → Written (decimal 3 n ++ (end ∷ [])) at d x r
  put_one {a} l ea w =
      let k : n % 10 ≡ n = omega arith in
      let f : a ≡ digit n = ea ∙ ap digit k in
      rw (decimal_one 2 n l, ← f) w

  -- Of one below 100.
  pub put_two : {a b : ℕ} → 10 ≤ n → n < 100 → a ≡ digit (n / 10 % 10) → b ≡ digit (n % 10) → Written (a ∷ b ∷ end ∷ []) at d x r
      → Written (decimal 3 n ++ (end ∷ [])) at d x r
  put_two h l ea eb w = rw (decimal_two n h l, ← ea, ← eb) w

  -- Of any other.
  pub put_three : {a b c : ℕ} → 100 ≤ n → a ≡ digit (n / 100 % 10) → b ≡ digit (n / 10 % 10) → c ≡ digit (n % 10)
      → Written (a ∷ b ∷ c ∷ end ∷ []) at d x r → Written (decimal 3 n ++ (end ∷ [])) at d x r
  put_three h ea eb ec w = rw (decimal_three n h, ← ea, ← eb, ← ec) w

-- Eight hexadecimal digits between two spaces.
pub put_eight : {d x : List ℕ} {at r a b c e f g h i : ℕ} (n : ℕ)
    → a ≡ digit (n / 0x10000000 % 16) → b ≡ digit (n / 0x1000000 % 16) → c ≡ digit (n / 0x100000 % 16) → e ≡ digit (n / 0x10000 % 16)
    → f ≡ digit (n / 0x1000 % 16) → g ≡ digit (n / 0x100 % 16) → h ≡ digit (n / 0x10 % 16) → i ≡ digit (n % 16)
    → Written (32 ∷ a ∷ b ∷ c ∷ e ∷ f ∷ g ∷ h ∷ i ∷ 32 ∷ []) at d x r
    → Written (ascii " " ++ hexadecimal 8 n ++ ascii " ") at d x r
unfolding ascii hexadecimal
put_eight n ea eb ec ee ef eg eh ei w = rw (div-one n, ← ea, ← eb, ← ec, ← ee, ← ef, ← eg, ← eh, ← ei) w

-- ---- the line

-- Its four parts.
pub line : (kind reply value interrupts : ℕ) {d x y z u : List ℕ} {at i j k r : ℕ} → Written (decimal 3 kind ++ (32 ∷ [])) at d x i
    → Written (get_or reply_words reply []) i x y j → Written (ascii " " ++ hexadecimal 8 value ++ ascii " ") j y z k
    → Written (decimal 3 interrupts ++ (10 ∷ [])) k z u r → Written (line_of kind reply value interrupts) at d u r
unfolding line_of ascii
line kind reply value interrupts a b c e =
    let h : List ℕ = hexadecimal 8 value in
    let i : List ℕ = decimal 3 interrupts in
    let k : List ℕ = decimal 3 kind ++ (32 ∷ []) ++ get_or reply_words reply [] in
    let parts = then (then (then a b) c) e in
    let same : k ++ ((32 ∷ []) ++ h ++ (32 ∷ [])) ++ (i ++ (10 ∷ [])) ≡ k ++ (32 ∷ []) ++ h ++ (32 ∷ []) ++ i ++ (10 ∷ []) = simp append_assoc in
    rw same at parts
