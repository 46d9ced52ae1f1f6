-- Laws of the fields of a word, over every place, width and layout. Assumes nothing.
use mathlib.Core.Path.{◌≡◌, refl, sym, ap, ap₂, ◌∙◌}
use mathlib.Core.Bool.{Bool, true, false}
use mathlib.Core.List.{List, [], ◌∷◌}
use Prim.Native.Nat.{ℕ, zero, suc, ◌+◌, ◌-◌, ◌*◌, ◌/◌, ◌%◌, ◌^◌, ◌<◌, ◌≤◌}
use native.Mathlib.Nat.{mod-lt, mod-eq_of_lt, mul-add-mod_self_right, div-one, zero-mul, zero-add}
use native.Mathlib.Omega.{arith}
use lib.Arith.{digits_lt}
use lib.Dec.{eqb}
use lib.Pow.{pow_pos, pow-add, high, low, split, mod-pow-add, mod-mod-pow, shr-shr}
use lib.Pow.{field as digits}
use Rattle.ground.specs.Field.{field, flag, bit, without, with_field, width, pack, unpack}

-- A field is a quotient's remainder, at place 0 too.
pub field_eq : (k j w : ℕ) → field k j w ≡ w / 2 ^ k % 2 ^ j
field_eq zero j w = ap (λ (x : ℕ). x % 2 ^ j) (sym (div-one w))
field_eq (suc k) j w = refl

-- A field of j bits is below 2 ^ j.
pub field_lt : (k j w : ℕ) → field k j w < 2 ^ j
field_lt k j w = rw (field_eq k j w) (mod-lt (w / 2 ^ k) (pow_pos j))

-- There is a value for each field of a layout, and each fits its field.
pub data Fit : List ℕ → List ℕ → Type 0 where
  none : Fit [] []
  more : {j v : ℕ} {js vs : List ℕ} → v < 2 ^ j → Fit js vs → Fit (j ∷ js) (v ∷ vs)

-- A packed word fits the layout's width.
pub pack_lt : {js vs : List ℕ} → Fit js vs → pack js vs < 2 ^ width js
pack_lt none = pow_pos 0
pack_lt (more {j} {js = js} h f) = rw (pow-add 2 j (width js)) (digits_lt h (pack_lt f))

-- The fields of a packed word are the values, whatever stands above it.
above : {js vs : List ℕ} (h : ℕ) → Fit js vs → unpack js (h * 2 ^ width js + pack js vs) ≡ vs
above h none = refl
above h (more {j} {v} {js} {vs} l f) =
    let t : ℕ = width js in
    let p : ℕ = pack js vs in
    let e : h * 2 ^ (j + t) + (v * 2 ^ t + p) ≡ (h * 2 ^ j + v) * 2 ^ t + p = rw (pow-add 2 j t) (omega arith) in
    rw e
    (ap₂ {C = List ℕ} ◌∷◌
    (field_eq t j ((h * 2 ^ j + v) * 2 ^ t + p) ∙ ap (λ (x : ℕ). x % 2 ^ j) (high (h * 2 ^ j + v) t (pack_lt f)) ∙ low h j l)
    (above (h * 2 ^ j + v) f))

-- Unpacking what was packed gives the values.
pub unpack_pack : {js vs : List ℕ} → Fit js vs → unpack js (pack js vs) ≡ vs
unpack_pack {js} {vs} f =
    ap (unpack js) (sym (ap (λ (x : ℕ). x + pack js vs) (zero-mul (2 ^ width js)) ∙ zero-add (pack js vs))) ∙ above 0 f

-- Packing what was unpacked gives the word's bits that the layout covers.
pub pack_unpack_mod : (js : List ℕ) (w : ℕ) → pack js (unpack js w) ≡ w % 2 ^ width js
pack_unpack_mod [] w = omega arith
pack_unpack_mod (j ∷ js) w = rw (field_eq (width js) j w, pack_unpack_mod js w) (sym (mod-pow-add w j (width js)))

-- Packing what was unpacked gives the word, where the layout covers it.
pub pack_unpack : (js : List ℕ) (w : ℕ) → w < 2 ^ width js → pack js (unpack js w) ≡ w
pack_unpack js w h = pack_unpack_mod js w ∙ mod-eq_of_lt h

-- A field is the upper part of the bits up to its end.
low_digits : (k j w : ℕ) → field k j w ≡ w % 2 ^ (j + k) / 2 ^ k
low_digits k j w = field_eq k j w ∙ sym (digits w j k)

-- A field that lies in what is below.
pub field_below : (k j d v p : ℕ) → field k j (v * 2 ^ (d + (j + k)) + p) ≡ field k j p
field_below k j d v p =
    let m : ℕ = 2 ^ (j + k) in
    let e : v * 2 ^ (d + (j + k)) + p ≡ v * 2 ^ d * m + p = rw (pow-add 2 d (j + k)) (omega arith) in
    low_digits k j (v * 2 ^ (d + (j + k)) + p)
    ∙ ap (λ (x : ℕ). x / 2 ^ k) (ap (λ (x : ℕ). x % m) e ∙ mul-add-mod_self_right (v * 2 ^ d) m p)
    ∙ sym (low_digits k j p)

-- A field of a field is a field.
pub field_field : (k j d l w : ℕ) → field k j (field l (d + (j + k)) w) ≡ field (l + k) j w
field_field k j d l w =
    let y : ℕ = w / 2 ^ l in
    ap (field k j) (field_eq l (d + (j + k)) w)
    ∙ low_digits k j (y % 2 ^ (d + (j + k)))
    ∙ ap (λ (x : ℕ). x / 2 ^ k) (mod-mod-pow y d (j + k))
    ∙ digits y j k
    ∙ ap (λ (x : ℕ). x % 2 ^ j) (shr-shr w l k)
    ∙ sym (field_eq (l + k) j w)

-- Clearing a field is setting it to 0.
pub with_none : (k j w : ℕ) → with_field k j 0 w ≡ without k j w
with_none k j w = omega arith

-- A word with a field set: what stands above the field's end, and what stands below it.
with_cut : (k j v w : ℕ) → with_field k j v w ≡ w / 2 ^ (k + j) * 2 ^ (k + j) + (v * 2 ^ k + w % 2 ^ k)
with_cut k j v w = omega arith

-- A word with a field set: what stands above the field's start, and what stands below it.
with_eq : (k j v w : ℕ) → with_field k j v w ≡ (w / 2 ^ (k + j) * 2 ^ j + v) * 2 ^ k + w % 2 ^ k
with_eq k j v w =
    let q : ℕ = w / 2 ^ (k + j) in
    let e : q * 2 ^ (k + j) ≡ q * 2 ^ j * 2 ^ k = rw (pow-add 2 k j) (omega arith) in
    omega arith

-- What is set and what stands below it end where the field ends.
low_lt : (k j v w : ℕ) → v < 2 ^ j → v * 2 ^ k + w % 2 ^ k < 2 ^ (k + j)
low_lt k j v w h =
    let e : 2 ^ (k + j) ≡ 2 ^ j * 2 ^ k = rw (pow-add 2 k j) (omega arith) in
    rw e (digits_lt h (mod-lt w (pow_pos k)))

-- The bits above a field stay where it is set.
pub with_div : (k j v w : ℕ) → v < 2 ^ j → with_field k j v w / 2 ^ (k + j) ≡ w / 2 ^ (k + j)
with_div k j v w h = ap (λ (x : ℕ). x / 2 ^ (k + j)) (with_cut k j v w) ∙ high (w / 2 ^ (k + j)) (k + j) (low_lt k j v w h)

-- The bits below a field stay where it is set.
pub with_mod : (k j v w : ℕ) → with_field k j v w % 2 ^ k ≡ w % 2 ^ k
with_mod k j v w =
    ap (λ (x : ℕ). x % 2 ^ k) (with_eq k j v w) ∙ low (w / 2 ^ (k + j) * 2 ^ j + v) k (mod-lt w (pow_pos k))

-- The field that is set has the value.
pub with_same : (k j v w : ℕ) → v < 2 ^ j → field k j (with_field k j v w) ≡ v
with_same k j v w h =
    let q : ℕ = w / 2 ^ (k + j) in
    field_eq k j (with_field k j v w)
    ∙ ap (λ (x : ℕ). x % 2 ^ j) (ap (λ (x : ℕ). x / 2 ^ k) (with_eq k j v w) ∙ high (q * 2 ^ j + v) k (mod-lt w (pow_pos k)))
    ∙ low q j h

-- A field from the end of the one that is set on stays.
pub with_above : (k j i l v w : ℕ) → k + j ≤ i → v < 2 ^ j → field i l (with_field k j v w) ≡ field i l w
with_above k j i l v w h f =
    let t : ℕ = k + j in
    let e : i ≡ t + (i - t) = omega arith in
    let x : ℕ = with_field k j v w in
    let cut : (y : ℕ) → field (t + (i - t)) l y ≡ field (i - t) l (y / 2 ^ t) =
    λ y. field_eq (t + (i - t)) l y ∙ ap (λ (z : ℕ). z % 2 ^ l) (sym (shr-shr y t (i - t))) ∙ sym (field_eq (i - t) l (y / 2 ^ t)) in
    ap (λ (n : ℕ). field n l x) e ∙ cut x ∙ ap (field (i - t) l) (with_div k j v w f) ∙ sym (cut w) ∙ ap (λ (n : ℕ). field n l w) (sym e)

-- A field up to the start of the one that is set stays.
pub with_below : (k j i l v w : ℕ) → i + l ≤ k → field i l (with_field k j v w) ≡ field i l w
with_below k j i l v w h =
    let d : ℕ = k - (l + i) in
    let e : k ≡ d + (l + i) = omega arith in
    let cut : (y : ℕ) → field i l y ≡ field i l (y % 2 ^ k) =
    λ y. ap (field i l) (sym (split y k)) ∙ ap (λ (n : ℕ). field i l (y / 2 ^ k * 2 ^ n + y % 2 ^ k)) e ∙ field_below i l d (y / 2 ^ k) (y % 2 ^ k) in
    cut (with_field k j v w) ∙ ap (field i l) (with_mod k j v w) ∙ sym (cut w)

-- The field that is cleared is 0.
pub without_same : (k j w : ℕ) → field k j (without k j w) ≡ 0
without_same k j w = ap (field k j) (sym (with_none k j w)) ∙ with_same k j 0 w (pow_pos j)

-- A field from the end of the one that is cleared on stays.
pub without_above : (k j i l w : ℕ) → k + j ≤ i → field i l (without k j w) ≡ field i l w
without_above k j i l w h = ap (field i l) (sym (with_none k j w)) ∙ with_above k j i l 0 w h (pow_pos j)

-- A field up to the start of the one that is cleared stays.
pub without_below : (k j i l w : ℕ) → i + l ≤ k → field i l (without k j w) ≡ field i l w
without_below k j i l w h = ap (field i l) (sym (with_none k j w)) ∙ with_below k j i l 0 w h

-- A bit fits one bit.
pub bit_lt : (b : Bool) → bit b < 2
bit_lt true = omega arith
bit_lt false = omega arith

-- The test of a bit for a test is the test.
pub bit_test : (b : Bool) → eqb (bit b) 1 ≡ b
bit_test true = refl
bit_test false = refl

-- The flag of a bit that is set by a test is the test.
pub flag_with : (k w : ℕ) (b : Bool) → flag k (with_field k 1 (bit b) w) ≡ b
flag_with k w b = ap (λ (x : ℕ). eqb x 1) (with_same k 1 (bit b) w (bit_lt b)) ∙ bit_test b

-- A number below 2 is the bit of the test that it is 1.
test_bit : (n : ℕ) → n < 2 → bit (eqb n 1) ≡ n
test_bit zero h = refl
test_bit (suc zero) h = refl
test_bit (suc (suc n)) h = omega arith

-- The bit of a flag is the field of that one bit.
pub bit_flag : (k w : ℕ) → bit (flag k w) ≡ field k 1 w
bit_flag k w = test_bit (field k 1 w) (field_lt k 1 w)
