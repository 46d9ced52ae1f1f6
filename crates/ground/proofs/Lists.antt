-- Laws of runs of stores and of parts of lists that are lent, written over and put back. Assumes nothing.
use mathlib.Core.Path.{◌≡◌, refl, sym, ap, ◌∙◌}
use mathlib.Core.List.{List, [], ◌∷◌, ◌++◌, append_assoc}
use Prim.Native.Nat.{ℕ, zero, suc, ◌+◌, ◌-◌, ◌<◌, ◌≤◌}
use native.Mathlib.Nat.{add-zero, add-suc, suc-add}
use native.Mathlib.Omega.{arith}
use lib.ListN.{length, get_or, set, take, drop, length-append, length-drop, length-set, take-append-drop}
use lib.Seq.{sets, sets-eq, get_or-set_same, get_or-set_other, get_or-take, get_or-drop, drop-drop, drop-append-le, drop-append_seam}
use lib.Seq.{drop_at, take-add, take-append-le, take-append_seam, length-take-le, set_comm, set-set}
use Rattle.std.proofs.lemmas.List.{take_more}
use Rattle.ground.specs.Lists.{part, over, put_at}

module _ {A : Type 0} where
  -- An element before a run of stores stays.
  pub get_or_sets_before : (l : List A) (i : ℕ) (vs : List A) (j : ℕ) (d : A) → j < i → get_or (sets l i vs) j d ≡ get_or l j d
  get_or_sets_before l i [] j d h = refl
  get_or_sets_before l i (v ∷ vs) j d h =
      get_or_sets_before (set l i v) (suc i) vs j d (omega arith) ∙ get_or-set_other l i j v d (omega arith)

  -- An element after a run of stores stays.
  pub get_or_sets_after : (l : List A) (i : ℕ) (vs : List A) (j : ℕ) (d : A) → i + length vs ≤ j → get_or (sets l i vs) j d ≡ get_or l j d
  get_or_sets_after l i [] j d h = refl
  get_or_sets_after l i (v ∷ vs) j d h =
      get_or_sets_after (set l i v) (suc i) vs j d (omega arith) ∙ get_or-set_other l i j v d (omega arith)

  -- An element in a run of stores is the one that was stored.
  pub get_or_sets_in : (l : List A) (i : ℕ) (vs : List A) (j : ℕ) (d : A) → j < length vs → i + length vs ≤ length l → get_or (sets l i vs) (i + j) d ≡ get_or vs j d
  get_or_sets_in l i [] j d h k = absurd (omega arith)
  get_or_sets_in l i (v ∷ vs) zero d h k =
      rw (add-zero i) (get_or_sets_before (set l i v) (suc i) vs i d (omega arith) ∙ get_or-set_same l i v d (omega arith))
  get_or_sets_in l i (v ∷ vs) (suc j) d h k =
      rw (add-suc i j, ← suc-add i j) (get_or_sets_in (set l i v) (suc i) vs j d (omega arith) (omega (arith, length-set l i v)))

  -- A run of stores in two parts.
  pub sets_append : (l : List A) (i : ℕ) (a b : List A) → sets l i (a ++ b) ≡ sets (sets l i a) (i + length a) b
  sets_append l i [] b = ap (λ (k : ℕ). sets l k b) (sym (add-zero i))
  sets_append l i (x ∷ a) b =
      sets_append (set l i x) (suc i) a b ∙ ap (λ (k : ℕ). sets (sets l i (x ∷ a)) k b) (omega arith)

  -- A store before a run of stores, in either order.
  set_sets : (l : List A) (i : ℕ) (a : A) (j : ℕ) (vs : List A) → i < j → sets (set l i a) j vs ≡ set (sets l j vs) i a
  set_sets l i a j [] h = refl
  set_sets l i a j (v ∷ vs) h =
      ap (λ (x : List A). sets x (suc j) vs) (set_comm l i j a v (omega arith)) ∙ set_sets (set l j v) i a (suc j) vs (omega arith)

  -- Two runs of stores that do not meet, in either order.
  pub sets_swap : (l : List A) (i : ℕ) (us : List A) (j : ℕ) (vs : List A) → i + length us ≤ j → sets (sets l j vs) i us ≡ sets (sets l i us) j vs
  sets_swap l i [] j vs h = refl
  sets_swap l i (u ∷ us) j vs h =
      ap (λ (x : List A). sets x (suc i) us) (sym (set_sets l i u j vs (omega arith))) ∙ sets_swap (set l i u) (suc i) us j vs (omega arith)

  -- A store in a run that was stored is a store in what is stored.
  pub set_in : (l : List A) (i : ℕ) (vs : List A) (j : ℕ) (v : A) → j < length vs → set (sets l i vs) (i + j) v ≡ sets l i (set vs j v)
  set_in l i [] j v h = absurd (omega arith)
  set_in l i (x ∷ vs) zero v h =
      rw (add-zero i)
      (sets_swap (set l i x) i (v ∷ []) (suc i) vs (omega arith) ∙ ap (λ (t : List A). sets t (suc i) vs) (set-set l i x v))
  set_in l i (x ∷ vs) (suc j) v h = rw (add-suc i j, ← suc-add i j) (set_in (set l i x) (suc i) vs j v (omega arith))

  -- So is a run of stores in it.
  pub sets_in : (l : List A) (i : ℕ) (vs : List A) (j : ℕ) (us : List A) → j + length us ≤ length vs
      → sets (sets l i vs) (i + j) us ≡ sets l i (sets vs j us)
  sets_in l i vs j [] h = refl
  sets_in l i vs j (u ∷ us) h =
      ap (λ (t : List A). sets t (suc (i + j)) us) (set_in l i vs j u (omega arith))
      ∙ rw (← add-suc i j) (sets_in l i (set vs j u) (suc j) us (omega (arith, length-set vs j u)))

  -- A run of stores that fits is what the part at that place comes back as.
  pub sets_put : (l : List A) (i : ℕ) (vs : List A) → i + length vs ≤ length l → sets l i vs ≡ put_at i vs l
  unfolding put_at
  sets_put l i vs h =
      sets-eq vs l i h
      ∙ append_assoc (take i l) vs (drop (i + length vs) l)
      ∙ ap (λ (x : List A). take i l ++ (vs ++ x)) (sym (drop-drop (length vs) i l))

  -- One item more of a copy is stored.
  pub copied_more : (l vs : List A) (at i : ℕ) (v : A) {m : List A} → m ≡ sets l at (take i vs) → i < length vs
      → v ≡ get_or vs i v → set m (at + i) v ≡ sets l at (take (i + 1) vs)
  copied_more l vs at i v e h f =
      let b : List A = take i vs in
      let k : length b ≡ i = length-take-le i vs (omega arith) in
      ap (λ (x : List A). set x (at + i) v) e
      ∙ ap (λ (x : ℕ). set (sets l at b) (at + x) v) (sym k)
      ∙ sym (sets_append l at b (v ∷ []))
      ∙ ap (sets l at) (sym (take_more vs i v h ∙ ap (λ (x : A). b ++ (x ∷ [])) (sym f)))

  -- A part has as many elements as are asked for.
  pub length_part : (a n : ℕ) (d : List A) → a + n ≤ length d → length (part a n d) ≡ n
  length_part a n d h = length-take-le n (drop a d) (simp length-drop (omega arith))

  -- An element of a part is the one at its place in the whole.
  pub get_or_part : (a n : ℕ) (l : List A) (j : ℕ) (d : A) → j < n → get_or (part a n l) j d ≡ get_or l (a + j) d
  get_or_part a n l j d h = get_or-take n (drop a l) j d h ∙ get_or-drop a l j d

  -- A part in two.
  pub part_add : (a n m : ℕ) (l : List A) → part a (n + m) l ≡ part a n l ++ part (a + n) m l
  part_add a n m l = take-add n m (drop a l) ∙ ap (λ (x : List A). part a n l ++ take m x) (drop-drop n a l)

  -- What holds of each element, and of what stands for those that are not there, holds of each of the first n.
  take_holds : (P : A → Type 0) (n : ℕ) (l : List A) (d : A) → P d → ((i : ℕ) → P (get_or l i d)) → (i : ℕ) → P (get_or (take n l) i d)
  take_holds P zero l d p h i = p
  take_holds P (suc n) [] d p h i = p
  take_holds P (suc n) (x ∷ l) d p h zero = h zero
  take_holds P (suc n) (x ∷ l) d p h (suc i) = take_holds P n l d p (λ j. h (suc j)) i

  -- It holds of each of a part.
  pub part_holds : (P : A → Type 0) (a n : ℕ) (l : List A) (d : A) → P d → ((i : ℕ) → P (get_or l i d)) → (i : ℕ) → P (get_or (part a n l) i d)
  part_holds P a n l d p h = take_holds P n (drop a l) d p (λ i. rw (get_or-drop a l i d) (h (a + i)))

  -- A list written over keeps its length.
  pub length_over : (p d : List A) → length p ≤ length d → length (over p d) ≡ length d
  unfolding over
  length_over p d h = simp (length-append, length-drop) (omega arith)

  -- What is written at place 0 is written over the start.
  pub put_first : (p d : List A) → put_at 0 p d ≡ over p d
  unfolding put_at over
  put_first p d = refl

  -- The part that was written at a place.
  pub part_put : (a : ℕ) (ys d : List A) → a ≤ length d → part a (length ys) (put_at a ys d) ≡ ys
  unfolding put_at
  part_put a ys d h =
      let r : List A = drop (length ys) (drop a d) in
      ap (take (length ys)) (drop_at (take a d) (ys ++ r) a (length-take-le a d h)) ∙ take-append_seam ys r

  -- The part of a list that ends in its first a elements is one of these.
  inside : (b n a : ℕ) (d r : List A) → b + n ≤ a → a ≤ length d → part b n (take a d ++ r) ≡ part b n (take a d)
  inside b n a d r h k =
      let l : length (take a d) ≡ a = length-take-le a d k in
      ap (take n) (drop-append-le b (take a d) r (omega arith))
      ∙ take-append-le n (drop b (take a d)) r (simp length-drop (omega arith))

  -- A part before the place that is written stays.
  pub part_put_before : (b n a : ℕ) (ys d : List A) → b + n ≤ a → a ≤ length d → part b n (put_at a ys d) ≡ part b n d
  unfolding put_at
  part_put_before b n a ys d h k =
      inside b n a d (ys ++ drop (length ys) (drop a d)) h k
      ∙ sym (inside b n a d (drop a d) h k)
      ∙ ap (part b n) (take-append-drop a d)

  -- A part after what is written stays.
  pub part_put_after : (b n a : ℕ) (ys d : List A) → a + length ys ≤ b → a ≤ length d → part b n (put_at a ys d) ≡ part b n d
  unfolding put_at
  part_put_after b n a ys d h k =
      let r : List A = drop (length ys) (drop a d) in
      let c : ℕ = b - (a + length ys) in
      let e : b ≡ a + length ys + c = omega arith in
      let cut : (l : List A) → drop b l ≡ drop c (drop (length ys) (drop a l)) =
      λ l. ap (λ (x : ℕ). drop x l) e ∙ sym (drop-drop c (a + length ys) l) ∙ ap (drop c) (sym (drop-drop (length ys) a l)) in
      let rest : drop (length ys) (drop a (take a d ++ (ys ++ r))) ≡ r =
      ap (drop (length ys)) (drop_at (take a d) (ys ++ r) a (length-take-le a d k)) ∙ drop-append_seam ys r in
      ap (take n) (cut (take a d ++ (ys ++ r)) ∙ ap (drop c) rest ∙ sym (cut d))

  -- A run of stores from the start on, where it fits, is written over the start.
  pub sets_first : (p d : List A) → length p ≤ length d → sets d 0 p ≡ over p d
  sets_first p d h = sets_put d 0 p (omega arith) ∙ put_first p d

  -- The part that a run of stores stored.
  pub part_sets : (l : List A) (i : ℕ) (vs : List A) → i + length vs ≤ length l → part i (length vs) (sets l i vs) ≡ vs
  part_sets l i vs h = ap (part i (length vs)) (sets_put l i vs h) ∙ part_put i vs l (omega arith)

  -- A part before a run of stores stays.
  pub part_sets_before : (b n : ℕ) (l : List A) (i : ℕ) (vs : List A) → b + n ≤ i → i + length vs ≤ length l → part b n (sets l i vs) ≡ part b n l
  part_sets_before b n l i vs h k = ap (part b n) (sets_put l i vs k) ∙ part_put_before b n i vs l h (omega arith)
