-- Each descriptor that is active keeps the go rule, whatever is written, sent or marked. Assumes nothing.
use Prim.Native.Nat.{ℕ, ◌+◌, ◌-◌, ◌*◌, ◌%◌, min, ◌<◌, ◌≤◌}
use mathlib.Core.Path.{◌≡◌, refl, sym, ap, ◌∙◌}
use mathlib.Core.Logic.{◌≢◌, ◌⊎◌, inl, inr}
use mathlib.Core.Bool.{Bool, true, false, not, ◌&&◌, ◌||◌, true≢false}
use mathlib.Core.List.{List, [], ◌∷◌}
use native.Mathlib.Omega.{arith}
use native.Mathlib.Decide.{dec_lt, ℕ_discrete}
use lib.Dec.{eqb, ltb, leb}
use lib.ListN.{length, get_or, set, length-set}
use lib.Seq.{sets, length-sets, get_or-set_same, get_or-set_other}
use borrow.Author.Tests.{eqb-true, eq-eqb, ne_eqb, leb-false, le-leb, not-true}
use Rattle.ground.specs.Choice.{pick}
use Rattle.ground.specs.Field.{field, flag, without}
use Rattle.ground.proofs.Choice.{pick_yes, pick_no}
use Rattle.ground.proofs.Field.{with_below, without_above, flag_with}
use Rattle.ground.proofs.Lists.{get_or_sets_before, get_or_sets_after, get_or_sets_in}
use Rattle.ground.proofs.Tests.{and_both, and_no_left, and_no_right, or_first, or_yes, or_neither, not_no}
use Rattle.rules.specs.Words.{note_index, is_ack_pkt, reserved_bit, offset, is_direct_io, is_control_pkt, notifies, goes, meta_flag, meta_count, msg_size, most24}
use Rattle.rules.specs.Memory.{descriptor, descriptor_first, descriptor_size, descriptor_word, descriptors, lists}
use Rattle.rules.specs.Sending.{descriptor_at, store_descriptor, is_done, is_active, address_ok, message_size_ok, go_rule, started, next_payload, is_last, after_packet, mark_stalled, with_stalled, without_stalled, with_done}
use Rattle.rules.specs.Writes.{descriptor_word_fixed, starts, stops}
use Rattle.rules.specs.Sound.{descriptor_ok}
use Rattle.laws.specs.Sound.{Direct, Message}
use Rattle.laws.proofs.Sound.{tests, going}
use Rattle.demands.specs.Types.{DescriptorIndex, Descriptor}
use Rattle.demands.proofs.Sums.{at_each}

-- Each descriptor that is active keeps the go rule, with a data memory of n bytes.
abbrev pub Rules : List ℕ → ℕ → Type 0
Rules send n = (d : ℕ) → d < descriptors → descriptor_ok n (descriptor_at send (descriptor d)) ≡ true

-- A descriptor with another status2.
abbrev with_status : ℕ → Descriptor → Descriptor
with_status w d =
    record {
      msgaddress = d.msgaddress;
      address0 = d.address0;
      address1 = d.address1;
      control0 = d.control0;
      bytestogo = d.bytestogo;
      control1 = d.control1;
      status2 = w;
      metadata = d.metadata;
    }

-- The words of a descriptor are the same but for its status2.
descriptor_but : (send send' : List ℕ) (d : DescriptorIndex) (w : ℕ) → get_or send' (descriptor_word d 6) 0 ≡ w
    → ((j : ℕ) → descriptor_first d ≤ j → j < descriptor_first d + 16 → j ≢ descriptor_word d 6 → get_or send' j 0 ≡ get_or send j 0)
    → descriptor_at send' d ≡ with_status w (descriptor_at send d)
unfolding descriptor_at
descriptor_but send send' d w e h =
    let at : (k : ℕ) → k < 16 → k ≢ 6 → get_or send' (descriptor_word d k) 0 ≡ get_or send (descriptor_word d k) 0 =
    λ k lt six. h (descriptor_word d k) (omega arith) (omega arith) (omega arith) in
    λ i. record {
      msgaddress = h (descriptor_first d) (omega arith) (omega arith) (omega arith) i;
      address0 = at 1 (omega arith) (omega arith) i;
      address1 = at 2 (omega arith) (omega arith) i;
      control0 = at 3 (omega arith) (omega arith) i;
      bytestogo = at 4 (omega arith) (omega arith) i;
      control1 = at 5 (omega arith) (omega arith) i;
      status2 = e i;
      metadata = record {
        a = at 8 (omega arith) (omega arith) i;
        b = h (descriptor_word d 8 + 1) (omega arith) (omega arith) (omega arith) i;
        c = h (descriptor_word d 8 + 2) (omega arith) (omega arith) (omega arith) i;
        d = h (descriptor_word d 8 + 3) (omega arith) (omega arith) (omega arith) i;
      };
    }

-- All of them are the same.
descriptor_same : (send send' : List ℕ) (d : DescriptorIndex) → ((j : ℕ) → descriptor_first d ≤ j → j < descriptor_first d + 16 → get_or send' j 0 ≡ get_or send j 0)
    → descriptor_at send' d ≡ descriptor_at send d
unfolding descriptor_at
descriptor_same send send' d h =
    descriptor_but send send' d (get_or send (descriptor_word d 6) 0) (h (descriptor_word d 6) (omega arith) (omega arith)) (λ j low high _. h j low high)

-- Stores from word i on leave the descriptors that they do not reach.
sets_others : (send : List ℕ) (i : ℕ) (vs : List ℕ) (n : ℕ) → Rules send n → (d : ℕ) → d < descriptors
    → (i + length vs ≤ descriptor_size * d) ⊎ (descriptor_size * d + descriptor_size ≤ i) → descriptor_ok n (descriptor_at (sets send i vs) (descriptor d)) ≡ true
sets_others send i vs n h d lt (inl below) =
    rw (descriptor_same send (sets send i vs) (descriptor d) (λ j low high. get_or_sets_after send i vs j 0 (omega arith))) (h d lt)
sets_others send i vs n h d lt (inr above) =
    rw (descriptor_same send (sets send i vs) (descriptor d) (λ j low high. get_or_sets_before send i vs j 0 (omega arith))) (h d lt)

-- Stores inside one descriptor keep the rules where it keeps its own.
pub sets_rules : (send : List ℕ) (e : DescriptorIndex) (i : ℕ) (vs : List ℕ) (n : ℕ) → descriptor_first e ≤ i → i + length vs ≤ descriptor_first e + 16
    → Rules send n → descriptor_ok n (descriptor_at (sets send i vs) e) ≡ true → Rules (sets send i vs) n
sets_rules send e i vs n low high h own =
    at_each (λ d. d < descriptors → descriptor_ok n (descriptor_at (sets send i vs) (descriptor d)) ≡ true) e.0
    (λ lt. own) (λ d apart lt. sets_others send i vs n h d lt (side d apart (dec_lt d e.0)))
  where
    side : (d : ℕ) → d ≢ e.0 → Dec (d < e.0) → (i + length vs ≤ descriptor_size * d) ⊎ (descriptor_size * d + descriptor_size ≤ i)
    side d apart (yes lt) = inr (omega arith)
    side d apart (no ge) = inl (omega arith)

-- A word of DIO.
pub direct_rules : (send : List ℕ) (i v n : ℕ) → 64 ≤ i → Rules send n → Rules (set send i v) n
direct_rules send i v n h rules d lt = sets_others send i (v ∷ []) n rules d lt (inr (omega arith))

-- What is stored of a descriptor: its words 0 to 6.
abbrev first_words : Descriptor → List ℕ
first_words v = v.msgaddress ∷ v.address0 ∷ v.address1 ∷ v.control0 ∷ v.bytestogo ∷ v.control1 ∷ v.status2 ∷ []

-- A descriptor that is stored is read back.
stored : (send : List ℕ) (e : DescriptorIndex) (v : Descriptor) → length send ≡ 1024 → e.0 < descriptors → v.metadata ≡ (descriptor_at send e).metadata
    → descriptor_at (store_descriptor send e v) e ≡ v
unfolding descriptor_at store_descriptor
stored send e v size lt m =
    let vs : List ℕ = first_words v in
    let at : (k : ℕ) → k < 7 → get_or (sets send (descriptor_first e) vs) (descriptor_first e + k) 0 ≡ get_or vs k 0 =
    λ k h. get_or_sets_in send (descriptor_first e) vs k 0 h (omega arith) in
    let past : (j : ℕ) → descriptor_first e + 7 ≤ j → get_or (sets send (descriptor_first e) vs) j 0 ≡ get_or send j 0 =
    λ j h. get_or_sets_after send (descriptor_first e) vs j 0 h in
    let zero_word : descriptor_first e + 0 ≡ descriptor_first e = omega arith in
    (λ i. record {
      msgaddress = (rw zero_word at (at 0 (omega arith))) i;
      address0 = at 1 (omega arith) i;
      address1 = at 2 (omega arith) i;
      control0 = at 3 (omega arith) i;
      bytestogo = at 4 (omega arith) i;
      control1 = at 5 (omega arith) i;
      status2 = at 6 (omega arith) i;
      metadata = record {
        a = past (descriptor_word e 8) (omega arith) i;
        b = past (descriptor_word e 8 + 1) (omega arith) i;
        c = past (descriptor_word e 8 + 2) (omega arith) i;
        d = past (descriptor_word e 8 + 3) (omega arith) i;
      };
    })
    ∙ (λ i. record {
      msgaddress = v.msgaddress;
      address0 = v.address0;
      address1 = v.address1;
      control0 = v.control0;
      bytestogo = v.bytestogo;
      control1 = v.control1;
      status2 = v.status2;
      metadata = sym m i;
    })

-- A store keeps the length of Send RAM, and the rules where the new descriptor keeps its own.
pub store_length : (send : List ℕ) (e : DescriptorIndex) (v : Descriptor) → length (store_descriptor send e v) ≡ length send
unfolding store_descriptor
store_length send e v = length-sets send (descriptor_first e) (first_words v)

pub store_rules : (send : List ℕ) (e : DescriptorIndex) (v : Descriptor) (n : ℕ) → length send ≡ 1024 → e.0 < descriptors
    → v.metadata ≡ (descriptor_at send e).metadata → Rules send n → descriptor_ok n v ≡ true → Rules (store_descriptor send e v) n
unfolding store_descriptor
store_rules send e v n size lt m rules own =
    sets_rules send e (descriptor_first e) (first_words v) n (omega arith) (omega arith) rules (rw (stored send e v size lt m) own)

-- ---- one descriptor

-- One that is not active keeps it.
pub idle : (n : ℕ) (d : Descriptor) → is_active d ≡ false → descriptor_ok n d ≡ true
unfolding descriptor_ok
idle n d e = ap (λ (t : Bool). not t || go_rule d d.control1 d.bytestogo n) e

-- So does one for which it holds.
ruled : (n : ℕ) (d : Descriptor) → go_rule d d.control1 d.bytestogo n ≡ true → descriptor_ok n d ≡ true
unfolding descriptor_ok
ruled n d e = or_yes (not (is_active d)) e

-- A word written: the descriptor is not active then.
pub word_rules : (send : List ℕ) (e : DescriptorIndex) (k v n : ℕ) → length send ≡ 1024 → e.0 < descriptors → k < 16 → descriptor_word_fixed k ≡ false
    → (not (is_active (descriptor_at send e)) || stops k v) ≡ true → starts k v ≡ false → Rules send n → Rules (set send (descriptor_word e k) v) n
unfolding descriptor_at
word_rules send e k v n size lt few free still stay rules =
    sets_rules send e (descriptor_word e k) (v ∷ []) n (omega arith) (omega arith) rules
    (idle n (descriptor_at (set send (descriptor_word e k) v) e) (go (ℕ_discrete k 5)))
  where
    go : Dec (k ≡ 5) → is_active (descriptor_at (set send (descriptor_word e k) v) e) ≡ false
    go (yes five) =
        let here : get_or (set send (descriptor_word e k) v) (descriptor_word e 5) 0 ≡ v = rw five (get_or-set_same send (descriptor_word e 5) v 0 (omega arith)) in
        let go-bit : goes v ≡ false = rw (eq-eqb k 5 five) at stay in
        rw here (and_no_left (goes v) _ go-bit)
    go (no d) =
        let x : ℕ = descriptor_word e k in
        let status : k ≢ 6 = λ z. true≢false (sym (rw z (refl)) ∙ free) in
        let five : get_or (set send x v) (descriptor_word e 5) 0 ≡ get_or send (descriptor_word e 5) 0 = get_or-set_other send x (descriptor_word e 5) v 0 (omega arith) in
        let six : get_or (set send x v) (descriptor_word e 6) 0 ≡ get_or send (descriptor_word e 6) 0 = get_or-set_other send x (descriptor_word e 6) v 0 (omega arith) in
        let no_stop : stops k v ≡ false = and_no_left (eqb k 5) (not (goes v)) (ne_eqb k 5 d) in
        rw (five, six) (not-true _ (or_first _ (stops k v) still no_stop))

-- A start.
pub start_rules : (send : List ℕ) (e : DescriptorIndex) (v n : ℕ) → length send ≡ 1024 → e.0 < descriptors → go_rule (descriptor_at send e) v (msg_size v) n ≡ true
    → Rules send n → Rules (store_descriptor send e (started v (descriptor_at send e))) n
unfolding started go_rule message_size_ok
start_rules send e v n size lt rule rules =
    store_rules send e (started v (descriptor_at send e)) n size lt refl rules (ruled n (started v (descriptor_at send e)) rule)

-- ---- a packet sent

-- A word's upper bits, where what is added stays in the lower ones.
module _ (w n : ℕ) (room : offset w + n ≤ most24) where
  after_offset : offset (without 30 2 w + n) ≡ offset w + n
  after_offset = omega arith

  after_reserved : reserved_bit (without 30 2 w + n) ≡ reserved_bit w
  after_reserved = omega arith

  after_ack : field 29 1 (without 30 2 w + n) ≡ field 29 1 w
  after_ack = omega arith

-- The next part of a range lies in it.
next_range : (direct : Bool) (at size n : ℕ) → 128 ≤ size → (direct ≡ false → at + size ≤ n) → (direct ≡ true → Direct at size)
    → address_ok direct (at + 128) (size - 128) n ≡ true
next_range true at size n h inside dio =
    let k : Direct at size = dio refl in
    and_both (and_both (eq-eqb ((at + 128) % 4) 0 (omega (arith, k.whole))) (le-leb 256 (at + 128) (omega (arith, k.least))))
    (le-leb (at + 128 + (size - 128)) 4096 (omega (arith, k.most)))
next_range false at size n h inside dio = ap (λ (t : Bool). t || false) (le-leb (at + 128 + (size - 128)) n (omega (arith, inside refl)))

-- The go rule after a packet that is not the last.
next_rule : (n : ℕ) (d : Descriptor) → is_last d ≡ false → go_rule d d.control1 d.bytestogo n ≡ true
    → go_rule (after_packet d) (after_packet d).control1 (after_packet d).bytestogo n ≡ true
unfolding after_packet go_rule message_size_ok next_payload is_last
next_rule n d more rule =
    let c0 : ℕ = d.control0 in
    let c1 : ℕ = d.control1 in
    let c1' : ℕ = without 24 4 c1 in
    let size : ℕ = d.bytestogo in
    let plain : is_control_pkt c1 ≡ false = (or_neither (is_control_pkt c1) (leb size 128) more).0 in
    let long : 128 < size = leb-false size 128 (or_neither (is_control_pkt c1) (leb size 128) more).1 in
    let payload : pick (is_control_pkt c1) 0 (min 128 size) ≡ 128 = pick_no 0 (min 128 size) plain ∙ omega arith in
    let k : Message d c1 size n = (going d c1 size n rule).message plain in
    let fours : size % 4 ≡ 0 = k.words in
    let fits : offset c0 + size ≤ most24 = k.offset in
    let ack : is_ack_pkt c0 ≡ false =
    not-true (is_ack_pkt c0) (or_first (not (is_ack_pkt c0)) (is_control_pkt c1 && not (meta_flag c1)) (search tests depth 20) (and_no_left (is_control_pkt c1) _ plain)) in
    let reserved : reserved_bit c0 ≡ 0 = eqb-true (reserved_bit c0) 0 (search tests depth 20) in
    let noted : (not (notifies c1) || ltb (note_index d.address1) lists) ≡ true = search tests depth 20 in
    let room : offset c0 + 128 ≤ most24 = omega arith in
    let count : meta_count c1' ≡ 0 = omega arith in
    let none : field 27 1 c1' ≡ 0 = omega arith in
    let kept : (k : ℕ) → 28 ≤ k → flag k c1' ≡ flag k c1 = λ k h. ap (λ (x : ℕ). eqb x 1) (without_above 24 4 k 1 c1 h) in
    rw payload
    (and_both (and_both (and_both (and_both
    (λ i. leb (count i) 4 && (eqb (none i) 1 || eqb (count i) 0))
    (eq-eqb (reserved_bit (without 30 2 c0 + 128)) 0 (after_reserved c0 128 room ∙ reserved)))
    (λ i. not ((ap (λ (x : ℕ). eqb x 1) (after_ack c0 128 room) ∙ ack) i) || (is_control_pkt c1' && not (meta_flag c1'))))
    ((λ i. not (kept 29 (omega arith) i) || ltb (note_index d.address1) lists) ∙ noted))
    ((λ i. (kept 30 (omega arith) ∙ plain) i || (eqb ((size - 128) % 4) 0 && leb (offset (without 30 2 c0 + 128) + (size - 128)) most24
    && address_ok (kept 31 (omega arith) i) (d.msgaddress + 128) (size - 128) n))
    ∙ and_both (and_both
    (eq-eqb ((size - 128) % 4) 0 (omega arith))
    (le-leb (offset (without 30 2 c0 + 128) + (size - 128)) most24 (omega (arith, after_offset c0 128 room))))
    (next_range (is_direct_io c1) d.msgaddress size n (omega arith) k.bytes k.direct)))

-- A packet sent.
pub sent_rules : (send : List ℕ) (e : DescriptorIndex) (n : ℕ) → length send ≡ 1024 → e.0 < descriptors
    → go_rule (descriptor_at send e) (descriptor_at send e).control1 (descriptor_at send e).bytestogo n ≡ true
    → Rules send n → Rules (store_descriptor send e (after_packet (descriptor_at send e))) n
unfolding after_packet
sent_rules send e n size lt rule rules =
    let d : Descriptor = descriptor_at send e in
    store_rules send e (after_packet d) n size lt refl rules (go d rule (is_last d) refl)
  where
    go : (d : Descriptor) → go_rule d d.control1 d.bytestogo n ≡ true → (t : Bool) → is_last d ≡ t → descriptor_ok n (after_packet d) ≡ true
    go d rule true e =
        idle n (after_packet d)
        (and_no_right (goes (after_packet d).control1) _
        (not_no (ap is_done (pick_yes (with_done (without_stalled d.status2)) (without_stalled d.status2) e) ∙ flag_with 29 (without_stalled d.status2) true)))
    go d rule false e = ruled n (after_packet d) (next_rule n d e rule)

-- A stalled mark.
pub mark_length : (send : List ℕ) (e : DescriptorIndex) → length (mark_stalled send e) ≡ length send
unfolding mark_stalled
mark_length send e = length-set send (descriptor_word e 6) _

pub mark_rules : (send : List ℕ) (e : DescriptorIndex) (n : ℕ) → length send ≡ 1024 → e.0 < descriptors → Rules send n → Rules (mark_stalled send e) n
unfolding mark_stalled descriptor_ok go_rule message_size_ok
mark_rules send e n size lt rules =
    let d : Descriptor = descriptor_at send e in
    let w : ℕ = with_stalled d.status2 in
    let x : ℕ = descriptor_word e 6 in
    let done : field 29 1 w ≡ field 29 1 d.status2 = with_below 30 1 29 1 1 d.status2 (omega arith) in
    sets_rules send e x (w ∷ []) n (omega arith) (omega arith) rules
    (rw (descriptor_but send (set send x w) e w (get_or-set_same send x w 0 (omega arith)) (λ j low high apart. get_or-set_other send x j w 0 apart))
    ((λ i. not (goes d.control1 && not (eqb (done i) 1)) || go_rule d d.control1 d.bytestogo n) ∙ rules e.0 lt))
