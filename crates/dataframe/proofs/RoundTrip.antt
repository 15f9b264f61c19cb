-- What is written is read back; what reads with answer 0 is what writing its fields gives; different fields give different frames. All over the
-- definitions, for both forms and every size. Assumes nothing.
use mathlib.Core.Path.{◌≡◌, refl, sym, ap, ap₂, ◌∙◌, subst}
use mathlib.Core.Bool.{Bool, true, false, cond, not, ◌&&◌, ◌||◌}
use mathlib.Core.Logic.{◌⊎◌, inl, inr}
use mathlib.Core.List.{List, [], ◌∷◌, reverse, reverse-reverse}
use Prim.Native.Nat.{ℕ, zero, suc, ◌-◌, ◌*◌, ◌^◌, ◌≤◌, ◌<◌}
use native.Mathlib.Nat.{mod-eq_of_lt, pow-suc}
use native.Mathlib.Omega.{arith}
use borrow.Author.Tests.{eq-eqb, eqb-true, not-false, leb-true, leb-false, ltb-false, le-leb, lt-leb, le-ltb}
use lib.Dec.{eqb, leb}
use lib.ListN.{length, get_or, take, drop, replicate, length-replicate, length-reverse}
use lib.Pow.{pow_pos}
use Rattle.answer.specs.Answer.{answer}
use Rattle.answer.proofs.Laws.{none, passed}
use Rattle.answer.proofs.Order.{both}
use Rattle.octets.specs.Bits.{digits_of, value_of, bits_of, octets_of}
use Rattle.octets.proofs.Digits.{Bits, digits_value, value-digits, value-lt, value-one, zeros-bits, zeros-value, reverse_bits}
use Rattle.octets.proofs.Laws.{Octets, bits-octets, octets-bits, octets-length}
use Rattle.places.specs.Places.{total, joined}
use Rattle.places.specs.Streams.{Row, widths_in, amount, stream_in}
use Rattle.places.proofs.Streams.{whole_back, laid-out-length, laid-out-bits, dealt-same, laid-out-again, among-length, among-bits}
use Rattle.remainder.specs.Division.{polynomial, check_bits}
use Rattle.remainder.proofs.Errors.{check-value, polynomial-lt}
use Rattle.dataframe.specs.declared.Overhead.{Overhead}
use Rattle.dataframe.specs.Table.{synchronous, plesiochronous, sync, payload, crc, spare, sbid, stuffing, unused}
use Rattle.dataframe.specs.Table.{line_bits, room_of, table}
use Rattle.dataframe.specs.Frame.{mark_of, streams, data_bits, data_octets, carried, sbid1, sbid2, stuffed_in, behind, overhead_in, payload_in, due_of}
use Rattle.dataframe.specs.Refusals.{is_stuffing, write_refusals, stuffing_right, bit_refusals}
use Rattle.dataframe.proofs.Rows.{no-spare, no-sbid, no-stuffing}
use Rattle.dataframe.proofs.Refused.{room-is, is-room}
use Rattle.dataframe.proofs.Streams.{bits_in, written, amount-is, table-total, room-long, carried-is, same_bits, stream-length, stream_bits, fits}

-- ---- what writing takes

-- a form and a size that there are, octets as many as the size says, stuffing that the form can have, and numbers in their ranges
pub record Right (form k word : ℕ) (o : Overhead) (octets : List ℕ) : Type 0 where
  pub known : form ≤ 1
  pub least : 24 ≤ k
  pub most : k ≤ 289
  pub long : length octets ≡ 6 * k
  pub stuffed : is_stuffing form o.stuffing ≡ true
  pub word_fits : word < 2 ^ 14
  pub indicators-fit : o.indicators < 2 ^ 4
  pub eoc-fits : o.eoc < 2 ^ 20
  pub crc-fits : o.crc < 2 ^ 6
  pub spare-fits : form ≡ synchronous → o.spare < 2 ^ 4

-- the overhead as a frame of the form carries it: spare is 0 where the form has none
abbrev pub kept : ℕ → Overhead → Overhead
kept form o =
    record {
      indicators = o.indicators;
      eoc = o.eoc;
      spare = cond (eqb form synchronous) o.spare 0;
      stuffing = o.stuffing;
      crc = o.crc;
    }

-- none, or four in the plesiochronous form
pub stuffed-is : (form n : ℕ) → is_stuffing form n ≡ true → (n ≡ 0) ⊎ ((form ≡ plesiochronous) × (n ≡ 4))
stuffed-is form n e = pick (eqb n 0) refl e
  where
    pick : (t : Bool) → eqb n 0 ≡ t → (t || (eqb form plesiochronous && eqb n 4)) ≡ true → (n ≡ 0) ⊎ ((form ≡ plesiochronous) × (n ≡ 4))
    pick true f g = inl (eqb-true n 0 f)
    pick false f g =
        let b = both (eqb form plesiochronous) (eqb n 4) g in
        inr (eqb-true form plesiochronous b.0, eqb-true n 4 b.1)

pub stuffed-most : (form n : ℕ) → is_stuffing form n ≡ true → n ≤ 4
stuffed-most form n e = pick (stuffed-is form n e)
  where
    pick : (n ≡ 0) ⊎ ((form ≡ plesiochronous) × (n ≡ 4)) → n ≤ 4
    pick (inl z) = omega arith
    pick (inr z) = omega (arith, z.1)

-- ---- what an answer of 0 says

-- of a frame's bits
pub record Sound (form k word next : ℕ) (B : List ℕ) : Type 0 where
  pub synced : value_of (carried sync form k B) ≡ word
  pub twins : sbid1 form k B ≡ sbid2 form k B
  pub ones : value_of (behind stuffing form k B) ≡ 2 ^ stuffed_in form k B - 1
  pub clear : value_of (behind unused form k B) ≡ 0
  pub due : next ≡ due_of form k B

pub sound : (form k word next : ℕ) (B : List ℕ) → answer (bit_refusals form k word next B) ≡ 0 → Sound form k word next B
sound form k word next B e =
    let L = bit_refusals form k word next B in
    let five = none 4 _ (drop 1 L) e in
    let nine = none 8 _ (drop 2 L) five.1 in
    let six = none 5 _ (drop 3 L) nine.1 in
    let seven = none 6 _ (drop 4 L) six.1 in
    let b = both _ _ (not-false (stuffing_right form k B) nine.0) in
    record {
      synced = eqb-true _ _ (not-false _ five.0);
      twins = eqb-true _ _ b.0;
      ones = eqb-true _ _ b.1;
      clear = eqb-true _ _ (not-false _ six.0);
      due = eqb-true _ _ (not-false _ seven.0);
    }

-- and nothing more
pub sound-answers : (form k word next : ℕ) (B : List ℕ) → Sound form k word next B → answer (bit_refusals form k word next B) ≡ 0
sound-answers form k word next B s =
    let L = bit_refusals form k word next B in
    let t : eqb (sbid1 form k B) (sbid2 form k B) ≡ true = eq-eqb _ _ s.twins in
    passed 5 (drop 1 L) (ap not (eq-eqb _ _ s.synced))
    ∙ passed 9 (drop 2 L) (ap not (ap₂ ◌&&◌ t (eq-eqb _ _ s.ones)))
    ∙ passed 6 (drop 3 L) (ap not (eq-eqb _ _ s.clear))
    ∙ passed 7 (drop 4 L) (ap not (eq-eqb _ _ s.due))

-- ---- what is written

-- so many ones
pub ones_value : (n : ℕ) → value_of (replicate n 1) ≡ 2 ^ n - 1
unfolding value_of
ones_value zero = refl
ones_value (suc n) = omega (arith, ones_value n, pow-suc 2 n, pow_pos n)

digits-back : (w v : ℕ) (l : List ℕ) → l ≡ digits_of w v → v < 2 ^ w → value_of l ≡ v
digits-back w v l e h = ap value_of e ∙ value-digits w v ∙ mod-eq_of_lt h

-- what the two forms read otherwise
module _ (k : ℕ) (bits : List ℕ) where
  -- sbid1 and sbid2 of the plesiochronous form
  marks-back : (form s : ℕ) → form ≤ 1 → is_stuffing form s ≡ true → (form ≡ 1 → carried sbid form k bits ≡ replicate 2 (mark_of s))
      → (sbid1 form k bits ≡ sbid2 form k bits) × (stuffed_in form k bits ≡ s)
  marks-back zero s h e f = (
    ap (λ (l : List ℕ). get_or l 0 0) (no-sbid k bits) ∙ sym (ap (λ (l : List ℕ). get_or l 1 0) (no-sbid k bits)),
    ap (λ (l : List ℕ). 4 * get_or l 0 0) (no-sbid k bits) ∙ pick (stuffed-is 0 s e),
  )
    where
      pick : (s ≡ 0) ⊎ ((0 ≡ plesiochronous) × (s ≡ 4)) → 0 ≡ s
      pick (inl z) = sym z
      pick (inr z) = absurd (omega (arith, z.0))
  marks-back (suc zero) s h e f = (
    ap (λ (l : List ℕ). get_or l 0 0) (f refl) ∙ sym (ap (λ (l : List ℕ). get_or l 1 0) (f refl)),
    ap (λ (l : List ℕ). 4 * get_or l 0 0) (f refl) ∙ pick (stuffed-is 1 s e),
  )
    where
      pick : (s ≡ 0) ⊎ ((1 ≡ plesiochronous) × (s ≡ 4)) → 4 * mark_of s ≡ s
      pick (inl z) = ap (λ (n : ℕ). 4 * mark_of n) z ∙ sym z
      pick (inr z) = ap (λ (n : ℕ). 4 * mark_of n) z.1 ∙ sym z.1
  marks-back (suc (suc g)) s h e f = absurd (omega arith)

  -- the stuffing bits of the plesiochronous form
  ones-back : (form s : ℕ) → form ≤ 1 → is_stuffing form s ≡ true → (form ≡ 1 → stream_in stuffing (table form k s) bits ≡ replicate s 1)
      → value_of (stream_in stuffing (table form k s) bits) ≡ 2 ^ s - 1
  unfolding value_of
  ones-back zero s h e f = ap value_of (no-stuffing k bits s) ∙ pick (stuffed-is 0 s e)
    where
      pick : (s ≡ 0) ⊎ ((0 ≡ plesiochronous) × (s ≡ 4)) → 0 ≡ 2 ^ s - 1
      pick (inl z) = sym (ap (λ (n : ℕ). 2 ^ n - 1) z)
      pick (inr z) = absurd (omega (arith, z.0))
  ones-back (suc zero) s h e f = ap value_of (f refl) ∙ ones_value s
  ones-back (suc (suc g)) s h e f = absurd (omega arith)

  -- the spare bits of the synchronous form
  spare-back : (form n : ℕ) → form ≤ 1 → (form ≡ 0 → value_of (carried spare form k bits) ≡ n)
      → value_of (carried spare form k bits) ≡ cond (eqb form synchronous) n 0
  unfolding value_of
  spare-back zero n h f = f refl
  spare-back (suc zero) n h f = ap value_of (no-spare k bits)
  spare-back (suc (suc g)) n h f = absurd (omega arith)

-- overheads with the same numbers
same-overhead : (o p : Overhead) → o.indicators ≡ p.indicators → o.eoc ≡ p.eoc → o.spare ≡ p.spare → o.stuffing ≡ p.stuffing
    → o.crc ≡ p.crc → o ≡ p
same-overhead o p a b c d e =
    let of : ℕ → ℕ → ℕ → ℕ → ℕ → Overhead = λ i n s w r. record { indicators = i; eoc = n; spare = s; stuffing = w; crc = r } in
    ap₂ (λ (i n : ℕ). of i n o.spare o.stuffing o.crc) a b ∙ ap₂ (λ (s w : ℕ). of p.indicators p.eoc s w o.crc) c d
    ∙ ap (of p.indicators p.eoc p.spare p.stuffing) e

module _ (form k word : ℕ) (o : Overhead) (octets : List ℕ) (R : Right form k word o octets) where
  abbrev D : List ℕ
  D = data_bits form k word o octets

  abbrev S : ℕ → List ℕ
  S = streams form k word o octets

  room : total (widths_in (table form k o.stuffing)) ≡ 8 * room_of form
  room = table-total form k o.stuffing R.known R.most (stuffed-most form o.stuffing R.stuffed)

  pub written-length : length (data_bits form k word o octets) ≡ 8 * room_of form
  unfolding data_bits
  written-length = laid-out-length (table form k o.stuffing) S (fits form k word o octets R.known R.long) ∙ room

  pub written-bits : Bits (data_bits form k word o octets)
  unfolding data_bits
  written-bits = laid-out-bits (table form k o.stuffing) S (stream_bits form k word o octets)

  -- in octets too
  pub written-octets : bits_of (data_octets form k word o octets) ≡ data_bits form k word o octets
  written-octets = bits-octets (room_of form) D written-length written-bits

  -- ---- it is read back

  -- a stream that the form has
  stream-back : (x : ℕ) → written form k o.stuffing x ≡ bits_in form k o.stuffing x → stream_in x (table form k o.stuffing) D ≡ S x
  unfolding data_bits
  stream-back x e =
      whole_back (table form k o.stuffing) S (fits form k word o octets R.known R.long) x
      (stream-length form k word o octets x R.long ∙ e ∙ sym (amount-is form k o.stuffing x R.known))

  carried-back : (x : ℕ) → x ≤ 6 → written form k o.stuffing x ≡ bits_in form k o.stuffing x → carried x form k D ≡ S x
  carried-back x l e = sym (carried-is form k o.stuffing D R.known x l) ∙ stream-back x e

  pub word_back : value_of (carried sync form k (data_bits form k word o octets)) ≡ word
  word_back = digits-back 14 word _ (carried-back 0 (omega arith) refl) R.word_fits

  pub payload-back : Octets octets → payload_in form k (data_bits form k word o octets) ≡ octets
  payload-back h =
      ap (octets_of (6 * k)) (carried-back 2 (omega arith) refl) ∙ ap (λ (n : ℕ). octets_of n (bits_of octets)) (sym R.long) ∙ octets-bits octets h

  marks : (sbid1 form k D ≡ sbid2 form k D) × (stuffed_in form k D ≡ o.stuffing)
  marks =
      marks-back k D form o.stuffing R.known R.stuffed
      (λ e. carried-back 6 (omega arith) (ap (λ (f : ℕ). cond (eqb f synchronous) 0 2) (sym e)))

  pub overhead-back : overhead_in form k (data_bits form k word o octets) ≡ kept form o
  overhead-back =
      same-overhead (overhead_in form k D) (kept form o)
      (digits-back 4 o.indicators _ (carried-back 1 (omega arith) refl) R.indicators-fit)
      (digits-back 20 o.eoc _ (carried-back 3 (omega arith) refl) R.eoc-fits)
      (spare-back k D form o.spare R.known
      (λ e. digits-back 4 o.spare _ (carried-back 5 (omega arith) (ap (λ (f : ℕ). cond (eqb f synchronous) 4 0) (sym e))) (R.spare-fits e)))
      marks.1
      (ap polynomial (carried-back 4 (omega arith) refl) ∙ check-value 6 o.crc R.crc-fits)

  -- the stuffing bits and the room stand by what is announced
  behind-is : (x : ℕ) → behind x form k D ≡ stream_in x (table form k o.stuffing) D
  behind-is x = ap (λ (s : ℕ). stream_in x (table form k s) D) marks.1

  ones : value_of (behind stuffing form k D) ≡ 2 ^ stuffed_in form k D - 1
  ones =
      ap value_of (behind-is 7)
      ∙ ones-back k D form o.stuffing R.known R.stuffed (λ e. stream-back 7 (ap (λ (f : ℕ). cond (eqb f synchronous) 0 o.stuffing) (sym e)))
      ∙ ap (λ (s : ℕ). 2 ^ s - 1) (sym marks.1)

  clear : value_of (behind unused form k D) ≡ 0
  clear = ap value_of (behind-is 8 ∙ stream-back 8 refl) ∙ zeros-value (8 * room_of form - line_bits form k o.stuffing)

  -- with the six that are due it is not refused
  pub written-answers : answer (bit_refusals form k word (due_of form k (data_bits form k word o octets)) (data_bits form k word o octets)) ≡ 0
  written-answers =
      sound-answers form k word (due_of form k D) D
      (record { synced = word_back; twins = marks.0; ones = ones; clear = clear; due = refl })

-- ---- different fields give different frames

-- two of one form and size that are the same carry the same
pub same-written : (form k word word' : ℕ) (o o' : Overhead) (octets octets' : List ℕ) → Right form k word o octets → Right form k word' o' octets'
    → Octets octets → Octets octets' → data_bits form k word o octets ≡ data_bits form k word' o' octets'
    → (word ≡ word') × (kept form o ≡ kept form o') × (octets ≡ octets')
same-written form k word word' o o' octets octets' R R' h h' e = (
  sym (word_back form k word o octets R) ∙ ap (λ (b : List ℕ). value_of (carried sync form k b)) e ∙ word_back form k word' o' octets' R',
  sym (overhead-back form k word o octets R) ∙ ap (overhead_in form k) e ∙ overhead-back form k word' o' octets' R',
  sym (payload-back form k word o octets R h) ∙ ap (payload_in form k) e ∙ payload-back form k word' o' octets' R' h',
)

-- in octets too
pub same-octets : (form k word word' : ℕ) (o o' : Overhead) (octets octets' : List ℕ) → Right form k word o octets → Right form k word' o' octets'
    → Octets octets → Octets octets' → data_octets form k word o octets ≡ data_octets form k word' o' octets'
    → (word ≡ word') × (kept form o ≡ kept form o') × (octets ≡ octets')
same-octets form k word word' o o' octets octets' R R' h h' e =
    same-written form k word word' o o' octets octets' R R' h h'
    (sym (written-octets form k word o octets R) ∙ ap bits_of e ∙ written-octets form k word' o' octets' R')

-- ---- what reads with answer 0 is what writing its fields gives

-- bits are the digits of their value
digits_are : (w v : ℕ) (l : List ℕ) → length l ≡ w → Bits l → value_of l ≡ v → l ≡ digits_of w v
digits_are w v l n h e = sym (digits_value l h) ∙ ap₂ digits_of n e

check-are : (w : ℕ) (l : List ℕ) → length l ≡ w → Bits l → l ≡ check_bits w (polynomial l)
check-are w l n h = sym (reverse-reverse l) ∙ ap reverse (digits_are w (polynomial l) (reverse l) (length-reverse l ∙ n) (reverse_bits l h) refl)

ones-are : (n : ℕ) (l : List ℕ) → length l ≡ n → Bits l → value_of l ≡ 2 ^ n - 1 → l ≡ replicate n 1
ones-are n l e h v = value-one l (replicate n 1) h (same_bits n 1 (omega arith)) (e ∙ sym (length-replicate n 1)) (v ∙ sym (ones_value n))

zeros-are : (n : ℕ) (l : List ℕ) → length l ≡ n → Bits l → value_of l ≡ 0 → l ≡ replicate n 0
zeros-are n l e h v = value-one l (replicate n 0) h (zeros-bits n) (e ∙ sym (length-replicate n 0)) (v ∙ sym (zeros-value n))

take_none : (n : ℕ) (l r : List ℕ) → n ≡ 0 → take n l ≡ take n r
take_none zero l r e = refl
take_none (suc n) l r e = absurd (omega arith)

-- two bits that are the same say whether four stuffing bits are there
marks-are : (l : List ℕ) → length l ≡ 2 → Bits l → get_or l 0 0 ≡ get_or l 1 0 → l ≡ replicate 2 (mark_of (4 * get_or l 0 0))
marks-are [] n h e = absurd (omega arith)
marks-are (x ∷ []) n h e = absurd (omega arith)
marks-are (x ∷ y ∷ z ∷ l) n h e = absurd (omega arith)
marks-are (x ∷ y ∷ []) n h e = ap₂ (λ (a b : ℕ). a ∷ b ∷ []) (mark x (h 0)) (sym e ∙ mark x (h 0))
  where
    mark : (x : ℕ) → x < 2 → x ≡ mark_of (4 * x)
    mark zero h = refl
    mark (suc zero) h = refl
    mark (suc (suc x)) h = absurd (omega arith)

-- what is announced is none or four, and none in the synchronous form
announced : (k : ℕ) (B : List ℕ) (form : ℕ) → form ≤ 1 → Bits (carried sbid form k B) → is_stuffing form (stuffed_in form k B) ≡ true
announced k B zero h b = ap (λ (l : List ℕ). is_stuffing 0 (4 * get_or l 0 0)) (no-sbid k B)
announced k B (suc zero) h b = pick (sbid1 1 k B) (b 0)
  where
    pick : (x : ℕ) → x < 2 → is_stuffing 1 (4 * x) ≡ true
    pick zero h = refl
    pick (suc zero) h = refl
    pick (suc (suc x)) h = absurd (omega arith)
announced k B (suc (suc f)) h b = absurd (omega arith)

one_of : (form : ℕ) → form ≤ 1 → (form ≡ 0) ⊎ (form ≡ 1)
one_of zero h = inl refl
one_of (suc zero) h = inr refl
one_of (suc (suc f)) h = absurd (omega arith)

module _ (form k word next : ℕ) (B : List ℕ) (h : form ≤ 1) (m : k ≤ 289) (l : length B ≡ 8 * room_of form) (b : Bits B) where
  stream-is-bits : (s x : ℕ) → Bits (stream_in x (table form k s) B)
  stream-is-bits s x = among-bits (eqb x) (table form k s) B b

  stream-has : (s x n : ℕ) → s ≤ 4 → bits_in form k s x ≡ n → length (stream_in x (table form k s) B) ≡ n
  stream-has s x n u e =
      among-length (eqb x) (table form k s) B (room-long form k s B h m u l) ∙ amount-is form k s x h ∙ e

  pub announces : is_stuffing form (stuffed_in form k B) ≡ true
  announces = announced k B form h (stream-is-bits 0 6)

  abbrev s : ℕ
  s = stuffed_in form k B

  few : s ≤ 4
  few = stuffed-most form s announces

  -- a field within its width
  within : (x n : ℕ) → bits_in form k 0 x ≡ n → value_of (carried x form k B) < 2 ^ n
  within x n e =
      subst (λ (w : ℕ). value_of (carried x form k B) < 2 ^ w) (stream-has 0 x n (omega arith) e) (value-lt (carried x form k B) (stream-is-bits 0 x))

  module _ (g : Sound form k word next B) where
    abbrev O : Overhead
    O = overhead_in form k B

    abbrev P : List ℕ
    P = payload_in form k B

    -- a stream before the end
    early : (x n v : ℕ) → x ≤ 6 → bits_in form k 0 x ≡ n → value_of (carried x form k B) ≡ v → stream_in x (table form k s) B ≡ digits_of n v
    early x n v u e f =
        carried-is form k s B h x u ∙ digits_are n v (carried x form k B) (stream-has 0 x n (omega arith) e) (stream-is-bits 0 x) f

    -- each stream is what is written of it, or the form has none of it
    each : (x : ℕ) → (bits_in form k s x ≡ 0) ⊎ (stream_in x (table form k s) B ≡ streams form k word O P x)
    each zero = inr (early 0 14 word (omega arith) refl g.synced)
    each (suc zero) = inr (early 1 4 O.indicators (omega arith) refl refl)
    each (suc (suc zero)) =
        inr (carried-is form k s B h 2 (omega arith)
        ∙ sym (bits-octets (6 * k) (carried payload form k B) (stream-has 0 2 (48 * k) (omega arith) refl ∙ omega arith) (stream-is-bits 0 2)))
    each (suc (suc (suc zero))) = inr (early 3 20 O.eoc (omega arith) refl refl)
    each (suc (suc (suc (suc zero)))) =
        inr (carried-is form k s B h 4 (omega arith) ∙ check-are 6 (carried crc form k B) (stream-has 0 4 6 (omega arith) refl) (stream-is-bits 0 4))
    each (suc (suc (suc (suc (suc zero))))) = pick (one_of form h)
      where
        pick : (form ≡ 0) ⊎ (form ≡ 1) → (bits_in form k s 5 ≡ 0) ⊎ (stream_in 5 (table form k s) B ≡ streams form k word O P 5)
        pick (inl e) = inr (early 5 4 O.spare (omega arith) (ap (λ (f : ℕ). cond (eqb f synchronous) 4 0) e) refl)
        pick (inr e) = inl (ap (λ (f : ℕ). cond (eqb f synchronous) 4 0) e)
    each (suc (suc (suc (suc (suc (suc zero)))))) = pick (one_of form h)
      where
        pick : (form ≡ 0) ⊎ (form ≡ 1) → (bits_in form k s 6 ≡ 0) ⊎ (stream_in 6 (table form k s) B ≡ streams form k word O P 6)
        pick (inl e) = inl (ap (λ (f : ℕ). cond (eqb f synchronous) 0 2) e)
        pick (inr e) =
            inr (carried-is form k s B h 6 (omega arith)
            ∙ marks-are (carried sbid form k B) (stream-has 0 6 2 (omega arith) (ap (λ (f : ℕ). cond (eqb f synchronous) 0 2) e))
            (stream-is-bits 0 6) g.twins)
    each (suc (suc (suc (suc (suc (suc (suc zero))))))) = pick (one_of form h)
      where
        pick : (form ≡ 0) ⊎ (form ≡ 1) → (bits_in form k s 7 ≡ 0) ⊎ (stream_in 7 (table form k s) B ≡ streams form k word O P 7)
        pick (inl e) = inl (ap (λ (f : ℕ). cond (eqb f synchronous) 0 s) e)
        pick (inr e) =
            inr (ones-are s (behind stuffing form k B) (stream-has s 7 s few (ap (λ (f : ℕ). cond (eqb f synchronous) 0 s) e))
            (stream-is-bits s 7) g.ones)
    each (suc (suc (suc (suc (suc (suc (suc (suc zero)))))))) =
        let n = 8 * room_of form - line_bits form k s in
        inr (zeros-are n (behind unused form k B) (stream-has s 8 n few refl) (stream-is-bits s 8) g.clear)
    each (suc (suc (suc (suc (suc (suc (suc (suc (suc x))))))))) = inl refl

    -- it is its fields, written
    pub written-again : B ≡ data_bits form k word (overhead_in form k B) (payload_in form k B)
    unfolding data_bits
    written-again =
        sym (laid-out-again T B (l ∙ sym (table-total form k s h m few))) ∙ ap joined (dealt-same T (λ x. stream_in x T B) (streams form k word O P) same)
      where
        T : List Row
        T = table form k s

        same : (x : ℕ) → take (amount (eqb x) T) (stream_in x T B) ≡ take (amount (eqb x) T) (streams form k word O P x)
        same x = pick (each x)
          where
            pick : (bits_in form k s x ≡ 0) ⊎ (stream_in x T B ≡ streams form k word O P x)
                → take (amount (eqb x) T) (stream_in x T B) ≡ take (amount (eqb x) T) (streams form k word O P x)
            pick (inl z) = take_none (amount (eqb x) T) (stream_in x T B) (streams form k word O P x) (amount-is form k s x h ∙ z)
            pick (inr e) = ap (take (amount (eqb x) T)) e

    -- and writing takes them
    pub right-again : 24 ≤ k → Right form k word (overhead_in form k B) (payload_in form k B)
    right-again u =
        record {
          known = h;
          least = u;
          most = m;
          long = octets-length (6 * k) (carried payload form k B);
          stuffed = announces;
          word_fits = subst (λ (n : ℕ). n < 2 ^ 14) g.synced (within 0 14 refl);
          indicators-fit = within 1 4 refl;
          eoc-fits = within 3 20 refl;
          crc-fits = subst (λ (w : ℕ). polynomial (carried crc form k B) < 2 ^ w) (stream-has 0 4 6 (omega arith) refl)
              (polynomial-lt (carried crc form k B) (stream-is-bits 0 4));
          spare-fits = λ e. within 5 4 (ap (λ (f : ℕ). cond (eqb f synchronous) 4 0) e);
        }

-- all in one: bits that are not refused are their fields, which writing takes, and the six given are those due
pub again : (form k word next : ℕ) (B : List ℕ) → form ≤ 1 → 24 ≤ k → k ≤ 289 → length B ≡ 8 * room_of form → Bits B
    → answer (bit_refusals form k word next B) ≡ 0
    → (B ≡ data_bits form k word (overhead_in form k B) (payload_in form k B)) × Right form k word (overhead_in form k B) (payload_in form k B)
    × (next ≡ due_of form k B)
again form k word next B h u m l b z =
    let g = sound form k word next B z in
    (written-again form k word next B h m l b g, right-again form k word next B h m l b g u, g.due)

-- ---- what writing refuses

module _ (form k word : ℕ) (o : Overhead) (octets frame : List ℕ) where
  -- nothing of what it takes
  pub writes : Right form k word o octets → length frame ≡ room_of form → answer (write_refusals form k word o octets frame) ≡ 0
  writes R e =
      let L = write_refusals form k word o octets frame in
      passed 1 (drop 1 L) (ap not (eq-eqb _ _ R.long))
      ∙ passed 1 (drop 2 L) (ap not (is-room form frame R.known e))
      ∙ passed 2 (drop 3 L) (le-ltb 1 form R.known)
      ∙ passed 4 (drop 4 L) (ap not (ap₂ ◌&&◌ (le-leb 24 k R.least) (le-leb k 289 R.most)))
      ∙ passed 4 (drop 5 L) (lt-leb (2 ^ 14) word R.word_fits)
      ∙ passed 4 (drop 6 L) (lt-leb (2 ^ 4) o.indicators R.indicators-fit)
      ∙ passed 4 (drop 7 L) (lt-leb (2 ^ 20) o.eoc R.eoc-fits)
      ∙ passed 4 (drop 8 L) (lt-leb (2 ^ 6) o.crc R.crc-fits)
      ∙ passed 4 (drop 9 L) (narrow (eqb form synchronous) refl)
      ∙ passed 9 (drop 10 L) (ap not R.stuffed)
    where
      narrow : (t : Bool) → eqb form synchronous ≡ t → (t && leb (2 ^ 4) o.spare) ≡ false
      narrow true f = lt-leb (2 ^ 4) o.spare (R.spare-fits (eqb-true form synchronous f))
      narrow false f = refl

  -- and of nothing else it takes nothing
  pub write-takes : answer (write_refusals form k word o octets frame) ≡ 0 → Right form k word o octets × (length frame ≡ room_of form)
  write-takes z =
      let L = write_refusals form k word o octets frame in
      let a = none 0 _ (drop 1 L) z in
      let b = none 0 _ (drop 2 L) a.1 in
      let c = none 1 _ (drop 3 L) b.1 in
      let d = none 3 _ (drop 4 L) c.1 in
      let e = none 3 _ (drop 5 L) d.1 in
      let f = none 3 _ (drop 6 L) e.1 in
      let g = none 3 _ (drop 7 L) f.1 in
      let i = none 3 _ (drop 8 L) g.1 in
      let j = none 3 _ (drop 9 L) i.1 in
      let n = none 8 _ (drop 10 L) j.1 in
      let h = ltb-false 1 form c.0 in
      let w = both (leb 24 k) (leb k 289) (not-false _ d.0) in (
        record {
          known = h;
          least = leb-true 24 k w.0;
          most = leb-true k 289 w.1;
          long = eqb-true _ _ (not-false _ a.0);
          stuffed = not-false _ n.0;
          word_fits = leb-false (2 ^ 14) word e.0;
          indicators-fit = leb-false (2 ^ 4) o.indicators f.0;
          eoc-fits = leb-false (2 ^ 20) o.eoc g.0;
          crc-fits = leb-false (2 ^ 6) o.crc i.0;
          spare-fits = λ y. leb-false (2 ^ 4) o.spare (sym (ap (λ (t : Bool). t && leb (2 ^ 4) o.spare) (eq-eqb form synchronous y)) ∙ j.0);
        },
        room-is form frame h (not-false _ b.0),
      )
