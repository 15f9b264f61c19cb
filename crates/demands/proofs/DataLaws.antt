-- Laws of data-mode frames that the demands need, over the definitions. Assumes nothing.
use mathlib.Core.Path.{◌≡◌, refl, sym, ap, ap₂, ◌∙◌, subst}
use mathlib.Core.Bool.{Bool, true, false, cond, not, ◌&&◌, true≢false}
use mathlib.Core.List.{List, [], ◌∷◌}
use Prim.Native.Nat.{ℕ, zero, suc, ◌*◌, ◌<◌, ◌^◌}
use native.Mathlib.Omega.{arith}
use borrow.Author.Tests.{eq-eqb, ne_eqb, eqb-true, eqb-false, lt-leb, not-false, not-true}
use lib.Dec.{eqb}
use lib.ListN.{length, take, drop}
use Rattle.answer.specs.Answer.{Refusal, answer}
use Rattle.answer.proofs.Laws.{passed}
use Rattle.octets.specs.Bits.{bits_of}
use Rattle.octets.proofs.Digits.{Bits}
use Rattle.octets.proofs.Laws.{Octets, bits-bits, octets-length}
use Rattle.places.specs.Places.{joined}
use Rattle.places.specs.Streams.{Row, without, dealt, chosen}
use Rattle.places.proofs.Streams.{among-back}
use Rattle.remainder.specs.Division.{polynomial}
use Rattle.remainder.specs.Register.{register_of}
use Rattle.ranges.proofs.Laws.{both}
use Rattle.dataframe.specs.declared.Overhead.{Overhead}
use Rattle.dataframe.specs.Table.{crc, room_of, table}
use Rattle.dataframe.specs.Frame.{streams, data_bits, data_octets, carried, overhead_in, payload_in, six_generator, is_covered, covered, due_of, Due}
use Rattle.dataframe.specs.Refusals.{crc_refusals, frame_refusals, bit_refusals, check_refusals, read_refusals}
use Rattle.dataframe.proofs.Refused.{room-least, fits, behind-is}
use Rattle.dataframe.proofs.Streams.{fits as streams-fit, covered-stays}
use Rattle.dataframe.proofs.RoundTrip.{Right as Taken, kept, written-octets, overhead-back, payload-back, written-answers}
use Rattle.dataframe.proofs.Order.{due, due-one}
use Rattle.demands.specs.DataFrames.{all_but_last}

-- ---- a list of checks whose last answers 7

-- the numbers before it are neither 0 nor 7
abbrev pub seven_last : List Refusal → Bool
seven_last [] = false
seven_last (t ∷ []) = eqb t.number 7
seven_last (t ∷ u ∷ ts) = (not (eqb t.number 0) && not (eqb t.number 7)) && seven_last (u ∷ ts)

-- whether the last applies
abbrev pub last_test : List Refusal → Bool
last_test [] = false
last_test (t ∷ []) = t.applies
last_test (t ∷ u ∷ ts) = last_test (u ∷ ts)

pub record Decides (ts : List Refusal) : Type 0 where
  pub passes : answer ts ≡ 0 → last_test ts ≡ false
  pub reached : answer ts ≡ 7 → answer (all_but_last ts) ≡ 0
  pub applies : answer ts ≡ 7 → last_test ts ≡ true
  pub answers : answer (all_but_last ts) ≡ 0 → last_test ts ≡ true → answer ts ≡ 7

pub decides : (ts : List Refusal) → seven_last ts ≡ true → Decides ts
decides [] e = absurd (true≢false (sym e))
decides (t ∷ []) e = pick t.number t.applies (eqb-true t.number 7 e)
  where
    pick : (n : ℕ) (b : Bool) → n ≡ 7 → Decides (record { number = n; applies = b } ∷ [])
    pick n true h =
        record { passes = λ z. absurd (omega arith); reached = λ z. refl; applies = λ z. refl; answers = λ y z. h }
    pick n false h =
        record { passes = λ z. refl; reached = λ z. refl; applies = λ z. absurd (omega arith); answers = λ y z. absurd (true≢false (sym z)) }
decides (t ∷ u ∷ ts) e =
    let p = both (not (eqb t.number 0) && not (eqb t.number 7)) (seven_last (u ∷ ts)) e in
    let q = both (not (eqb t.number 0)) (not (eqb t.number 7)) p.0 in
    pick t.number t.applies (eqb-false t.number 0 (not-true _ q.0)) (eqb-false t.number 7 (not-true _ q.1)) (decides (u ∷ ts) p.1)
  where
    pick : (n : ℕ) (b : Bool) → (n ≡ 0 → ⊥) → (n ≡ 7 → ⊥) → Decides (u ∷ ts) → Decides (record { number = n; applies = b } ∷ u ∷ ts)
    pick n true h i d =
        record { passes = λ z. absurd (h z); reached = λ z. absurd (i z); applies = λ z. absurd (i z); answers = λ y z. absurd (h y) }
    pick n false h i d = record { passes = d.passes; reached = d.reached; applies = d.applies; answers = d.answers }

-- ---- the six that are due

module _ (form k next : ℕ) (B : List ℕ) (h : Bits B) where
  pub due-if : not (eqb next (due_of form k B)) ≡ false → Due form k B next
  due-if e = subst (Due form k B) (sym (eqb-true next (due_of form k B) (not-false _ e))) (due form k B h)

  pub due-not : not (eqb next (due_of form k B)) ≡ true → Due form k B next → ⊥
  due-not e d = eqb-false next (due_of form k B) (not-true _ e) (due-one form k B h next d)

  pub not-due : (Due form k B next → ⊥) → not (eqb next (due_of form k B)) ≡ true
  not-due n = ap not (ne_eqb next (due_of form k B) (λ e. n (subst (Due form k B) (sym e) (due form k B h))))

-- checking and reading end with their test
pub check-decides : (form k word next : ℕ) (frame : List ℕ) → Decides (check_refusals form k word next frame)
check-decides form k word next frame = decides (check_refusals form k word next frame) refl

pub read-decides : (form k word next : ℕ) (frame octets : List ℕ) → Decides (read_refusals form k word next frame octets)
read-decides form k word next frame octets = decides (read_refusals form k word next frame octets) refl

-- ---- a frame that was written, in octets

module _ (form k word : ℕ) (o : Overhead) (octets : List ℕ) (R : Taken form k word o octets) where
  abbrev F : List ℕ
  F = data_octets form k word o octets

  abbrev D : List ℕ
  D = data_bits form k word o octets

  laid : bits_of F ≡ D
  laid = written-octets form k word o octets R

  -- its room, its form and its size are right
  pub written-fits : answer (crc_refusals form k F) ≡ 0
  written-fits =
      let l : length F ≡ room_of form = octets-length (room_of form) D in
      fits form k F (record { known = R.known; least = R.least; most = R.most; room = l; wide = room-least form F R.known l })

  pub due-small : due_of form k (bits_of F) < 2 ^ 6
  due-small = (due form k (bits_of F) (bits-bits F)).below

  -- with the six that are due it is not refused
  pub written-checks : answer (check_refusals form k word (due_of form k (bits_of F)) F) ≡ 0
  written-checks =
      let six = due_of form k (bits_of F) in
      let L = frame_refusals form k word six (bits_of F) in
      behind-is form k F written-fits L
      ∙ passed 4 (drop 1 L) (lt-leb (2 ^ 14) word R.word_fits) ∙ passed 4 (drop 2 L) (lt-leb (2 ^ 6) six due-small)
      ∙ ap (λ (b : List ℕ). answer (bit_refusals form k word (due_of form k b) b)) laid ∙ written-answers form k word o octets R

  pub written-reads : (room : List ℕ) → length room ≡ 6 * k → answer (read_refusals form k word (due_of form k (bits_of F)) F room) ≡ 0
  written-reads room l = passed 1 (check_refusals form k word (due_of form k (bits_of F)) F) (ap not (eq-eqb (length room) (6 * k) l)) ∙ written-checks

  pub overhead-is : overhead_in form k (bits_of F) ≡ kept form o
  overhead-is = ap (overhead_in form k) laid ∙ overhead-back form k word o octets R

  pub payload-is : Octets octets → payload_in form k (bits_of F) ≡ octets
  payload-is h = ap (payload_in form k) laid ∙ payload-back form k word o octets R h

  pub six-is : polynomial (carried crc form k (bits_of F)) ≡ o.crc
  six-is = ap (λ (p : Overhead). p.crc) overhead-is

-- ---- the six in a frame are not looked at

-- wanted rows have the same bits where the wanted streams are the same
chosen-same : (wanted : ℕ → Bool) (rs : List Row) (s t : ℕ → List ℕ) → ((x : ℕ) → wanted x ≡ true → s x ≡ t x)
    → chosen wanted rs (dealt rs s) ≡ chosen wanted rs (dealt rs t)
chosen-same wanted [] s t h = refl
chosen-same wanted (r ∷ rs) s t h =
    pick (wanted r.stream) (h r.stream)
    (chosen-same wanted rs (without s r.stream r.width) (without t r.stream r.width)
    (λ x e. ap (λ (l : List ℕ). cond (eqb x r.stream) (drop r.width l) l) (h x e)))
  where
    pick : (b : Bool) → (b ≡ true → s r.stream ≡ t r.stream)
        → chosen wanted rs (dealt rs (without s r.stream r.width)) ≡ chosen wanted rs (dealt rs (without t r.stream r.width))
        → cond b (take r.width (s r.stream) ∷ chosen wanted rs (dealt rs (without s r.stream r.width)))
        (chosen wanted rs (dealt rs (without s r.stream r.width)))
        ≡ cond b (take r.width (t r.stream) ∷ chosen wanted rs (dealt rs (without t r.stream r.width)))
        (chosen wanted rs (dealt rs (without t r.stream r.width)))
    pick true g e = ap₂ (λ (l : List ℕ) (m : List (List ℕ)). take r.width l ∷ m) (g refl) e
    pick false g e = e

-- other six
abbrev pub with_crc : ℕ → Overhead → Overhead
with_crc six o = record { indicators = o.indicators; eoc = o.eoc; spare = o.spare; stuffing = o.stuffing; crc = six }

pub taken-with : (form k word : ℕ) (o : Overhead) (octets : List ℕ) (six : ℕ) → Taken form k word o octets → six < 2 ^ 6
    → Taken form k word (with_crc six o) octets
taken-with form k word o octets six R h =
    record {
      known = R.known;
      least = R.least;
      most = R.most;
      long = R.long;
      stuffed = R.stuffed;
      word_fits = R.word_fits;
      indicators-fit = R.indicators-fit;
      eoc-fits = R.eoc-fits;
      crc-fits = h;
      spare-fits = R.spare-fits;
    }

module _ (form k word : ℕ) (o : Overhead) (octets : List ℕ) (R : Taken form k word o octets) (six : ℕ) (h : six < 2 ^ 6) where
  others_same : (x : ℕ) → is_covered x ≡ true → streams form k word o octets x ≡ streams form k word (with_crc six o) octets x
  others_same zero e = refl
  others_same (suc zero) e = refl
  others_same (suc (suc zero)) e = refl
  others_same (suc (suc (suc zero))) e = refl
  others_same (suc (suc (suc (suc zero)))) e = absurd (true≢false (sym e))
  others_same (suc (suc (suc (suc (suc x))))) e = refl

  covered_same : covered form k (data_bits form k word o octets) ≡ covered form k (data_bits form k word (with_crc six o) octets)
  unfolding data_bits
  covered_same =
      let T = table form k o.stuffing in
      let S = streams form k word o octets in
      let S' = streams form k word (with_crc six o) octets in
      sym (covered-stays form k o.stuffing (data_bits form k word o octets) R.known)
      ∙ among-back T S (streams-fit form k word o octets R.known R.long) is_covered
      ∙ ap joined (chosen-same is_covered T S S' others_same)
      ∙ sym (among-back T S' (streams-fit form k word (with_crc six o) octets R.known R.long) is_covered)
      ∙ covered-stays form k o.stuffing (data_bits form k word (with_crc six o) octets) R.known

  -- so other six in it leave the six due
  pub due-same : due_of form k (bits_of (data_octets form k word o octets)) ≡ due_of form k (bits_of (data_octets form k word (with_crc six o) octets))
  due-same =
      ap (due_of form k) (written-octets form k word o octets R) ∙ ap (register_of 6 six_generator 0) covered_same
      ∙ ap (due_of form k) (sym (written-octets form k word (with_crc six o) octets (taken-with form k word o octets six R h)))
