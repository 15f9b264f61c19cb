-- Laws of laying a data-mode frame. Assumes nothing.
use mathlib.Core.Path.{◌≡◌, refl, sym, ap, ap₂, ◌∙◌, subst}
use mathlib.Core.Bool.{Bool, true, false, cond, ◌&&◌, ◌||◌}
use mathlib.Core.Logic.{◌⊎◌, inl, inr}
use mathlib.Core.List.{List, ◌++◌, reverse}
use Prim.Native.Nat.{ℕ, ◌+◌, ◌-◌, ◌*◌, ◌/◌, ◌%◌, ◌^◌, ◌≤◌, ◌<◌, min}
use native.Mathlib.Nat.{mod-lt, mul_comm, add_comm, div-one}
use native.Mathlib.Omega.{arith}
use borrow.Author.Tests.{eq-eqb, ne_eqb, eqb-true}
use lib.Dec.{eqb, lit≤}
use lib.ListN.{length, take, drop, replicate, length-append, length-drop, length-replicate}
use lib.Seq.{length-take-le}
use Rattle.octets.specs.Bits.{digits_of, value_of, bits_of, octets_of, part, laid}
use Rattle.octets.proofs.Digits.{Bits, append_bits, digits-bits, digits-length, digits-take, digits-mod-pow}
use Rattle.octets.proofs.Laws.{bits-length, bits-part, laid_next, laid_end}
use Rattle.octets.proofs.Turn.{turn-digits}
use Rattle.octets.proofs.Words.{digits-drop, digits-join}
use Rattle.remainder.specs.Division.{check_bits}
use Rattle.dataframe.specs.declared.Form.{Form}
use Rattle.dataframe.specs.declared.Form.TheVariants.{Synchronous, Plesiochronous}
use Rattle.dataframe.specs.Forms.{form_number}
use Rattle.dataframe.specs.declared.Overhead.{Overhead}
use Rattle.dataframe.specs.Frame.{mark_of}
use Rattle.dataframe.specs.Refusals.{is_stuffing}
use Rattle.datawriter.specs.declared.Marks.{Marks}
use Rattle.datawriter.specs.declared.Rows.{Rows}
use Rattle.datawriter.specs.Laying.{MarksOf, RowsOf, laid_frame}

-- ---- numbers of several fields

-- k digits of a, and b above them
pub above : (k n m a b : ℕ) → m ≡ k + n → a % 2 ^ k < 2 ^ k → digits_of m (a % 2 ^ k + 2 ^ k * b) ≡ digits_of k a ++ digits_of n b
above k n m a b e h =
    ap (digits_of m) (add_comm (a % 2 ^ k) (2 ^ k * b) ∙ ap (λ (x : ℕ). x + a % 2 ^ k) (mul_comm (2 ^ k) b))
    ∙ digits-join k n m b (a % 2 ^ k) e h ∙ ap (λ (l : List ℕ). l ++ digits_of n b) (digits-mod-pow k a)

pub head_is : (word i : ℕ) → digits_of 16 (word % 16384 + 16384 * (i % 4)) ≡ digits_of 14 word ++ digits_of 2 i
head_is word i = above 14 2 16 word (i % 4) refl (mod-lt word (lit≤ tt)) ∙ ap (λ (l : List ℕ). digits_of 14 word ++ l) (digits-mod-pow 2 i)

pub row_is : (e c l : ℕ) → digits_of 10 (e % 16 + 16 * (c % 4 + 4 * (l % 16))) ≡ digits_of 4 e ++ (digits_of 2 c ++ digits_of 4 l)
row_is e c l =
    above 4 6 10 e (c % 4 + 4 * (l % 16)) refl (mod-lt e (lit≤ tt))
    ∙ ap (λ (x : List ℕ). digits_of 4 e ++ x)
    (above 2 4 6 c (l % 16) refl (mod-lt c (lit≤ tt)) ∙ ap (λ (x : List ℕ). digits_of 2 c ++ x) (digits-mod-pow 4 l))

pub first-last-is : (p m e : ℕ) → digits_of 4 (p % 2 + 2 * (m % 2 + 2 * (e % 4))) ≡ digits_of 1 p ++ (digits_of 1 m ++ digits_of 2 e)
first-last-is p m e =
    above 1 3 4 p (m % 2 + 2 * (e % 4)) refl (mod-lt p (lit≤ tt))
    ∙ ap (λ (x : List ℕ). digits_of 1 p ++ x)
    (above 1 2 3 m (e % 4) refl (mod-lt m (lit≤ tt)) ∙ ap (λ (x : List ℕ). digits_of 1 m ++ x) (digits-mod-pow 2 e))

pub second-last-is : (s e m : ℕ) → digits_of 4 (s % 2 + 2 * (e % 4 + 4 * (m % 2))) ≡ digits_of 1 s ++ (digits_of 2 e ++ digits_of 1 m)
second-last-is s e m =
    above 1 3 4 s (e % 4 + 4 * (m % 2)) refl (mod-lt s (lit≤ tt))
    ∙ ap (λ (x : List ℕ). digits_of 1 s ++ x)
    (above 2 1 3 e (m % 2) refl (mod-lt e (lit≤ tt)) ∙ ap (λ (x : List ℕ). digits_of 2 e ++ x) (digits-mod-pow 1 m))

-- ---- laid one behind the other

-- one run and its block
pub run_is : (s v : List ℕ) (at w run from n : ℕ) (s₁ s₂ : List ℕ) → w ≤ 32 → s₁ ≡ laid s at (digits_of (min w 32) run)
    → s₂ ≡ laid s₁ (at + w) (part from n (bits_of v)) → s₂ ≡ laid s at (digits_of w run ++ part from n (bits_of v))
run_is s v at w run from n s₁ s₂ h e f =
    let m : min w 32 ≡ w = omega arith in
    let l : at + length (digits_of w run) ≡ at + w = omega (arith, digits-length w run) in
    laid_next s at (digits_of w run) (part from n (bits_of v)) (at + w) (digits-bits w run) l (e ∙ ap (λ (k : ℕ). laid s at (digits_of k run)) m) f

module _ (s v : List ℕ) (r : Rows) (n rest : ℕ) (hv : 4 * n ≤ 8 * length v) (he : r.ends ≤ 4) (l : 4 * n + 46 + r.ends + rest ≡ 8 * length s) where
  abbrev P : List ℕ
  P = bits_of v

  -- a run of w digits and a block
  abbrev run : ℕ → ℕ → ℕ → List ℕ
  run w d from = digits_of w d ++ part from n P

  run-bits : (w d from : ℕ) → Bits (run w d from)
  run-bits w d from = append_bits (digits_of w d) (part from n P) (digits-bits w d) (bits-part v from n)

  run_length : (w d from : ℕ) → from + n ≤ 4 * n → length (run w d from) ≡ w + n
  run_length w d from h =
      length-append (digits_of w d) (part from n P)
      ∙ ap₂ ◌+◌ (digits-length w d) (length-take-le n (drop from P) (omega (arith, length-drop from P, bits-length v, hv, h)))

  abbrev end : List ℕ
  end = digits_of r.ends r.end

  abbrev zeros : List ℕ
  zeros = replicate rest 0

  pub put_is : (s₁ s₂ s₃ s₄ s₅ s₆ : List ℕ) → s₁ ≡ laid s 0 (run 16 r.head 0) → s₂ ≡ laid s₁ (n + 16) (run 10 r.first n)
      → s₃ ≡ laid s₂ (2 * n + 26) (run 10 r.second (2 * n)) → s₄ ≡ laid s₃ (3 * n + 36) (run 10 r.third (3 * n))
      → s₅ ≡ laid s₄ (4 * n + 46) (digits_of (min r.ends 32) r.end) → s₆ ≡ laid s₅ (4 * n + 46 + r.ends) zeros
      → s₆ ≡ octets_of (length s) (laid_frame r n rest P)
  put_is s₁ s₂ s₃ s₄ s₅ s₆ e₁ e₂ e₃ e₄ e₅ e₆ =
      let A = run 16 r.head 0 in
      let B = run 10 r.first n in
      let C = run 10 r.second (2 * n) in
      let D = run 10 r.third (3 * n) in
      let lA = run_length 16 r.head 0 (omega arith) in
      let lB = run_length 10 r.first n (omega arith) in
      let lC = run_length 10 r.second (2 * n) (omega arith) in
      let lD = run_length 10 r.third (3 * n) (omega arith) in
      let lE = digits-length r.ends r.end in
      let m : min r.ends 32 ≡ r.ends = omega (arith, he) in
      let f₆ = laid_next s₄ (4 * n + 46) end zeros (4 * n + 46 + r.ends) (digits-bits r.ends r.end) (omega (arith, lE))
      (e₅ ∙ ap (λ (k : ℕ). laid s₄ (4 * n + 46) (digits_of k r.end)) m) e₆ in
      let f₅ = laid_next s₃ (3 * n + 36) D (end ++ zeros) (4 * n + 46) (run-bits 10 r.third (3 * n)) (omega (arith, lD)) e₄ f₆ in
      let f₄ = laid_next s₂ (2 * n + 26) C (D ++ (end ++ zeros)) (3 * n + 36) (run-bits 10 r.second (2 * n)) (omega (arith, lC)) e₃ f₅ in
      let f₃ = laid_next s₁ (n + 16) B (C ++ (D ++ (end ++ zeros))) (2 * n + 26) (run-bits 10 r.first n) (omega (arith, lB)) e₂ f₄ in
      let f₂ = laid_next s 0 A (B ++ (C ++ (D ++ (end ++ zeros)))) (n + 16) (run-bits 16 r.head 0) (omega (arith, lA)) e₁ f₃ in
      let lz : length zeros ≡ rest = length-replicate rest 0 in
      let whole : 0 + length (A ++ (B ++ (C ++ (D ++ (end ++ zeros))))) ≡ 8 * length s =
      omega (
        arith,
        length-append A (B ++ (C ++ (D ++ (end ++ zeros)))),
        length-append B (C ++ (D ++ (end ++ zeros))),
        length-append C (D ++ (end ++ zeros)),
        length-append D (end ++ zeros),
        length-append end zeros,
        lA,
        lB,
        lC,
        lD,
        lE,
        lz,
        l,
      ) in
      f₂ ∙ laid_end s 0 (A ++ (B ++ (C ++ (D ++ (end ++ zeros))))) whole

-- ---- spare bits, or stuffing bits and what announces them

ones : (k : ℕ) → (k ≡ 0) ⊎ (k ≡ 4) → (digits_of 1 (k / 4) ≡ replicate 1 (mark_of k)) × (digits_of k 15 ≡ replicate k 1)
unfolding digits_of
ones k (inl z) = subst (λ (j : ℕ). (digits_of 1 (j / 4) ≡ replicate 1 (mark_of j)) × (digits_of j 15 ≡ replicate j 1)) (sym z) (refl, refl)
ones k (inr z) = subst (λ (j : ℕ). (digits_of 1 (j / 4) ≡ replicate 1 (mark_of j)) × (digits_of j 15 ≡ replicate j 1)) (sym z) (refl, refl)

module _ (form spare stuffed : ℕ) where
  pub marks-first : form ≡ 0 → MarksOf form spare stuffed (record { first = spare; second = spare / 2; end = spare / 4; ends = 2 })
  marks-first e =
      let t = eq-eqb form 0 e in
      record { first_is = simp t; second_is = simp t; end_is = simp t; ends_is = simp t }

  -- none or four
  pub cases : (form ≡ 0 → ⊥) → is_stuffing form stuffed ≡ true → (stuffed ≡ 0) ⊎ (stuffed ≡ 4)
  cases n e = pick (eqb stuffed 0) refl e
    where
      pick : (b : Bool) → eqb stuffed 0 ≡ b → (b || (eqb form 1 && eqb stuffed 4)) ≡ true → (stuffed ≡ 0) ⊎ (stuffed ≡ 4)
      pick true t h = inl (eqb-true stuffed 0 t)
      pick false t h = inr (eqb-true stuffed 4 (both (eqb form 1) (eqb stuffed 4) h))
        where
          both : (a b : Bool) → a && b ≡ true → b ≡ true
          both true b e = e
          both false b e = absurd (mathlib.Core.Bool.true≢false (sym e))

  pub marks-second : (form ≡ 0 → ⊥) → is_stuffing form stuffed ≡ true
      → MarksOf form spare stuffed (record { first = stuffed / 4; second = stuffed / 4; end = 15; ends = stuffed })
  marks-second n e = pick (cases n e)
    where
      t : eqb form 0 ≡ false
      t = ne_eqb form 0 n

      pick : (stuffed ≡ 0) ⊎ (stuffed ≡ 4) → MarksOf form spare stuffed (record { first = stuffed / 4; second = stuffed / 4; end = 15; ends = stuffed })
      pick c = let o = ones stuffed c in record { first_is = simp t o.0; second_is = simp t o.0; end_is = simp t o.1; ends_is = simp t }

-- ---- the runs as numbers

-- digits of check bits, from the first on, in a number whose lowest digit is crc1
turned-part : (c r j : ℕ) → c ≡ value_of (reverse (digits_of 6 r)) → j + 2 ≤ 6 → digits_of 2 (c / 2 ^ j) ≡ part j 2 (check_bits 6 r)
turned-part c r j e h =
    let k : 6 ≡ j + (6 - j) = omega arith in
    sym (digits-take 2 (6 - j) (c / 2 ^ j) (omega arith)) ∙ ap (take 2) (sym (digits-drop j (6 - j) 6 c k))
    ∙ ap (part j 2) (ap (digits_of 6) e ∙ turn-digits 6 r)

module _ (word : ℕ) (o : Overhead) (m : Marks) (c : ℕ) (t : c ≡ value_of (reverse (digits_of 6 o.crc))) where
  pub rows_are : (h f₁ f s₁ s u : ℕ) → digits_of 16 h ≡ digits_of 14 word ++ digits_of 2 o.indicators
      → digits_of 4 f₁ ≡ digits_of 1 (o.indicators / 4) ++ (digits_of 1 m.first ++ digits_of 2 (o.eoc / 16))
      → digits_of 10 f ≡ digits_of 4 o.eoc ++ (digits_of 2 c ++ digits_of 4 f₁)
      → digits_of 4 s₁ ≡ digits_of 1 (o.indicators / 8) ++ (digits_of 2 (o.eoc / 1024) ++ digits_of 1 m.second)
      → digits_of 10 s ≡ digits_of 4 (o.eoc / 64) ++ (digits_of 2 (c / 4) ++ digits_of 4 s₁)
      → digits_of 10 u ≡ digits_of 4 (o.eoc / 4096) ++ (digits_of 2 (c / 16) ++ digits_of 4 (o.eoc / 65536))
      → RowsOf word o m (record { head = h; first = f; second = s; third = u; end = m.end; ends = m.ends })
  rows_are h f₁ f s₁ s u eh ef₁ ef es₁ es eu =
      record {
        head_is = eh;
        first_is = ef ∙ ap₂ (λ (x y : List ℕ). digits_of 4 o.eoc ++ (x ++ y)) (ap (digits_of 2) (sym (div-one c)) ∙ turned-part c o.crc 0 t (lit≤ tt)) ef₁;
        second_is = es ∙ ap₂ (λ (x y : List ℕ). digits_of 4 (o.eoc / 64) ++ (x ++ y)) (turned-part c o.crc 2 t (lit≤ tt)) es₁;
        third_is = eu ∙ ap (λ (x : List ℕ). digits_of 4 (o.eoc / 4096) ++ (x ++ digits_of 4 (o.eoc / 65536))) (turned-part c o.crc 4 t (lit≤ tt));
        end_is = refl;
        ends_is = refl;
      }

-- ---- by the form itself

pub marks-synchronous : (f : Form) (spare stuffed : ℕ) → f ≡ Synchronous
    → MarksOf (form_number f) spare stuffed (record { first = spare; second = spare / 2; end = spare / 4; ends = 2 })
marks-synchronous f spare stuffed p = marks-first (form_number f) spare stuffed (ap form_number p)

pub marks-plesiochronous : (f : Form) (spare stuffed : ℕ) → f ≡ Plesiochronous → is_stuffing (form_number f) stuffed ≡ true
    → MarksOf (form_number f) spare stuffed (record { first = stuffed / 4; second = stuffed / 4; end = 15; ends = stuffed })
marks-plesiochronous f spare stuffed p h =
    let o : form_number f ≡ 1 = ap form_number p in
    marks-second (form_number f) spare stuffed (λ z. omega (arith, o, z)) h
