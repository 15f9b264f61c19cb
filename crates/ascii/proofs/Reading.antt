-- The text of a number reads back as the number; decimal text is the one decimal form. Assumes nothing.
use mathlib.Core.Path.{◌≡◌, refl, sym, ap, ap₂, ◌∙◌, subst}
use mathlib.Core.List.{List, [], ◌∷◌, ◌++◌}
use Prim.Native.Nat.{ℕ, zero, suc, ◌+◌, ◌-◌, ◌*◌, ◌/◌, ◌%◌, ◌≤◌, ◌<◌}
use native.Mathlib.Decide.{dec_lt}
use native.Mathlib.Omega.{arith}
use borrow.Author.Tests.{lt-ltb, le-ltb}
use lib.ListN.{length, get_or, take, length-append, get_or-append}
use lib.Seq.{take-suc, take_all, get_or-take, length-take-le, get_or_at}
use Rattle.ascii.specs.Text.{digit, decimal, hex, digit_of, reading, Decimal}
use Rattle.ascii.proofs.Numbers.{decimal-small, decimal-more}

-- a digit's character stands for it
digit-back : (d : ℕ) → d < 16 → digit_of (digit d) ≡ d
digit-back d h = pick (dec_lt d 10)
  where
    pick : Dec (d < 10) → digit_of (digit d) ≡ d
    pick (yes l) = simp (lt-ltb d 10 l, lt-ltb (48 + d) 65 (omega arith)) (omega arith)
    pick (no l) = simp (le-ltb d 10 (omega arith), le-ltb (55 + d) 65 (omega arith)) (omega arith)

-- one character more
pub reading-more : (base read : ℕ) (cs : List ℕ) (c : ℕ) → reading base read (cs ++ (c ∷ [])) ≡ reading base read cs * base + digit_of c
unfolding reading
reading-more base read [] c = refl
reading-more base read (d ∷ cs) c = reading-more base (read * base + digit_of d) cs c

-- what is read does not fall
pub reading-grows : (read : ℕ) (cs : List ℕ) → read ≤ reading 10 read cs
unfolding reading
reading-grows read [] = omega arith
reading-grows read (c ∷ cs) = omega (arith, reading-grows (read * 10 + digit_of c) cs)

-- ---- decimal

-- n below n + 1 and so on down: a law of every number whose tenth has it
by-tenths : (P : ℕ → Type 0) → ((n : ℕ) → n < 10 → P n) → ((n : ℕ) → 10 ≤ n → P (n / 10) → P n) → (n : ℕ) → P n
by-tenths P small more n = go n n (omega arith)
  where
    go : (most n : ℕ) → n ≤ most → P n
    go zero n h = small n (omega arith)
    go (suc most) n h = pick (dec_lt n 10) (λ l. go most (n / 10) (omega arith))
      where
        pick : Dec (n < 10) → (10 ≤ n → P (n / 10)) → P n
        pick (yes l) rest = small n l
        pick (no l) rest = more n (omega arith) (rest (omega arith))

-- what holds of each character of a text and of one more behind them
each_more : (Q : ℕ → Type 0) (cs : List ℕ) (c : ℕ) → ((i : ℕ) → i < length cs → Q (get_or cs i 0)) → Q c
    → (i : ℕ) → i < length (cs ++ (c ∷ [])) → Q (get_or (cs ++ (c ∷ [])) i 0)
each_more Q cs c all one i h = pick (dec_lt i (length cs))
  where
    pick : Dec (i < length cs) → Q (get_or (cs ++ (c ∷ [])) i 0)
    pick (yes l) = subst Q (sym (get_or-append cs (c ∷ []) 0 i l)) (all i l)
    pick (no l) = subst Q (sym (get_or_at cs c [] 0 i (omega (arith, length-append cs (c ∷ []))))) one

-- a text of one character that is 0 reads as 0
reads-zero : (cs : List ℕ) → length cs ≡ 1 → get_or cs 0 0 ≡ 48 → reading 10 0 cs ≡ 0
unfolding reading
reads-zero [] h e = refl
reads-zero (c ∷ []) h e = ap (λ (x : ℕ). 0 * 10 + digit_of x) e
reads-zero (c ∷ d ∷ cs) h e = absurd (omega arith)

-- a text whose first character is 1 to 9 reads as 1 or more
reads-some : (cs : List ℕ) → 0 < length cs → 49 ≤ get_or cs 0 0 → get_or cs 0 0 ≤ 57 → 1 ≤ reading 10 0 cs
unfolding reading
reads-some [] h l u = absurd (omega arith)
reads-some (c ∷ cs) h l u = omega (arith, value, reading-grows (0 * 10 + digit_of c) cs)
  where
    value : digit_of c ≡ c - 48
    value = simp (lt-ltb c 65 (omega arith))

reads_none : reading 10 0 [] ≡ 0
unfolding reading
reads_none = refl

-- a decimal form of one or more does not begin with 0
leading : (n : ℕ) (cs : List ℕ) → 0 < n → Decimal n cs → get_or cs 0 0 ≡ 48 → ⊥
leading n cs h d e = pick (dec_lt 1 (length cs))
  where
    pick : Dec (1 < length cs) → ⊥
    pick (yes l) = d.first l e
    pick (no l) = omega (arith, d.some, d.reads, reads-zero cs (omega (arith, d.some)) e)

-- the text of n is a decimal form of it
pub decimal-is : (n : ℕ) → Decimal n (decimal n)
decimal-is = by-tenths (λ n. Decimal n (decimal n)) small more
  where
    small : (n : ℕ) → n < 10 → Decimal n (decimal n)
    small n h =
        let e : digit n ≡ 48 + n = simp (lt-ltb n 10 h) in
        subst (Decimal n) (sym (decimal-small n h ∙ ap (λ (c : ℕ). c ∷ []) e))
        (record {
          some = omega arith;
          low = each_more (λ c. 48 ≤ c) [] (48 + n) (λ i l. absurd (omega arith)) (omega arith);
          high = each_more (λ c. c ≤ 57) [] (48 + n) (λ i l. absurd (omega arith)) (omega arith);
          reads = reading-more 10 0 [] (48 + n) ∙ ap (λ (d : ℕ). reading 10 0 [] * 10 + digit_of d) (sym e)
              ∙ ap₂ (λ (x y : ℕ). x * 10 + y) reads_none (digit-back n (omega arith)) ∙ omega arith;
          first = λ l. absurd (omega arith);
        })

    more : (n : ℕ) → 10 ≤ n → Decimal (n / 10) (decimal (n / 10)) → Decimal n (decimal n)
    more n h d =
        let t = decimal (n / 10) in
        let c = digit (n % 10) in
        let e : c ≡ 48 + n % 10 = simp (lt-ltb (n % 10) 10 (omega arith)) in
        let l : length (t ++ (c ∷ [])) ≡ length t + 1 = length-append t (c ∷ []) in
        subst (Decimal n) (sym (decimal-more n h))
        (record {
          some = omega arith;
          low = each_more (λ x. 48 ≤ x) t c d.low (omega arith);
          high = each_more (λ x. x ≤ 57) t c d.high (omega arith);
          reads = reading-more 10 0 t c ∙ ap₂ (λ (x y : ℕ). x * 10 + y) d.reads (digit-back (n % 10) (omega arith)) ∙ omega arith;
          first = λ many f. leading (n / 10) t (omega arith) d (sym (get_or-append t (c ∷ []) 0 0 d.some) ∙ f);
        })

-- a decimal form as its last character and those in front of it
module _ (n : ℕ) (cs : List ℕ) (d : Decimal n cs) where
  abbrev k : ℕ
  k = length cs - 1

  abbrev front : List ℕ
  front = take k cs

  abbrev last : ℕ
  last = get_or cs k 0

  within : k < length cs
  within = omega (arith, d.some)

  parts : cs ≡ front ++ (last ∷ [])
  parts = sym (take_all (suc k) cs (omega arith)) ∙ take-suc cs k 0 within

  number : reading 10 0 front * 10 + (last - 48) ≡ n
  number =
      let v : digit_of last ≡ last - 48 = simp (lt-ltb last 65 (omega (arith, d.high k within))) in
      ap (λ (x : ℕ). reading 10 0 front * 10 + x) (sym v) ∙ sym (reading-more 10 0 front last) ∙ ap (reading 10 0) (sym parts) ∙ d.reads

  front-is : reading 10 0 front ≡ n / 10
  front-is = omega (arith, number, d.low k within, d.high k within)

  last-is : last ≡ digit (n % 10)
  last-is =
      let e : digit (n % 10) ≡ 48 + n % 10 = simp (lt-ltb (n % 10) 10 (omega arith)) in
      omega (arith, e, number, d.low k within, d.high k within)

  front_length : length front ≡ k
  front_length = length-take-le k cs (omega arith)

  module _ (many : 1 < length cs) where
    front-decimal : Decimal (n / 10) front
    front-decimal =
        record {
          some = omega (arith, front_length);
          low = λ i l. subst (λ (x : ℕ). 48 ≤ x) (sym (get_or-take k cs i 0 (omega (arith, front_length)))) (d.low i (omega (arith, front_length)));
          high = λ i l. subst (λ (x : ℕ). x ≤ 57) (sym (get_or-take k cs i 0 (omega (arith, front_length)))) (d.high i (omega (arith, front_length)));
          reads = front-is;
          first = λ l e. d.first many (sym (get_or-take k cs 0 0 (omega arith)) ∙ e);
        }

    tenth-some : 1 ≤ n / 10
    tenth-some =
        let g : get_or front 0 0 ≡ get_or cs 0 0 = get_or-take k cs 0 0 (omega arith) in
        let f = front-decimal in
        omega (arith, front-is, reads-some front f.some (above (get_or front 0 0) (f.low 0 f.some) (λ e. d.first many (sym g ∙ e))) (f.high 0 f.some))
      where
        above : (x : ℕ) → 48 ≤ x → (x ≡ 48 → ⊥) → 49 ≤ x
        above x l h = omega arith

  -- of one character
  one-front : length cs ≤ 1 → front ≡ []
  one-front h = let e : k ≡ 0 = omega arith in ap (λ (j : ℕ). take j cs) e

-- and the only one
pub decimal-only : (n : ℕ) (cs : List ℕ) → Decimal n cs → cs ≡ decimal n
decimal-only = by-tenths (λ n. (cs : List ℕ) → Decimal n cs → cs ≡ decimal n) small more
  where
    small : (n : ℕ) → n < 10 → (cs : List ℕ) → Decimal n cs → cs ≡ decimal n
    small n h cs d = pick (dec_lt 1 (length cs))
      where
        pick : Dec (1 < length cs) → cs ≡ decimal n
        pick (yes l) = absurd (omega (arith, tenth-some n cs d l))
        pick (no l) =
            let e : n % 10 ≡ n = omega arith in
            parts n cs d ∙ ap₂ (λ (f : List ℕ) (x : ℕ). f ++ (x ∷ [])) (one-front n cs d (omega arith)) (last-is n cs d ∙ ap digit e)
            ∙ sym (decimal-small n h)

    more : (n : ℕ) → 10 ≤ n → ((cs : List ℕ) → Decimal (n / 10) cs → cs ≡ decimal (n / 10)) → (cs : List ℕ) → Decimal n cs → cs ≡ decimal n
    more n h rest cs d = pick (dec_lt 1 (length cs))
      where
        pick : Dec (1 < length cs) → cs ≡ decimal n
        pick (yes l) =
            parts n cs d
            ∙ ap₂ (λ (f : List ℕ) (x : ℕ). f ++ (x ∷ [])) (rest (front n cs d) (front-decimal n cs d l)) (last-is n cs d)
            ∙ sym (decimal-more n h)
        pick (no l) =
            let e : reading 10 0 (front n cs d) ≡ 0 = ap (reading 10 0) (one-front n cs d (omega arith)) ∙ reads_none in
            absurd (omega (arith, front-is n cs d))

-- ---- hex

-- two digits read as the octet, and four as the number of its two octets
pub hex-reads : (o : ℕ) → o < 256 → reading 16 0 (hex o) ≡ o
unfolding hex reading
hex-reads o h = ap₂ (λ (x y : ℕ). (0 * 16 + x) * 16 + y) (digit-back (o / 16) (omega arith)) (digit-back (o % 16) (omega arith)) ∙ omega arith

pub hex-four : (c : ℕ) → c < 65536 → reading 16 0 (hex (c / 256) ++ hex (c % 256)) ≡ c
unfolding hex reading
hex-four c h =
    ap₂ (λ (x y : ℕ). ((x * 16 + y) * 16 + digit_of (digit (c % 256 / 16))) * 16 + digit_of (digit (c % 256 % 16)))
    (ap (λ (x : ℕ). 0 * 16 + x) (digit-back (c / 256 / 16) (omega arith))) (digit-back (c / 256 % 16) (omega arith))
    ∙ ap₂ (λ (x y : ℕ). (((0 * 16 + c / 256 / 16) * 16 + c / 256 % 16) * 16 + x) * 16 + y) (digit-back (c % 256 / 16) (omega arith))
    (digit-back (c % 256 % 16) (omega arith))
    ∙ omega arith
