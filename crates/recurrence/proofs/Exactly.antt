-- The step and the run are exactly the recurrence over the whole stream, for any length; descrambling gives the input back; scrambling is
-- one-to-one; a descrambler with a wrong state is right from the 24th bit on. Assumes nothing.
use mathlib.Core.Path.{◌≡◌, refl, sym, ap, ap₂, ◌∙◌, subst}
use mathlib.Core.List.{List, [], ◌∷◌, ◌++◌, append_assoc, append-nil, reverse, reverse-append, reverse-cons, reverse-reverse}
use Prim.Native.Nat.{ℕ, zero, suc, ◌+◌, ◌-◌, ◌*◌, ◌/◌, ◌%◌, ◌^◌, ◌≤◌, ◌<◌}
use native.Mathlib.Nat.{le_of_suc-le-suc, not-suc-le-zero, mod-eq_of_lt}
use native.Mathlib.Decide.{dec_lt}
use native.Mathlib.Omega.{arith}
use lib.Arith.{digits_div, digits_mod}
use lib.Dec.{lit≤}
use lib.ListN.{length, get_or, take, length-append, length-reverse, get_or-append}
use lib.Seq.{get_or-append-add, get_or-append_seam, take_all, take-append-le, ext_get_or}
use Rattle.octets.specs.Bits.{digits_of, value_of}
use Rattle.octets.proofs.Digits.{Bits, digits-length, digits-at, digits_more, digits-mod-pow, value-digits}
use Rattle.recurrence.specs.Line.{sum3, line, Scrambles, Descrambles, newest}
use Rattle.recurrence.specs.Run.{out_of, pushed, run_of, after_of}
use Rattle.recurrence.specs.declared.Way.{Way}
use Rattle.recurrence.specs.declared.Way.TheVariants.{Scramble as scramble, Descramble as descramble}
use Rattle.recurrence.proofs.Laws.{sum3-lt, run_length}

-- ---- the line and the state

pub reverse-at : (l : List ℕ) (i : ℕ) → i < length l → get_or (reverse l) i 0 ≡ get_or l (length l - 1 - i) 0
reverse-at [] i h = absurd (not-suc-le-zero h)
reverse-at (x ∷ l) i h = ap (λ (r : List ℕ). get_or r i 0) (reverse-cons x l) ∙ pick (dec_lt i (length l)) (reverse-at l i)
  where
    pick : Dec (i < length l) → (i < length l → get_or (reverse l) i 0 ≡ get_or l (length l - 1 - i) 0)
        → get_or (reverse l ++ (x ∷ [])) i 0 ≡ get_or (x ∷ l) (suc (length l) - 1 - i) 0
    pick (yes k) f =
        let e : suc (length l) - 1 - i ≡ suc (length l - 1 - i) = omega arith in
        get_or-append (reverse l) (x ∷ []) 0 i (omega (arith, length-reverse l)) ∙ f k ∙ ap (λ (n : ℕ). get_or (x ∷ l) n 0) (sym e)
    pick (no k) f =
        let e : i ≡ length (reverse l) = omega (arith, length-reverse l) in
        let z : suc (length l) - 1 - i ≡ 0 = omega arith in
        ap (λ (n : ℕ). get_or (reverse l ++ (x ∷ [])) n 0) e ∙ get_or-append_seam (reverse l) x [] 0 ∙ ap (λ (n : ℕ). get_or (x ∷ l) n 0) (sym z)

-- the bit d back on the line is digit d - 1 of the state
pub line-state : (state : ℕ) (s : List ℕ) (d : ℕ) → 1 ≤ d → d ≤ 23 → get_or (line state s) (23 - d) 0 ≡ state / 2 ^ (d - 1) % 2
line-state state s d h l =
    let D = digits_of 23 state in
    let n : length D ≡ 23 = digits-length 23 state in
    let e : length D - 1 - (23 - d) ≡ d - 1 = omega arith in
    get_or-append (reverse D) s 0 (23 - d) (omega (arith, length-reverse D))
    ∙ reverse-at D (23 - d) (omega arith) ∙ ap (λ (i : ℕ). get_or D i 0) e ∙ digits-at 23 state (d - 1) (omega arith)

-- what stands on the line behind the state's bits
pub line_after : (state : ℕ) (s : List ℕ) (j k : ℕ) → 23 + j ≡ k → get_or (line state s) k 0 ≡ get_or s j 0
line_after state s j k e =
    let D = digits_of 23 state in
    let n : length (reverse D) + j ≡ k = ap (λ (i : ℕ). i + j) (length-reverse D ∙ digits-length 23 state) ∙ e in
    ap (λ (i : ℕ). get_or (line state s) i 0) (sym n) ∙ get_or-append-add (reverse D) s j 0

-- the line without its oldest bit is the line of the pushed state
line-pushed : (state s : ℕ) (ss : List ℕ) → s < 2 → line state (s ∷ ss) ≡ state / 2 ^ 22 % 2 ∷ line (pushed state s) ss
unfolding digits_of
line-pushed state s ss h =
    let D = digits_of 22 state in
    let o = state / 2 ^ 22 % 2 in
    let new : digits_of 23 (pushed state s) ≡ s ∷ D =
    digits-mod-pow 23 (state * 2 + s) ∙ ap₂ (λ (x y : ℕ). x ∷ digits_of 22 y) (digits_mod state h) (digits_div state h) in
    ap (λ (l : List ℕ). reverse l ++ (s ∷ ss)) (digits_more 22 state)
    ∙ ap (λ (l : List ℕ). l ++ (s ∷ ss)) (reverse-append D (o ∷ []))
    ∙ ap (λ (l : List ℕ). o ∷ l) (sym (append_assoc (reverse D) (s ∷ []) ss))
    ∙ ap (λ (l : List ℕ). o ∷ (l ++ ss)) (sym (reverse-cons s D))
    ∙ ap (λ (l : List ℕ). o ∷ (reverse l ++ ss)) (sym new)

line-next : (state s : ℕ) (ss : List ℕ) → s < 2 → (i : ℕ) → get_or (line state (s ∷ ss)) (suc i) 0 ≡ get_or (line (pushed state s) ss) i 0
line-next state s ss h i = ap (λ (l : List ℕ). get_or l (suc i) 0) (line-pushed state s ss h)

-- the two bits that a step takes from the state are those on the line
pub out_line : (tap state b : ℕ) (s : List ℕ) → 1 ≤ tap → tap ≤ 23 → out_of tap state b ≡ sum3 b (get_or (line state s) (23 - tap) 0) (get_or (line state s) 0 0)
out_line tap state b s h l =
    ap₂ (λ (x y : ℕ). sum3 b x y) (sym (line-state state s tap h l)) (sym (line-state state s 23 (lit≤ tt) (lit≤ tt)))

-- ---- the run obeys the recurrence

-- what is on the line: what comes out when scrambling, what comes in when descrambling
sent_of : Way → List ℕ → List ℕ → List ℕ
sent_of scramble f o = o
sent_of descramble f o = f

module _ (tap : ℕ) (h : 1 ≤ tap) (l : tap ≤ 23) where
  obeys : (way : Way) (state : ℕ) (f : List ℕ) → Bits f → (n : ℕ) → n < length f
      → let w = sent_of way f (run_of way tap state f) in
      get_or (run_of way tap state f) n 0 ≡ sum3 (get_or f n 0) (get_or (line state w) (23 + n - tap) 0) (get_or (line state w) n 0)
  unfolding run_of sent_of
  obeys way state [] hf n k = absurd (not-suc-le-zero k)
  obeys scramble state (b ∷ bs) hf zero k =
      let s = out_of tap state b in
      out_line tap state b (s ∷ run_of scramble tap (pushed state s) bs) h l
      ∙ ap (λ (i : ℕ). sum3 b (get_or (line state (s ∷ run_of scramble tap (pushed state s) bs)) i 0) (get_or (line state (s ∷ run_of scramble tap (pushed state s) bs)) 0 0)) (omega arith)
  obeys descramble state (b ∷ bs) hf zero k =
      out_line tap state b (b ∷ bs) h l ∙ ap (λ (i : ℕ). sum3 b (get_or (line state (b ∷ bs)) i 0) (get_or (line state (b ∷ bs)) 0 0)) (omega arith)
  obeys scramble state (b ∷ bs) hf (suc n) k =
      let s = out_of tap state b in
      let ss = run_of scramble tap (pushed state s) bs in
      let e : 23 + suc n - tap ≡ suc (23 + n - tap) = omega arith in
      obeys scramble (pushed state s) bs (λ i. hf (suc i)) n (le_of_suc-le-suc k)
      ∙ ap₂ (λ (x y : ℕ). sum3 (get_or bs n 0) x y)
      (sym (ap (λ (i : ℕ). get_or (line state (s ∷ ss)) i 0) e ∙ line-next state s ss (sum3-lt b _ _) (23 + n - tap)))
      (sym (line-next state s ss (sum3-lt b _ _) n))
  obeys descramble state (b ∷ bs) hf (suc n) k =
      let e : 23 + suc n - tap ≡ suc (23 + n - tap) = omega arith in
      obeys descramble (pushed state b) bs (λ i. hf (suc i)) n (le_of_suc-le-suc k)
      ∙ ap₂ (λ (x y : ℕ). sum3 (get_or bs n 0) x y)
      (sym (ap (λ (i : ℕ). get_or (line state (b ∷ bs)) i 0) e ∙ line-next state b bs (hf 0) (23 + n - tap)))
      (sym (line-next state b bs (hf 0) n))

  -- scrambling is the recurrence
  pub run-scrambles : (state : ℕ) (f : List ℕ) → Bits f → Scrambles tap state f (run_of scramble tap state f)
  unfolding sent_of
  run-scrambles state f hf = record { size = run_length scramble tap state f; rule = λ n k. obeys scramble state f hf n k }

  -- descrambling adds the same two received bits
  pub run-descrambles : (state : ℕ) (s : List ℕ) → Bits s → Descrambles tap state s (run_of descramble tap state s)
  unfolding sent_of
  run-descrambles state s hs = record { size = run_length descramble tap state s; rule = λ n k. obeys descramble state s hs n k }

  -- ---- and nothing else is

  pub scrambles-run : (state : ℕ) (f s : List ℕ) → Scrambles tap state f s → s ≡ run_of scramble tap state f
  unfolding run_of
  scrambles-run state [] [] r = refl
  scrambles-run state [] (x ∷ s) r = absurd (omega (arith, r.size))
  scrambles-run state (b ∷ f) [] r = absurd (omega (arith, r.size))
  scrambles-run state (b ∷ f) (x ∷ s) r =
      let z : 23 + 0 - tap ≡ 23 - tap = omega arith in
      let first : x ≡ out_of tap state b =
      r.rule 0 (omega arith) ∙ ap (λ (i : ℕ). sum3 b (get_or (line state (x ∷ s)) i 0) (get_or (line state (x ∷ s)) 0 0)) z ∙ sym (out_line tap state b (x ∷ s) h l) in
      let lt : x < 2 = subst (λ (n : ℕ). n < 2) (sym first) (sum3-lt b _ _) in
      ap₂ (λ (n : ℕ) (t : List ℕ). n ∷ t) first
      (scrambles-run (pushed state x) f s (rest lt) ∙ ap (λ (n : ℕ). run_of scramble tap (pushed state n) f) first)
    where
      rest : x < 2 → Scrambles tap (pushed state x) f s
      rest lt =
          record {
            size = omega (arith, r.size);
            rule = λ n k. let e : 23 + suc n - tap ≡ suc (23 + n - tap) = omega arith in
                r.rule (suc n) (omega arith)
                ∙ ap₂ (λ (u v : ℕ). sum3 (get_or f n 0) u v)
                (ap (λ (i : ℕ). get_or (line state (x ∷ s)) i 0) e ∙ line-next state x s lt (23 + n - tap)) (line-next state x s lt n);
          }

  pub descrambles-run : (state : ℕ) (s f : List ℕ) → Bits s → Descrambles tap state s f → f ≡ run_of descramble tap state s
  descrambles-run state s f hs r =
      ext_get_or 0 f (run_of descramble tap state s) (r.size ∙ sym (run_length descramble tap state s))
      (λ i k. r.rule i (omega (arith, r.size)) ∙ sym ((run-descrambles state s hs).rule i (omega (arith, r.size))))

  -- ---- a wrong state

  -- from the 24th bit on a descrambler is right whatever its state was
  pub synchronises : (state state' : ℕ) (s : List ℕ) (n : ℕ) → Bits s → 23 ≤ n → n < length s
      → get_or (run_of descramble tap state s) n 0 ≡ get_or (run_of descramble tap state' s) n 0
  synchronises state state' s n hs k m = at state ∙ sym (at state')
    where
      at : (x : ℕ) → get_or (run_of descramble tap x s) n 0 ≡ sum3 (get_or s n 0) (get_or s (n - tap) 0) (get_or s (n - 23) 0)
      at x =
          (run-descrambles x s hs).rule n m
          ∙ ap₂ (λ (u v : ℕ). sum3 (get_or s n 0) u v) (line_after x s (n - tap) (23 + n - tap) (omega arith)) (line_after x s (n - 23) n (omega arith))

-- ---- the state handed back

newest-none : (state : ℕ) → state < 2 ^ 23 → newest state [] ≡ state
newest-none state h =
    let D = digits_of 23 state in
    ap (λ (x : List ℕ). value_of (take 23 (reverse x))) (append-nil (reverse D))
    ∙ ap (λ (x : List ℕ). value_of (take 23 x)) (reverse-reverse D)
    ∙ ap value_of (take_all 23 D (omega (arith, digits-length 23 state))) ∙ value-digits 23 state ∙ mod-eq_of_lt h

newest-cons : (state s : ℕ) (ss : List ℕ) → s < 2 → newest state (s ∷ ss) ≡ newest (pushed state s) ss
newest-cons state s ss h =
    let L = line (pushed state s) ss in
    let o = state / 2 ^ 22 % 2 in
    let n : 23 ≤ length (reverse L) =
    omega (arith, length-reverse L, length-append (reverse (digits_of 23 (pushed state s))) ss, length-reverse (digits_of 23 (pushed state s)), digits-length 23 (pushed state s)) in
    ap (λ (x : List ℕ). value_of (take 23 (reverse x))) (line-pushed state s ss h)
    ∙ ap (λ (x : List ℕ). value_of (take 23 x)) (reverse-cons o L)
    ∙ ap value_of (take-append-le 23 (reverse L) (o ∷ []) n)

pushed-lt : (state s : ℕ) → pushed state s < 2 ^ 23
pushed-lt state s = omega arith

-- after scrambling it is the last 23 bits that came out
pub scrambled-state : (tap state : ℕ) (f : List ℕ) → state < 2 ^ 23 → after_of scramble tap state f ≡ newest state (run_of scramble tap state f)
unfolding after_of run_of
scrambled-state tap state [] h = sym (newest-none state h)
scrambled-state tap state (b ∷ f) h =
    let s = out_of tap state b in
    scrambled-state tap (pushed state s) f (pushed-lt state s) ∙ sym (newest-cons state s (run_of scramble tap (pushed state s) f) (sum3-lt b _ _))

-- after descrambling, the last 23 that came in
pub descrambled-state : (tap state : ℕ) (s : List ℕ) → state < 2 ^ 23 → Bits s → after_of descramble tap state s ≡ newest state s
unfolding after_of
descrambled-state tap state [] h hs = sym (newest-none state h)
descrambled-state tap state (x ∷ s) h hs =
    descrambled-state tap (pushed state x) s (pushed-lt state x) (λ i. hs (suc i)) ∙ sym (newest-cons state x s (hs 0))

-- ---- there and back

pub sum3-twice : (b x y : ℕ) → b < 2 → sum3 (sum3 b x y) x y ≡ b
sum3-twice b x y h = omega arith

-- descrambling with the sender's state gives the input back, and the sender's next state
pub back : (tap state : ℕ) (f : List ℕ) → Bits f
    → (run_of descramble tap state (run_of scramble tap state f) ≡ f) × (after_of descramble tap state (run_of scramble tap state f) ≡ after_of scramble tap state f)
unfolding run_of after_of
back tap state [] h = (refl, refl)
back tap state (b ∷ f) h =
    let s = out_of tap state b in
    let r = back tap (pushed state s) f (λ i. h (suc i)) in
    (ap₂ (λ (x : ℕ) (y : List ℕ). x ∷ y) (sum3-twice b _ _ (h 0)) r.0, r.1)

-- scrambling is one-to-one
pub one-to-one : (tap state : ℕ) (f g : List ℕ) → Bits f → Bits g → run_of scramble tap state f ≡ run_of scramble tap state g → f ≡ g
one-to-one tap state f g hf hg e = sym (back tap state f hf).0 ∙ ap (run_of descramble tap state) e ∙ (back tap state g hg).0
