-- Laws of steps and runs. Assumes nothing.
use mathlib.Core.Path.{◌≡◌, refl, sym, ap, ap₂, ◌∙◌, subst}
use mathlib.Core.List.{List, [], ◌∷◌, ◌++◌}
use Prim.Native.Nat.{ℕ, zero, suc, ◌+◌, ◌-◌, ◌*◌, ◌/◌, ◌%◌, ◌^◌, ◌<◌, zero-le, suc-le-suc}
use native.Mathlib.Nat.{mod-lt}
use native.Mathlib.Numerals.{add-one}
use native.Mathlib.Omega.{arith}
use lib.Bits.{bit_xor}
use lib.ListN.{length, get_or, take}
use lib.Pow.{pow_pos}
use lib.Seq.{length-take-le, take-suc}
use Rattle.octets.specs.Bits.{laid}
use Rattle.octets.proofs.Digits.{Bits, nil-bits, cons-bits}
use Rattle.octets.proofs.Laws.{laid_more}
use Rattle.octets.proofs.Xor.{no-two}
use Rattle.recurrence.specs.Line.{sum3}
use Rattle.recurrence.specs.Run.{out_of, next_of, run_of, after_of}
use Rattle.recurrence.specs.declared.Way.{Way}

-- ---- one bit

pub sum3-lt : (a b c : ℕ) → sum3 a b c < 2
sum3-lt a b c = mod-lt (a + b + c) (suc-le-suc zero-le)

pub xor3 : (a b c : ℕ) → a < 2 → b < 2 → c < 2 → bit_xor (bit_xor a b) c ≡ sum3 a b c
xor3 zero zero zero p q r = refl
xor3 zero zero (suc zero) p q r = refl
xor3 zero (suc zero) zero p q r = refl
xor3 zero (suc zero) (suc zero) p q r = refl
xor3 (suc zero) zero zero p q r = refl
xor3 (suc zero) zero (suc zero) p q r = refl
xor3 (suc zero) (suc zero) zero p q r = refl
xor3 (suc zero) (suc zero) (suc zero) p q r = refl
xor3 zero zero (suc (suc c)) p q r = no-two c r
xor3 zero (suc zero) (suc (suc c)) p q r = no-two c r
xor3 (suc zero) zero (suc (suc c)) p q r = no-two c r
xor3 (suc zero) (suc zero) (suc (suc c)) p q r = no-two c r
xor3 zero (suc (suc b)) c p q r = no-two b q
xor3 (suc zero) (suc (suc b)) c p q r = no-two b q
xor3 (suc (suc a)) b c p q r = no-two a p

pub out-is : (tap state b : ℕ) → b < 2 → bit_xor (bit_xor b (state / 2 ^ (tap - 1) % 2)) (state / 2 ^ 22 % 2) ≡ out_of tap state b
out-is tap state b h = xor3 b (state / 2 ^ (tap - 1) % 2) (state / 2 ^ 22 % 2) h (mod-lt (state / 2 ^ (tap - 1)) (suc-le-suc zero-le)) (mod-lt (state / 2 ^ 22) (suc-le-suc zero-le))

-- ---- runs

module _ (way : Way) (tap : ℕ) where
  pub next-lt : (state b : ℕ) → next_of way tap state b < 2 ^ 23
  next-lt state b = mod-lt (state * 2 + _) (pow_pos 23)

  pub after-lt : (state : ℕ) (bs : List ℕ) → state < 2 ^ 23 → after_of way tap state bs < 2 ^ 23
  unfolding after_of
  after-lt state [] h = h
  after-lt state (b ∷ bs) h = after-lt (next_of way tap state b) bs (next-lt state b)

  pub run_length : (state : ℕ) (bs : List ℕ) → length (run_of way tap state bs) ≡ length bs
  unfolding run_of
  run_length state [] = refl
  run_length state (b ∷ bs) = ap suc (run_length (next_of way tap state b) bs)

  pub run-bits : (state : ℕ) (bs : List ℕ) → Bits (run_of way tap state bs)
  unfolding run_of
  run-bits state [] = nil-bits
  run-bits state (b ∷ bs) = cons-bits (out_of tap state b) (run_of way tap (next_of way tap state b) bs) (sum3-lt b _ _) (run-bits (next_of way tap state b) bs)

  -- two runs one after the other are one run of the joined bits
  pub run-append : (state : ℕ) (xs ys : List ℕ) → run_of way tap state (xs ++ ys) ≡ run_of way tap state xs ++ run_of way tap (after_of way tap state xs) ys
  unfolding run_of after_of
  run-append state [] ys = refl
  run-append state (x ∷ xs) ys = ap (λ (l : List ℕ). out_of tap state x ∷ l) (run-append (next_of way tap state x) xs ys)

  pub after-append : (state : ℕ) (xs ys : List ℕ) → after_of way tap state (xs ++ ys) ≡ after_of way tap (after_of way tap state xs) ys
  unfolding after_of
  after-append state [] ys = refl
  after-append state (x ∷ xs) ys = after-append (next_of way tap state x) xs ys

  pub run_none : (state : ℕ) → ([] ≡ run_of way tap state []) × (state ≡ after_of way tap state [])
  unfolding run_of after_of
  run_none state = (refl, refl)

  run-one : (state b : ℕ) → (run_of way tap state (b ∷ []) ≡ out_of tap state b ∷ []) × (after_of way tap state (b ∷ []) ≡ next_of way tap state b)
  unfolding run_of after_of
  run-one state b = (refl, refl)

  -- one bit more: what the loop has after k bits of F, and after the next
  module _ (F : List ℕ) (start k st b : ℕ) (h : k < length F) (e : st ≡ after_of way tap start (take k F)) (g : b ≡ get_or F k 0) where
    grown : take (k + 1) F ≡ take k F ++ (b ∷ [])
    grown = ap (λ (n : ℕ). take n F) (add-one k) ∙ take-suc F k 0 h ∙ ap (λ (x : ℕ). take k F ++ (x ∷ [])) (sym g)

    pub state-next : next_of way tap st b ≡ after_of way tap start (take (k + 1) F)
    state-next =
        sym (ap (after_of way tap start) grown ∙ after-append start (take k F) (b ∷ []) ∙ (run-one (after_of way tap start (take k F)) b).1
        ∙ ap (λ (s : ℕ). next_of way tap s b) (sym e))

    pub run-next : (at : ℕ) (out₀ o t : List ℕ) (s : ℕ) → o ≡ laid out₀ at (run_of way tap start (take k F)) → s ≡ out_of tap st b → t ≡ laid o (k + at) (s % 2 ∷ [])
        → t ≡ laid out₀ at (run_of way tap start (take (k + 1) F))
    run-next at out₀ o t s p q r =
        let R = run_of way tap start (take k F) in
        let lt : s < 2 = subst (λ (x : ℕ). x < 2) (sym q) (sum3-lt b _ _) in
        let one : s % 2 ≡ s = omega arith in
        let place : k + at ≡ at + k = omega arith in
        laid_more out₀ at R k s (run-bits start (take k F)) (run_length start (take k F) ∙ length-take-le k F (omega arith)) p
        (r ∙ ap₂ (λ (n x : ℕ). laid o n (x ∷ [])) place one)
        ∙ ap (laid out₀ at)
        (ap (λ (x : ℕ). R ++ (x ∷ [])) (q ∙ ap (λ (x : ℕ). out_of tap x b) e)
        ∙ ap (λ (l : List ℕ). R ++ l) (sym (run-one (after_of way tap start (take k F)) b).0)
        ∙ sym (run-append start (take k F) (b ∷ []))
        ∙ ap (run_of way tap start) (sym grown))
