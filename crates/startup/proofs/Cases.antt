-- Some lists, by computation: the definitions are not empty, the two tests at the 15,000th tick come out as SCOPE says, and so does a silence at its last tick.
-- Assumes nothing.
use Prim.Native.Nat.{ℕ, zero, suc, pred, ◌+◌, ◌-◌, ◌<◌}
use native.Mathlib.Numerals.{unary_clauses}
use native.Mathlib.Omega.{arith}
use mathlib.Core.Path.{◌≡◌, refl, ap, ◌∙◌}
use mathlib.Core.Bool.{Bool, false, cond}
use mathlib.Core.List.{List, [], ◌∷◌, ◌++◌}
use borrow.Author.Tests.{ne_eqb}
use lib.ListN.{replicate}
use Rattle.supervisor.specs.Names.{Sr, Tr, Exception}
use Rattle.startup.specs.Reports.{Need, need}
use Rattle.startup.specs.Attempts.{Needs, needs_of, meant}
use Rattle.startup.specs.Scan.{Attempt, attempt, less, nothing, Stand, trying, silent, onward, scanned, event, logged, scan, attempts}

-- NTU: a 1 and 300 ticks, so that the attempt opens at the place 300; then to the end of Quiet, with a 4 too early
abbrev pub quiet : List ℕ
quiet = 1 ∷ replicate 300 0 ++ (4 ∷ replicate 2500 0)

-- that 4 does not count: 4, 5 and then 7 are lacking, and 12,500 ticks are left, whatever the silence
after-quiet : (silence : ℕ) (l : List ℕ) → attempts (needs_of 1 silence) (quiet ++ l) ≡ scan (needs_of 1 silence) 2802
    (trying (need Sr 0 (4 ∷ 5 ∷ [])) (need Tr 0 (7 ∷ []) ∷ []) 12500) (attempt 300 1 0 ∷ []) l
after-quiet silence l = refl

-- 5, 4 and 7 after it end the attempt in data mode; a 7 too early and a 9 do nothing
pub settles : (silence : ℕ) → attempts (needs_of 1 silence) (quiet ++ (5 ∷ 7 ∷ 9 ∷ 4 ∷ 7 ∷ [])) ≡ attempt 300 2 2806 ∷ []
settles silence = after-quiet silence (5 ∷ 7 ∷ 9 ∷ 4 ∷ 7 ∷ [])

-- ---- many ticks

-- while more than one is left, a tick only counts it down
abbrev CountsDown : Needs → (ℕ → Stand) → Type 0
CountsDown k w = (left : ℕ) → 1 < left → (scanned k 0 (w left) ≡ w (pred left)) × (event (w left) (w (pred left)) ≡ 0)

module _ (k : Needs) (w : ℕ → Stand) (down : CountsDown k w) (log : List Attempt) (l : List ℕ) where
  one-tick : (p left : ℕ) (xs : List ℕ) → 1 < left → scan k p (w left) log (0 ∷ xs) ≡ scan k (suc p) (w (pred left)) log xs
  one-tick p left xs h =
      ap (λ (v : Stand). scan k (suc p) v (logged p (event (w left) v) log) xs) (down left h).0
      ∙ ap (λ (n : ℕ). scan k (suc p) (w (pred left)) (logged p n log) xs) (down left h).1

  -- n of them, fewer than are left
  ticks : (n p left : ℕ) → n < left → scan k p (w left) log (replicate n 0 ++ l) ≡ scan k (p + n) (w (left - n)) log l
  ticks zero p left h = simp unary_clauses
  ticks (suc n) p left h =
      let q : suc p + n ≡ p + suc n = omega arith in
      let r : pred left - n ≡ left - suc n = omega arith in
      one-tick p left (replicate n 0 ++ l) (omega arith) ∙ rw (← q, ← r) (ticks n (suc p) (pred left) (omega arith))

-- an attempt's ticks are counted down to its 15,000th while a report is lacking and its phase needs no more ticks
module _ (k : Needs) (d : Need) (ds : List Need) (same : less 0 d ≡ d) (lacks : nothing d ≡ false) where
  in-vain : CountsDown k (trying d ds)
  in-vain left h = (
    rw (ne_eqb (pred left) 0 (λ q. omega arith))
        (ap (λ (x : Need). cond (nothing x) (onward ds (pred left)) (trying x ds (pred left))) same
        ∙ ap (λ (b : Bool). cond b (onward ds (pred left)) (trying d ds (pred left))) lacks),
    refl,
  )

-- the 15,000th ends it
time-is-up : (k : Needs) (d : Need) (ds : List Need) (o p : ℕ) (l : List ℕ)
    → scan k p (trying d ds 1) (attempt o 1 0 ∷ []) (0 ∷ l) ≡ scan k (suc p) (silent k.silence) (attempt o 3 p ∷ []) l
time-is-up k d ds o p l = refl

-- a silence's are counted down to its last
abbrev resting : ℕ → Stand
resting left = silent (need Exception left [])

at_rest : (k : Needs) → CountsDown k resting
at_rest k left h = (rw (ne_eqb (pred left) 0 (λ q. omega arith)) refl, refl)

-- ---- the 15,000th tick

abbrev until-7 : Need
until-7 = need Tr 0 (7 ∷ [])

-- report 7 after tick 14,999, and after one tick more
in_time : attempts (needs_of 1 2000) (quiet ++ (4 ∷ 5 ∷ replicate 12499 0) ++ (7 ∷ [])) ≡ attempt 300 2 15303 ∷ []
in_time =
    after-quiet 2000 (4 ∷ 5 ∷ replicate 12499 0 ++ (7 ∷ []))
    ∙ ticks (needs_of 1 2000) (trying until-7 []) (in-vain (needs_of 1 2000) until-7 [] refl refl) (attempt 300 1 0 ∷ []) (7 ∷ []) 12499 2804 12500 (omega arith)

too-late : attempts (needs_of 1 2000) (quiet ++ (4 ∷ 5 ∷ replicate 12499 0) ++ (0 ∷ 7 ∷ [])) ≡ attempt 300 3 15303 ∷ []
too-late =
    after-quiet 2000 (4 ∷ 5 ∷ replicate 12499 0 ++ (0 ∷ 7 ∷ []))
    ∙ ticks (needs_of 1 2000) (trying until-7 []) (in-vain (needs_of 1 2000) until-7 [] refl refl) (attempt 300 1 0 ∷ []) (0 ∷ 7 ∷ []) 12499 2804 12500 (omega arith)

-- ---- a silence

-- LTU: 1 and 2 open an attempt, an 8 ends it; a 1 in the silence of 2,000 ticks is not heard, and one after it is
again : attempts (needs_of 0 2000) (1 ∷ 2 ∷ 8 ∷ replicate 1999 0 ++ (1 ∷ 2 ∷ 0 ∷ 1 ∷ 2 ∷ [])) ≡ attempt 2006 1 0 ∷ attempt 1 3 2 ∷ []
again = refl

-- that of a card started with 0, at either end: a 1 behind its 4,999th tick is not heard, and one behind its 5,000th is
abbrev ltu : Needs
ltu = needs_of 0 (meant 0)

abbrev ntu : Needs
ntu = needs_of 1 (meant 0)

-- a 1 too early, the 5,000th tick, and a 1 that counts; the LTU's attempt opens with the 2 behind it, the NTU's 300 ticks later
abbrev ltu-last : List ℕ
ltu-last = 1 ∷ 2 ∷ 0 ∷ 1 ∷ 2 ∷ []

abbrev ntu-last : List ℕ
ntu-last = 1 ∷ 0 ∷ 1 ∷ replicate 300 0

-- LTU, after an 8, and after the 15,000th tick of an attempt that hears no 3
pub ltu-after-8 : attempts ltu (1 ∷ 2 ∷ 8 ∷ replicate 4999 0 ++ ltu-last) ≡ attempt 5006 1 0 ∷ attempt 1 3 2 ∷ []
ltu-after-8 = ticks ltu resting (at_rest ltu) (attempt 1 3 2 ∷ []) ltu-last 4999 3 5000 (omega arith)

pub ltu-after-15000 : attempts ltu (1 ∷ 2 ∷ replicate 14999 0 ++ (0 ∷ replicate 4999 0 ++ ltu-last)) ≡ attempt 20005 1 0 ∷ attempt 1 3 15001 ∷ []
ltu-after-15000 =
    ticks ltu (trying ltu.first ltu.others) (in-vain ltu ltu.first ltu.others refl refl) (attempt 1 1 0 ∷ [])
    (0 ∷ replicate 4999 0 ++ ltu-last) 14999 2 15000 (omega arith)
    ∙ time-is-up ltu ltu.first ltu.others 1 15001 (replicate 4999 0 ++ ltu-last)
    ∙ ticks ltu resting (at_rest ltu) (attempt 1 3 15001 ∷ []) ltu-last 4999 15002 5000 (omega arith)

-- NTU, after an 8, and after the 15,000th tick of an attempt that hears neither 4 nor 5
abbrev converging : Need
converging = need Sr 0 (4 ∷ 5 ∷ [])

pub ntu-after-8 : attempts ntu (1 ∷ replicate 300 0 ++ (8 ∷ replicate 4999 0 ++ ntu-last)) ≡ attempt 5603 1 0 ∷ attempt 300 3 301 ∷ []
ntu-after-8 = ticks ntu resting (at_rest ntu) (attempt 300 3 301 ∷ []) ntu-last 4999 302 5000 (omega arith)

pub ntu-after-15000 : attempts ntu (1 ∷ replicate 2800 0 ++ (replicate 12499 0 ++ (0 ∷ replicate 4999 0 ++ ntu-last)))
    ≡ attempt 20602 1 0 ∷ attempt 300 3 15300 ∷ []
ntu-after-15000 =
    ticks ntu (trying converging (until-7 ∷ [])) (in-vain ntu converging (until-7 ∷ []) refl refl) (attempt 300 1 0 ∷ [])
    (0 ∷ replicate 4999 0 ++ ntu-last) 12499 2801 12500 (omega arith)
    ∙ time-is-up ntu converging (until-7 ∷ []) 300 15300 (replicate 4999 0 ++ ntu-last)
    ∙ ticks ntu resting (at_rest ntu) (attempt 300 3 15300 ∷ []) ntu-last 4999 15301 5000 (omega arith)
