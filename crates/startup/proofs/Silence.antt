-- How long a silence lasts, by the list: for every list and every silence, then for the silence that 0 stands for. Assumes nothing.
use Prim.Native.Nat.{ℕ, suc, ◌+◌, ◌≤◌, ◌<◌}
use native.Mathlib.Nat.{le_refl}
use native.Mathlib.Omega.{arith}
use mathlib.Core.Path.{◌≡◌, refl, ap, subst, ◌∙◌}
use mathlib.Core.List.{List, []}
use mathlib.Core.Bool.{Bool, true, false, cond}
use borrow.Author.Tests.{lt-leb, le-leb, eq-eqb}
use lib.Dec.{eqb}
use Rattle.supervisor.specs.Names.{Ready, Exception}
use Rattle.startup.specs.Reports.{at, one, count, Need, need, shown}
use Rattle.startup.specs.Attempts.{Needs, ntu_needs, ltu_needs, needs_of, meant, SilenceBegins, rested}
use Rattle.startup.specs.Stands.{Stands, ready, silent}
use Rattle.startup.proofs.Counts.{count-self, count-step}

module _ (k : Needs) (silence : ℕ) (q : k.silence ≡ need Exception silence []) (l : List ℕ) (e : ℕ) (begins : SilenceBegins k l e) where
  -- with so many ticks it has passed, with fewer it has not
  passed : (n : ℕ) → silence ≤ count 0 l e n → shown k.silence l e n ≡ true
  passed n t = rw q (simp (le-leb silence (count 0 l e n) t))

  lasts : (n : ℕ) → count 0 l e n < silence → shown k.silence l e n ≡ false
  lasts n t = rw q (simp (lt-leb silence (count 0 l e n) t))

  -- silent while fewer ticks have come since it began
  silent-while : (n : ℕ) → e ≤ n → count 8 l e n ≡ 0 → count 0 l e n < silence → Stands k l n Exception 0
  silent-while n h z t = subst (λ (p : ℕ). Stands k l n p 0) (ap (λ (d : Need). d.phase) q) (silent begins h z (lasts n t))

  -- ready with the code that completes it
  ready_with : (p : ℕ) → e ≤ p → count 8 l e (suc p) ≡ 0 → count 0 l e p < silence → silence ≤ count 0 l e (suc p) → Stands k l (suc p) Ready 0
  ready_with p h z t u =
      ready (rested begins (record { since = h; lacking = lasts p t; shows = passed (suc p) u }) z) (le_refl _) (count-self 1 l (suc p)) (count-self 8 l (suc p))

-- either end is silent for its silence
silence-is : (end silence : ℕ) → (needs_of end silence).silence ≡ need Exception silence []
silence-is end silence = go (eqb end 1)
  where
    go : (b : Bool) → (cond b (ntu_needs silence) (ltu_needs silence)).silence ≡ need Exception silence []
    go true = refl
    go false = refl

-- THE SILENCE OF A CARD, from where one begins and with no 8 since: silent before its last tick, whatever reports come, and ready with it
module _ (end silence : ℕ) (l : List ℕ) (e p : ℕ) (begins : SilenceBegins (needs_of end (meant silence)) l e) (h : e ≤ p) (calm : count 8 l e (suc p) ≡ 0) where
  pub still-silent : count 0 l e (suc p) < meant silence → Stands (needs_of end (meant silence)) l (suc p) Exception 0
  still-silent t = silent-while (needs_of end (meant silence)) (meant silence) (silence-is end (meant silence)) l e begins (suc p) (omega arith) calm t

  pub ready-again : at l p ≡ 0 → count 0 l e (suc p) ≡ meant silence → Stands (needs_of end (meant silence)) l (suc p) Ready 0
  ready-again c t =
      let z : count 0 l e (suc p) ≡ count 0 l e p + 1 = count-step 0 l e p h ∙ ap (λ (b : Bool). count 0 l e p + one b) (eq-eqb _ _ c) in
      ready_with (needs_of end (meant silence)) (meant silence) (silence-is end (meant silence)) l e begins p h calm (omega arith) (omega arith)

-- A CARD STARTED WITH 0 is silent at the 4,999th tick and ready at the 5,000th, at either end: after an 8, or after the 15,000th tick of an attempt, if no 8
-- comes between
module _ (end : ℕ) (l : List ℕ) (e p : ℕ) (begins : SilenceBegins (needs_of end (meant 0)) l e) (h : e ≤ p) (calm : count 8 l e (suc p) ≡ 0) where
  pub default-silent : count 0 l e (suc p) ≡ 4999 → Stands (needs_of end (meant 0)) l (suc p) Exception 0
  default-silent t = still-silent end 0 l e p begins h calm (rw t (omega arith))

  pub default-ready : at l p ≡ 0 → count 0 l e (suc p) ≡ 5000 → Stands (needs_of end (meant 0)) l (suc p) Ready 0
  default-ready c t = ready-again end 0 l e p begins h calm c t
