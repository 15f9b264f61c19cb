-- How far an attempt has come: in one of its needs, with the rest to come. Assumes nothing.
use Prim.Native.Nat.{ℕ, suc, ◌≤◌}
use native.Mathlib.Omega.{arith}
use native.Mathlib.Nat.{le_refl}
use mathlib.Core.Path.{◌≡◌, refl, subst}
use mathlib.Core.Logic.{◌⊎◌, inl, inr}
use mathlib.Core.List.{List, [], ◌∷◌}
use mathlib.Core.Bool.{false}
use Rattle.supervisor.proofs.Laws.{by_cases}
use Rattle.startup.specs.Reports.{Need, shown, Completes, InOrder}
use Rattle.startup.specs.Attempts.{Needs, all}
use Rattle.startup.proofs.Counts.{completes-after, completes-once, first-shown, in-order-le}

-- an attempt opened at the moment m is in the need d since the moment e, with the needs ds to come
pub data Reached (k : Needs) (l : List ℕ) (m : ℕ) : Need → List Need → ℕ → Type 0 where
  begun : Reached k l m k.first k.others m
  went : {d d' : Need} {ds : List Need} {e p : ℕ} → Reached k l m d (d' ∷ ds) e → Completes d l e p → Reached k l m d' ds (suc p)

-- a need that something has to come for
abbrev pub Real : Need → Type 0
Real d = (l : List ℕ) (m : ℕ) → shown d l m m ≡ false

abbrev pub AllReal : List Need → Type 0
AllReal [] = Unit {0}
AllReal (d ∷ ds) = Real d × AllReal ds

module _ (k : Needs) (l : List ℕ) (m : ℕ) where
  pub reached-le : {d : Need} {ds : List Need} {e : ℕ} → Reached k l m d ds e → m ≤ e
  reached-le begun = le_refl _
  reached-le (went r o) = omega (arith, reached-le r, o.since)

  -- all in order from the opening is the same as the rest in order from here
  pub rest_from : {d : Need} {ds : List Need} {e : ℕ} (q : ℕ) → Reached k l m d ds e → InOrder (all k) l m q → InOrder (d ∷ ds) l e q
  rest_from q begun c = c
  rest_from q (went {d} {d'} {ds} {e} {p} r o) c =
      let f = rest_from q r c in
      subst (λ (z : ℕ). InOrder (d' ∷ ds) l (suc z) q) (completes-once d l e f.0 p f.1 o) f.2

  pub whole_from : {d : Need} {ds : List Need} {e : ℕ} (q : ℕ) → Reached k l m d ds e → InOrder (d ∷ ds) l e q → InOrder (all k) l m q
  whole_from q begun c = c
  whole_from q (went {p = p} r o) c = whole_from q r (p, o, c)

  -- the last need, and the place that completes it
  abbrev pub Last : ℕ → Type 0
  Last n = (d : Need) × (e : ℕ) × (p : ℕ) × Reached k l m d [] e × Completes d l e p × (suc p ≡ n)

  pub last : (d : Need) (ds : List Need) (e n : ℕ) → Reached k l m d ds e → InOrder (d ∷ ds) l e n → Last n
  last d [] e n r c = (d, e, c.0, r, c.1, c.2)
  last d (d' ∷ ds) e n r c = last d' ds (suc c.0) n (went r c.1) c.2

  -- where it stands at the moment n, or that it was all shown by then
  abbrev pub Now : ℕ → Type 0
  Now n = (d : Need) × (ds : List Need) × (e : ℕ) × Reached k l m d ds e × (e ≤ n) × (shown d l e n ≡ false)

  abbrev pub Ended : ℕ → Type 0
  Ended n = (q : ℕ) × (q ≤ n) × InOrder (all k) l m q

  pub find : (n : ℕ) (d : Need) (ds : List Need) (e : ℕ) → AllReal (d ∷ ds) → Reached k l m d ds e → e ≤ n → Now n ⊎ Ended n
  find n d [] e a r h =
      by_cases (shown d l e n)
      (λ t. let o = first-shown d l e n (a.0 l e) h t in inr (suc o.0, o.2, whole_from (suc o.0) r (o.0, o.1, refl)))
      (λ f. inl (d, [], e, r, h, f))
  find n d (d' ∷ ds) e a r h =
      by_cases (shown d l e n)
      (λ t. let o = first-shown d l e n (a.0 l e) h t in find n d' ds (suc o.0) a.1 (went r o.1) o.2)
      (λ f. inl (d, d' ∷ ds, e, r, h, f))

  -- in a need that lacks something, the list has not shown all
  pub not-all : {d : Need} {ds : List Need} {e : ℕ} (n : ℕ) → Reached k l m d ds e → shown d l e n ≡ false → (q : ℕ) → q ≤ n → InOrder (all k) l m q → ⊥
  not-all {d} {ds} {e} n r f q h c =
      let g = rest_from q r c in
      omega (arith, completes-after d l e g.0 n g.1 f, in-order-le ds l (suc g.0) q g.2)
