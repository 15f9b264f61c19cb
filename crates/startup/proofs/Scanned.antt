-- The scan agrees with the list's history, and the attempts that it gives with what the list says. Assumes nothing.
use Prim.Native.Nat.{ℕ, suc, pred, ◌+◌, ◌-◌, ◌≤◌, ◌<◌}
use native.Mathlib.Omega.{arith}
use mathlib.Core.Path.{◌≡◌, refl, sym, ap, ◌∙◌}
use mathlib.Core.List.{List, [], ◌∷◌}
use mathlib.Core.Bool.{Bool, true, false, cond, ◌&&◌}
use borrow.Author.Tests.{leb-true, leb-false, le-leb, lt-leb, eq-eqb, ne_eqb}
use lib.Dec.{leb, eqb}
use Rattle.supervisor.proofs.Laws.{by_cases}
use Rattle.startup.specs.Reports.{at, one, count, Need, need, reported, shown}
use Rattle.startup.specs.Attempts.{Needs, InTime}
use Rattle.startup.specs.Scan.{without, less, empty, nothing, Stand, ready, told, trying, settled, silent, onward, scanned}
use Rattle.startup.proofs.Counts.{count-step, count-self}
use Rattle.startup.proofs.History.{reached-le}
use Rattle.startup.proofs.Unique.{Hist, ready as ready_h, await, trying as trying_h, done, failed, onward as onward_h, next, Holds}
use Rattle.startup.proofs.Moves.{more, same}

-- WHAT IS STILL LACKING

abbrev unheard : List ℕ → List ℕ → ℕ → ℕ → List ℕ
unheard [] l e n = []
unheard (c ∷ cs) l e n = cond (leb 1 (count c l e n)) (unheard cs l e n) (c ∷ unheard cs l e n)

abbrev left : Need → List ℕ → ℕ → ℕ → Need
left d l e n = need d.phase (d.ticks - count 0 l e n) (unheard d.reports l e n)

-- nothing is lacking exactly where it is shown
all-heard : (cs l : List ℕ) (e n : ℕ) → empty (unheard cs l e n) ≡ reported cs l e n
all-heard [] l e n = refl
all-heard (c ∷ cs) l e n = by_cases (leb 1 (count c l e n)) (λ t. rw t (all-heard cs l e n)) (λ f. rw f)

ticks-over : (t k : ℕ) → eqb (t - k) 0 ≡ leb t k
ticks-over t k =
    by_cases (leb t k) (λ h. rw h (let z = leb-true t k h in eq-eqb (t - k) 0 (omega arith)))
    (λ h. rw h (let z = leb-false t k h in ne_eqb (t - k) 0 (λ q. omega arith)))

nothing_left : (d : Need) (l : List ℕ) (e n : ℕ) → nothing (left d l e n) ≡ shown d l e n
nothing_left d l e n = rw (ticks-over d.ticks (count 0 l e n), all-heard d.reports l e n)

-- at first all is
unheard-self : (cs l : List ℕ) (e : ℕ) → unheard cs l e e ≡ cs
unheard-self [] l e = refl
unheard-self (c ∷ cs) l e = rw (count-self c l e, unheard-self cs l e)

left-self : (d : Need) (l : List ℕ) (e : ℕ) → left d l e e ≡ d
left-self d l e = λ i. need d.phase (go i) (unheard-self d.reports l e i)
  where
    go : d.ticks - count 0 l e e ≡ d.ticks
    go = omega arith

-- one code more: a report, a tick, the latest tick
report-less : (x c t t' : ℕ) (r r' : List ℕ) → t' ≡ t + one (eqb x c) → without x r ≡ r' → without x (cond (leb 1 t) r (c ∷ r)) ≡ cond (leb 1 t') r' (c ∷ r')
report-less x c t t' r r' q e =
    by_cases (leb 1 t)
    (λ h. let z : 1 ≤ t = leb-true 1 t h in rw (h, le-leb 1 t' (omega arith)) e)
    (λ h. let z : t < 1 = leb-false 1 t h in
    by_cases (eqb x c)
    (λ y. let w = more t t' (eqb x c) q y in rw (h, y, le-leb 1 t' (omega arith)) e)
    (λ y. let w = same t t' (eqb x c) q y in rw (h, y, lt-leb 1 t' (omega arith), e)))

tick-less : (a t t' : ℕ) (b : Bool) → t' ≡ t + one b → cond b (pred (a - t)) (a - t) ≡ a - t'
tick-less a t t' true q = let z : pred (a - t) ≡ a - t' = omega arith in z
tick-less a t t' false q = let z : a - t ≡ a - t' = omega arith in z

latest-tick : (a t t' : ℕ) (b : Bool) → t' ≡ t + one b → t < a → (b && eqb (pred (a - t)) 0) ≡ leb a t'
latest-tick a t t' true q h = ap (λ (z : ℕ). eqb z 0) (tick-less a t t' true q) ∙ ticks-over a t'
latest-tick a t t' false q h = sym (lt-leb a t' (omega arith))

unheard-step : (cs l : List ℕ) (e n : ℕ) → e ≤ n → without (at l n) (unheard cs l e n) ≡ unheard cs l e (suc n)
unheard-step [] l e n h = refl
unheard-step (c ∷ cs) l e n h =
    report-less (at l n) c (count c l e n) (count c l e (suc n)) (unheard cs l e n) (unheard cs l e (suc n)) (count-step c l e n h) (unheard-step cs l e n h)

left_step : (d : Need) (l : List ℕ) (e n : ℕ) → e ≤ n → less (at l n) (left d l e n) ≡ left d l e (suc n)
left_step d l e n h =
    λ i. need d.phase (tick-less d.ticks (count 0 l e n) (count 0 l e (suc n)) (eqb (at l n) 0) (count-step 0 l e n h) i)
    (unheard-step d.reports l e n h i)

-- THE STAND OF A HISTORY

abbrev pub stand_of : Needs → List ℕ → ℕ → Hist → Stand
stand_of k l n (ready_h r) = ready
stand_of k l n (await e) = told (left k.before l e n)
stand_of k l n (trying_h d ds e m) = trying (left d l e n) ds (15000 - count 0 l m n)
stand_of k l n (done e) = settled
stand_of k l n (failed e) = silent (left k.silence l e n)

module _ (k : Needs) (l : List ℕ) (n : ℕ) where
  stand-cond : (t : Bool) (x y : Hist) {x' y' : Stand} → stand_of k l (suc n) x ≡ x' → stand_of k l (suc n) y ≡ y'
      → stand_of k l (suc n) (cond t x y) ≡ cond t x' y'
  stand-cond true x y p q = p
  stand-cond false x y p q = q

  silent-now : stand_of k l (suc n) (failed (suc n)) ≡ silent k.silence
  silent-now = ap silent (left-self k.silence l (suc n))

  ticks-left : (m : ℕ) → m ≤ n → cond (eqb (at l n) 0) (pred (15000 - count 0 l m n)) (15000 - count 0 l m n) ≡ 15000 - count 0 l m (suc n)
  ticks-left m h = tick-less 15000 (count 0 l m n) (count 0 l m (suc n)) (eqb (at l n) 0) (count-step 0 l m n h)

  latest : (m : ℕ) → m ≤ n → InTime l m n → (eqb (at l n) 0 && eqb (pred (15000 - count 0 l m n)) 0) ≡ leb 15000 (count 0 l m (suc n))
  latest m h u = latest-tick 15000 (count 0 l m n) (count 0 l m (suc n)) (eqb (at l n) 0) (count-step 0 l m n h) u.early

  onward-now : (ds : List Need) (m : ℕ) → stand_of k l (suc n) (onward_h ds (suc n) m) ≡ onward ds (15000 - count 0 l m (suc n))
  onward-now [] m = refl
  onward-now (d ∷ ds) m = ap (λ (x : Need). trying x ds (15000 - count 0 l m (suc n))) (left-self d l (suc n))

  -- the scan goes from the stand of a history to that of the next
  pub scan_step : (a : Hist) → Holds k l n a → scanned k (at l n) (stand_of k l n a) ≡ stand_of k l (suc n) (next k l n a)
  scan_step (ready_h r) h =
      sym (stand-cond (eqb (at l n) 8) (failed (suc n)) (cond (eqb (at l n) 1) (await (suc n)) (ready_h r)) silent-now
      (stand-cond (eqb (at l n) 1) (await (suc n)) (ready_h r) (ap told (left-self k.before l (suc n))) refl))
  scan_step (await e) h =
      ap (λ (x : Need). cond (eqb (at l n) 8) (silent k.silence) (cond (nothing x) (trying k.first k.others 15000) (told x)))
      (left_step k.before l e n h.1)
      ∙ ap (λ (t : Bool). cond (eqb (at l n) 8) (silent k.silence) (cond t (trying k.first k.others 15000) (told (left k.before l e (suc n)))))
      (nothing_left k.before l e (suc n))
      ∙ (sym (stand-cond (eqb (at l n) 8) (failed (suc n)) (cond (shown k.before l e (suc n)) (trying_h k.first k.others (suc n) (suc n)) (await e))
      silent-now
      (stand-cond (shown k.before l e (suc n)) (trying_h k.first k.others (suc n) (suc n)) (await e)
      (λ i. trying (left-self k.first l (suc n) i) k.others (full i)) refl)))
    where
      full : 15000 - count 0 l (suc n) (suc n) ≡ 15000
      full = omega arith
  scan_step (trying_h d ds e m) h =
      let j : m ≤ n = omega (arith, reached-le k l m h.1, h.2) in
      (λ i. cond (eqb (at l n) 8) (silent k.silence)
      (cond (latest m j h.3 i) (silent k.silence)
      (cond (nothing (left_step d l e n h.2 i)) (onward ds (ticks-left m j i)) (trying (left_step d l e n h.2 i) ds (ticks-left m j i)))))
      ∙ ap (λ (t : Bool). cond (eqb (at l n) 8) (silent k.silence)
      (cond (leb 15000 (count 0 l m (suc n))) (silent k.silence)
      (cond t (onward ds (15000 - count 0 l m (suc n))) (trying (left d l e (suc n)) ds (15000 - count 0 l m (suc n)))))) (nothing_left d l e (suc n))
      ∙ (sym (stand-cond (eqb (at l n) 8) (failed (suc n))
      (cond (leb 15000 (count 0 l m (suc n))) (failed (suc n)) (cond (shown d l e (suc n)) (onward_h ds (suc n) m) (trying_h d ds e m))) silent-now
      (stand-cond (leb 15000 (count 0 l m (suc n))) (failed (suc n)) (cond (shown d l e (suc n)) (onward_h ds (suc n) m) (trying_h d ds e m)) silent-now
      (stand-cond (shown d l e (suc n)) (onward_h ds (suc n) m) (trying_h d ds e m) (onward-now ds m) refl))))
  scan_step (done e) h = sym (stand-cond (eqb (at l n) 8) (failed (suc n)) (done e) silent-now refl)
  scan_step (failed e) h =
      ap (λ (x : Need). cond (eqb (at l n) 8) (silent k.silence) (cond (nothing x) ready (silent x))) (left_step k.silence l e n h.1)
      ∙ ap (λ (t : Bool). cond (eqb (at l n) 8) (silent k.silence) (cond t ready (silent (left k.silence l e (suc n)))))
      (nothing_left k.silence l e (suc n))
      ∙ (sym (stand-cond (eqb (at l n) 8) (failed (suc n)) (cond (shown k.silence l e (suc n)) (ready_h (suc n)) (failed e)) silent-now
      (stand-cond (shown k.silence l e (suc n)) (ready_h (suc n)) (failed e) refl refl)))
