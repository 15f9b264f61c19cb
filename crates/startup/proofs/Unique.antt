-- At each moment the list has exactly one history. Assumes nothing.
use Prim.Native.Nat.{ℕ, zero, suc, ◌≤◌}
use native.Mathlib.Omega.{arith}
use native.Mathlib.Nat.{eq-or-lt_of_le, le_refl}
use mathlib.Core.Path.{◌≡◌, refl, sym, ap, subst, ◌∙◌}
use mathlib.Core.Logic.{⊎_elim}
use mathlib.Core.List.{List, [], ◌∷◌}
use mathlib.Core.Bool.{Bool, true, false, cond}
use borrow.Author.Tests.{leb-true, leb-false, le-leb, lt-leb, eq-eqb, eqb-true}
use lib.Dec.{leb, eqb}
use Rattle.supervisor.proofs.Laws.{clash}
use Rattle.startup.specs.Reports.{at, count, Need, shown, Completes, InOrder}
use Rattle.startup.specs.Attempts.{Needs, all, InTime}
use Rattle.startup.specs.Attempts.{ReadyAt, fresh, rested, CountedOne, counted, OpensAt, opens, SilenceBegins, abnormal, late}
use Rattle.startup.proofs.Counts.{calm_more, calm-less, calm-last, count-self, count-mono, shown-less, in-order-le}
use Rattle.startup.proofs.History.{Reached, begun, went, Real, AllReal, reached-le, whole_from, last, find, not-all}

-- where the card stands: ready since r; told since e; in the need d with ds to come, since e, of the attempt opened at m; in data mode
-- since e; in exception since e
pub data Hist : Type 0 where
  ready : ℕ → Hist
  await : ℕ → Hist
  trying : Need → List Need → ℕ → ℕ → Hist
  done : ℕ → Hist
  failed : ℕ → Hist

abbrev pub onward : List Need → ℕ → ℕ → Hist
onward [] n m = done n
onward (d ∷ ds) n m = trying d ds n m

abbrev pub next : Needs → List ℕ → ℕ → Hist → Hist
next k l n (ready r) = cond (eqb (at l n) 8) (failed (suc n)) (cond (eqb (at l n) 1) (await (suc n)) (ready r))
next k l n (await e) =
    cond (eqb (at l n) 8) (failed (suc n)) (cond (shown k.before l e (suc n)) (trying k.first k.others (suc n) (suc n)) (await e))
next k l n (trying d ds e m) =
    cond (eqb (at l n) 8) (failed (suc n))
    (cond (leb 15000 (count 0 l m (suc n))) (failed (suc n)) (cond (shown d l e (suc n)) (onward ds (suc n) m) (trying d ds e m)))
next k l n (done e) = cond (eqb (at l n) 8) (failed (suc n)) (done e)
next k l n (failed e) = cond (eqb (at l n) 8) (failed (suc n)) (cond (shown k.silence l e (suc n)) (ready (suc n)) (failed e))

-- the history holds of the list at the moment n
abbrev pub Holds : Needs → List ℕ → ℕ → Hist → Type 0
Holds k l n (ready r) = ReadyAt k l r × (r ≤ n) × (count 1 l r n ≡ 0) × (count 8 l r n ≡ 0)
Holds k l n (await e) = CountedOne k l e × (e ≤ n) × (count 8 l e n ≡ 0) × (shown k.before l e n ≡ false)
Holds k l n (trying d ds e m) = OpensAt k l m × Reached k l m d ds e × (e ≤ n) × InTime l m n × (shown d l e n ≡ false)
Holds k l n (done e) = (m : ℕ) × OpensAt k l m × InOrder (all k) l m e × InTime l m e × (e ≤ n) × (count 8 l e n ≡ 0)
Holds k l n (failed e) = SilenceBegins k l e × (e ≤ n) × (count 8 l e n ≡ 0) × (shown k.silence l e n ≡ false)

pub record Sound (k : Needs) : Type 0 where
  pub before : Real k.before
  pub each : AllReal (all k)
  pub silent : Real k.silence

pub choose : (P : Hist → Type 0) (b : Bool) (x y : Hist) → (b ≡ true → P x) → (b ≡ false → P y) → P (cond b x y)
choose P true x y f g = f refl
choose P false x y f g = g refl

on-true : (b : Bool) (x y : Hist) → b ≡ true → cond b x y ≡ x
on-true true x y e = refl
on-true false x y e = clash false e refl

on-false : (b : Bool) (x y : Hist) → b ≡ false → cond b x y ≡ y
on-false true x y e = clash true refl e
on-false false x y e = refl

reached-real : (k : Needs) (l : List ℕ) (m : ℕ) {d : Need} {ds : List Need} {e : ℕ} → AllReal (all k) → Reached k l m d ds e → AllReal (d ∷ ds)
reached-real k l m a begun = a
reached-real k l m a (went r o) = (reached-real k l m a r).1

module _ (k : Needs) (s : Sound k) (l : List ℕ) (n : ℕ) where
  fails : eqb (at l n) 8 ≡ true → Holds k l (suc n) (failed (suc n))
  fails e = (abnormal (eqb-true _ _ e), le_refl _, count-self 8 l (suc n), s.silent l (suc n))

  pub forth : (a : Hist) → Holds k l n a → Holds k l (suc n) (next k l n a)
  forth (ready r) h =
      choose (Holds k l (suc n)) (eqb (at l n) 8) _ _ fails
      (λ e8. choose (Holds k l (suc n)) (eqb (at l n) 1) _ _
      (λ e1. (counted h.0 h.1 h.2 h.3 (eqb-true _ _ e1), le_refl _, count-self 8 l (suc n), s.before l (suc n)))
      (λ e1. (h.0, omega (arith, h.1), calm_more 1 l r n h.1 h.2 e1, calm_more 8 l r n h.1 h.3 e8)))
  forth (await e) h =
      choose (Holds k l (suc n)) (eqb (at l n) 8) _ _ fails
      (λ e8. let z = calm_more 8 l e n h.1 h.2 e8 in
      choose (Holds k l (suc n)) (shown k.before l e (suc n)) _ _
      (λ t. (
        opens h.0 (record { since = h.1; lacking = h.3; shows = t }) z,
        begun,
        le_refl _,
        record { calm = count-self 8 l (suc n); early = omega arith },
        s.each.0 l (suc n),
      ))
      (λ f. (h.0, omega (arith, h.1), z, f)))
  forth (trying d ds e m) h =
      choose (Holds k l (suc n)) (eqb (at l n) 8) _ _ fails
      (λ e8.
      let u = h.3 in
      let le : m ≤ n = omega (arith, reached-le k l m h.1, h.2) in
      let z = calm_more 8 l m n le u.calm e8 in
      choose (Holds k l (suc n)) (leb 15000 (count 0 l m (suc n))) _ _
      (λ t. (
        late h.0 (record { since = le; in_time = u; unshown = not-all k l m n h.1 h.4 }) z (leb-true _ _ t),
        le_refl _,
        count-self 8 l (suc n),
        s.silent l (suc n),
      ))
      (λ f.
      let v : InTime l m (suc n) = record { calm = z; early = leb-false _ _ f } in
      choose (Holds k l (suc n)) (shown d l e (suc n)) _ _
      (λ t. on ds h.1 (record { since = h.2; lacking = h.4; shows = t }) v)
      (λ w. (h.0, h.1, omega (arith, h.2), v, w))))
    where
      on : (ds' : List Need) → Reached k l m d ds' e → Completes d l e n → InTime l m (suc n) → Holds k l (suc n) (onward ds' (suc n) m)
      on [] r o v = (m, h.0, whole_from k l m (suc n) r (n, o, refl), v, le_refl _, count-self 8 l (suc n))
      on (d' ∷ ds') r o v = (h.0, went r o, le_refl _, v, (reached-real k l m s.each (went r o)).0 l (suc n))
  forth (done e) h =
      choose (Holds k l (suc n)) (eqb (at l n) 8) _ _ fails
      (λ e8. (h.0, h.1, h.2, h.3, omega (arith, h.4), calm_more 8 l e n h.4 h.5 e8))
  forth (failed e) h =
      choose (Holds k l (suc n)) (eqb (at l n) 8) _ _ fails
      (λ e8. let z = calm_more 8 l e n h.1 h.2 e8 in
      choose (Holds k l (suc n)) (shown k.silence l e (suc n)) _ _
      (λ t. (rested h.0 (record { since = h.1; lacking = h.3; shows = t }) z, le_refl _, count-self 1 l (suc n), count-self 8 l (suc n)))
      (λ f. (h.0, omega (arith, h.1), z, f)))

  abbrev pub From : Hist → Type 0
  From a = (b : Hist) × Holds k l n b × (next k l n b ≡ a)

  next-8 : (a : Hist) → eqb (at l n) 8 ≡ true → next k l n a ≡ failed (suc n)
  next-8 (ready r) e = on-true _ _ _ e
  next-8 (await e') e = on-true _ _ _ e
  next-8 (trying d ds e' m) e = on-true _ _ _ e
  next-8 (done e') e = on-true _ _ _ e
  next-8 (failed e') e = on-true _ _ _ e

  from-ready : ReadyAt k l (suc n) → From (ready (suc n))
  from-ready (rested {e = e} f o z) =
      (failed e, (f, o.since, calm-less 8 l e n o.since z, o.lacking), on-false _ _ _ (calm-last 8 l e n o.since z) ∙ on-true _ _ _ o.shows)

  from_told : CountedOne k l (suc n) → From (await (suc n))
  from_told (counted {r = r} d h z₁ z₈ a) =
      (ready r, (d, h, z₁, z₈), on-false _ _ _ (subst (λ (x : ℕ). eqb x 8 ≡ false) (sym a) refl) ∙ on-true _ _ _ (eq-eqb _ _ a))

  pub from-opens : OpensAt k l (suc n) → From (trying k.first k.others (suc n) (suc n))
  from-opens (opens {e = e} d o z) =
      (await e, (d, o.since, calm-less 8 l e n o.since z, o.lacking), on-false _ _ _ (calm-last 8 l e n o.since z) ∙ on-true _ _ _ o.shows)

  in-time-less : (m : ℕ) → m ≤ n → InTime l m (suc n) → InTime l m n
  in-time-less m h u = record { calm = calm-less 8 l m n h u.calm; early = omega (arith, count-mono 0 l m n (suc n) (omega arith), u.early) }

  -- the need d of the attempt opened at m was completed by the code at n
  from-over : (m : ℕ) {d : Need} {ds : List Need} {e : ℕ} → OpensAt k l m → Reached k l m d ds e → Completes d l e n → InTime l m (suc n)
      → From (onward ds (suc n) m)
  from-over m {d} {ds} {e} x r o u =
      let h : m ≤ n = omega (arith, reached-le k l m r, o.since) in (
        trying d ds e m,
        (x, r, o.since, in-time-less m h u, o.lacking),
        on-false _ _ _ (calm-last 8 l m n h u.calm) ∙ on-false _ _ _ (lt-leb _ _ u.early) ∙ on-true _ _ _ o.shows,
      )

  over-at : {d : Need} {e : ℕ} (p : ℕ) → suc p ≡ suc n → Completes d l e p → Completes d l e n
  over-at {d} {e} p q o = subst (λ (z : ℕ). Completes d l e z) (omega arith) o

  from-reached : (m : ℕ) {d : Need} {ds : List Need} {e : ℕ} → e ≡ suc n → OpensAt k l m → Reached k l m d ds e → InTime l m (suc n)
      → From (trying d ds (suc n) m)
  from-reached m q d begun u =
      subst (λ (z : ℕ). From (trying k.first k.others (suc n) z)) (sym q) (from-opens (subst (OpensAt k l) q d))
  from-reached m q d (went {p = p} r o) u = from-over m d r (over-at p q o) u

  from-done : (m e : ℕ) → e ≡ suc n → OpensAt k l m → InOrder (all k) l m e → InTime l m e → From (done (suc n))
  from-done m e q d c u =
      let z = last k l m k.first k.others m e begun c in
      from-over m d z.3 (over-at z.2 (z.5 ∙ q) z.4) (subst (λ (j : ℕ). InTime l m j) q u)

  from-fails : (b : Hist) → Holds k l n b → SilenceBegins k l (suc n) → From (failed (suc n))
  from-fails b h (abnormal a) = (b, h, next-8 b (eq-eqb _ _ a))
  from-fails b h (late {m = m} d x z t) =
      ⊎_elim
      (λ w. (trying w.0 w.1 w.2 m, (d, w.3, w.4, x.in_time, w.5), on-false _ _ _ (calm-last 8 l m n x.since z) ∙ on-true _ _ _ (le-leb _ _ t)))
      (λ w. absurd (x.unshown w.0 w.1 w.2))
      (find k l m n k.first k.others m s.each begun x.since)

  pub back : (b : Hist) → Holds k l n b → (a : Hist) → Holds k l (suc n) a → From a
  back b hb (ready r) h =
      ⊎_elim (λ q. subst (λ (z : ℕ). From (ready z)) (sym q) (from-ready (subst (ReadyAt k l) q h.0)))
      (λ w. let i : r ≤ n = omega arith in (
        ready r,
        (h.0, i, calm-less 1 l r n i h.2, calm-less 8 l r n i h.3),
        on-false _ _ _ (calm-last 8 l r n i h.3)
            ∙ on-false _ _ _ (calm-last 1 l r n i h.2),
      ))
      (eq-or-lt_of_le h.1)
  back b hb (await e) h =
      ⊎_elim (λ q. subst (λ (z : ℕ). From (await z)) (sym q) (from_told (subst (CountedOne k l) q h.0)))
      (λ w. let i : e ≤ n = omega arith in (
        await e,
        (h.0, i, calm-less 8 l e n i h.2, shown-less k.before l e n h.3),
        on-false _ _ _ (calm-last 8 l e n i h.2)
            ∙ on-false _ _ _ h.3,
      ))
      (eq-or-lt_of_le h.1)
  back b hb (trying d ds e m) h =
      ⊎_elim (λ q. subst (λ (z : ℕ). From (trying d ds z m)) (sym q) (from-reached m q h.0 h.1 h.3))
      (λ w. let i : e ≤ n = omega arith in let j : m ≤ n = omega (arith, reached-le k l m h.1) in (
        trying d ds e m,
        (h.0, h.1, i, in-time-less m j h.3, shown-less d l e n h.4),
        on-false _ _ _ (calm-last 8 l m n j h.3.calm) ∙ on-false _ _ _ (lt-leb _ _ h.3.early) ∙ on-false _ _ _ h.4,
      ))
      (eq-or-lt_of_le h.2)
  back b hb (done e) h =
      ⊎_elim (λ q. subst (λ (z : ℕ). From (done z)) (sym q) (from-done h.0 e q h.1 h.2 h.3))
      (λ w. let i : e ≤ n = omega arith in
      (done e, (h.0, h.1, h.2, h.3, i, calm-less 8 l e n i h.5), on-false _ _ _ (calm-last 8 l e n i h.5)))
      (eq-or-lt_of_le h.4)
  back b hb (failed e) h =
      ⊎_elim (λ q. subst (λ (z : ℕ). From (failed z)) (sym q) (from-fails b hb (subst (SilenceBegins k l) q h.0)))
      (λ w. let i : e ≤ n = omega arith in (
        failed e,
        (h.0, i, calm-less 8 l e n i h.2, shown-less k.silence l e n h.3),
        on-false _ _ _ (calm-last 8 l e n i h.2)
            ∙ on-false _ _ _ h.3,
      ))
      (eq-or-lt_of_le h.1)

start-holds : (k : Needs) (l : List ℕ) → Holds k l 0 (ready 0)
start-holds k l = (fresh, le_refl _, refl, refl)

-- some history holds
pub some : (k : Needs) (s : Sound k) (l : List ℕ) (n : ℕ) → (a : Hist) × Holds k l n a
some k s l zero = (ready 0, start-holds k l)
some k s l (suc n) = let r = some k s l n in (next k l n r.0, forth k s l n r.0 r.1)

-- at the start no other does
only-start : (k : Needs) (l : List ℕ) (n : ℕ) → n ≡ 0 → (a : Hist) → Holds k l n a → a ≡ ready 0
only-start k l n z (ready r) h = ap ready (omega (arith, h.1))
only-start k l n z (await e) h = absurd (no e h.0 (omega (arith, h.1)))
  where
    no : (e : ℕ) → CountedOne k l e → e ≡ 0 → ⊥
    no e (counted d x₁ x₂ x₃ x₄) q = omega arith
only-start k l n z (trying d ds e m) h = absurd (no m h.0 (omega (arith, h.2, reached-le k l m h.1)))
  where
    no : (e : ℕ) → OpensAt k l e → e ≡ 0 → ⊥
    no e (opens d o w) q = omega arith
only-start k l n z (done e) h = absurd (no h.0 h.1 (omega (arith, h.4, in-order-le (all k) l h.0 e h.2)))
  where
    no : (e : ℕ) → OpensAt k l e → e ≡ 0 → ⊥
    no e (opens d o w) q = omega arith
only-start k l n z (failed e) h = absurd (no e h.0 (omega (arith, h.1)))
  where
    no : (e : ℕ) → SilenceBegins k l e → e ≡ 0 → ⊥
    no e (abnormal a) q = omega arith
    no e (late d x y w) q = omega arith

-- what the steps would make of the list
abbrev pub hist_of : Needs → List ℕ → ℕ → Hist
hist_of k l zero = ready 0
hist_of k l (suc n) = next k l n (hist_of k l n)

-- EXACTLY ONE HISTORY HOLDS AT EACH MOMENT
pub unique : (k : Needs) (s : Sound k) (l : List ℕ) (n : ℕ) (a : Hist) → Holds k l n a → a ≡ hist_of k l n
unique k s l zero a h = only-start k l 0 refl a h
unique k s l (suc n) a h =
    let r = some k s l n in
    let f = back k s l n r.0 r.1 a h in
    sym f.2 ∙ ap (next k l n) (unique k s l n f.0 f.1)

pub holds : (k : Needs) (s : Sound k) (l : List ℕ) (n : ℕ) → Holds k l n (hist_of k l n)
holds k s l zero = start-holds k l
holds k s l (suc n) = forth k s l n (hist_of k l n) (holds k s l n)
