-- What becomes of an attempt, from the list alone. Assumes nothing.
use Prim.Native.Nat.{ℕ, zero, suc, ◌≤◌, ◌<◌}
use native.Mathlib.Omega.{arith}
use native.Mathlib.Nat.{le_refl, eq-or-lt_of_le}
use native.Mathlib.Decide.{le_ind}
use mathlib.Core.Path.{◌≡◌, refl, subst}
use mathlib.Core.Logic.{◌⊎◌, inl, inr, ⊎_elim}
use mathlib.Core.List.{List}
use borrow.Author.Tests.{leb-true, leb-false, eq-eqb, eqb-true}
use lib.Dec.{leb, eqb}
use Rattle.supervisor.proofs.Laws.{by_cases, clash}
use Rattle.startup.specs.Reports.{at, count, InOrder}
use Rattle.startup.specs.Attempts.{Needs, all, InTime, StillOpen}
use Rattle.startup.specs.Attempts.{EndsInData, EndsInException, OpensAt, opens, SilenceBegins, abnormal, late}
use Rattle.startup.proofs.Counts.{upto-mono, calm_more, calm-last, calm-less, count-self, in-order-le, in-order-once}
use Rattle.startup.proofs.History.{begun, Now, find, not-all}
use Rattle.startup.proofs.Unique.{await, trying, done, failed, Holds, Sound}

-- it has ended so by the moment n
abbrev pub DataBy : Needs → List ℕ → ℕ → ℕ → Type 0
DataBy k l m n = (p : ℕ) × (p < n) × EndsInData k l m p

abbrev pub ExceptionBy : Needs → List ℕ → ℕ → ℕ → Type 0
ExceptionBy k l m n = (p : ℕ) × (p < n) × EndsInException k l m p

module _ (k : Needs) (s : Sound k) (l : List ℕ) (m : ℕ) where
  pub in-time-back : (q n : ℕ) → m ≤ q → q ≤ n → InTime l m n → InTime l m q
  in-time-back q n h i u = record {
    calm = omega (arith, u.calm, upto-mono 8 l m q h, upto-mono 8 l q n i);
    early = omega (arith, u.early, upto-mono 0 l q n i);
  }

  -- what is open was open before
  pub open-back : (q n : ℕ) → m ≤ q → q ≤ n → StillOpen k l m n → StillOpen k l m q
  open-back q n h i x = record { since = h; in_time = in-time-back q n h i x.in_time; unshown = λ r j c. x.unshown r (omega arith) c }

  pub open-now : StillOpen k l m m
  open-now = record {
    since = le_refl _;
    in_time = record { calm = count-self 8 l m; early = omega arith };
    unshown = λ q h c. omega (arith, c.1.since, in-order-le k.others l (suc c.0) q c.2);
  }

  pub place_of : (q : ℕ) → InOrder (all k) l m q → (p : ℕ) × (q ≡ suc p) × (m ≤ p)
  place_of q c = go q (omega (arith, c.1.since, in-order-le k.others l (suc c.0) q c.2))
    where
      go : (q : ℕ) → m < q → (p : ℕ) × (q ≡ suc p) × (m ≤ p)
      go zero h = absurd (omega arith)
      go (suc p) h = (p, refl, omega arith)

  -- at the next moment it is still open, or has just ended in data mode, or in the exception state
  pub next-fate : (n : ℕ) → StillOpen k l m n → StillOpen k l m (suc n) ⊎ (EndsInData k l m n ⊎ EndsInException k l m n)
  next-fate n x =
      by_cases (eqb (at l n) 8) (λ e. inr (inr (record { before = x; cut = inl (eqb-true _ _ e) })))
      (λ e. by_cases (leb 15000 (count 0 l m (suc n))) (λ t. inr (inr (record { before = x; cut = inr (leb-true _ _ t) })))
      (λ f. on (record { calm = calm_more 8 l m n x.since x.in_time.calm e; early = leb-false _ _ f })))
    where
      now-all : (q : ℕ) → q ≤ suc n → InOrder (all k) l m q → q ≡ suc n
      now-all q h c = ⊎_elim (λ e. e) (λ y. absurd (x.unshown q (omega arith) c)) (eq-or-lt_of_le h)

      on : InTime l m (suc n) → StillOpen k l m (suc n) ⊎ (EndsInData k l m n ⊎ EndsInException k l m n)
      on u =
          ⊎_elim (λ w. inl (record { since = omega (arith, x.since); in_time = u; unshown = not-all k l m (suc n) w.3 w.5 }))
          (λ w. inr (inl (record { needed = subst (InOrder (all k) l m) (now-all w.0 w.1 w.2) w.2; in_time = u })))
          (find k l m (suc n) k.first k.others m s.each begun (omega (arith, x.since)))

  -- by each moment an attempt is still open, or has ended in data mode, or has ended in the exception state
  pub fate : (n : ℕ) → m ≤ n → StillOpen k l m n ⊎ (DataBy k l m n ⊎ ExceptionBy k l m n)
  fate =
      le_ind (λ n. StillOpen k l m n ⊎ (DataBy k l m n ⊎ ExceptionBy k l m n)) (inl open-now)
      (λ n h.
      ⊎_elim (λ x. ⊎_elim (λ y. inl y) (⊎_elim (λ d. inr (inl (n, le_refl _, d))) (λ d. inr (inr (n, le_refl _, d)))) (next-fate n x))
      (⊎_elim (λ w. inr (inl (w.0, omega (arith, w.1), w.2))) (λ w. inr (inr (w.0, omega (arith, w.1), w.2)))))

  -- what has ended in the exception state is cut from then on
  pub not-in-time : (q n : ℕ) → EndsInException k l m q → q < n → InTime l m n → ⊥
  not-in-time q n x h v = ⊎_elim (λ a. clash _ (eq-eqb _ _ a) (calm-last 8 l m q x.before.since u.calm)) (λ t. omega (arith, t, u.early)) x.cut
    where
      u : InTime l m (suc q)
      u = in-time-back (suc q) n (omega (arith, x.before.since)) h v

  -- what ends in data mode was open until then
  pub data-open : (p : ℕ) → EndsInData k l m p → StillOpen k l m p
  data-open p d =
      let le : m ≤ p = (let w = place_of (suc p) d.needed in omega (arith, w.1, w.2)) in
      ⊎_elim (λ x. x)
      (⊎_elim (λ w. absurd (twice w.0 w.1 w.2))
      (λ w. absurd (not-in-time w.0 p w.2 w.1 (in-time-back p (suc p) le (omega arith) d.in_time))))
      (fate p le)
    where
      twice : (q : ℕ) → q < p → EndsInData k l m q → ⊥
      twice q h d' = omega (arith, in-order-once (all k) l m (suc q) (suc p) d'.needed d.needed)

  -- by its 15,000th tick it has ended
  pub ends : (n : ℕ) → m ≤ n → 15000 ≤ count 0 l m n → DataBy k l m n ⊎ ExceptionBy k l m n
  ends n h t = ⊎_elim (λ x. absurd (no x.in_time.early)) (λ w. w) (fate n h)
    where
      no : count 0 l m n < 15000 → ⊥
      no y = omega arith

  -- the histories of an attempt: open, ended in data mode, ended in the exception state
  pub is_open : (n : ℕ) → OpensAt k l m → StillOpen k l m n → (w : Now k l m n) × Holds k l n (trying w.0 w.1 w.2 m)
  is_open n o x =
      ⊎_elim (λ w. (w, (o, w.3, w.4, x.in_time, w.5))) (λ w. absurd (x.unshown w.0 w.1 w.2))
      (find k l m n k.first k.others m s.each begun x.since)

  pub is-done : (p : ℕ) → OpensAt k l m → EndsInData k l m p → Holds k l (suc p) (done (suc p))
  is-done p o d = (m, o, d.needed, d.in_time, le_refl _, count-self 8 l (suc p))

  pub is-failed : (p : ℕ) → OpensAt k l m → EndsInException k l m p → Holds k l (suc p) (failed (suc p))
  is-failed p o x = (fails, le_refl _, count-self 8 l (suc p), s.silent l (suc p))
    where
      fails : SilenceBegins k l (suc p)
      fails =
          ⊎_elim (λ a. abnormal a) (λ t. by_cases (eqb (at l p) 8) (λ e. abnormal (eqb-true _ _ e))
          (λ e. late o x.before (calm_more 8 l m p x.before.since x.before.in_time.calm e) t)) x.cut

module _ (k : Needs) (s : Sound k) (l : List ℕ) (n : ℕ) where
  -- the histories before and after the code that opens an attempt
  pub is-told : OpensAt k l (suc n) → (e : ℕ) × Holds k l n (await e)
  is-told (opens {e = e} d o z) = (e, (d, o.since, calm-less 8 l e n o.since z, o.lacking))

  pub is-begun : OpensAt k l (suc n) → Holds k l (suc n) (trying k.first k.others (suc n) (suc n))
  is-begun o = (o, begun, le_refl _, record { calm = count-self 8 l (suc n); early = omega arith }, s.each.0 l (suc n))
