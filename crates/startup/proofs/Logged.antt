-- The attempts that the scan gives are those that the list says. Assumes nothing.
use Prim.Native.Nat.{ℕ, zero, suc, ◌+◌, ◌≤◌}
use native.Mathlib.Omega.{arith}
use native.Mathlib.Nat.{le_refl, le_trans, eq-or-lt_of_le, add-zero, add-suc, suc-add, zero-add}
use mathlib.Core.Path.{◌≡◌, refl, sym, ap, subst, ◌∙◌}
use mathlib.Core.Logic.{◌⊎◌, inl, inr, ⊎_elim}
use mathlib.Core.List.{List, [], ◌∷◌}
use mathlib.Core.Bool.{false, false≢true}
use borrow.Author.Tests.{leb-true, leb-false, eqb-true}
use lib.Dec.{leb, eqb}
use lib.ListN.{length, drop}
use Rattle.supervisor.proofs.Laws.{by_cases}
use Rattle.startup.specs.Reports.{at, count, Need, shown}
use Rattle.startup.specs.Attempts.{Needs, StillOpen, EndsInData, EndsInException, OpensAt, opens}
use Rattle.startup.specs.Scan.{Attempt, attempt, Stand, scanned, event, closed, logged, scan, attempts, Fate, Listed}
use Rattle.startup.proofs.History.{reached-le, not-all}
use Rattle.startup.proofs.Unique.{Hist, ready as ready_h, await, trying, done, failed, onward, next, Holds, Sound, choose, forth, hist_of, unique, holds}
use Rattle.startup.proofs.Fate.{next-fate, open-now, open-back, data-open, is_open, is-done, is-failed, is-told, is-begun}
use Rattle.startup.proofs.Scanned.{stand_of, scan_step}

-- the place of the code that opened an attempt
opened-by : (k : Needs) (l : List ℕ) (m : ℕ) → OpensAt k l m → (p : ℕ) × (m ≡ suc p)
opened-by k l m (opens {p = p} d o z) = (p, refl)

-- where an attempt in a history opened
abbrev opened_in : Hist → ℕ
opened_in (ready_h r) = 0
opened_in (await e) = 0
opened_in (trying d ds e m) = m
opened_in (done e) = 0
opened_in (failed e) = 0

-- what an event says of the list
abbrev pub Says : Needs → List ℕ → ℕ → ℕ → Type 0
Says k l n e =
    (e ≡ 0)
    ⊎ (((e ≡ 1) × OpensAt k l (suc n))
    ⊎ (((e ≡ 2) × ((m : ℕ) × OpensAt k l m × EndsInData k l m n)) ⊎ ((e ≡ 3) × ((m : ℕ) × OpensAt k l m × EndsInException k l m n))))

-- the code at a place, and the codes after it
pub drop-split : (l : List ℕ) (p c : ℕ) (cs : List ℕ) → drop p l ≡ c ∷ cs → (at l p ≡ c) × (drop (suc p) l ≡ cs)
drop-split [] zero c cs q = absurd (let z : ◌≡◌ {A = ℕ} 0 1 = cc in omega arith)
drop-split [] (suc p) c cs q = absurd (let z : ◌≡◌ {A = ℕ} 0 1 = cc in omega arith)
drop-split (x ∷ l) zero c cs q = (cc, cc)
drop-split (x ∷ l) (suc p) c cs q = drop-split l p c cs q

module _ (k : Needs) (s : Sound k) (l : List ℕ) where
  abbrev pub stand_at : ℕ → Stand
  stand_at n = stand_of k l n (hist_of k l n)

  -- what the code at the place n does to an attempt
  abbrev pub event_at : ℕ → ℕ
  event_at n = event (stand_at n) (stand_at (suc n))

  event-of : (n : ℕ) (a a' : Hist) → Holds k l n a → Holds k l (suc n) a' → event_at n ≡ event (stand_of k l n a) (stand_of k l (suc n) a')
  event-of n a a' h h' = sym (λ i. event (stand_of k l n (unique k s l n a h i)) (stand_of k l (suc n) (unique k s l (suc n) a' h' i)))

  pub opens-event : (n : ℕ) → OpensAt k l (suc n) → event_at n ≡ 1
  opens-event n o = let w = is-told k s l n o in event-of n (await w.0) (trying k.first k.others (suc n) (suc n)) w.1 (is-begun k s l n o)

  pub data-event : (m n : ℕ) → OpensAt k l m → EndsInData k l m n → event_at n ≡ 2
  data-event m n o d =
      let w = is_open k s l m n o (data-open k s l m n d) in event-of n (trying w.0.0 w.0.1 w.0.2 m) (done (suc n)) w.1 (is-done k s l m n o d)

  pub exception-event : (m n : ℕ) → OpensAt k l m → EndsInException k l m n → event_at n ≡ 3
  exception-event m n o x =
      let w = is_open k s l m n o x.before in event-of n (trying w.0.0 w.0.1 w.0.2 m) (failed (suc n)) w.1 (is-failed k s l m n o x)

  pub event-says : (n : ℕ) → Says k l n (event_at n)
  event-says n = go (hist_of k l n) (holds k s l n)
    where
      P : Hist → Hist → Type 0
      P a a' = Holds k l (suc n) a' → Says k l n (event (stand_of k l n a) (stand_of k l (suc n) a'))

      go : (a : Hist) → Holds k l n a → Says k l n (event (stand_of k l n a) (stand_of k l (suc n) (next k l n a)))
      go (ready_h r) h = inl refl
      go (await e) h =
          choose (P (await e)) (eqb (at l n) 8) _ _ (λ t hh. inl refl)
          (λ f. choose (P (await e)) (shown k.before l e (suc n)) _ _ (λ t hh. inr (inl (refl, hh.0))) (λ f hh. inl refl))
          (forth k s l n (await e) h)
      go (trying d ds e m) h =
          choose (P (trying d ds e m)) (eqb (at l n) 8) _ _ (λ t hh. failing (inl (eqb-true _ _ t)))
          (λ f. choose (P (trying d ds e m)) (leb 15000 (count 0 l m (suc n))) _ _ (λ t hh. failing (inr (leb-true _ _ t)))
          (λ f. choose (P (trying d ds e m)) (shown d l e (suc n)) _ _ (λ t. on ds) (λ f hh. inl refl)))
          (forth k s l n (trying d ds e m) h)
        where
          x : StillOpen k l m n
          x = record { since = le_trans (reached-le k l m h.1) h.2; in_time = h.3; unshown = not-all k l m n h.1 h.4 }

          failing : ((at l n ≡ 8) ⊎ (15000 ≤ count 0 l m (suc n))) → Says k l n 3
          failing c = inr (inr (inr (refl, (m, h.0, record { before = x; cut = c }))))

          on : (ds' : List Need) → P (trying d ds e m) (onward ds' (suc n) m)
          on [] hh = inr (inr (inl (refl, (hh.0, hh.1, record { needed = hh.2; in_time = hh.3 }))))
          on (d' ∷ ds') hh = inl refl
      go (done e) h = inl refl
      go (failed e) h = inl refl

  -- no other attempt opens while one is open
  only-open : (m n q : ℕ) → OpensAt k l m → StillOpen k l m n → OpensAt k l (suc q) → m ≤ suc q → suc q ≤ n → m ≡ suc q
  only-open m n q o x o' h i =
      let w = is_open k s l m (suc q) o (open-back k s l m (suc q) n h i x) in
      ap opened_in (unique k s l (suc q) (trying w.0.0 w.0.1 w.0.2 m) w.1
      ∙ sym (unique k s l (suc q) (trying k.first k.others (suc q) (suc q)) (is-begun k s l q o')))

  -- the attempts at the moment n, the last first
  abbrev pub log_at : ℕ → List Attempt
  log_at zero = []
  log_at (suc n) = logged n (event_at n) (log_at n)

  not-opening : (n e : ℕ) → event_at n ≡ e → eqb e 1 ≡ false → OpensAt k l (suc n) → ⊥
  not-opening n e q f o = false≢true (sym f ∙ ap (λ (z : ℕ). eqb z 1) (sym q ∙ opens-event n o))

  -- no event: what is open stays open
  quiet : (n : ℕ) (log : List Attempt) → event_at n ≡ 0 → Listed k l n log → Listed k l (suc n) log
  quiet n [] q h =
      λ p i o. ⊎_elim (λ z. not-opening n 0 q refl (subst (λ (y : ℕ). OpensAt k l (suc y)) (omega arith) o)) (λ z. h p (omega arith) o) (eq-or-lt_of_le i)
  quiet n (a ∷ log) q h = (
    record {
      before = omega (arith, h.0.before);
      opens = h.0.opens;
      last = λ p i j o. ⊎_elim (λ z. not-opening n 0 q refl (subst (λ (y : ℕ). OpensAt k l (suc y)) (omega arith) o)) (λ z. h.0.last p i (omega arith) o)
          (eq-or-lt_of_le j);
      fate = ⊎_elim still (⊎_elim (λ w. inr (inl (w.0, omega (arith, w.1), w.2))) (λ w. inr (inr (w.0, omega (arith, w.1), w.2)))) h.0.fate;
    },
    h.1,
  )
    where
      o : OpensAt k l (suc a.opened_at)
      o = h.0.opens

      no : (e : ℕ) → event_at n ≡ e → eqb e 0 ≡ false → ⊥
      no e r f = false≢true (sym f ∙ ap (λ (z : ℕ). eqb z 0) (sym r ∙ q))

      still : ((a.outcome ≡ 1) × (a.ended_at ≡ 0) × StillOpen k l (suc a.opened_at) n) → Fate k l (suc n) a
      still w =
          ⊎_elim (λ y. inl (w.0, w.1, y))
          (⊎_elim (λ d. absurd (no 2 (data-event (suc a.opened_at) n o d) refl)) (λ x. absurd (no 3 (exception-event (suc a.opened_at) n o x) refl)))
          (next-fate k s l (suc a.opened_at) n w.2)

  -- the code that opens an attempt
  opening : (n : ℕ) (log : List Attempt) → OpensAt k l (suc n) → Listed k l n log → Listed k l (suc n) (attempt n 1 0 ∷ log)
  opening n log o h = (
    record {
      before = le_refl _;
      opens = o;
      last = λ p i j x. omega arith;
      fate = inl (refl, refl, open-now k s l (suc n));
    },
    h,
  )

  -- the code that ends one: it is the last that opened
  closing : (n e m : ℕ) (log : List Attempt) → event_at n ≡ e → eqb e 1 ≡ false → OpensAt k l m → StillOpen k l m n
      → ((a : Attempt) → suc a.opened_at ≡ m → Fate k l (suc n) (attempt a.opened_at e n)) → Listed k l n log → Listed k l (suc n) (closed n e log)
  closing n e m [] q f o x g h = absurd (let w = opened-by k l m o in h w.0 (omega (arith, w.1, x.since)) (subst (OpensAt k l) w.1 o))
  closing n e m (a ∷ log) q f o x g h = (
    record {
      before = omega (arith, h.0.before);
      opens = h.0.opens;
      last = λ p i j o'. ⊎_elim (λ z. not-opening n e q f (subst (λ (y : ℕ). OpensAt k l (suc y)) (omega arith) o')) (λ z. h.0.last p i (omega arith) o')
          (eq-or-lt_of_le j);
      fate = g a (sym (only-open m n a.opened_at o x h.0.opens le h.0.before));
    },
    h.1,
  )
    where
      w : (p : ℕ) × (m ≡ suc p)
      w = opened-by k l m o

      le : m ≤ suc a.opened_at
      le = by_cases (leb m (suc a.opened_at)) (λ t. leb-true _ _ t)
          (λ c. let z = leb-false m (suc a.opened_at) c in
          absurd (h.0.last w.0 (omega (arith, w.1)) (omega (arith, w.1, x.since)) (subst (OpensAt k l) w.1 o)))

  -- THE LOG LISTS WHAT THE LIST SAYS
  pub listed : (n : ℕ) → Listed k l n (log_at n)
  listed zero = λ p h o. omega arith
  listed (suc n) =
      ⊎_elim (λ q. by q (quiet n (log_at n) q (listed n)))
      (⊎_elim (λ w. by w.0 (opening n (log_at n) w.1 (listed n)))
      (⊎_elim
      (λ w. let d = w.1.2 in by w.0 (closing n 2 w.1.0 (log_at n) w.0 refl w.1.1 (data-open k s l w.1.0 n d)
      (λ a q. inr (inl (refl, le_refl _, subst (λ (m : ℕ). EndsInData k l m n) (sym q) d))) (listed n)))
      (λ w. let x = w.1.2 in by w.0 (closing n 3 w.1.0 (log_at n) w.0 refl w.1.1 x.before
      (λ a q. inr (inr (refl, le_refl _, subst (λ (m : ℕ). EndsInException k l m n) (sym q) x))) (listed n)))))
      (event-says n)
    where
      by : {e : ℕ} → event_at n ≡ e → Listed k l (suc n) (logged n e (log_at n)) → Listed k l (suc n) (logged n (event_at n) (log_at n))
      by {e} q h = subst (λ (z : ℕ). Listed k l (suc n) (logged n z (log_at n))) (sym q) h

  -- the scan of a list is that log
  stand-step : (n : ℕ) → scanned k (at l n) (stand_at n) ≡ stand_at (suc n)
  stand-step n = scan_step k l n (hist_of k l n) (holds k s l n)

  scan-is : (p : ℕ) (cs : List ℕ) → drop p l ≡ cs → scan k p (stand_at p) (log_at p) cs ≡ log_at (p + length cs)
  scan-is p [] q = ap log_at (sym (add-zero p))
  scan-is p (c ∷ cs) q =
      let w = drop-split l p c cs q in
      (λ i. scan k (suc p) (go w i) (logged p (event (stand_at p) (go w i)) (log_at p)) cs)
      ∙ scan-is (suc p) cs w.1 ∙ ap log_at (suc-add p (length cs) ∙ sym (add-suc p (length cs)))
    where
      go : ((at l p ≡ c) × (drop (suc p) l ≡ cs)) → scanned k c (stand_at p) ≡ stand_at (suc p)
      go w = ap (λ (x : ℕ). scanned k x (stand_at p)) (sym w.0) ∙ stand-step p

  pub attempts-are : attempts k l ≡ log_at (length l)
  attempts-are = scan-is 0 l refl ∙ ap log_at (zero-add (length l))

  -- THE COMPUTED FORM AGREES WITH THE STATEMENT
  pub attempts-listed : Listed k l (length l) (attempts k l)
  attempts-listed = subst (Listed k l (length l)) (sym attempts-are) (listed (length l))
