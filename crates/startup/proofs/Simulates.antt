-- The state after n codes of a fresh start is the one that the list's history at n stands for. Assumes nothing.
use Prim.Native.Nat.{ℕ, zero, suc, ◌≤◌, ◌<◌}
use native.Mathlib.Omega.{arith}
use mathlib.Core.Path.{◌≡◌, refl, sym, ap, subst, ◌∙◌}
use mathlib.Core.List.{List, [], ◌∷◌}
use mathlib.Core.Bool.{Bool, true, false, cond, and-true}
use borrow.Author.Tests.{leb-true, leb-false, lt-leb, le-ltb}
use lib.Dec.{leb, eqb, leb-zero}
use lib.ListN.{take}
use Rattle.answer.specs.Answer.{answer}
use Rattle.supervisor.specs.declared.Supervisor.{Supervisor}
use Rattle.supervisor.specs.Names.{Ready, Gap, Await, Cr, Hearing, Quiet, Sc, Sr, Tc}
use Rattle.supervisor.specs.Names.{Tr, Fc, Settling, Valid, Exception}
use Rattle.supervisor.specs.Phases.{row, phases_of, is_of, in_attempt, counts}
use Rattle.supervisor.specs.Rules.{among, acted, moved}
use Rattle.supervisor.specs.Step.{state_refusals, step_of, fresh}
use Rattle.supervisor.proofs.Laws.{by_cases}
use Rattle.startup.specs.Reports.{at, one, count, Need, need, shown}
use Rattle.startup.specs.Attempts.{Needs, ntu_needs, ltu_needs, all, InTime}
use Rattle.startup.specs.Make.{steps}
use Rattle.startup.proofs.Counts.{upto-mono, count-self, count-mono, count-step}
use Rattle.startup.proofs.History.{Reached, begun, went, reached-le, Real, AllReal}
use Rattle.startup.proofs.Unique.{Hist, ready, await, trying, done, failed, onward, next, Holds, Sound, hist_of, unique, holds}
use Rattle.startup.proofs.Moves.{mk, X, plain, try_of, lasting, until, both-marks, mark-and-ticks}
use Rattle.startup.proofs.Moves.{in-ready, in-gap, in-await, settled, in-valid, in_settling, in_exception, step-state}

-- the card of the NTU or of the LTU
abbrev pub k_of : Bool → ℕ → Needs
k_of true silence = ntu_needs silence
k_of false silence = ltu_needs silence

-- each need has something to wait for
stages-real : (b : Bool) (sil : ℕ) → AllReal (all (k_of b sil))
stages-real false sil = (
  λ l m. simp (count-self 0 l m, count-self 3 l m),
  (
    λ l m. simp (count-self 0 l m),
    (λ l m. simp (count-self 0 l m), (λ l m. simp (count-self 0 l m, count-self 6 l m), (λ l m. simp (count-self 0 l m, count-self 7 l m), tt))),
  ),
)
stages-real true sil = (
  λ l m. simp (count-self 0 l m),
  (λ l m. simp (count-self 0 l m), (λ l m. simp (count-self 0 l m, count-self 4 l m), (λ l m. simp (count-self 0 l m, count-self 7 l m), tt))),
)

before-real : (b : Bool) (sil : ℕ) → Real (k_of b sil).before
before-real false sil = λ l m. simp (count-self 0 l m, count-self 2 l m)
before-real true sil = λ l m. simp (count-self 0 l m)

silence-real : (b : Bool) (sil : ℕ) → 0 < sil → Real (k_of b sil).silence
silence-real false sil h = λ l m. simp (count-self 0 l m, lt-leb sil 0 h)
silence-real true sil h = λ l m. simp (count-self 0 l m, lt-leb sil 0 h)

pub sound : (b : Bool) (sil : ℕ) → 0 < sil → Sound (k_of b sil)
sound b sil h = record { before = before-real b sil; each = stages-real b sil; silent = silence-real b sil h }

-- the phase before an attempt
abbrev pub pre : Bool → ℕ
pre true = Gap
pre false = Await

-- Await's ticks are not counted
abbrev awaited : Bool → ℕ → ℕ
awaited true t = t
awaited false t = 0

-- the mark of the report c in a need
abbrev pub mark : ℕ → Need → List ℕ → ℕ → ℕ → ℕ
mark c d l e n = cond (among c d.reports) (one (leb 1 (count c l e n))) 0

-- the state that a history stands for
abbrev pub conc : Bool → ℕ → List ℕ → ℕ → Hist → Supervisor
conc b sil l n (ready r) = plain (one b) sil Ready 0 0
conc b sil l n (await e) = plain (one b) sil (pre b) (awaited b (count 0 l e n)) 0
conc b sil l n (trying d ds e m) = mk (one b) sil d.phase (count 0 l e n) (count 0 l m n) (mark 4 d l e n) (mark 5 d l e n)
conc b sil l n (done e) = settled (one b) sil (count 0 l e n)
conc b sil l n (failed e) = plain (one b) sil Exception (count 0 l e n) 0

-- a fact of each list that an attempt comes to
abbrev pub AllSuffix : (List Need → Type 0) → List Need → Type 0
AllSuffix P [] = Unit {0}
AllSuffix P (d ∷ ds) = P (d ∷ ds) × AllSuffix P ds

pub reached-suffix : (k : Needs) (l : List ℕ) (m : ℕ) (P : List Need → Type 0) {d : Need} {ds : List Need} {e : ℕ} → AllSuffix P (all k) → Reached k l m d ds e
    → AllSuffix P (d ∷ ds)
reached-suffix k l m P a begun = a
reached-suffix k l m P a (went r o) = (reached-suffix k l m P a r).1

-- the state after one code more
pub after-suc : (s : Supervisor) (l : List ℕ) (n : ℕ) → steps s (take (suc n) l) ≡ (step_of (steps s (take n l)) (at l n)).state
after-suc s [] zero = refl
after-suc s [] (suc n) = refl
after-suc s (c ∷ l) zero = refl
after-suc s (c ∷ l) (suc n) = after-suc (step_of s c).state l n

module _ (b : Bool) (sil : ℕ) where
  abbrev en : ℕ
  en = one b

  conc-cond : (l : List ℕ) (n : ℕ) (t : Bool) (x y : Hist) {x' y' : Supervisor} → conc b sil l n x ≡ x' → conc b sil l n y ≡ y'
      → conc b sil l n (cond t x y) ≡ cond t x' y'
  conc-cond l n true x y p q = p
  conc-cond l n false x y p q = q

  fail-now : (l : List ℕ) (n : ℕ) → conc b sil l n (failed n) ≡ X en sil
  fail-now l n = ap (λ (t : ℕ). plain en sil Exception t 0) (count-self 0 l n)

  module _ (lo : 2000 ≤ sil) (hi : sil ≤ 60000) (l : List ℕ) (n : ℕ) where
    -- such a state is legal
    pub legal-mk : (p t a c s : ℕ) → is_of p (phases_of en sil) ≡ true → t < 60000 → a < 15000 → answer (state_refusals (mk en sil p t a c s)) ≡ 0
    legal-mk p t a c s o h i =
        simp (le-ltb 1 en (le-one b), o, le-ltb 14999 a (omega arith), le-ltb 59999 t (omega arith), le-ltb sil 2000 lo, le-ltb 60000 sil hi)
      where
        le-one : (b : Bool) → one b ≤ 1
        le-one true = omega arith
        le-one false = omega arith

    abbrev Commutes : Hist → Type 0
    Commutes a = (step_of (conc b sil l n a) (at l n)).state ≡ conc b sil l (suc n) (next (k_of b sil) l n a)

    abbrev P : ℕ → List Need → Type 0
    P m [] = Unit {0}
    P m (d ∷ ds) = (e : ℕ) → e ≤ n → m ≤ e → InTime l m n → shown d l e n ≡ false → Commutes (trying d ds e m)

    pub short : (m e : ℕ) → e ≤ n → m ≤ e → InTime l m n → count 0 l e n < 15000
    short m e h i u = omega (arith, u.early, upto-mono 0 l m e i, upto-mono 0 l e n h)

    tries : (m e : ℕ) (d : Need) (ds : List Need) (over : Supervisor) → conc b sil l (suc n) (onward ds (suc n) m) ≡ over
        → conc b sil l (suc n) (next (k_of b sil) l n (trying d ds e m)) ≡ try_of en sil (at l n) (count 0 l m (suc n)) (shown d l e (suc n)) over
        (conc b sil l (suc n) (trying d ds e m))
    tries m e d ds over q =
        conc-cond l (suc n) (eqb (at l n) 8) (failed (suc n))
        (cond (leb 15000 (count 0 l m (suc n))) (failed (suc n)) (cond (shown d l e (suc n)) (onward ds (suc n) m) (trying d ds e m))) (fail-now l (suc n))
        (conc-cond l (suc n) (leb 15000 (count 0 l m (suc n))) (failed (suc n)) (cond (shown d l e (suc n)) (onward ds (suc n) m) (trying d ds e m))
        (fail-now l (suc n))
        (conc-cond l (suc n) (shown d l e (suc n)) (onward ds (suc n) m) (trying d ds e m) q refl))

    no-mark : (c : ℕ) (d : Need) → mark c d l (suc n) (suc n) ≡ 0
    no-mark c d = go (among c d.reports)
      where
        go : (t : Bool) → cond t (one (leb 1 (count c l (suc n) (suc n)))) 0 ≡ 0
        go true = ap (λ (k : ℕ). one (leb 1 k)) (count-self c l (suc n))
        go false = refl

    enter : (d : Need) (ds : List Need) (m : ℕ) → conc b sil l (suc n) (trying d ds (suc n) m) ≡ plain en sil d.phase 0 (count 0 l m (suc n))
    enter d ds m = λ i. mk en sil d.phase (count-self 0 l (suc n) i) (count 0 l m (suc n)) (no-mark 4 d i) (no-mark 5 d i)

    enter-done : conc b sil l (suc n) (done (suc n)) ≡ plain en sil Settling 0 0
    enter-done = ap (settled en sil) (count-self 0 l (suc n))

    -- a phase that lasts so many ticks
    do-lasting : (ph lim : ℕ) (d : Need) (ds : List Need) → is_of ph (phases_of en sil) ≡ true
        → counts ph ≡ true → in_attempt ph ≡ true → in_attempt d.phase ≡ true → eqb ph Exception ≡ false
        → ((t a x : ℕ) → moved (plain en sil ph t a) x ≡ acted (row ph lim [] d.phase) (plain en sil ph t a) x)
        → (m : ℕ) → P m (need ph lim [] ∷ d ∷ ds)
    do-lasting ph lim d ds o hc ha hn he mv m e h i u z =
        let t : count 0 l e n < 15000 = short m e h i u in
        let j : m ≤ n = omega arith in
        let c = count 0 l e n in
        let c' = count 0 l e (suc n) in
        let a = count 0 l m n in
        let a' = count 0 l m (suc n) in
        step-state (plain en sil ph c a) (at l n) (legal-mk ph c a 0 0 o (omega arith) u.early)
        ∙ mv c a (at l n)
        ∙ lasting en sil ph d.phase lim (at l n) c a c' a' hc ha hn he (count-step 0 l e n h) (count-step 0 l m n j)
        (leb-false lim c (simp and-true at z)) t u.early
        ∙ sym (tries m e (need ph lim []) (d ∷ ds) (plain en sil d.phase 0 a') (enter d ds m))

    -- a phase that lasts until a report that has no mark
    do-until : (ph nx r : ℕ) (ds : List Need) → is_of ph (phases_of en sil) ≡ true → counts ph ≡ true → in_attempt ph ≡ true → eqb ph Exception ≡ false
        → eqb r 0 ≡ false → eqb 0 r ≡ false → eqb r 8 ≡ false → eqb 8 r ≡ false → eqb r 4 ≡ false → eqb r 5 ≡ false
        → among 4 (r ∷ []) ≡ false → among 5 (r ∷ []) ≡ false
        → ((t a x : ℕ) → moved (plain en sil ph t a) x ≡ acted (row ph 0 (r ∷ []) nx) (plain en sil ph t a) x)
        → (m : ℕ) → conc b sil l (suc n) (onward ds (suc n) m) ≡ plain en sil nx 0 (cond (in_attempt nx) (count 0 l m (suc n)) 0)
        → P m (need ph 0 (r ∷ []) ∷ ds)
    do-until ph nx r ds o hc ha he r0 r0' r8 r8' r4 r5 k4 k5 mv m q e h i u z =
        let t : count 0 l e n < 15000 = short m e h i u in
        let j : m ≤ n = omega arith in
        let c = count 0 l e n in
        let c' = count 0 l e (suc n) in
        let a = count 0 l m n in
        let a' = count 0 l m (suc n) in
        let end = plain en sil nx 0 (cond (in_attempt nx) a' 0) in
        ap (λ (s : Supervisor). (step_of s (at l n)).state) (unmarked n)
        ∙ step-state (plain en sil ph c a) (at l n) (legal-mk ph c a 0 0 o (omega arith) u.early)
        ∙ mv c a (at l n)
        ∙ until en sil ph nx r hc ha he r0 r0' r8 r8' r4 r5 (at l n) c a c' a' (count r l e n) (count r l e (suc n))
        (count-step 0 l e n h) (count-step 0 l m n j) (count-step r l e n h) t u.early (simp (and-true, leb-zero c) at z)
        ∙ ap (try_of en sil (at l n) a' (shown (need ph 0 (r ∷ [])) l e (suc n)) end) (sym (unmarked (suc n)))
        ∙ sym (tries m e (need ph 0 (r ∷ [])) ds end q)
      where
        unmarked : (n' : ℕ) → conc b sil l n' (trying (need ph 0 (r ∷ [])) ds e m) ≡ plain en sil ph (count 0 l e n') (count 0 l m n')
        unmarked n' =
            λ v. mk en sil ph (count 0 l e n') (count 0 l m n') (cond (k4 v) (one (leb 1 (count 4 l e n'))) 0)
            (cond (k5 v) (one (leb 1 (count 5 l e n'))) 0)

    abbrev AwaitStep : Type 0
    AwaitStep = (e : ℕ) → Holds (k_of b sil) l n (await e)
        → (step_of (conc b sil l n (await e)) (at l n)).state ≡ cond (eqb (at l n) 8) (X en sil)
        (cond (shown (k_of b sil).before l e (suc n)) (plain en sil (k_of b sil).first.phase 0 0) (conc b sil l (suc n) (await e)))

    abbrev ReadyStep : Type 0
    ReadyStep =
        (step_of (plain en sil Ready 0 0) (at l n)).state ≡ cond (eqb (at l n) 8) (X en sil)
        (cond (eqb (at l n) 1) (plain en sil (pre b) 0 0) (plain en sil Ready 0 0))

    told-now : conc b sil l (suc n) (await (suc n)) ≡ plain en sil (pre b) 0 0
    told-now = go b
      where
        go : (b : Bool) → conc b sil l (suc n) (await (suc n)) ≡ plain (one b) sil (pre b) 0 0
        go true = ap (λ (t : ℕ). plain 1 sil Gap t 0) (count-self 0 l (suc n))
        go false = refl

    -- the rows of the phases that both ends have
    pub record Shared : Type 0 where
      pub valid : is_of Valid (phases_of en sil) ≡ true
      pub settling : is_of Settling (phases_of en sil) ≡ true
      pub exception : is_of Exception (phases_of en sil) ≡ true
      pub moved-valid : (x : ℕ) → moved (plain en sil Valid 0 0) x ≡ acted (row Valid 0 [] Valid) (plain en sil Valid 0 0) x
      pub moved-settling : (t x : ℕ) → moved (plain en sil Settling t 0) x ≡ acted (row Settling 1000 [] Valid) (plain en sil Settling t 0) x
      pub moved-exception : (t x : ℕ) → moved (plain en sil Exception t 0) x ≡ acted (row Exception sil [] Ready) (plain en sil Exception t 0) x
      pub rest : (k_of b sil).silence ≡ need Exception sil []

    commutes : ReadyStep → AwaitStep → ((m : ℕ) → AllSuffix (P m) (all (k_of b sil))) → Shared → (a : Hist) → Holds (k_of b sil) l n a → Commutes a
    commutes rd aw every sh (ready r) h =
        rd
        ∙ sym (conc-cond l (suc n) (eqb (at l n) 8) (failed (suc n)) (cond (eqb (at l n) 1) (await (suc n)) (ready r)) (fail-now l (suc n))
        (conc-cond l (suc n) (eqb (at l n) 1) (await (suc n)) (ready r) told-now refl))
    commutes rd aw every sh (await e) h =
        aw e h
        ∙ sym (conc-cond l (suc n) (eqb (at l n) 8) (failed (suc n))
        (cond (shown (k_of b sil).before l e (suc n)) (trying (k_of b sil).first (k_of b sil).others (suc n) (suc n)) (await e)) (fail-now l (suc n))
        (conc-cond l (suc n) (shown (k_of b sil).before l e (suc n)) (trying (k_of b sil).first (k_of b sil).others (suc n) (suc n)) (await e)
        (enter (k_of b sil).first (k_of b sil).others (suc n) ∙ ap (plain en sil (k_of b sil).first.phase 0) (count-self 0 l (suc n))) refl))
    commutes rd aw every sh (trying d ds e m) h =
        (reached-suffix (k_of b sil) l m (P m) (every m) h.1).0 e h.2 (reached-le (k_of b sil) l m h.1) h.3 h.4
    commutes rd aw every sh (done e) h =
        by_cases (leb 1000 (count 0 l e n))
        (λ y. ap (λ (t : Bool). (step_of (cond t (plain en sil Valid 0 0) (plain en sil Settling (count 0 l e n) 0)) (at l n)).state) y
        ∙ step-state (plain en sil Valid 0 0) (at l n) (legal-mk Valid 0 0 0 0 sh.valid (omega arith) (omega arith)) ∙ sh.moved-valid (at l n)
        ∙ in-valid en sil (at l n) (count 0 l e n) (count 0 l e (suc n)) (count-mono 0 l e n (suc n) (omega arith)) (leb-true 1000 (count 0 l e n) y) ∙ sym end)
        (λ y. let t : count 0 l e n < 1000 = leb-false 1000 (count 0 l e n) y in
        ap (λ (t : Bool). (step_of (cond t (plain en sil Valid 0 0) (plain en sil Settling (count 0 l e n) 0)) (at l n)).state) y
        ∙ step-state (plain en sil Settling (count 0 l e n) 0) (at l n) (legal-mk Settling (count 0 l e n) 0 0 0 sh.settling (omega arith) (omega arith))
        ∙ sh.moved-settling (count 0 l e n) (at l n)
        ∙ in_settling en sil (at l n) (count 0 l e n) (count 0 l e (suc n)) (count-step 0 l e n h.4) t ∙ sym end)
      where
        end : conc b sil l (suc n) (next (k_of b sil) l n (done e)) ≡ cond (eqb (at l n) 8) (X en sil) (settled en sil (count 0 l e (suc n)))
        end = conc-cond l (suc n) (eqb (at l n) 8) (failed (suc n)) (done e) (fail-now l (suc n)) refl
    commutes rd aw every sh (failed e) h =
        let t : count 0 l e n < sil = leb-false sil (count 0 l e n) (simp and-true at (subst (λ (d : Need). shown d l e n ≡ false) sh.rest h.3)) in
        step-state (plain en sil Exception (count 0 l e n) 0) (at l n) (legal-mk Exception (count 0 l e n) 0 0 0 sh.exception (omega arith) (omega arith))
        ∙ sh.moved-exception (count 0 l e n) (at l n)
        ∙ in_exception en sil (at l n) (count 0 l e n) (count 0 l e (suc n)) (count-step 0 l e n h.1) t hi
        ∙ ap (λ (d : Need). cond (eqb (at l n) 8) (X en sil)
        (cond (shown d l e (suc n)) (plain en sil Ready 0 0) (plain en sil Exception (count 0 l e (suc n)) 0))) (sym sh.rest)
        ∙ sym (conc-cond l (suc n) (eqb (at l n) 8) (failed (suc n)) (cond (shown (k_of b sil).silence l e (suc n)) (ready (suc n)) (failed e))
        (fail-now l (suc n))
        (conc-cond l (suc n) (shown (k_of b sil).silence l e (suc n)) (ready (suc n)) (failed e) refl refl))

-- a step goes from the state of a history to that of the next
commutes-at : (b : Bool) (sil : ℕ) (lo : 2000 ≤ sil) (hi : sil ≤ 60000) (l : List ℕ) (n : ℕ) (a : Hist) → Holds (k_of b sil) l n a → Commutes b sil lo hi l n a
commutes-at true sil lo hi l n =
    commutes true sil lo hi l n
    (step-state (plain 1 sil Ready 0 0) (at l n) (legal-mk true sil lo hi l n Ready 0 0 0 0 refl (omega arith) (omega arith)) ∙ in-ready 1 sil Gap (at l n))
    (λ e h. let t : count 0 l e n < 300 = leb-false 300 (count 0 l e n) (simp and-true at h.3) in
    step-state (plain 1 sil Gap (count 0 l e n) 0) (at l n) (legal-mk true sil lo hi l n Gap (count 0 l e n) 0 0 0 refl (omega arith) (omega arith))
    ∙ in-gap 1 sil (at l n) (count 0 l e n) (count 0 l e (suc n)) (count-step 0 l e n h.1) t)
    (λ m. (
      do-lasting true sil lo hi l n Cr 1000 _ _ refl refl refl refl refl (λ t a x. refl) m,
      (
        do-lasting true sil lo hi l n Quiet 1500 _ _ refl refl refl refl refl (λ t a x. refl) m,
        (
          sr m,
          (
            do-until true sil lo hi l n Tr Settling 7 [] refl refl refl refl refl refl refl refl refl refl refl refl (λ t a x. refl) m
                (enter-done true sil lo hi l n),
            tt,
          ),
        ),
      ),
    ))
    (record {
      valid = refl;
      settling = refl;
      exception = refl;
      moved-valid = λ x. refl;
      moved-settling = λ t x. refl;
      moved-exception = λ t x. refl;
      rest = refl;
    })
  where
    sr : (m : ℕ) → P true sil lo hi l n m (need Sr 0 (4 ∷ 5 ∷ []) ∷ need Tr 0 (7 ∷ []) ∷ [])
    sr m e h i u z =
        let t : count 0 l e n < 15000 = short true sil lo hi l n m e h i u in
        let j : m ≤ n = omega arith in
        step-state (mk 1 sil Sr (count 0 l e n) (count 0 l m n) (one (leb 1 (count 4 l e n))) (one (leb 1 (count 5 l e n)))) (at l n)
        (legal-mk true sil lo hi l n Sr (count 0 l e n) (count 0 l m n) (one (leb 1 (count 4 l e n))) (one (leb 1 (count 5 l e n))) refl (omega arith)
        u.early)
        ∙ both-marks 1 sil (at l n) (count 0 l e n) (count 0 l m n) (count 0 l e (suc n)) (count 0 l m (suc n)) (count 4 l e n) (count 4 l e (suc n))
        (count 5 l e n) (count 5 l e (suc n)) (count-step 0 l e n h) (count-step 0 l m n j) (count-step 4 l e n h) (count-step 5 l e n h) t u.early
        (simp (and-true, leb-zero (count 0 l e n)) at z)
        ∙ sym (tries true sil lo hi l n m e (need Sr 0 (4 ∷ 5 ∷ [])) (need Tr 0 (7 ∷ []) ∷ []) (plain 1 sil Tr 0 (count 0 l m (suc n)))
        (enter true sil lo hi l n (need Tr 0 (7 ∷ [])) [] m))
commutes-at false sil lo hi l n =
    commutes false sil lo hi l n
    (step-state (plain 0 sil Ready 0 0) (at l n) (legal-mk false sil lo hi l n Ready 0 0 0 0 refl (omega arith) (omega arith)) ∙ in-ready 0 sil Await (at l n))
    (λ e h.
    step-state (plain 0 sil Await 0 0) (at l n) (legal-mk false sil lo hi l n Await 0 0 0 0 refl (omega arith) (omega arith))
    ∙ in-await 0 sil (at l n) (count 0 l e (suc n)) (count 2 l e n) (count 2 l e (suc n)) (count-step 2 l e n h.1)
    (simp (and-true, leb-zero (count 0 l e n)) at h.3))
    (λ m. (
      do-until false sil lo hi l n Hearing Quiet 3 (ltu_needs sil).others refl refl refl refl refl refl refl refl refl refl refl refl (λ t a x. refl) m
          (enter false sil lo hi l n (need Quiet 500 []) (need Sc 5000 (4 ∷ []) ∷ need Tc 0 (6 ∷ []) ∷ need Fc 0 (7 ∷ []) ∷ []) m),
      (
        do-lasting false sil lo hi l n Quiet 500 _ _ refl refl refl refl refl (λ t a x. refl) m,
        (
          sc m,
          (
            do-until false sil lo hi l n Tc Fc 6 (need Fc 0 (7 ∷ []) ∷ []) refl refl refl refl refl refl refl refl refl refl refl refl (λ t a x. refl) m
                (enter false sil lo hi l n (need Fc 0 (7 ∷ [])) [] m),
            (
              do-until false sil lo hi l n Fc Settling 7 [] refl refl refl refl refl refl refl refl refl refl refl refl (λ t a x. refl) m
                  (enter-done false sil lo hi l n),
              tt,
            ),
          ),
        ),
      ),
    ))
    (record {
      valid = refl;
      settling = refl;
      exception = refl;
      moved-valid = λ x. refl;
      moved-settling = λ t x. refl;
      moved-exception = λ t x. refl;
      rest = refl;
    })
  where
    sc : (m : ℕ) → P false sil lo hi l n m (need Sc 5000 (4 ∷ []) ∷ need Tc 0 (6 ∷ []) ∷ need Fc 0 (7 ∷ []) ∷ [])
    sc m e h i u z =
        let t : count 0 l e n < 15000 = short false sil lo hi l n m e h i u in
        let j : m ≤ n = omega arith in
        step-state (mk 0 sil Sc (count 0 l e n) (count 0 l m n) (one (leb 1 (count 4 l e n))) 0) (at l n)
        (legal-mk false sil lo hi l n Sc (count 0 l e n) (count 0 l m n) (one (leb 1 (count 4 l e n))) 0 refl (omega arith) u.early)
        ∙ mark-and-ticks 0 sil (at l n) (count 0 l e n) (count 0 l m n) (count 0 l e (suc n)) (count 0 l m (suc n)) (count 4 l e n) (count 4 l e (suc n))
        (count-step 0 l e n h) (count-step 0 l m n j) (count-step 4 l e n h) t u.early (simp and-true at z)
        ∙ sym (tries false sil lo hi l n m e (need Sc 5000 (4 ∷ [])) (need Tc 0 (6 ∷ []) ∷ need Fc 0 (7 ∷ []) ∷ []) (plain 0 sil Tc 0 (count 0 l m (suc n)))
        (enter false sil lo hi l n (need Tc 0 (6 ∷ [])) (need Fc 0 (7 ∷ []) ∷ []) m))

module _ (b : Bool) (sil : ℕ) (lo : 2000 ≤ sil) (hi : sil ≤ 60000) (l : List ℕ) where
  -- THE STATE AFTER n CODES IS THAT OF THE HISTORY AT n
  pub run-hist : (n : ℕ) → steps (fresh (one b) sil) (take n l) ≡ conc b sil l n (hist_of (k_of b sil) l n)
  run-hist zero = refl
  run-hist (suc n) =
      after-suc (fresh (one b) sil) l n
      ∙ ap (λ (s : Supervisor). (step_of s (at l n)).state) (run-hist n)
      ∙ commutes-at b sil lo hi l n (hist_of (k_of b sil) l n) (holds (k_of b sil) (sound b sil (omega arith)) l n)

  pub run_is : (n : ℕ) (a : Hist) → Holds (k_of b sil) l n a → steps (fresh (one b) sil) (take n l) ≡ conc b sil l n a
  run_is n a h = run-hist n ∙ ap (conc b sil l n) (sym (unique (k_of b sil) (sound b sil (omega arith)) l n a h))
