-- The proof of demand 3. Assumes nothing.
use Prim.Native.Nat.{ℕ, suc, ◌≤◌, ◌<◌}
use native.Mathlib.Omega.{arith}
use native.Mathlib.Nat.{le_trans, eq-or-lt_of_le}
use mathlib.Core.Path.{◌≡◌, refl, sym, ap, subst, ◌∙◌}
use mathlib.Core.Logic.{◌⊎◌, inl, inr, ⊎_elim, ◌↔◌}
use mathlib.Core.List.{List, [], ◌∷◌}
use mathlib.Core.Bool.{Bool, true, false, cond, and-true}
use borrow.Author.Tests.{leb-true, leb-false, le-ltb, lt-ltb, ne_eqb}
use lib.Dec.{leb, eqb}
use Rattle.answer.specs.Answer.{answer}
use Rattle.supervisor.specs.declared.Supervisor.{Supervisor}
use Rattle.supervisor.specs.Step.{Numbered}
use Rattle.supervisor.specs.Limits.{attempt_ticks}
use Rattle.supervisor.specs.Names.{Ready, Gap, Await, Cr, Hearing, Settling, Valid, Exception}
use Rattle.supervisor.specs.Phases.{phases_of, is_of, in_attempt}
use Rattle.supervisor.specs.Rules.{moved}
use Rattle.supervisor.specs.Step.{state_refusals, answered as answered_of, step_of, fresh, start_of}
use Rattle.supervisor.proofs.Laws.{by_cases, clash}
use Rattle.startup.specs.Reports.{at, one, count, Need, shown}
use Rattle.startup.specs.Attempts.{Needs, meant, all, StillOpen, EndsInData, EndsInException, OpensAt}
use Rattle.startup.specs.Make.{after, answer_to, Enters, FirstShows, Taken, ours}
use Rattle.startup.proofs.Counts.{count-self, shown-less}
use Rattle.startup.proofs.History.{Reached, begun, went, reached-le, not-all}
use Rattle.startup.proofs.Unique.{Hist, ready, await, trying, done, failed, Holds, Sound, hist_of, holds}
use Rattle.startup.proofs.Moves.{settled, step-state}
use Rattle.startup.proofs.Simulates.{k_of, sound, pre, mark, conc, AllSuffix, reached-suffix, after-suc, legal-mk, short, run-hist, run_is}
use Rattle.startup.proofs.Fate.{fate, next-fate, in-time-back, open-back, data-open, ends as ends_by, is_open, is-done, is-failed, is-told, is-begun}

-- an answer to a code that is taken, and to one that is not
taken : (s : Supervisor) (c : ℕ) → answer (state_refusals s) ≡ 0 → c ≤ 8 → step_of s c ≡ answered_of 0 s (moved s c)
taken s c h i = simp (le-ltb 8 c i, h)

refused : (s : Supervisor) (c : ℕ) → 8 < c → step_of s c ≡ answered_of 2 s (moved s c)
refused s c i = simp (lt-ltb 8 c i)

abbrev pub opening : Bool → ℕ
opening true = Cr
opening false = Hearing

-- which phases are in an attempt
pub pre_out : (b : Bool) → in_attempt (pre b) ≡ false
pre_out true = refl
pre_out false = refl

pub opening-in : (b : Bool) → in_attempt (opening b) ≡ true
opening-in true = refl
opening-in false = refl

settled-out : (en sil t : ℕ) → in_attempt (settled en sil t).phase ≡ false
settled-out en sil t = by_cases (leb 1000 t) (λ y. rw y) (λ y. rw y)

-- what holds of the phase of each need: it is one of the attempt's and of the end's, and only the first is the opening one
abbrev pub InAttempt : Bool → ℕ → List Need → Type 0
InAttempt b sil [] = Unit {0}
InAttempt b sil (d ∷ ds) = (in_attempt d.phase ≡ true) × (is_of d.phase (phases_of (one b) sil) ≡ true)

pub in_its_attempt : (b : Bool) (sil : ℕ) → AllSuffix (InAttempt b sil) (all (k_of b sil))
in_its_attempt true sil = ((refl, refl), ((refl, refl), ((refl, refl), ((refl, refl), tt))))
in_its_attempt false sil = ((refl, refl), ((refl, refl), ((refl, refl), ((refl, refl), ((refl, refl), tt)))))

abbrev NextOther : Bool → List Need → Type 0
NextOther b [] = Unit {0}
NextOther b (d ∷ []) = Unit {0}
NextOther b (d ∷ d' ∷ ds) = eqb d'.phase (opening b) ≡ false

next-other : (b : Bool) (sil : ℕ) → AllSuffix (NextOther b) (all (k_of b sil))
next-other true sil = (refl, (refl, (refl, (tt, tt))))
next-other false sil = (refl, (refl, (refl, (refl, (tt, tt)))))

-- either in the first need since the opening, or not in the opening phase
where-opening : (b : Bool) (sil : ℕ) (l : List ℕ) (m : ℕ) {d : Need} {ds : List Need} {e : ℕ} → Reached (k_of b sil) l m d ds e
    → (m ≡ e) ⊎ (eqb d.phase (opening b) ≡ false)
where-opening b sil l m begun = inl refl
where-opening b sil l m (went r o) = inr (reached-suffix (k_of b sil) l m (NextOther b) (next-other b sil) r).0

module _ (b : Bool) (sil : ℕ) (lo : 2000 ≤ sil) (hi : sil ≤ 60000) (l : List ℕ) where
  abbrev k : Needs
  k = k_of b sil

  abbrev s₀ : Supervisor
  s₀ = fresh (one b) sil

  sd : Sound k
  sd = sound b sil (omega arith)

  -- every state of the run is legal
  pub legal-run : (n : ℕ) → answer (state_refusals (after s₀ l n)) ≡ 0
  legal-run n = subst (λ (s : Supervisor). answer (state_refusals s) ≡ 0) (sym (run-hist b sil lo hi l n)) (go (hist_of k l n) (holds k sd l n))
    where
      both : (p : ℕ) → is_of p (phases_of 1 sil) ≡ true → is_of p (phases_of 0 sil) ≡ true → is_of p (phases_of (one b) sil) ≡ true
      both p x y = pick b
        where
          pick : (b : Bool) → is_of p (phases_of (one b) sil) ≡ true
          pick true = x
          pick false = y

      told : (b : Bool) (e : ℕ) → shown (k_of b sil).before l e n ≡ false → answer (state_refusals (conc b sil l n (await e))) ≡ 0
      told true e z =
          let t : count 0 l e n < 300 = leb-false 300 (count 0 l e n) (simp and-true at z) in
          legal-mk true sil lo hi l n Gap (count 0 l e n) 0 0 0 refl (omega arith) (omega arith)
      told false e z = legal-mk false sil lo hi l n Await 0 0 0 0 refl (omega arith) (omega arith)

      quiet : (b : Bool) (e : ℕ) → shown (k_of b sil).silence l e n ≡ false → count 0 l e n < sil
      quiet true e z = leb-false sil (count 0 l e n) (simp and-true at z)
      quiet false e z = leb-false sil (count 0 l e n) (simp and-true at z)

      go : (a : Hist) → Holds k l n a → answer (state_refusals (conc b sil l n a)) ≡ 0
      go (ready r) h = legal-mk b sil lo hi l n Ready 0 0 0 0 (both Ready refl refl) (omega arith) (omega arith)
      go (await e) h = told b e h.3
      go (trying d ds e m) h =
          let i = reached-le k l m h.1 in
          let t = short b sil lo hi l n m e h.2 i h.3 in
          legal-mk b sil lo hi l n d.phase (count 0 l e n) (count 0 l m n) (mark 4 d l e n) (mark 5 d l e n)
          (reached-suffix k l m (InAttempt b sil) (in_its_attempt b sil) h.1).0.1 (omega arith) h.3.early
      go (done e) h =
          by_cases (leb 1000 (count 0 l e n)) (λ t. rw t (legal-mk b sil lo hi l n Valid 0 0 0 0 (both Valid refl refl) (omega arith) (omega arith)))
          (λ f. let t : count 0 l e n < 1000 = leb-false 1000 (count 0 l e n) f in
          rw f (legal-mk b sil lo hi l n Settling (count 0 l e n) 0 0 0 (both Settling refl refl) (omega arith) (omega arith)))
      go (failed e) h =
          let t = quiet b e h.3 in legal-mk b sil lo hi l n Exception (count 0 l e n) 0 0 0 (both Exception refl refl) (omega arith) (omega arith)

  -- the answers of the run
  answer-is : (p : ℕ) → at l p ≤ 8 → answer_to s₀ l p ≡ answered_of 0 (after s₀ l p) (after s₀ l (suc p))
  answer-is p h =
      taken (after s₀ l p) (at l p) (legal-run p) h
      ∙ ap (answered_of 0 (after s₀ l p)) (sym (after-suc s₀ l p ∙ step-state (after s₀ l p) (at l p) (legal-run p)))

  skipped-is : (p : ℕ) → 8 < at l p → after s₀ l (suc p) ≡ after s₀ l p
  skipped-is p h = after-suc s₀ l p ∙ ap (λ (x : Numbered). x.state) (refused (after s₀ l p) (at l p) h)

  refused-is : (p : ℕ) → 8 < at l p → ((answer_to s₀ l p).phase ≡ 0) × ((answer_to s₀ l p).attempt ≡ 0)
  refused-is p h = (ap (λ (x : Numbered). x.phase) (refused (after s₀ l p) (at l p) h), ap (λ (x : Numbered). x.attempt) (refused (after s₀ l p) (at l p) h))

  phase-is : (p : ℕ) → at l p ≤ 8 → (answer_to s₀ l p).phase ≡ (after s₀ l (suc p)).phase
  phase-is p h = ap (λ (x : Numbered). x.phase) (answer-is p h)

  -- a code that changes the phase is one of the nine
  changes : (p : ℕ) → ((after s₀ l (suc p)).phase ≡ (after s₀ l p).phase → ⊥) → at l p ≤ 8
  changes p n = by_cases (leb (at l p) 8) (λ t. leb-true _ _ t) (λ f. absurd (n (ap (λ (s : Supervisor). s.phase) (skipped-is p (leb-false _ _ f)))))

  -- THE RUN OF AN ATTEMPT

  -- while it is open, the state is in the attempt, with its ticks
  pub open-run : (m n : ℕ) → OpensAt k l m → StillOpen k l m n → (in_attempt (after s₀ l n).phase ≡ true) × ((after s₀ l n).attempt ≡ count 0 l m n)
  open-run m n o x =
      let w = is_open k sd l m n o x in
      let r = run_is b sil lo hi l n (trying w.0.0 w.0.1 w.0.2 m) w.1 in (
        ap (λ (y : Supervisor). in_attempt y.phase) r
            ∙ (reached-suffix k l m (InAttempt b sil) (in_its_attempt b sil) w.0.3).0.0,
        ap (λ (y : Supervisor). y.attempt) r,
      )

  pub data-run : (m p : ℕ) → OpensAt k l m → EndsInData k l m p → (after s₀ l (suc p)).phase ≡ 11
  data-run m p o d =
      ap (λ (y : Supervisor). y.phase) (run_is b sil lo hi l (suc p) (done (suc p)) (is-done k sd l m p o d)
      ∙ ap (settled (one b) sil) (count-self 0 l (suc p)))

  pub exception-run : (m p : ℕ) → OpensAt k l m → EndsInException k l m p → (after s₀ l (suc p)).phase ≡ 13
  exception-run m p o x = ap (λ (y : Supervisor). y.phase) (run_is b sil lo hi l (suc p) (failed (suc p)) (is-failed k sd l m p o x))

  -- an answer in an attempt that is open shows neither Settling nor Exception
  open-shows : (m q ph : ℕ) → OpensAt k l m → StillOpen k l m (suc q) → in_attempt ph ≡ false → eqb ph 0 ≡ false → (answer_to s₀ l q).phase ≡ ph → ⊥
  open-shows m q ph o x out nz e =
      by_cases (leb (at l q) 8)
      (λ t. clash _ (open-run m (suc q) o x).0 (ap in_attempt (sym (phase-is q (leb-true _ _ t)) ∙ e) ∙ out))
      (λ f. clash (eqb 0 0) refl (ap (λ (z : ℕ). eqb z 0) (sym (refused-is q (leb-false _ _ f)).0 ∙ e) ∙ nz))

  shows : (m p ph : ℕ) → OpensAt k l m → StillOpen k l m p → (after s₀ l (suc p)).phase ≡ ph → in_attempt ph ≡ false → FirstShows ours ph s₀ l m p
  shows m p ph o x e out = record {
    since = x.since;
    shows = phase-is p (changes p (λ q. clash _ (open-run m p o x).0 (ap in_attempt (sym q ∙ e) ∙ out))) ∙ e;
    not_settling = λ q h i. open-shows m q 11 o (open-back k sd l m (suc q) p (omega arith) i x) refl refl;
    not_exception = λ q h i. open-shows m q 13 o (open-back k sd l m (suc q) p (omega arith) i x) refl refl;
  }

  data-shows : (m p : ℕ) → OpensAt k l m → EndsInData k l m p → FirstShows ours 11 s₀ l m p
  data-shows m p o d = shows m p 11 o (data-open k sd l m p d) (data-run m p o d) refl

  exception-shows : (m p : ℕ) → OpensAt k l m → EndsInException k l m p → FirstShows ours 13 s₀ l m p
  exception-shows m p o x = shows m p 13 o x.before (exception-run m p o x) refl

  -- what first shows one of the two finds the attempt open, and ends it
  shows-open : (m p ph : ℕ) → OpensAt k l m → FirstShows ours ph s₀ l m p → StillOpen k l m p
  shows-open m p ph o f =
      ⊎_elim (λ x. x)
      (⊎_elim (λ w. absurd (f.not_settling w.0 (data-open k sd l m w.0 w.2).since w.1 (data-shows m w.0 o w.2).shows))
      (λ w. absurd (f.not_exception w.0 w.2.before.since w.1 (exception-shows m w.0 o w.2).shows)))
      (fate k sd l m p f.since)

  shows-ends : (m p ph : ℕ) → OpensAt k l m → in_attempt ph ≡ false → eqb ph 0 ≡ false → FirstShows ours ph s₀ l m p
      → EndsInData k l m p ⊎ EndsInException k l m p
  shows-ends m p ph o out nz f =
      ⊎_elim (λ y. absurd (open-shows m p ph o y out nz f.shows)) (λ w. w) (next-fate k sd l m p (shows-open m p ph o f))

  apart : {P : Type 0} (x : ℕ) → x ≡ 11 → x ≡ 13 → P
  apart x p q = absurd (omega arith)

  -- THE OPENING

  pub opening-run : (p : ℕ) → OpensAt k l (suc p) → ((after s₀ l p).phase ≡ pre b) × ((after s₀ l (suc p)).phase ≡ opening b)
  opening-run p o =
      let w = is-told k sd l p o in (
        ap (λ (y : Supervisor). y.phase) (run_is b sil lo hi l p (await w.0) w.1),
        ap (λ (y : Supervisor). y.phase) (run_is b sil lo hi l (suc p) (trying k.first k.others (suc p) (suc p)) (is-begun k sd l p o)) ∙ first b,
      )
    where
      first : (b : Bool) → (k_of b sil).first.phase ≡ opening b
      first true = refl
      first false = refl

  not-pre : (x : ℕ) → x ≡ pre b → x ≡ opening b → ⊥
  not-pre x = go b
    where
      go : (b : Bool) → x ≡ pre b → x ≡ opening b → ⊥
      go true p q = omega arith
      go false p q = omega arith

  run-opens : (p : ℕ) → ((after s₀ l p).phase ≡ opening b → ⊥) → (after s₀ l (suc p)).phase ≡ opening b → OpensAt k l (suc p)
  run-opens p n e = go (hist_of k l (suc p)) (holds k sd l (suc p)) (run-hist b sil lo hi l (suc p))
    where
      out : (a : Hist) → after s₀ l (suc p) ≡ conc b sil l (suc p) a → in_attempt (conc b sil l (suc p) a).phase ≡ false → OpensAt k l (suc p)
      out a q z = clash _ (ap in_attempt e ∙ opening-in b) (ap (λ (y : Supervisor). in_attempt y.phase) q ∙ z)

      before : (d : Need) (ds : List Need) (e' m : ℕ) → Holds k l (suc p) (trying d ds e' m) → e' ≤ p → d.phase ≡ opening b → ⊥
      before d ds e' m h i z =
          n (ap (λ (y : Supervisor). y.phase)
          (run_is b sil lo hi l p (trying d ds e' m)
          (h.0, h.1, i, in-time-back k sd l m p (suc p) (le_trans (reached-le k l m h.1) i) (omega arith) h.3, shown-less d l e' p h.4)) ∙ z)

      go : (a : Hist) → Holds k l (suc p) a → after s₀ l (suc p) ≡ conc b sil l (suc p) a → OpensAt k l (suc p)
      go (ready r) h q = out (ready r) q refl
      go (await e') h q = out (await e') q (pre_out b)
      go (trying d ds e' m) h q =
          let z : d.phase ≡ opening b = sym (ap (λ (y : Supervisor). y.phase) q) ∙ e in
          ⊎_elim
          (λ y. ⊎_elim (λ w. subst (OpensAt k l) (w ∙ y) h.0)
          (λ w. clash (eqb (opening b) (opening b)) (same b) (ap (λ (x : ℕ). eqb x (opening b)) (sym z) ∙ w)) (where-opening b sil l m h.1))
          (λ y. absurd (before d ds e' m h (omega arith) z))
          (eq-or-lt_of_le h.2)
        where
          same : (b : Bool) → eqb (opening b) (opening b) ≡ true
          same true = refl
          same false = refl
      go (done e') h q = out (done e') q (settled-out (one b) sil (count 0 l e' (suc p)))
      go (failed e') h q = out (failed e') q refl

  -- a state in an attempt is in one that the list has open
  pub in-run : (n : ℕ) → in_attempt (after s₀ l n).phase ≡ true → (m : ℕ) × OpensAt k l m × StillOpen k l m n
  in-run n t = go (hist_of k l n) (holds k sd l n) (run-hist b sil lo hi l n)
    where
      out : (a : Hist) → after s₀ l n ≡ conc b sil l n a → in_attempt (conc b sil l n a).phase ≡ false → (m : ℕ) × OpensAt k l m × StillOpen k l m n
      out a q z = clash _ t (ap (λ (y : Supervisor). in_attempt y.phase) q ∙ z)

      go : (a : Hist) → Holds k l n a → after s₀ l n ≡ conc b sil l n a → (m : ℕ) × OpensAt k l m × StillOpen k l m n
      go (ready r) h q = out (ready r) q refl
      go (await e) h q = out (await e) q (pre_out b)
      go (trying d ds e m) h q =
          (m, h.0, record { since = le_trans (reached-le k l m h.1) h.2; in_time = h.3; unshown = not-all k l m n h.1 h.4 })
      go (done e) h q = out (done e) q (settled-out (one b) sil (count 0 l e n))
      go (failed e) h q = out (failed e) q refl

  pub ticks-are : (p : ℕ) → at l p ≤ 8 → (answer_to s₀ l p).attempt ≡ cond (in_attempt (after s₀ l (suc p)).phase) (after s₀ l (suc p)).attempt 0
  ticks-are p h = ap (λ (x : Numbered). x.attempt) (answer-is p h)

  -- THE DEMAND, of ours

  pub answered-run : (p : ℕ) → at l p ≤ 8 → ((answer_to s₀ l p).answer ≡ 0) × ((answer_to s₀ l p).phase ≡ (after s₀ l (suc p)).phase)
  answered-run p h = (ap (λ (x : Numbered). x.answer) (answer-is p h), phase-is p h)

  pub skipped-run : (p : ℕ) → 8 < at l p
      → ((answer_to s₀ l p).answer ≡ 2) × ((answer_to s₀ l p).phase ≡ 0) × ((answer_to s₀ l p).attempt ≡ 0) × (after s₀ l (suc p) ≡ after s₀ l p)
  skipped-run p h =
      (ap (λ (x : Numbered). x.answer) (refused (after s₀ l p) (at l p) h), (refused-is p h).0, (refused-is p h).1, skipped-is p h)

  pub opens-run : (p : ℕ) → OpensAt k l (suc p) ↔ Enters ours (opening b) s₀ l p
  opens-run p = (
    λ o. let w = opening-run p o in
        (not-pre (after s₀ l p).phase w.0, phase-is p (changes p (λ q. not-pre (after s₀ l p).phase w.0 (sym q ∙ w.1))) ∙ w.1),
    λ h. run-opens p h.0
        (by_cases (leb (at l p) 8) (λ t. sym (phase-is p (leb-true _ _ t)) ∙ h.1)
        (λ f. absurd (not-zero b (sym (refused-is p (leb-false _ _ f)).0 ∙ h.1)))),
  )
    where
      not-zero : (b : Bool) → 0 ≡ opening b → ⊥
      not-zero true q = omega arith
      not-zero false q = omega arith

  pub ends-run : (m n : ℕ) → OpensAt k l m → m ≤ n → attempt_ticks ≤ count 0 l m n
      → (p : ℕ) × (p < n) × (FirstShows ours Settling s₀ l m p ⊎ FirstShows ours Exception s₀ l m p)
  ends-run m n o h t =
      ⊎_elim (λ w. (w.0, w.1, inl (data-shows m w.0 o w.2))) (λ w. (w.0, w.1, inr (exception-shows m w.0 o w.2)))
      (ends_by k sd l m n h t)

  pub in-data-run : (m p : ℕ) → OpensAt k l m → FirstShows ours Settling s₀ l m p ↔ EndsInData k l m p
  in-data-run m p o = (
    λ f. ⊎_elim (λ d. d) (λ x. apart (answer_to s₀ l p).phase f.shows (exception-shows m p o x).shows) (shows-ends m p 11 o refl refl f),
    data-shows m p o,
  )

  pub in-exception-run : (m p : ℕ) → OpensAt k l m → FirstShows ours Exception s₀ l m p ↔ EndsInException k l m p
  in-exception-run m p o = (
    λ f. ⊎_elim (λ d. apart (answer_to s₀ l p).phase (data-shows m p o d).shows f.shows) (λ x. x) (shows-ends m p 13 o refl refl f),
    exception-shows m p o,
  )

pub meant-range : (silence : ℕ) → Taken silence → (2000 ≤ meant silence) × (meant silence ≤ 60000)
meant-range silence = ⊎_elim (λ z. rw z (omega arith)) (λ w. rw (ne_eqb silence 0 (λ q. omega (arith, w.0))) w)

-- a start that is taken is a fresh card
pub started : (end silence : ℕ) → end ≤ 1 → Taken silence → (start_of end silence).state ≡ fresh end (meant silence)
started end silence h t =
    let r = meant-range silence t in
    simp (le-ltb 1 end h, le-ltb (meant silence) 2000 r.0, le-ltb 60000 (meant silence) r.1)

-- and its answer is 0, with Ready and no ticks
pub start-answers : (end silence : ℕ) → end ≤ 1 → Taken silence
    → start_of end silence ≡ record { answer = 0; phase = Ready; attempt = 0; state = fresh end (meant silence) }
start-answers end silence h t =
    let r = meant-range silence t in
    simp (le-ltb 1 end h, le-ltb (meant silence) 2000 r.0, le-ltb 60000 (meant silence) r.1)

-- LTU and NTU
pub either_end : (P : ℕ → Type 0) → P 1 → P 0 → (end : ℕ) → end ≤ 1 → P end
either_end P n l end h =
    ⊎_elim (λ q. subst P (sym q) n) (λ z. let q : end ≡ 0 = omega arith in subst P (sym q) l) (eq-or-lt_of_le h)

-- each of the nine codes is answered 0, for either end and every silence that is taken
pub answered-either : (end silence : ℕ) → end ≤ 1 → Taken silence → (l : List ℕ) (p : ℕ) → at l p ≤ 8 → (answer_to (start_of end silence).state l p).answer ≡ 0
answered-either end silence h t l p c =
    let r = meant-range silence t in
    subst (λ (s : Supervisor). (answer_to s l p).answer ≡ 0) (sym (started end silence h t))
    (either_end (λ e. (answer_to (fresh e (meant silence)) l p).answer ≡ 0)
    (answered-run true (meant silence) r.0 r.1 l p c).0 (answered-run false (meant silence) r.0 r.1 l p c).0 end h)
