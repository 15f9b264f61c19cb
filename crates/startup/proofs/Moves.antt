-- What each kind of phase makes of a code, from the state that a fresh start leads to: counts before and after the code. Assumes nothing.
use Prim.Native.Nat.{ℕ, ◌+◌, ◌≤◌, ◌<◌}
use native.Mathlib.Omega.{arith}
use native.Mathlib.Nat.{add-zero}
use mathlib.Core.Path.{◌≡◌, refl, sym, ap, subst, ◌∙◌}
use mathlib.Core.List.{List, [], ◌∷◌}
use mathlib.Core.Bool.{Bool, true, false, cond, ◌&&◌, and-true, and_comm}
use borrow.Author.Tests.{leb-true, leb-false, le-leb, lt-leb, lt-ltb, eq-eqb, eqb-true, ne_eqb, ltb-true}
use lib.Dec.{leb, ltb, eqb, leb-zero}
use Rattle.answer.specs.Answer.{answer}
use Rattle.supervisor.specs.declared.Supervisor.{Supervisor}
use Rattle.supervisor.specs.Names.{Ready, Gap, Await, Cr, Hearing, Sc, Sr, Tc, Tr, Settling}
use Rattle.supervisor.specs.Names.{Valid, Exception}
use Rattle.supervisor.specs.Phases.{Row, row, ntu_phases, ltu_phases, phases_of, row_of, in_attempt, counts}
use Rattle.supervisor.specs.Rules.{heard, acted, among, here, moved}
use Rattle.supervisor.specs.Step.{state_refusals, step_of}
use Rattle.supervisor.proofs.Laws.{by_cases}
use Rattle.startup.specs.Reports.{one}
use Rattle.startup.proofs.Counts.{and_left, and_right}

-- a state by its numbers
abbrev pub mk : ℕ → ℕ → ℕ → ℕ → ℕ → ℕ → ℕ → Supervisor
mk e sil p t a c s = record { end = e; phase = p; ticks = t; attempt = a; silence = sil; converged = c; seen = s }

-- a count after a code
pub more : (t t' : ℕ) (b : Bool) → t' ≡ t + one b → b ≡ true → t' ≡ t + 1
more t t' b q e = q ∙ ap (λ (c : Bool). t + one c) e

pub same : (t t' : ℕ) (b : Bool) → t' ≡ t + one b → b ≡ false → t' ≡ t
same t t' b q e = q ∙ ap (λ (c : Bool). t + one c) e ∙ add-zero t

other : (x c d : ℕ) → eqb x c ≡ true → eqb c d ≡ false → eqb x d ≡ false
other x c d e f = subst (λ (y : ℕ). eqb y d ≡ false) (sym (eqb-true x c e)) f

-- a mark that a report set, or none did
pub heard-one : (b : Bool) → heard (one b) ≡ b
heard-one true = refl
heard-one false = refl

module _ (en sil : ℕ) where
  abbrev pub X : Supervisor
  X = mk en sil Exception 0 0 0 0

  abbrev pub plain : ℕ → ℕ → ℕ → Supervisor
  plain p t a = mk en sil p t a 0 0

  -- what a code x makes of a phase of an attempt: s where it is over, else s'
  abbrev pub try_of : ℕ → ℕ → Bool → Supervisor → Supervisor → Supervisor
  try_of x a' over s s' = cond (eqb x 8) X (cond (leb 15000 a') X (cond over s s'))

  -- a phase of an attempt that lasts so many ticks
  pub lasting : (ph nx lim x t a t' a' : ℕ) → counts ph ≡ true → in_attempt ph ≡ true → in_attempt nx ≡ true → eqb ph Exception ≡ false
      → t' ≡ t + one (eqb x 0) → a' ≡ a + one (eqb x 0) → t < lim → t < 15000 → a < 15000
      → acted (row ph lim [] nx) (plain ph t a) x ≡ try_of x a' (leb lim t' && true) (plain nx 0 a') (plain ph t' a')
  lasting ph nx lim x t a t' a' hc hi hn he p q h j i =
      by_cases (eqb x 8) (λ e8. rw (eqb-true x 8 e8) (simp he))
      (λ e8. by_cases (eqb x 0)
      (λ e0. rw (eqb-true x 0 e0, more t t' _ p e0, more a a' _ q e0) (simp (hc, hi, hn, and-true, lt-ltb t 59999 (omega arith))))
      (λ e0. simp (e8, e0, same t t' _ p e0, same a a' _ q e0, lt-leb 15000 a i, lt-leb lim t h)))

  -- one that lasts until a report
  pub until : (ph nx r : ℕ) → counts ph ≡ true → in_attempt ph ≡ true → eqb ph Exception ≡ false → eqb r 0 ≡ false → eqb 0 r ≡ false → eqb r 8 ≡ false
      → eqb 8 r ≡ false → eqb r 4 ≡ false → eqb r 5 ≡ false
      → (x t a t' a' u u' : ℕ) → t' ≡ t + one (eqb x 0) → a' ≡ a + one (eqb x 0) → u' ≡ u + one (eqb x r) → t < 15000 → a < 15000 → leb 1 u ≡ false
      → acted (row ph 0 (r ∷ []) nx) (plain ph t a) x ≡ try_of x a' (leb 0 t' && (leb 1 u' && true)) (plain nx 0 (cond (in_attempt nx) a' 0)) (plain ph t' a')
  until ph nx r hc hi he r0 r0' r8 r8' r4 r5 x t a t' a' u u' p q s h i w =
      by_cases (eqb x 8) (λ e8. rw (eqb-true x 8 e8) (simp he))
      (λ e8. by_cases (eqb x 0)
      (λ e0. rw (eqb-true x 0 e0, more t t' _ p e0, more a a' _ q e0, same u u' _ s (other x 0 r e0 r0'))
      (simp (hc, hi, r0, r4, r5, w, leb-zero (t + 1), lt-ltb t 59999 (omega arith))))
      (λ e0. by_cases (eqb x r)
      (λ e. simp (
        e8,
        e0,
        e,
        eq-eqb r x (sym (eqb-true x r e)),
        hi,
        same a a' _ q e0,
        more u u' _ s e,
        leb-zero t,
        leb-zero t',
        le-leb 1 (u + 1) (omega arith),
        lt-leb 15000 a i,
      ))
      (λ e. simp (e8, e0, e, same t t' _ p e0, same a a' _ q e0, same u u' _ s e, leb-zero t, w, lt-leb 15000 a i))))

  -- S_r, until both marks are heard
  pub both-marks : (x t a t' a' u u' v v' : ℕ) → t' ≡ t + one (eqb x 0) → a' ≡ a + one (eqb x 0) → u' ≡ u + one (eqb x 4) → v' ≡ v + one (eqb x 5) → t < 15000
      → a < 15000
      → leb 1 u && leb 1 v ≡ false
      → acted (row Sr 0 (4 ∷ 5 ∷ []) Tr) (mk en sil Sr t a (one (leb 1 u)) (one (leb 1 v))) x
      ≡ try_of x a' (leb 0 t' && (leb 1 u' && (leb 1 v' && true))) (plain Tr 0 a') (mk en sil Sr t' a' (one (leb 1 u')) (one (leb 1 v')))
  both-marks x t a t' a' u u' v v' p q r s h i w =
      by_cases (eqb x 8) (λ e8. rw (eqb-true x 8 e8))
      (λ e8. by_cases (eqb x 0)
      (λ e0. rw (eqb-true x 0 e0, more t t' _ p e0, more a a' _ q e0, same u u' _ r (other x 0 4 e0 refl), same v v' _ s (other x 0 5 e0 refl))
      (simp (heard-one, and-true, w, leb-zero (t + 1), lt-ltb t 59999 (omega arith))))
      (λ e0. by_cases (eqb x 4)
      (λ e4. rw (eqb-true x 4 e4, more u u' _ r e4, same v v' _ s (other x 4 5 e4 refl), same a a' _ q e0, same t t' _ p e0)
      (simp (heard-one, and-true, leb-zero t, le-leb 1 (u + 1) (omega arith), lt-leb 15000 a i)))
      (λ e4. by_cases (eqb x 5)
      (λ e5. rw (eqb-true x 5 e5, same u u' _ r e4, more v v' _ s e5, same a a' _ q e0, same t t' _ p e0)
      (simp (heard-one, and-true, leb-zero t, le-leb 1 (v + 1) (omega arith), lt-leb 15000 a i)))
      (λ e5. simp (e8, e0, e4, e5, same t t' _ p e0, same a a' _ q e0, same u u' _ r e4, same v v' _ s e5, and-true, leb-zero t, w, lt-leb 15000 a i)))))

  -- S_c, until it has lasted and its mark is heard
  pub mark-and-ticks : (x t a t' a' u u' : ℕ) → t' ≡ t + one (eqb x 0) → a' ≡ a + one (eqb x 0) → u' ≡ u + one (eqb x 4) → t < 15000 → a < 15000
      → leb 5000 t && leb 1 u ≡ false
      → acted (row Sc 5000 (4 ∷ []) Tc) (mk en sil Sc t a (one (leb 1 u)) 0) x
      ≡ try_of x a' (leb 5000 t' && (leb 1 u' && true)) (plain Tc 0 a') (mk en sil Sc t' a' (one (leb 1 u')) 0)
  mark-and-ticks x t a t' a' u u' p q s h i w =
      by_cases (eqb x 8) (λ e8. rw (eqb-true x 8 e8))
      (λ e8. by_cases (eqb x 0)
      (λ e0. rw (
        eqb-true x 0 e0,
        more t t' _ p e0,
        more a a' _ q e0,
        same u u' _ s (other x 0 4 e0 refl),
        and-true (leb 1 u),
        and_comm (leb 5000 (t + 1))
            (leb 1 u),
      ) (simp (heard-one, and-true, lt-ltb t 59999 (omega arith))))
      (λ e0. by_cases (eqb x 4)
      (λ e4. rw (eqb-true x 4 e4, more u u' _ s e4, same a a' _ q e0, same t t' _ p e0) (simp (and-true, le-leb 1 (u + 1) (omega arith), lt-leb 15000 a i)))
      (λ e4. simp (e8, e0, e4, same t t' _ p e0, same a a' _ q e0, same u u' _ s e4, and-true, w, lt-leb 15000 a i))))

  -- Ready, Gap, Await
  pub in-ready : (nx x : ℕ) → acted (row Ready 0 (1 ∷ []) nx) (plain Ready 0 0) x ≡ cond (eqb x 8) X (cond (eqb x 1) (plain nx 0 0) (plain Ready 0 0))
  in-ready nx x =
      by_cases (eqb x 8) (λ e8. rw (eqb-true x 8 e8))
      (λ e8. by_cases (eqb x 0) (λ e0. rw (eqb-true x 0 e0)) (λ e0. by_cases (eqb x 1) (λ e1. rw (eqb-true x 1 e1)) (λ e1. simp (e8, e0, e1))))

  pub in-gap : (x t t' : ℕ) → t' ≡ t + one (eqb x 0) → t < 300
      → acted (row Gap 300 [] Cr) (plain Gap t 0) x ≡ cond (eqb x 8) X (cond (leb 300 t' && true) (plain Cr 0 0) (plain Gap t' 0))
  in-gap x t t' p h =
      by_cases (eqb x 8) (λ e8. rw (eqb-true x 8 e8))
      (λ e8. by_cases (eqb x 0) (λ e0. rw (eqb-true x 0 e0, more t t' _ p e0) (simp (and-true, lt-ltb t 59999 (omega arith))))
      (λ e0. simp (e8, e0, same t t' _ p e0, lt-leb 300 t h)))

  pub in-await : (x t' u u' : ℕ) → u' ≡ u + one (eqb x 2) → leb 1 u ≡ false
      → acted (row Await 0 (2 ∷ []) Hearing) (plain Await 0 0) x ≡ cond (eqb x 8) X
      (cond (leb 0 t' && (leb 1 u' && true)) (plain Hearing 0 0) (plain Await 0 0))
  in-await x t' u u' p w =
      by_cases (eqb x 8) (λ e8. rw (eqb-true x 8 e8))
      (λ e8. by_cases (eqb x 2) (λ e2. rw (eqb-true x 2 e2, more u u' _ p e2) (simp (leb-zero t', le-leb 1 (u + 1) (omega arith))))
      (λ e2. by_cases (eqb x 0) (λ e0. rw (eqb-true x 0 e0, same u u' _ p e2) (simp (leb-zero t', w)))
      (λ e0. simp (e8, e0, e2, same u u' _ p e2, leb-zero t', w))))

  -- data mode: Settling, and then Valid
  abbrev pub settled : ℕ → Supervisor
  settled t = cond (leb 1000 t) (plain Valid 0 0) (plain Settling t 0)

  pub in-valid : (x t t' : ℕ) → t ≤ t' → 1000 ≤ t → acted (row Valid 0 [] Valid) (plain Valid 0 0) x ≡ cond (eqb x 8) X (settled t')
  in-valid x t t' p h =
      by_cases (eqb x 8) (λ e8. rw (eqb-true x 8 e8))
      (λ e8. by_cases (eqb x 0) (λ e0. rw (eqb-true x 0 e0) (simp (le-leb 1000 t' (omega arith)))) (λ e0. simp (e8, e0, le-leb 1000 t' (omega arith))))

  pub in_settling : (x t t' : ℕ) → t' ≡ t + one (eqb x 0) → t < 1000 → acted (row Settling 1000 [] Valid) (plain Settling t 0) x ≡ cond (eqb x 8) X (settled t')
  in_settling x t t' p h =
      by_cases (eqb x 8) (λ e8. rw (eqb-true x 8 e8))
      (λ e8. by_cases (eqb x 0) (λ e0. rw (eqb-true x 0 e0, more t t' _ p e0) (simp (lt-ltb t 59999 (omega arith))))
      (λ e0. simp (e8, e0, same t t' _ p e0, lt-leb 1000 t h)))

  -- Exception: a silence of 60,000 ends at its tick, since the limit is tested before the hold at 59,999
  pub in_exception : (x t t' : ℕ) → t' ≡ t + one (eqb x 0) → t < sil → sil ≤ 60000
      → acted (row Exception sil [] Ready) (plain Exception t 0) x ≡ cond (eqb x 8) X (cond (leb sil t' && true) (plain Ready 0 0) (plain Exception t' 0))
  in_exception x t t' p h i =
      by_cases (eqb x 8) (λ e8. rw (eqb-true x 8 e8))
      (λ e8. by_cases (eqb x 0)
      (λ e0. rw (eqb-true x 0 e0, more t t' _ p e0)
      (by_cases (leb sil (t + 1)) (λ y. simp (y)) (λ y. let z : t + 1 < sil = leb-false sil (t + 1) y in simp (y, lt-ltb t 59999 (omega arith)))))
      (λ e0. simp (e8, e0, same t t' _ p e0, lt-leb sil t h)))

-- A STEP IS THE PHASE'S RULE

-- no phase awaits a code over 8
abbrev small : List ℕ → Bool
small [] = true
small (x ∷ xs) = leb x 8 && small xs

abbrev smalls : List Row → Bool
smalls [] = true
smalls (r ∷ rs) = small r.awaits && smalls rs

row_small : (p : ℕ) (rs : List Row) → smalls rs ≡ true → small (row_of p rs).awaits ≡ true
row_small p [] h = refl
row_small p (r ∷ rs) h =
    by_cases (eqb p r.phase) (λ e. rw e (and_left (small r.awaits) (smalls rs) h))
    (λ e. rw e (row_small p rs (and_right (small r.awaits) (smalls rs) h)))

not-among : (x : ℕ) (xs : List ℕ) → 8 < x → small xs ≡ true → among x xs ≡ false
not-among x [] h s = refl
not-among x (y ∷ ys) h s =
    let z : y ≤ 8 = leb-true y 8 (and_left (leb y 8) (small ys) s) in
    rw (ne_eqb x y (λ q. omega arith), not-among x ys h (and_right (leb y 8) (small ys) s))

table-small : (b : Bool) (silence : ℕ) → smalls (cond b (ntu_phases silence) (ltu_phases silence)) ≡ true
table-small true silence = refl
table-small false silence = refl

-- a code over 8 would move nothing
still : (s : Supervisor) (x : ℕ) → 8 < x → moved s x ≡ s
still s x h =
    simp (
      ne_eqb x 0 (λ q. omega arith),
      ne_eqb x 8 (λ q. omega arith),
      not-among x (here s).awaits h
          (row_small s.phase (phases_of s.end s.silence) (table-small (eqb s.end 1) s.silence)),
    )

pub step-state : (s : Supervisor) (x : ℕ) → answer (state_refusals s) ≡ 0 → (step_of s x).state ≡ moved s x
step-state s x h = by_cases (ltb 8 x) (λ t. simp t (sym (still s x (ltb-true 8 x t)))) (λ f. simp (f, h))
