-- The supervisors that have to be rejected, built: ours with another step, which meets demand 1. Assumes nothing.
use mathlib.Core.Path.{◌≡◌, refl, sym, ap, ◌∙◌, subst}
use mathlib.Core.Bool.{Bool, true, false, cond, ◌&&◌, true≢false, false≢true}
use mathlib.Core.Logic.{◌⊎◌, inl, inr, ⊎_elim}
use mathlib.Core.List.{List, [], ◌∷◌}
use Prim.Native.Nat.{ℕ, zero, suc, ◌+◌, ◌≤◌, ◌<◌}
use native.Mathlib.Omega.{arith}
use native.Mathlib.Numerals.{add-one}
use native.Mathlib.Nat.{le_refl}
use native.Mathlib.Decide.{le_ind}
use borrow.Author.Tests.{leb-true, leb-false, le-ltb, ltb-true}
use lib.Dec.{leb, ltb, eqb, lit≤}
use lib.ListN.{take, replicate}
use Rattle.answer.specs.Answer.{answer, held}
use Rattle.supervisor.specs.declared.Supervisor.{Supervisor as State}
use Rattle.supervisor.specs.Limits.{attempt_ticks, most_attempt}
use Rattle.supervisor.specs.Names.{Ready, Gap, Await, Hearing, Settling, Exception}
use Rattle.supervisor.specs.Phases.{in_attempt}
use Rattle.supervisor.specs.Rules.{changed, entered, counted, moved}
use Rattle.supervisor.proofs.Laws.{by_cases}
use Rattle.startup.specs.Reports.{at, upto}
use Rattle.startup.specs.Attempts.{meant}
use Rattle.startup.specs.Make.{Make, steps_by, phase_at, reply_to, Taken}
use Rattle.host.specs.declared.supervising.Supervisor.{Supervisor}
use Rattle.host.specs.Supervising.{state_in, state_of}
use Rattle.demands.specs.Checks.{step_checks}
use Rattle.demands.specs.Three.{supervisor}
use Rattle.demands.specs.WrongSupervisors.{MovesOnce, NeverOpens, CallsException, SameTicks, CountsCodes, GivesUp, EndsTooLate}
use Rattle.demands.specs.NoStrawMan.{Built}
use Rattle.demands.proofs.Ours.{ours, ours-keep}
use Rattle.demands.proofs.Three.{three}
use Rattle.demands.proofs.Rebuilt.{rebuilt, with_step, stepping, stepping-one}
use Rattle.demands.proofs.Refuted.{told-and-heard, opened, still_open}

-- the ticks that ours shows
abbrev shown_ticks : State → ℕ
shown_ticks s = cond (in_attempt s.phase) s.attempt 0

abbrev make_of : (State → ℕ → State) → (State → ℕ) → Make Supervisor
make_of f t = supervisor (rebuilt (with_step (stepping f t)))

module _ (f : State → ℕ → State) (t : State → ℕ) where
  abbrev M : Make Supervisor
  M = make_of f t

  abbrev refusal : Supervisor → ℕ → ℕ
  refusal s c = answer (step_checks (record { state = s; code = c }))

  -- the state after one code more
  after-suc : (s : Supervisor) (l : List ℕ) (n : ℕ) → steps_by M s (take (suc n) l) ≡ (M.step (steps_by M s (take n l)) (at l n)).state
  after-suc s [] zero = refl
  after-suc s [] (suc n) = refl
  after-suc s (c ∷ l) zero = refl
  after-suc s (c ∷ l) (suc n) = after-suc (M.step s c).state l n

  -- what every step keeps
  kept_by : (I : Supervisor → Type 0) → ((s : Supervisor) (c : ℕ) → I s → I (M.step s c).state) → (s : Supervisor) → I s → (l : List ℕ) → I (steps_by M s l)
  kept_by I g s h [] = h
  kept_by I g s h (c ∷ l) = kept_by I g (M.step s c).state (g s c h) l

-- a fresh card is ready
is-ready : (end silence : ℕ) → end ≤ 1 → Taken silence → (ours.start (record { end = end; silence = silence })).memory.phase ≡ Ready
is-ready end silence h t = (three ours ours-keep end silence h t).0.in_it

-- ---- Ready until a 1, and then Gap or Await for ever

abbrev once : State → ℕ → State
once s c = cond (eqb s.phase Ready && eqb c 1) (entered s (cond (eqb s.end 1) Gap Await) 0) s

module _ where
  abbrev O : Make Supervisor
  O = make_of once shown_ticks

  -- a step leaves the state, or leads out of Ready
  stays-or-leaves : (s : Supervisor) (c : ℕ) → ((O.step s c).state ≡ s) ⊎ (eqb (O.step s c).state.phase Ready ≡ false)
  stays-or-leaves s c = pick (refusal once shown_ticks s c) (eqb s.phase Ready && eqb c 1) (eqb s.end 1)
    where
      pick : (n : ℕ) (b e : Bool) → let x = state_of (held n (state_in s) (cond b (entered (state_in s) (cond e Gap Await) 0) (state_in s))) in
          (x ≡ s) ⊎ (eqb x.phase Ready ≡ false)
      pick (suc n) b e = inl refl
      pick zero false e = inl refl
      pick zero true true = inr refl
      pick zero true false = inr refl

  -- out of Ready it stays
  fixed : (s : Supervisor) (c : ℕ) → eqb s.phase Ready ≡ false → (O.step s c).state ≡ s
  fixed s c h = pick (refusal once shown_ticks s c) (eqb s.phase Ready) h
    where
      pick : (n : ℕ) (b : Bool) → b ≡ false → state_of (held n (state_in s) (cond (b && eqb c 1) (entered (state_in s) (cond (eqb s.end 1) Gap Await) 0) (state_in s))) ≡ s
      pick (suc n) b e = refl
      pick zero false e = refl
      pick zero true e = absurd (true≢false e)

  ever-after : (s : Supervisor) (l : List ℕ) (n : ℕ) → eqb (phase_at O s l n) Ready ≡ false → (q : ℕ) → n ≤ q → phase_at O s l q ≡ phase_at O s l n
  ever-after s l n h =
      le_ind (λ q. phase_at O s l q ≡ phase_at O s l n) refl
      (λ q i e. ap (λ (x : Supervisor). x.phase) (after-suc once shown_ticks s l q ∙ fixed (steps_by O s (take q l)) (at l q) (ap (λ (p : ℕ). eqb p Ready) e ∙ h)) ∙ e)

  stays_then : (s : Supervisor) (l : List ℕ) (n : ℕ) → (phase_at O s l n ≡ phase_at O s l (suc n) → ⊥) → (q : ℕ) → suc n ≤ q
      → phase_at O s l q ≡ phase_at O s l (suc n)
  stays_then s l n d q i =
      let x = steps_by O s (take n l) in
      let e = after-suc once shown_ticks s l n in
      ⊎_elim (λ (z : (O.step x (at l n)).state ≡ x). absurd (d (sym (ap (λ (y : Supervisor). y.phase) (e ∙ z)))))
      (λ z. ever-after s l (suc n) (ap (λ (y : Supervisor). eqb y.phase Ready) e ∙ z) q i) (stays-or-leaves x (at l n))

  leaves : phase_at O (O.start 0 0).state (1 ∷ []) 0 ≡ phase_at O (O.start 0 0).state (1 ∷ []) 1 → ⊥
  unfolding ours
  leaves e = omega (arith, e)

  moves_once : MovesOnce O
  moves_once = record {
    moves = (0, 0, lit≤ tt, inl refl, 1 ∷ [], 1, leaves);
    stays = λ end silence h t l. stays_then (O.start end silence).state l;
  }

  -- and no phase after Await is shown
  low : (s : Supervisor) (c : ℕ) → leb s.phase Await ≡ true → (leb (O.step s c).state.phase Await ≡ true) × (leb (O.step s c).phase Await ≡ true)
  low s c h = pick (refusal once shown_ticks s c) (eqb s.phase Ready && eqb c 1) (eqb s.end 1)
    where
      pick : (n : ℕ) (b e : Bool) → let new = cond b (entered (state_in s) (cond e Gap Await) 0) (state_in s) in
          (leb (state_of (held n (state_in s) new)).phase Await ≡ true) × (leb (held n 0 new.phase) Await ≡ true)
      pick (suc n) b e = (h, refl)
      pick zero false e = (h, h)
      pick zero true true = (refl, refl)
      pick zero true false = (refl, refl)

  never_opens : NeverOpens O
  never_opens end silence h t l p =
      let s = (O.start end silence).state in
      let i = kept_by once shown_ticks (λ s. leb s.phase Await ≡ true) (λ s c g. (low s c g).0) s (ap (λ (x : ℕ). leb x Await) (is-ready end silence h t)) (take p l) in
      let r : (reply_to O s l p).phase ≤ Await = leb-true _ _ (low (steps_by O s (take p l)) (at l p) i).1 in
      (λ e. omega (arith, r, e), λ e. omega (arith, r, e))

pub moves-once-built : Built (λ x. MovesOnce (supervisor x))
moves-once-built = (rebuilt (with_step (stepping once shown_ticks)), stepping-one once shown_ticks, moves_once)

pub never-opens-built : Built (λ x. NeverOpens (supervisor x))
never-opens-built = (rebuilt (with_step (stepping once shown_ticks)), stepping-one once shown_ticks, never_opens)

-- ---- Exception where Settling is due

abbrev gloomy : State → ℕ → State
gloomy s c = cond (eqb (moved s c).phase Settling) (entered s Exception 0) (moved s c)

calls_exception : CallsException (make_of gloomy shown_ticks)
calls_exception end silence h t l p =
    let s = steps_by (make_of gloomy shown_ticks) ((make_of gloomy shown_ticks).start end silence).state (take p l) in
    pick (refusal gloomy shown_ticks s (at l p)) (state_in s) (moved (state_in s) (at l p))
  where
    pick : (n : ℕ) (s x : State) → held n 0 (cond (eqb x.phase Settling) (entered s Exception 0) x).phase ≡ Settling → ⊥
    pick (suc n) s x = λ e. omega (arith, e)
    pick zero s x = by_cases (eqb x.phase Settling) (λ b. rw b (λ e. omega (arith, e))) (λ b. rw b (λ e. true≢false (sym (ap (λ (z : ℕ). eqb z Settling) e) ∙ b)))

pub calls-exception-built : Built (λ x. CallsException (supervisor x))
calls-exception-built = (rebuilt (with_step (stepping gloomy shown_ticks)), stepping-one gloomy shown_ticks, calls_exception)

-- ---- 7 ticks in every attempt

abbrev seven : State → ℕ
seven s = cond (in_attempt s.phase) 7 0

same_ticks : SameTicks (make_of moved seven)
same_ticks = (
  7,
  λ end silence h t l p c.
      let s = steps_by (make_of moved seven) ((make_of moved seven).start end silence).state (take p l) in
      pick (refusal moved seven s (at l p)) (moved (state_in s) (at l p)),
)
  where
    pick : (n : ℕ) (x : State) → in_attempt (held n 0 x.phase) ≡ true → held n 0 (seven x) ≡ 7
    pick (suc n) x e = absurd (false≢true e)
    pick zero x e = ap (λ (b : Bool). cond b 7 0) e

pub same-ticks-built : Built (λ x. SameTicks (supervisor x))
same-ticks-built = (rebuilt (with_step (stepping moved seven)), stepping-one moved seven, same_ticks)

-- ---- a tick for every code of an attempt

abbrev eager : State → ℕ → State
eager s c =
    let x = moved s c in
    cond (in_attempt s.phase && in_attempt x.phase)
    (cond (leb attempt_ticks (s.attempt + 1)) (entered s Exception 0) (changed x x.phase x.ticks (s.attempt + 1) x.converged x.seen)) x

counts_codes : CountsCodes (make_of eager shown_ticks)
counts_codes end silence h t l p c c' a a' =
    let E = make_of eager shown_ticks in
    let s = steps_by E (E.start end silence).state (take p l) in
    let q = after-suc eager shown_ticks (E.start end silence).state l p in
    let w = first (refusal eager shown_ticks s (at l p)) (state_in s) (eager (state_in s) (at l p)) a in
    let u = (E.step s (at l p)).state in
    ap (λ (x : Supervisor). (E.step x (at l (suc p))).attempt) q
    ∙ next (refusal eager shown_ticks u (at l (suc p))) (state_in u) (moved (state_in u) (at l (suc p))) w.0
    (subst (λ (x : Supervisor). in_attempt (E.step x (at l (suc p))).phase ≡ true) q a')
    ∙ ap suc w.1
  where
    -- an answer that shows a phase of an attempt: the state is in it, with these ticks
    first : (n : ℕ) (s x : State) → in_attempt (held n 0 x.phase) ≡ true → (in_attempt (held n s x).phase ≡ true) × ((held n s x).attempt ≡ held n 0 (shown_ticks x))
    first (suc n) s x e = absurd (false≢true e)
    first zero s x e = (e, sym (ap (λ (b : Bool). cond b x.attempt 0) e))

    -- from such a state the next such answer has one more
    next : (n : ℕ) (s x : State) → in_attempt s.phase ≡ true
        → let y = cond (in_attempt s.phase && in_attempt x.phase)
        (cond (leb attempt_ticks (s.attempt + 1)) (entered s Exception 0) (changed x x.phase x.ticks (s.attempt + 1) x.converged x.seen)) x in
        in_attempt (held n 0 y.phase) ≡ true → held n 0 (shown_ticks y) ≡ suc s.attempt
    next (suc n) s x i = λ e. absurd (false≢true e)
    next zero s x i = rw i
        (by_cases (in_attempt x.phase)
        (λ b. rw b (by_cases (leb attempt_ticks (s.attempt + 1)) (λ d. rw d (λ e. absurd (false≢true e)))
        (λ d. rw d (λ e. rw b (add-one s.attempt)))))
        (λ b. rw b (λ e. absurd (true≢false (sym e ∙ b)))))

pub counts-codes-built : Built (λ x. CountsCodes (supervisor x))
counts-codes-built = (rebuilt (with_step (stepping eager shown_ticks)), stepping-one eager shown_ticks, counts_codes)

-- ---- the first tick ends an attempt

abbrev hasty : State → ℕ → State
hasty s c = cond (eqb c 0 && in_attempt s.phase) (entered s Exception 0) (moved s c)

gives_up : GivesUp (make_of hasty shown_ticks)
unfolding ours
gives_up = (
  0,
  0,
  lit≤ tt,
  inl refl,
  told-and-heard (0 ∷ []),
  2,
  2,
  opened (0 ∷ []),
  still_open 0 refl (record { calm = refl; early = lit≤ tt }),
  refl,
  refl,
)

pub gives-up-built : Built (λ x. GivesUp (supervisor x))
gives-up-built = (rebuilt (with_step (stepping hasty shown_ticks)), stepping-one hasty shown_ticks, gives_up)

-- ---- an attempt stays open at 14,999

abbrev late : State → ℕ → State
late s c = cond (eqb c 0 && (in_attempt s.phase && leb attempt_ticks (s.attempt + 1))) (counted s most_attempt) (moved s c)

abbrev hearing : ℕ → ℕ → Supervisor
hearing t a = record { end = 0; phase = Hearing; ticks = t; attempt = a; silence = meant 0; converged = 0; seen = 0 }

-- the LTU in Hearing, legal
abbrev InHearing : Supervisor → Type 0
InHearing s = (t : ℕ) × (a : ℕ) × (t ≤ 59999) × (a ≤ 14999) × (s ≡ hearing t a)

abbrev L : Make Supervisor
L = make_of late shown_ticks

legal : (t a : ℕ) → t ≤ 59999 → a ≤ 14999 → refusal late shown_ticks (hearing t a) 0 ≡ 0
legal t a h i = simp (le-ltb 59999 t h, le-ltb 14999 a i)

one_more : (t : ℕ) → t ≤ 59999 → cond (ltb t 59999) (t + 1) 59999 ≤ 59999
one_more t h = by_cases (ltb t 59999) (λ b. rw b (omega (arith, ltb-true t 59999 b))) (λ b. rw b (omega arith))

tick : (t a : ℕ) → t ≤ 59999 → a ≤ 14999 → InHearing (state_of (late (state_in (hearing t a)) 0)) × ((late (state_in (hearing t a)) 0).phase ≡ Hearing)
tick t a h i =
    by_cases (leb attempt_ticks (a + 1))
    (λ b. rw b ((cond (ltb t 59999) (t + 1) 59999, 14999, one_more t h, omega arith, refl), refl))
    (λ b. rw b ((cond (ltb t 59999) (t + 1) 59999, a + 1, one_more t h, omega (arith, leb-false attempt_ticks (a + 1) b), refl), refl))

ticked : (s : Supervisor) → InHearing s → InHearing (L.step s 0).state × ((L.step s 0).phase ≡ Hearing)
ticked s (t, a, h, i, e) =
    let w = tick t a h i in
    subst (λ (x : Supervisor). InHearing (L.step x 0).state × ((L.step x 0).phase ≡ Hearing)) (sym e)
    (subst (λ (n : ℕ). InHearing (state_of (held n (state_in (hearing t a)) (late (state_in (hearing t a)) 0))) × (held n 0 (late (state_in (hearing t a)) 0).phase ≡ Hearing))
    (sym (legal t a h i)) w)

ticks-on : (j k : ℕ) (s : Supervisor) → InHearing s → InHearing (steps_by L s (take j (replicate k 0)))
ticks-on zero k s h = h
ticks-on (suc j) zero s h = h
ticks-on (suc j) (suc k) s h = ticks-on j k (L.step s 0).state (ticked s h).0

tick-at : (j k : ℕ) → j < k → at (replicate k 0) j ≡ 0
tick-at j zero h = absurd (omega arith)
tick-at zero (suc k) h = refl
tick-at (suc j) (suc k) h = tick-at j k (omega arith)

ticks-upto : (k n : ℕ) → n ≤ k → upto 0 (told-and-heard (replicate k 0)) (suc (suc n)) ≡ n
ticks-upto k zero h = refl
ticks-upto k (suc n) h = rw (tick-at n k h, ticks-upto k n (omega arith)) (add-one n)

shows-hearing : (k p : ℕ) → 2 ≤ p → p < suc (suc k) → (reply_to L (L.start 0 0).state (told-and-heard (replicate k 0)) p).phase ≡ Hearing
unfolding ours
shows-hearing k zero h i = absurd (omega arith)
shows-hearing k (suc zero) h i = absurd (omega arith)
shows-hearing k (suc (suc j)) h i =
    let s = steps_by L (hearing 0 0) (take j (replicate k 0)) in
    ap (λ (c : ℕ). (L.step s c).phase) (tick-at j k (omega arith)) ∙ (ticked s (ticks-on j k (hearing 0 0) (0, 0, lit≤ tt, lit≤ tt, refl))).1

late-for : (k : ℕ) → attempt_ticks ≤ k → EndsTooLate L
late-for k h = (
  0,
  0,
  lit≤ tt,
  inl refl,
  told-and-heard (replicate k 0),
  2,
  suc (suc k),
  opened (replicate k 0),
  omega arith,
  omega (arith, h, ticks-upto k k (le_refl k)),
  λ p i j. (λ e. omega (arith, sym (shows-hearing k p i j) ∙ e), λ e. omega (arith, sym (shows-hearing k p i j) ∙ e)),
)

pub ends-too-late-built : Built (λ x. EndsTooLate (supervisor x))
ends-too-late-built = (rebuilt (with_step (stepping late shown_ticks)), stepping-one late shown_ticks, late-for 15000 (lit≤ tt))
