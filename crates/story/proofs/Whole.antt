-- The story of a whole list says what the list says. Assumes nothing.
use mathlib.Core.Path.{◌≡◌, refl, sym, ap, subst, ◌∙◌}
use mathlib.Core.Bool.{Bool, true, false, cond, not, ◌&&◌}
use mathlib.Core.Logic.{⊎_elim}
use mathlib.Core.List.{List, [], ◌∷◌, ◌++◌}
use Prim.Native.Nat.{ℕ, zero, suc, ◌+◌, ◌≤◌, ◌<◌}
use native.Mathlib.Nat.{eq-or-lt_of_le}
use native.Mathlib.Omega.{arith}
use lib.Dec.{eqb, ltb}
use lib.ListN.{length, take}
use lib.Seq.{take-suc, take-length}
use Rattle.answer.specs.Answer.{answer, held}
use Rattle.supervisor.specs.declared.Supervisor.{Supervisor}
use Rattle.supervisor.specs.Step.{Numbered}
use Rattle.supervisor.specs.Phases.{in_attempt}
use Rattle.supervisor.specs.Step.{step_of, state_refusals}
use Rattle.supervisor.specs.Step.{start_of as supervisor_start}
use Rattle.startup.specs.Run.{Run}
use Rattle.startup.specs.Run.{goes_on, opens, ends, noted, taken_of, run_from, begun}
use Rattle.startup.specs.Run.{event_of as attempt_event}
use Rattle.startup.specs.Reports.{at, one, upto, count}
use Rattle.startup.specs.Attempts.{Needs, needs_of, meant, StillOpen, OpensAt}
use Rattle.startup.specs.Make.{Taken, steps, after}
use Rattle.startup.specs.Scan.{Attempt}
use Rattle.startup.specs.Scan.{attempts as attempts_of}
use Rattle.startup.specs.Agrees.{summary}
use Rattle.startup.proofs.Simulates.{after-suc}
use Rattle.startup.proofs.Three.{open-run, in-run, meant-range, started, answered-either}
use Rattle.startup.proofs.Agreement.{run-agrees}
use Rattle.story.specs.declared.Story.{Story}
use Rattle.story.specs.Events.{Event}
use Rattle.story.specs.Events.{most, story, beginning, refused_with, told, event_of, start_with, start_of, story_of}
use Rattle.story.specs.Whole.{Tells, TellsEvent}
use Rattle.story.proofs.Laws.{event-told}
use Rattle.story.proofs.Each.{kind-from, kind-to, turn-either}
use Rattle.story.proofs.Last.{last_at, entered_by, ended_by, since-by}

-- ---- code by code

-- the story of a start
start-story : (g : Numbered) → (start_with g).story ≡ beginning g.state
start-story g = go g.answer
  where
    b : Story
    b = beginning g.state

    go : (n : ℕ) → (held n (refused_with b n) (record { answer = 0; kind = 4; code = 0; attempt = 0; ticks = 0; story = b })).story ≡ b
    go zero = refl
    go (suc n) = refl

-- one code more
story-more : (s : Story) (xs : List ℕ) (c : ℕ) → story_of s (xs ++ (c ∷ [])) ≡ (event_of (story_of s xs) c).story
story-more s [] c = refl
story-more s (x ∷ xs) c = story-more (event_of s x).story xs c

-- how many of the first n codes open an attempt
abbrev openings : Supervisor → List ℕ → ℕ → ℕ
openings s l zero = 0
openings s l (suc n) = openings s l n + one (eqb (attempt_event (after s l n).phase (after s l (suc n)).phase) 1)

one-or-none : (b : Bool) → one b ≤ 1
one-or-none true = omega arith
one-or-none false = omega arith

few-ticks : (l : List ℕ) (n : ℕ) → upto 0 l n ≤ n
few-ticks l zero = omega arith
few-ticks l (suc n) = omega (arith, few-ticks l n, one-or-none (eqb (at l n) 0))

few-openings : (s : Supervisor) (l : List ℕ) (n : ℕ) → openings s l n ≤ n
few-openings s l zero = omega arith
few-openings s l (suc n) = omega (arith, few-openings s l n, one-or-none (eqb (attempt_event (after s l n).phase (after s l (suc n)).phase) 1))

-- the story at the moment n
abbrev story_at : Supervisor → List ℕ → ℕ → Story
story_at s l n = story (after s l n) (upto 0 l n) (openings s l n) (entered_by s l n) (last_at s l n)

-- ---- the run's attempts are those openings

noted-attempts : (r : Run) (s : Supervisor) (p e : ℕ) → (noted r s p e).attempts ≡ r.attempts + one (eqb e 1)
noted-attempts r s p e = go (eqb e 1) (ltb 1 e && not (eqb r.outcome 0))
  where
    go : (a b : Bool) → (cond {A = Run} a (opens r s p) (cond {A = Run} b (ends r s p e) (goes_on r s))).attempts ≡ r.attempts + one a
    go true b = refl
    go false true = omega arith
    go false false = omega arith

noted-state : (r : Run) (s : Supervisor) (p e : ℕ) → (noted r s p e).state ≡ s
noted-state r s p e = go (eqb e 1) (ltb 1 e && not (eqb r.outcome 0))
  where
    go : (a b : Bool) → (cond {A = Run} a (opens r s p) (cond {A = Run} b (ends r s p e) (goes_on r s))).state ≡ s
    go true b = refl
    go false true = refl
    go false false = refl

taken-state : (p c : ℕ) (r : Run) → (taken_of p c r).state ≡ (step_of r.state c).state
taken-state p c r = noted-state r (step_of r.state c).state p (attempt_event r.state.phase (step_of r.state c).state.phase)

run-state : (p : ℕ) (r : Run) (xs : List ℕ) → (run_from p r xs).state ≡ steps r.state xs
run-state p r [] = refl
run-state p r (x ∷ xs) = run-state (suc p) (taken_of p x r) xs ∙ ap (λ (s : Supervisor). steps s xs) (taken-state p x r)

run_more : (p : ℕ) (r : Run) (xs : List ℕ) (c : ℕ) → (run_from p r (xs ++ (c ∷ []))).attempts
    ≡ (run_from p r xs).attempts + one (eqb (attempt_event (run_from p r xs).state.phase (step_of (run_from p r xs).state c).state.phase) 1)
run_more p r [] c = noted-attempts r (step_of r.state c).state p (attempt_event r.state.phase (step_of r.state c).state.phase)
run_more p r (x ∷ xs) c = run_more (suc p) (taken_of p x r) xs c

run-openings : (s : Supervisor) (l : List ℕ) (n : ℕ) → n ≤ length l → (run_from 0 (begun 0 s) (take n l)).attempts ≡ openings s l n
run-openings s l zero h = refl
run-openings s l (suc n) h =
    let r = run_from 0 (begun 0 s) (take n l) in
    let q : r.state ≡ after s l n = run-state 0 (begun 0 s) (take n l) in
    ap (λ (xs : List ℕ). (run_from 0 (begun 0 s) xs).attempts) (take-suc l n 9 h)
    ∙ run_more 0 (begun 0 s) (take n l) (at l n)
    ∙ ap (λ (k : ℕ). k + one (eqb (attempt_event r.state.phase (step_of r.state (at l n)).state.phase) 1)) (run-openings s l n (omega arith))
    ∙ ap (λ (x : Supervisor). openings s l n + one (eqb (attempt_event x.phase (step_of x (at l n)).state.phase) 1)) q
    ∙ ap (λ (x : Supervisor). openings s l n + one (eqb (attempt_event (after s l n).phase x.phase) 1)) (sym (after-suc s l n))

-- a run that is not refused
not-refused : (s : Supervisor) (n : ℕ) (r y : Run) → held n (begun n s) r ≡ y → y.answer ≡ 0 → r ≡ y
not-refused s zero r y e z = e
not-refused s (suc n) r y e z = absurd (omega (arith, ap (λ (x : Run). x.answer) e))

summary-answer : (s : Supervisor) (log : List Attempt) → (summary s log).answer ≡ 0
summary-answer s [] = refl
summary-answer s (a ∷ log) = refl

summary-attempts : (s : Supervisor) (log : List Attempt) → (summary s log).attempts ≡ length log
summary-attempts s [] = refl
summary-attempts s (a ∷ log) = refl

-- ---- the whole

module _ (end silence : ℕ) (known : end ≤ 1) (t : Taken silence) (l : List ℕ) (codes : (p : ℕ) → p < length l → at l p ≤ 8) (small : length l ≤ most) where
  abbrev s₀ : Supervisor
  s₀ = (supervisor_start end silence).state

  abbrev k : Needs
  k = needs_of end (meant silence)

  -- one event of the story, from the moment n
  told_at : (n : ℕ) → n < length l → (s : Story) → s ≡ story_at s₀ l n
      → event_of s (at l n) ≡ told (story_at s₀ l n) (after s₀ l (suc n)) (at l n)
  told_at n h s e =
      let g = step_of (after s₀ l n) (at l n) in
      let v = story_at s₀ l n in
      ap (λ (x : Story). event_of x (at l n)) e
      ∙ sym (event-told g v (at l n) (answered-either end silence known t l n (codes n h)) (told v g.state (at l n))
      (omega (arith, few-ticks l n)) (omega (arith, few-openings s₀ l n)) refl)
      ∙ ap (λ (x : Supervisor). told v x (at l n)) (sym (after-suc s₀ l n))

  -- the story at the moment n
  pub at-moment : (n : ℕ) → n ≤ length l → story_of (start_of end silence).story (take n l) ≡ story_at s₀ l n
  at-moment zero h = start-story (supervisor_start end silence)
  at-moment (suc n) h =
      ap (story_of (start_of end silence).story) (take-suc l n 9 h)
      ∙ story-more (start_of end silence).story (take n l) (at l n)
      ∙ ap (λ (x : Event). x.story) (told_at n h (story_of (start_of end silence).story (take n l)) (at-moment n (omega arith)))

  -- and its parts at the end
  abbrev ends_with : Supervisor → Story
  ends_with s = story s (upto 0 l (length l)) (openings s₀ l (length l)) (entered_by s₀ l (length l)) (last_at s₀ l (length l))

  at-end : story_of (start_of end silence).story l ≡ ends_with (steps s₀ l)
  at-end =
      ap (story_of (start_of end silence).story) (sym (take-length l)) ∙ at-moment (length l) (omega arith)
      ∙ ap (λ (xs : List ℕ). ends_with (steps s₀ xs)) (take-length l)

  openings-are : openings s₀ l (length l) ≡ length (attempts_of k l)
  openings-are =
      let y = summary (steps s₀ l) (attempts_of k l) in
      let r = not-refused s₀ (answer (state_refusals s₀)) (run_from 0 (begun 0 s₀) l) y (run-agrees end silence known t l) (summary-answer (steps s₀ l) (attempts_of k l)) in
      sym (run-openings s₀ l (length l) (omega arith)) ∙ ap (λ (xs : List ℕ). (run_from 0 (begun 0 s₀) xs).attempts) (take-length l)
      ∙ ap (λ (x : Run). x.attempts) r ∙ summary-attempts (steps s₀ l) (attempts_of k l)

  -- an attempt that the list has open, and the state's
  abbrev Open : Supervisor → Needs → Type 0
  Open s c =
      ((m : ℕ) → OpensAt c l m → StillOpen c l m (length l) → (in_attempt (after s l (length l)).phase ≡ true)
      × ((after s l (length l)).attempt ≡ count 0 l m (length l)))
      × (in_attempt (after s l (length l)).phase ≡ true → (m : ℕ) × OpensAt c l m × StillOpen c l m (length l))

  open-either : Open s₀ k
  open-either =
      let r = meant-range silence t in
      ⊎_elim
      (λ q. subst (λ (e : ℕ). Open (supervisor_start e silence).state (needs_of e (meant silence))) (sym q)
      (subst (λ (s : Supervisor). Open s (needs_of 1 (meant silence))) (sym (started 1 silence (omega arith) t))
      (λ m o x. open-run true (meant silence) r.0 r.1 l m (length l) o x, in-run true (meant silence) r.0 r.1 l (length l))))
      (λ z. let q : end ≡ 0 = omega arith in subst (λ (e : ℕ). Open (supervisor_start e silence).state (needs_of e (meant silence))) (sym q)
      (subst (λ (s : Supervisor). Open s (needs_of 0 (meant silence))) (sym (started 0 silence (omega arith) t))
      (λ m o x. open-run false (meant silence) r.0 r.1 l m (length l) o x, in-run false (meant silence) r.0 r.1 l (length l))))
      (eq-or-lt_of_le known)

  -- THE STORY TELLS WHAT THE LIST SAYS
  pub tells : Tells end silence l (story_of (start_of end silence).story l)
  tells =
      subst (Tells end silence l) (sym at-end)
      (record {
        state = refl;
        clock = refl;
        attempts = openings-are;
        trying = (
          λ a. open-either.1 (subst (λ (xs : List ℕ). in_attempt (steps s₀ xs).phase ≡ true) (sym (take-length l)) a),
          λ w. subst (λ (xs : List ℕ). in_attempt (steps s₀ xs).phase ≡ true) (take-length l) (open-either.0 w.0 w.1 w.2).0,
        );
        used = λ m o x. subst (λ (xs : List ℕ). (steps s₀ xs).attempt ≡ count 0 l m (length l)) (take-length l) (open-either.0 m o x).1;
        last = ended_by end silence known t l (length l);
        since = since-by s₀ l (length l);
      })

  -- AND SO DOES EACH EVENT OF IT
  pub tells-event : (p : ℕ) → p < length l → TellsEvent end silence l p (event_of (story_of (start_of end silence).story (take p l)) (at l p))
  tells-event p h =
      let w = turn-either end silence known t l p in
      let s = after s₀ l p in
      let s' = after s₀ l (suc p) in
      let e = attempt_event s.phase s'.phase in
      let c = at l p in
      subst (TellsEvent end silence l p) (sym (told_at p h (story_of (start_of end silence).story (take p l)) (at-moment p (omega arith))))
      (record {
        state = refl;
        clock = refl;
        opens = (λ q. w.opens.0 (kind-from e 1 s s' c (omega arith) (omega arith) q), λ o. kind-to e 1 s s' c (omega arith) (w.opens.1 o));
        in_data = (λ q. w.in_data.0 (kind-from e 2 s s' c (omega arith) (omega arith) q), λ o. kind-to e 2 s s' c (omega arith) (w.in_data.1 o));
        in_exception = (λ q. w.in_exception.0 (kind-from e 3 s s' c (omega arith) (omega arith) q), λ o. kind-to e 3 s s' c (omega arith) (w.in_exception.1 o));
        ticks = w.ticks;
      })
