-- Demand 3 holds of the supervisor of every library that keeps our contracts. Assumes nothing.
use mathlib.Core.Path.{◌≡◌, refl, sym, ap, ◌∙◌, subst}
use mathlib.Core.Bool.{Bool, true, false}
use mathlib.Core.Logic.{inl, inr, ⊎_elim}
use mathlib.Core.List.{List, [], ◌∷◌}
use Prim.Native.Nat.{ℕ, suc, ◌≤◌}
use native.Mathlib.Omega.{arith}
use lib.ListN.{take}
use Rattle.supervisor.specs.declared.Supervisor.{Supervisor as State}
use Rattle.supervisor.specs.Step.{Numbered}
use Rattle.supervisor.specs.Names.{Settling, Exception}
use Rattle.supervisor.specs.Step.{start_of, fresh}
use Rattle.startup.specs.Reports.{at, one}
use Rattle.startup.specs.Attempts.{Needs, needs_of, meant}
use Rattle.startup.specs.Stands.{Stands}
use Rattle.startup.specs.Scan.{Attempt, attempts}
use Rattle.startup.specs.Run.{Run as StartupRun}
use Rattle.startup.specs.Agrees.{summary}
use Rattle.startup.specs.Make.{Reply, Ran, Make, steps_by, phase_at, reply_to, FirstShows, ran_over, Taken, steps, ours}
use Rattle.startup.proofs.Simulates.{k_of, sound}
use Rattle.startup.proofs.Logged.{attempts-listed}
use Rattle.startup.proofs.Agreement.{run-sums}
use Rattle.startup.proofs.Stands.{stands-answer}
use Rattle.startup.proofs.Three.{opening as opening_of, answered-run, skipped-run, opens-run, ends-run}
use Rattle.startup.proofs.Three.{in-data-run, in-exception-run, meant-range, started, start-answers, either_end}
use Rattle.host.specs.declared.supervising.Supervisor.{Supervisor}
use Rattle.host.specs.declared.supervising.Stepped.{Stepped}
use Rattle.host.specs.Supervising.{state_in, state_of}
use Rattle.demands.specs.Library.{Library}
use Rattle.demands.specs.Contracts.{Keeps}
use Rattle.demands.specs.Three.{Follows, Begins, opening, Three, supervisor}

-- ---- of the definitions that our contracts cite

-- a run's numbers
abbrev ran_of : StartupRun → Ran State
ran_of r = record { answer = r.answer; attempts = r.attempts; opened_at = r.opened_at; outcome = r.outcome; ended_at = r.ended_at; state = r.state }

ran-summary : (s : State) (log : List Attempt) → ran_of (summary s log) ≡ ran_over s log
ran-summary s [] = refl
ran-summary s (a ∷ log) = refl

fresh-follows : (b : Bool) (sil : ℕ) → 2000 ≤ sil → sil ≤ 60000 → (l : List ℕ) → Follows ours (fresh (one b) sil) (k_of b sil) (opening_of b) l
fresh-follows b sil lo hi l = record {
  opens = opens-run b sil lo hi l;
  ends = ends-run b sil lo hi l;
  in_data = in-data-run b sil lo hi l;
  in_exception = in-exception-run b sil lo hi l;
  answered = answered-run b sil lo hi l;
  stands = stands-answer b sil lo hi l;
  skipped = skipped-run b sil lo hi l;
  run = (
    attempts (k_of b sil) l,
    attempts-listed (k_of b sil) (sound b sil (omega arith)) l,
    ap ran_of (run-sums b sil lo hi l) ∙ ran-summary (steps (fresh (one b) sil) l) (attempts (k_of b sil) l),
  );
}

start-follows : (end silence : ℕ) → end ≤ 1 → Taken silence → (l : List ℕ)
    → Follows ours (start_of end silence).state (needs_of end (meant silence)) (opening end) l
start-follows end silence h t l =
    let r = meant-range silence t in
    subst (λ (s : State). Follows ours s (needs_of end (meant silence)) (opening end) l) (sym (started end silence h t))
    (either_end (λ e. Follows ours (fresh e (meant silence)) (needs_of e (meant silence)) (opening e) l)
    (fresh-follows true (meant silence) r.0 r.1 l) (fresh-follows false (meant silence) r.0 r.1 l) end h)

-- ---- two makes that answer alike, the states of the one seen as states of the other

module _ {S T : Type 0} (m : Make S) (n : Make T) (g : T → S) (back : S → T) (whole : (t : T) → back (g t) ≡ t)
    (phases : (t : T) → n.phase_of t ≡ m.phase_of (g t))
    (alike : (t : T) (c : ℕ) → let r = n.step t c in record { answer = r.answer; phase = r.phase; attempt = r.attempt; state = g r.state } ≡ m.step (g t) c)
    (runs : (t : T) (l : List ℕ) → let r = n.run t l in
    r ≡ (let q = m.run (g t) l in
    record { answer = q.answer; attempts = q.attempts; opened_at = q.opened_at; outcome = q.outcome; ended_at = q.ended_at; state = back q.state })) where
  steps_alike : (t : T) (l : List ℕ) → g (steps_by n t l) ≡ steps_by m (g t) l
  steps_alike t [] = refl
  steps_alike t (c ∷ cs) = steps_alike (n.step t c).state cs ∙ ap (λ (s : S). steps_by m s cs) (ap (λ (r : Reply S). r.state) (alike t c))

  module _ (t : T) (l : List ℕ) where
    phase-alike : (p : ℕ) → phase_at n t l p ≡ phase_at m (g t) l p
    phase-alike p = phases (steps_by n t (take p l)) ∙ ap m.phase_of (steps_alike t (take p l))

    reply-alike : (p : ℕ) → let r = reply_to n t l p in
        record { answer = r.answer; phase = r.phase; attempt = r.attempt; state = g r.state } ≡ reply_to m (g t) l p
    reply-alike p = alike (steps_by n t (take p l)) (at l p) ∙ ap (λ (s : S). m.step s (at l p)) (steps_alike t (take p l))

    answers : (p : ℕ) → (reply_to n t l p).answer ≡ (reply_to m (g t) l p).answer
    answers p = ap (λ (r : Reply S). r.answer) (reply-alike p)

    shown : (p : ℕ) → (reply_to n t l p).phase ≡ (reply_to m (g t) l p).phase
    shown p = ap (λ (r : Reply S). r.phase) (reply-alike p)

    counted : (p : ℕ) → (reply_to n t l p).attempt ≡ (reply_to m (g t) l p).attempt
    counted p = ap (λ (r : Reply S). r.attempt) (reply-alike p)

    first-forth : (ph a p : ℕ) → FirstShows n ph t l a p → FirstShows m ph (g t) l a p
    first-forth ph a p f = record {
      since = f.since;
      shows = sym (shown p) ∙ f.shows;
      not_settling = λ q h i e. f.not_settling q h i (shown q ∙ e);
      not_exception = λ q h i e. f.not_exception q h i (shown q ∙ e);
    }

    first_back : (ph a p : ℕ) → FirstShows m ph (g t) l a p → FirstShows n ph t l a p
    first_back ph a p f = record {
      since = f.since;
      shows = shown p ∙ f.shows;
      not_settling = λ q h i e. f.not_settling q h i (sym (shown q) ∙ e);
      not_exception = λ q h i e. f.not_exception q h i (sym (shown q) ∙ e);
    }

    over-back : (s : S) (log : List Attempt) → let q = ran_over s log in
        record { answer = q.answer; attempts = q.attempts; opened_at = q.opened_at; outcome = q.outcome; ended_at = q.ended_at; state = back q.state }
        ≡ ran_over (back s) log
    over-back s [] = refl
    over-back s (a ∷ log) = refl

    follows-alike : (k : Needs) (opening : ℕ) → Follows m (g t) k opening l → Follows n t k opening l
    follows-alike k opening f = record {
      opens = λ p. (
        λ o. let w = (f.opens p).0 o in (λ e. w.0 (sym (phase-alike p) ∙ e), shown p ∙ w.1),
        λ w. (f.opens p).1 (λ e. w.0 (phase-alike p ∙ e), sym (shown p) ∙ w.1),
      );
      ends = λ a b o h i. let w = f.ends a b o h i in
          (w.0, w.1, ⊎_elim (λ y. inl (first_back Settling a w.0 y)) (λ y. inr (first_back Exception a w.0 y)) w.2);
      in_data = λ a p o. (λ y. (f.in_data a p o).0 (first-forth Settling a p y), λ y. first_back Settling a p ((f.in_data a p o).1 y));
      in_exception = λ a p o. (
        λ y. (f.in_exception a p o).0 (first-forth Exception a p y),
        λ y. first_back Exception a p ((f.in_exception a p o).1 y),
      );
      answered = λ p h. let w = f.answered p h in (answers p ∙ w.0, shown p ∙ w.1 ∙ sym (phase-alike (suc p)));
      stands = λ p h.
          subst (λ (x : ℕ). Stands k l (suc p) x (reply_to n t l p).attempt) (sym (shown p))
          (subst (λ (x : ℕ). Stands k l (suc p) (reply_to m (g t) l p).phase x) (sym (counted p)) (f.stands p h));
      skipped = λ p h. let w = f.skipped p h in (
        answers p ∙ w.0,
        shown p ∙ w.1,
        counted p ∙ w.2,
        sym (whole _) ∙ ap back (steps_alike t (take (suc p) l) ∙ w.3 ∙ sym (steps_alike t (take p l))) ∙ whole _,
      );
      run = let w = f.run in (
        w.0,
        w.1,
        runs t l
            ∙ ap (λ (q : Ran S). record {
              answer = q.answer;
              attempts = q.attempts;
              opened_at = q.opened_at;
              outcome = q.outcome;
              ended_at = q.ended_at;
              state = back q.state;
            }) w.2
            ∙ over-back (steps_by m (g t) l) w.0 ∙ ap (λ (s : T). ran_over s w.0) (ap back (sym (steps_alike t l)) ∙ whole _),
      );
    }

-- ---- the demand

pub three : (x : Library) → Keeps x → Three (supervisor x)
three x k end silence h t = (
  begins,
  λ l. follows-alike ours (supervisor x) state_in state_of (λ s. refl) (λ s. refl) alike runs start l _ _
      (subst (λ (s : State). Follows ours s (needs_of end (meant silence)) (opening end) l) (sym started-so) (start-follows end silence h t l)),
)
  where
    start : Supervisor
    start = ((supervisor x).start end silence).state

    started-so : state_in start ≡ (start_of end silence).state
    started-so = ap (λ (r : Stepped). state_in r.state) (k.start (record { end = end; silence = silence }) refl)

    begins : Begins (supervisor x) end silence
    begins =
        let e = k.start (record { end = end; silence = silence }) refl in
        let w = start-answers end silence h t in
        record {
          answer = ap (λ (r : Stepped). r.answer) e ∙ ap (λ (r : Numbered). r.answer) w;
          phase = ap (λ (r : Stepped). r.phase) e ∙ ap (λ (r : Numbered). r.phase) w;
          in_it = ap (λ (r : Stepped). r.state.phase) e ∙ ap (λ (r : Numbered). r.state.phase) w;
          attempt = ap (λ (r : Stepped). r.attempt) e ∙ ap (λ (r : Numbered). r.attempt) w;
        }

    alike : (s : Supervisor) (c : ℕ) → let r = (supervisor x).step s c in
        record { answer = r.answer; phase = r.phase; attempt = r.attempt; state = state_in r.state } ≡ ours.step (state_in s) c
    alike s c =
        λ i. let e = k.step (record { state = s; code = c }) refl i in
        record { answer = e.answer; phase = e.phase; attempt = e.attempt; state = state_in e.state }

    runs : (s : Supervisor) (l : List ℕ) → (supervisor x).run s l ≡ (let q = ours.run (state_in s) l in
        record { answer = q.answer; attempts = q.attempts; opened_at = q.opened_at; outcome = q.outcome; ended_at = q.ended_at; state = state_of q.state })
    runs s l =
        λ i. let e = k.run_codes (record { state = s; codes = l }) refl i in
        record { answer = e.answer; attempts = e.attempts; opened_at = e.opened_at; outcome = e.outcome; ended_at = e.ended_at; state = e.state }
