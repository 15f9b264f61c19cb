-- The run over a list from a fresh start gives the list's attempts. Assumes nothing.
use Prim.Native.Nat.{ℕ, suc, ◌+◌, ◌≤◌, ◌<◌}
use native.Mathlib.Omega.{arith}
use native.Mathlib.Numerals.{add-one}
use native.Mathlib.Nat.{eq-or-lt_of_le, add-zero, add-suc, suc-add, zero-add}
use mathlib.Core.Path.{◌≡◌, refl, sym, ap, subst, ◌∙◌}
use mathlib.Core.Logic.{⊎_elim}
use mathlib.Core.List.{List, [], ◌∷◌}
use mathlib.Core.Bool.{Bool, true, false, false≢true}
use lib.Dec.{ltb, eqb}
use lib.ListN.{length, take, drop}
use Rattle.answer.specs.Answer.{answer}
use Rattle.answer.proofs.Laws.{given}
use Rattle.supervisor.specs.declared.Supervisor.{Supervisor}
use Rattle.supervisor.specs.Phases.{in_attempt}
use Rattle.supervisor.specs.Step.{state_refusals, step_of, fresh}
use Rattle.supervisor.proofs.Laws.{by_cases, clash}
use Rattle.startup.specs.Run.{Run}
use Rattle.startup.specs.Reports.{at, one}
use Rattle.startup.specs.Attempts.{Needs, needs_of, meant, OpensAt}
use Rattle.startup.specs.Make.{steps, after, Taken}
use Rattle.startup.specs.Scan.{Attempt, logged, attempts, Fate, Listed}
use Rattle.startup.specs.Run.{event_of, noted, taken_of, run_from, begun, run_of}
use Rattle.startup.specs.Agrees.{summary, Agrees}
use Rattle.startup.proofs.Unique.{Sound}
use Rattle.startup.proofs.Simulates.{k_of, sound, after-suc}
use Rattle.startup.proofs.Fate.{next-fate, open-back, data-open}
use Rattle.startup.proofs.Logged.{drop-split, event_at, opens-event, data-event, exception-event}
use Rattle.startup.proofs.Logged.{event-says, log_at, listed, attempts-are, attempts-listed}
use Rattle.startup.proofs.Three.{pre_out, opening-in, legal-run, open-run, data-run, exception-run, opening-run, in-run, meant-range, started, either_end}

-- the last attempt has opened, so `outcome` is not 0
has-outcome : (k : Needs) (l : List ℕ) (n : ℕ) (a : Attempt) → Fate k l n a → eqb a.outcome 0 ≡ false
has-outcome k l n a = ⊎_elim (λ w. rw w.0) (⊎_elim (λ w. rw w.0) (λ w. rw w.0))

-- a run's note of an event is the log's
note-log : (k : Needs) (l : List ℕ) (n : ℕ) (s s' : Supervisor) (p e : ℕ) (log : List Attempt) → Listed k l n log
    → noted (summary s log) s' p e ≡ summary s' (logged p e log)
note-log k l n s s' p e [] h =
    by_cases (eqb e 1) (λ t. rw t) (λ f. by_cases (ltb 1 e) (λ t. rw (f, t)) (λ g. rw (f, g)))
note-log k l n s s' p e (a ∷ log) h =
    by_cases (eqb e 1) (λ t. rw t (ap (λ (c : ℕ). record {
      answer =
          0;
      state = s';
      attempts = c;
      opened_at = p;
      outcome = 1;
      ended_at = 0;
    }) (add-one (length (a ∷ log)))))
    (λ f. by_cases (ltb 1 e) (λ t. rw (f, t, has-outcome k l n a h.0.fate)) (λ g. rw (f, g)))

-- one code of a run
taken-by : (n c : ℕ) (s s' : Supervisor) (log : List Attempt) → (step_of s c).state ≡ s'
    → taken_of n c (summary s log) ≡ noted (summary s log) s' n (event_of s.phase s'.phase)
taken-by n c s s' [] q = ap (λ (x : Supervisor). noted (summary s []) x n (event_of s.phase x.phase)) q
taken-by n c s s' (a ∷ log) q = ap (λ (x : Supervisor). noted (summary s (a ∷ log)) x n (event_of s.phase x.phase)) q

take_all : (l : List ℕ) → take (length l) l ≡ l
take_all [] = refl
take_all (x ∷ l) = ap (λ (t : List ℕ). x ∷ t) (take_all l)

module _ (b : Bool) (sil : ℕ) (lo : 2000 ≤ sil) (hi : sil ≤ 60000) (l : List ℕ) where
  abbrev k : Needs
  k = k_of b sil

  abbrev s₀ : Supervisor
  s₀ = fresh (one b) sil

  sd : Sound k
  sd = sound b sil (omega arith)

  abbrev S : ℕ → Supervisor
  S n = after s₀ l n

  not_in : (n : ℕ) → OpensAt k l (suc n) → in_attempt (S n).phase ≡ false
  not_in n o = ap in_attempt (opening-run b sil lo hi l n o).0 ∙ pre_out b

  now-in : (n : ℕ) → OpensAt k l (suc n) → in_attempt (S (suc n)).phase ≡ true
  now-in n o = ap in_attempt (opening-run b sil lo hi l n o).1 ∙ opening-in b

  abbrev E : ℕ → ℕ
  E n = event_at k sd l n

  -- what the phases show of an attempt is what the list says
  same-event : (n : ℕ) → event_of (S n).phase (S (suc n)).phase ≡ E n
  same-event n =
      ⊎_elim (λ q. nothing q) (⊎_elim (λ w. rw (not_in n w.1, now-in n w.1) (sym w.0))
      (⊎_elim
      (λ w. let d = w.1.2 in let x = data-open k sd l w.1.0 n d in let ph = data-run b sil lo hi l w.1.0 n w.1.1 d in
      rw ((open-run b sil lo hi l w.1.0 n w.1.1 x).0, ph) (sym w.0))
      (λ w. let x = w.1.2 in let ph = exception-run b sil lo hi l w.1.0 n w.1.1 x in
      rw ((open-run b sil lo hi l w.1.0 n w.1.1 x.before).0, ph) (sym w.0))))
      (event-says k sd l n)
    where
      no : {P : Type 0} (e : ℕ) → E n ≡ 0 → E n ≡ e → eqb e 0 ≡ false → P
      no e q r f = absurd (false≢true (sym f ∙ ap (λ (z : ℕ). eqb z 0) (sym r ∙ q)))

      in-in : E n ≡ 0 → in_attempt (S n).phase ≡ true → in_attempt (S (suc n)).phase ≡ true
      in-in q t =
          let w = in-run b sil lo hi l n t in
          ⊎_elim (λ y. (open-run b sil lo hi l w.0 (suc n) w.1 y).0)
          (⊎_elim (λ d. no 2 q (data-event k sd l w.0 n w.1 d) refl) (λ x. no 3 q (exception-event k sd l w.0 n w.1 x) refl))
          (next-fate k sd l w.0 n w.2)

      out-out : E n ≡ 0 → in_attempt (S n).phase ≡ false → in_attempt (S (suc n)).phase ≡ false
      out-out q f =
          by_cases (in_attempt (S (suc n)).phase)
          (λ t. let w = in-run b sil lo hi l (suc n) t in
          ⊎_elim (λ z. no 1 q (opens-event k sd l n (subst (OpensAt k l) z w.1)) refl)
          (λ z. let i : w.0 ≤ n = omega arith in clash _ (open-run b sil lo hi l w.0 n w.1 (open-back k sd l w.0 n (suc n) i (omega arith) w.2)).0
          f)
          (eq-or-lt_of_le w.2.since))
          (λ g. g)

      nothing : E n ≡ 0 → event_of (S n).phase (S (suc n)).phase ≡ E n
      nothing q =
          by_cases (in_attempt (S n).phase) (λ t. rw (t, in-in q t) (sym q)) (λ f. rw (f, out-out q f) (sym q))

  turn : (n : ℕ) → taken_of n (at l n) (summary (S n) (log_at k sd l n)) ≡ summary (S (suc n)) (log_at k sd l (suc n))
  turn n =
      taken-by n (at l n) (S n) (S (suc n)) (log_at k sd l n) (sym (after-suc s₀ l n))
      ∙ ap (noted (summary (S n) (log_at k sd l n)) (S (suc n)) n) (same-event n)
      ∙ note-log k l n (S n) (S (suc n)) n (E n) (log_at k sd l n) (listed k sd l n)

  run_is : (p : ℕ) (cs : List ℕ) → drop p l ≡ cs → run_from p (summary (S p) (log_at k sd l p)) cs ≡ summary (S (p + length cs)) (log_at k sd l (p + length cs))
  run_is p [] q = ap (λ (n : ℕ). summary (S n) (log_at k sd l n)) (sym (add-zero p))
  run_is p (c ∷ cs) q =
      let w = drop-split l p c cs q in
      ap (λ (r : Run). run_from (suc p) r cs) (ap (λ (x : ℕ). taken_of p x (summary (S p) (log_at k sd l p))) (sym w.0) ∙ turn p)
      ∙ run_is (suc p) cs w.1 ∙ ap (λ (n : ℕ). summary (S n) (log_at k sd l n)) (suc-add p (length cs) ∙ sym (add-suc p (length cs)))

  pub run-sums : run_of s₀ l ≡ summary (steps s₀ l) (attempts k l)
  run-sums =
      given (answer (state_refusals s₀)) (begun (answer (state_refusals s₀)) s₀) (run_from 0 (begun 0 s₀) l) (legal-run b sil lo hi l 0)
      ∙ run_is 0 l refl ∙ ap (λ (n : ℕ). summary (S n) (log_at k sd l n)) (zero-add (length l))
      ∙ ((λ i. summary (steps s₀ (take_all l i)) (log_at k sd l (length l))) ∙ ap (summary (steps s₀ l)) (sym (attempts-are k sd l)))

-- THE RUN AGREES WITH THE LIST, from a fresh start of either end with any silence that is taken
pub run-agrees : (end silence : ℕ) → end ≤ 1 → Taken silence → (l : List ℕ) → Agrees end silence l
run-agrees end silence h t l =
    let r = meant-range silence t in
    subst (λ (s : Supervisor). run_of s l ≡ summary (steps s l) (attempts (needs_of end (meant silence)) l)) (sym (started end silence h t))
    (either_end
    (λ e. let s = fresh e (meant silence) in run_of s l ≡ summary (steps s l) (attempts (needs_of e (meant silence)) l))
    (run-sums true (meant silence) r.0 r.1 l) (run-sums false (meant silence) r.0 r.1 l) end h)

-- THE COMPUTED FORM AGREES WITH THE STATEMENT, for every list
pub scan-agrees : (end silence : ℕ) → end ≤ 1 → Taken silence → (l : List ℕ)
    → Listed (needs_of end (meant silence)) l (length l) (attempts (needs_of end (meant silence)) l)
scan-agrees end silence h t l =
    let pos : 0 < meant silence = omega (arith, (meant-range silence t).0) in
    either_end (λ e. Listed (needs_of e (meant silence)) l (length l) (attempts (needs_of e (meant silence)) l))
    (attempts-listed (k_of true (meant silence)) (sound true (meant silence) pos) l)
    (attempts-listed (k_of false (meant silence)) (sound false (meant silence) pos) l) end h
