-- DEMAND 3, over a supervisor of any make. What a list says is in startup/specs/Reports.antt, Attempts.antt and Stands.antt; a make, its run, and what it shows
-- of a list are in startup/specs/Make.antt.
use Rattle.std.specs.Prelude.{◌≡◌, cond, ◌⊎◌, ◌↔◌, List, ℕ, suc, ◌≤◌, ◌<◌, eqb, length, take}
use Rattle.supervisor.specs.Limits.{attempt_ticks}
use Rattle.supervisor.specs.Names.{Ready, Cr, Hearing, Settling, Exception}
use Rattle.startup.specs.Reports.{at, count}
use Rattle.startup.specs.Attempts.{Needs, needs_of, meant, EndsInData, EndsInException, OpensAt}
use Rattle.startup.specs.Stands.{Stands}
use Rattle.startup.specs.Scan.{Attempt, Listed}
use Rattle.startup.specs.Make.{Make, steps_by, phase_at, reply_to, Enters, FirstShows, ran_over, Taken}
use Rattle.host.specs.declared.supervising.Supervisor.{Supervisor}
use Rattle.demands.specs.Library.{Library}

-- THE DEMAND'S FOUR SENTENCES, and what else a run from the state s over the list l shows, for an end that needs k and opens with this phase
pub record Follows {S : Type 0} (make : Make S) (s : S) (k : Needs) (opening : ℕ) (l : List ℕ) : Type 0 where
  -- "From a fresh start, over any list of ticks and reports: an attempt opens exactly where the list says;
  pub opens : (p : ℕ) → OpensAt k l (suc p) ↔ Enters make opening s l p
  -- if the list goes on long enough it has ended by its 15,000th tick;
  pub ends : (m n : ℕ) → OpensAt k l m → m ≤ n → attempt_ticks ≤ count 0 l m n
      → (p : ℕ) × (p < n) × (FirstShows make Settling s l m p ⊎ FirstShows make Exception s l m p)
  -- in data mode exactly when the list itself shows each needed report, in order, each counted only from the moment it may be heard,
  -- before that tick and before any abnormal report since it opened;
  pub in_data : (m p : ℕ) → OpensAt k l m → FirstShows make Settling s l m p ↔ EndsInData k l m p
  -- in the exception state exactly when one of those comes first."
  pub in_exception : (m p : ℕ) → OpensAt k l m → FirstShows make Exception s l m p ↔ EndsInException k l m p
  -- NOTHING IS LEFT OPEN. Each of the nine codes is answered 0, with the phase that the state is then in
  pub answered : (p : ℕ) → at l p ≤ 8 → ((reply_to make s l p).answer ≡ 0) × ((reply_to make s l p).phase ≡ phase_at make s l (suc p))
  -- and with the phase and the ticks that the list says, in an attempt and outside
  pub stands : (p : ℕ) → at l p ≤ 8 → Stands k l (suc p) (reply_to make s l p).phase (reply_to make s l p).attempt
  -- any other code is refused with 2 and skipped
  pub skipped : (p : ℕ) → 8 < at l p → ((reply_to make s l p).answer ≡ 2) × ((reply_to make s l p).phase ≡ 0) × ((reply_to make s l p).attempt ≡ 0)
      × (steps_by make s (take (suc p) l) ≡ steps_by make s (take p l))
  -- a run over the whole list gives the attempts that the list has, and the state after it
  pub run : (log : List Attempt) × Listed k l (length l) log × (make.run s l ≡ ran_over (steps_by make s l) log)

-- "An attempt opens on entering C_r (NTU) or Hearing (LTU)"
abbrev pub opening : ℕ → ℕ
opening end = cond (eqb end 1) Cr Hearing

-- a start that is taken: 0, Ready, and no ticks
pub record Begins {S : Type 0} (make : Make S) (end silence : ℕ) : Type 0 where
  pub answer : (make.start end silence).answer ≡ 0
  pub phase : (make.start end silence).phase ≡ Ready
  pub in_it : make.phase_of (make.start end silence).state ≡ Ready
  pub attempt : (make.start end silence).attempt ≡ 0

-- THE DEMAND: for either end, every silence that a start takes, and every list
abbrev pub Three : {S : Type 0} → Make S → Type 0
Three make = (end silence : ℕ) → end ≤ 1 → Taken silence
    → Begins make end silence × ((l : List ℕ) → Follows make (make.start end silence).state (needs_of end (meant silence)) (opening end) l)

-- the supervisor of a library: sdsl_start, sdsl_step and sdsl_run_codes
abbrev pub supervisor : Library → Make Supervisor
supervisor x = record {
  start = λ end silence. let r = x.start (record { end = end; silence = silence }) in
      record { answer = r.answer; phase = r.numbers.phase; attempt = r.numbers.attempt; state = r.memory };
  phase_of = λ s. s.phase;
  step = λ s code. let r = x.step (record { state = s; code = code }) in
      record { answer = r.answer; phase = r.numbers.phase; attempt = r.numbers.attempt; state = r.memory };
  run = λ s codes. let r = x.run_codes (record { state = s; codes = codes }) in
      record {
        answer = r.answer;
        attempts = r.numbers.attempts;
        opened_at = r.numbers.opened_at;
        outcome = r.numbers.outcome;
        ended_at = r.numbers.ended_at;
        state = r.memory;
      };
}
