-- SUPERVISORS THAT HAVE TO BE REJECTED by demand 3 (SCOPE, "What the contracts owe"): what such a one does, over runs from a fresh start.
use Rattle.std.specs.Prelude.{◌≡◌, true, List, ℕ, suc, ◌≤◌, ◌<◌}
use Rattle.supervisor.specs.Limits.{attempt_ticks}
use Rattle.supervisor.specs.Names.{Cr, Hearing, Settling, Exception}
use Rattle.supervisor.specs.Phases.{in_attempt}
use Rattle.startup.specs.Reports.{at, count}
use Rattle.startup.specs.Attempts.{needs_of, meant, StillOpen, OpensAt}
use Rattle.startup.specs.Make.{Make, phase_at, reply_to, Taken}

-- what holds of every run from a fresh start: of the state it begins in, and the list
abbrev pub FromAFreshStart : {S : Type 0} → Make S → (S → List ℕ → Type 0) → Type 0
FromAFreshStart make P = (end silence : ℕ) → end ≤ 1 → Taken silence → (l : List ℕ) → P (make.start end silence).state l

-- "a supervisor that moves once and then stays": some run has two moments with different phases, and after a change each run shows one phase ever after
pub record MovesOnce {S : Type 0} (make : Make S) : Type 0 where
  pub moves : (end : ℕ) × (silence : ℕ) × (end ≤ 1) × Taken silence × (l : List ℕ) × (n : ℕ)
      × (phase_at make (make.start end silence).state l 0 ≡ phase_at make (make.start end silence).state l n → ⊥)
  pub stays : FromAFreshStart make (λ s l.
      (n : ℕ) → (phase_at make s l n ≡ phase_at make s l (suc n) → ⊥) → (q : ℕ) → suc n ≤ q → phase_at make s l q ≡ phase_at make s l (suc n))

-- one that "never opens an attempt": it shows neither C_r nor Hearing
abbrev pub NeverOpens : {S : Type 0} → Make S → Type 0
NeverOpens make = FromAFreshStart make (λ s l. (p : ℕ) → ((reply_to make s l p).phase ≡ Cr → ⊥) × ((reply_to make s l p).phase ≡ Hearing → ⊥))

-- one that "calls everything an exception": it never shows Settling
abbrev pub CallsException : {S : Type 0} → Make S → Type 0
CallsException make = FromAFreshStart make (λ s l. (p : ℕ) → (reply_to make s l p).phase ≡ Settling → ⊥)

-- "an invented tick count": always the same within attempts
abbrev pub SameTicks : {S : Type 0} → Make S → Type 0
SameTicks make = (n : ℕ) × FromAFreshStart make (λ s l.
    (p : ℕ) → at l p ≤ 8 → in_attempt (reply_to make s l p).phase ≡ true → (reply_to make s l p).attempt ≡ n)

-- or one more with every code of an attempt, whether it is a tick or not
abbrev pub CountsCodes : {S : Type 0} → Make S → Type 0
CountsCodes make = FromAFreshStart make (λ s l.
    (p : ℕ) → at l p ≤ 8 → at l (suc p) ≤ 8 → in_attempt (reply_to make s l p).phase ≡ true → in_attempt (reply_to make s l (suc p)).phase ≡ true
    → (reply_to make s l (suc p)).attempt ≡ suc (reply_to make s l p).attempt)

-- or some attempt that is open is given up at a tick, and so before its 15,000th
abbrev pub GivesUp : {S : Type 0} → Make S → Type 0
GivesUp make = (end : ℕ) × (silence : ℕ) × (end ≤ 1) × Taken silence × (l : List ℕ) × (m : ℕ) × (p : ℕ)
    × OpensAt (needs_of end (meant silence)) l m × StillOpen (needs_of end (meant silence)) l m (suc p) × (at l p ≡ 0)
    × ((reply_to make (make.start end silence).state l p).phase ≡ Exception)

-- or some attempt ends too late: its 15,000th tick has come, and neither Settling nor Exception has been shown
abbrev pub EndsTooLate : {S : Type 0} → Make S → Type 0
EndsTooLate make = (end : ℕ) × (silence : ℕ) × (end ≤ 1) × Taken silence × (l : List ℕ) × (m : ℕ) × (n : ℕ)
    × OpensAt (needs_of end (meant silence)) l m × (m ≤ n) × (attempt_ticks ≤ count 0 l m n)
    × ((p : ℕ) → m ≤ p → p < n → ((reply_to make (make.start end silence).state l p).phase ≡ Settling → ⊥)
    × ((reply_to make (make.start end silence).state l p).phase ≡ Exception → ⊥))

-- a supervisor is none of these (theorem `rejected-by-three`: none that meets demand 3 is)
pub record RejectedByThree {S : Type 0} (make : Make S) : Type 0 where
  pub refuses_starts : ((end silence : ℕ) → (make.start end silence).answer ≡ 0 → ⊥) → ⊥
  pub refuses_steps : ((s : S) (code : ℕ) → (make.step s code).answer ≡ 0 → ⊥) → ⊥
  pub refuses_lists : ((s : S) (codes : List ℕ) → (make.run s codes).answer ≡ 0 → ⊥) → ⊥
  pub moves_once : MovesOnce make → ⊥
  pub never_opens : NeverOpens make → ⊥
  pub calls_exception : CallsException make → ⊥
  pub same_ticks : SameTicks make → ⊥
  pub counts_codes : CountsCodes make → ⊥
  pub gives_up : GivesUp make → ⊥
  pub ends_too_late : EndsTooLate make → ⊥
