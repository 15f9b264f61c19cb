-- What the list itself says of the last attempt that has ended (startup: demand 3's words), and since when the present phase lasts.
use Rattle.std.specs.Prelude.{ℕ, suc, ◌≤◌, ◌<◌, ◌≡◌, ◌⊎◌, List}
use Rattle.supervisor.specs.declared.Supervisor.{Supervisor}
use Rattle.startup.specs.Reports.{at, upto, count}
use Rattle.startup.specs.Attempts.{Needs, EndsInData, EndsInException, OpensAt}
use Rattle.startup.specs.Make.{after}
use Rattle.story.specs.declared.Outcome.{Outcome}

-- the attempt that opened at the moment m ends with the code at the place p: in data mode (2), or in the exception state (3)
abbrev pub EndsAt : Needs → List ℕ → ℕ → ℕ → ℕ → Type 0
EndsAt k l how m p = OpensAt k l m × (((how ≡ 2) × EndsInData k l m p) ⊎ ((how ≡ 3) × EndsInException k l m p))

-- no attempt ends from the moment m to the moment n
abbrev pub NoneEnds : Needs → List ℕ → ℕ → ℕ → Type 0
NoneEnds k l m n = (how opened p : ℕ) → m ≤ p → p < n → EndsAt k l how opened p → ⊥

-- o is the attempt that ended with the code at the place p, the last before the moment n: how, by which code, and after how many of the list's ticks
pub record EndedLast (k : Needs) (l : List ℕ) (n : ℕ) (o : Outcome) : Type 0 where
  pub opened : ℕ
  pub place : ℕ
  pub before : place < n
  pub ends : EndsAt k l o.how opened place
  pub last : NoneEnds k l (suc place) n
  pub ticks : o.ticks ≡ count 0 l opened (suc place)
  pub code : o.code ≡ at l place

-- by the moment n: none has ended, or it is the last that has
abbrev pub Ended : Needs → List ℕ → ℕ → Outcome → Type 0
Ended k l n o = ((o.how ≡ 0) × NoneEnds k l 0 n) ⊎ EndedLast k l n o

-- the phase at the moment n lasts since the moment when the clock showed this
pub record Since (s : Supervisor) (l : List ℕ) (n clock : ℕ) : Type 0 where
  pub moment : ℕ
  pub within : moment ≤ n
  pub shown : clock ≡ upto 0 l moment
  pub lasts : (q : ℕ) → moment ≤ q → q ≤ n → (after s l q).phase ≡ (after s l n).phase
  pub new : (q : ℕ) → suc q ≡ moment → (after s l q).phase ≡ (after s l moment).phase → ⊥
