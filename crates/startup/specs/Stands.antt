-- What a card shows at each moment, from the list alone: the phase and, in an attempt, the ticks since its opening. The list says one thing at
-- each moment (theorem `stands-once`), so what is said below from one moment until another is exactly then (`Exactly`, theorem `stands-exactly`).
use Rattle.std.specs.Prelude.{ℕ, suc, ◌≤◌, ◌≡◌, true, false, ◌↔◌, List}
use Rattle.supervisor.specs.Names.{Ready, Settling, Valid, Exception}
use Rattle.supervisor.specs.Phases.{in_attempt}
use Rattle.startup.specs.Reports.{count, Need, shown, FirstLacking}
use Rattle.startup.specs.Attempts.{Needs, all, StillOpen, EndsInData, ReadyAt, SilenceBegins, CountedOne, OpensAt}

-- at the moment n the list l says this phase and these ticks, for an end that needs k
pub data Stands (k : Needs) (l : List ℕ) (n : ℕ) : ℕ → ℕ → Type 0 where
  -- Ready, from where the card is ready until the first 1 or 8
  ready : {r : ℕ} → ReadyAt k l r → r ≤ n → count 1 l r n ≡ 0 → count 8 l r n ≡ 0 → Stands k l n Ready 0
  -- Gap or Await, from a 1 that counts until an 8 or what the opening needs
  waiting : {e : ℕ} → CountedOne k l e → e ≤ n → count 8 l e n ≡ 0 → shown k.before l e n ≡ false → Stands k l n k.before.phase 0
  -- while an attempt is open, the phase of the first need that is not complete, and the ticks since the opening
  trying : {m : ℕ} {d : Need} → OpensAt k l m → StillOpen k l m n → FirstLacking (all k) l m n d → Stands k l n d.phase (count 0 l m n)
  -- Settling, from an attempt's end in data mode until an 8 or what Valid needs
  settling : {m p : ℕ} → OpensAt k l m → EndsInData k l m p → suc p ≤ n → count 8 l (suc p) n ≡ 0 → shown k.settling l (suc p) n ≡ false
      → Stands k l n k.settling.phase 0
  -- Valid, from then until an 8
  valid : {m p : ℕ} → OpensAt k l m → EndsInData k l m p → suc p ≤ n → count 8 l (suc p) n ≡ 0 → shown k.settling l (suc p) n ≡ true
      → Stands k l n Valid 0
  -- Exception, from where a silence begins until it has passed, or an 8 begins it again
  silent : {e : ℕ} → SilenceBegins k l e → e ≤ n → count 8 l e n ≡ 0 → shown k.silence l e n ≡ false → Stands k l n k.silence.phase 0

-- what it means for the phase ph that the list says at the moment n
pub record Exactly (k : Needs) (l : List ℕ) (n ph : ℕ) : Type 0 where
  -- a phase of an attempt is shown exactly while the list has one open
  pub in_its_attempt : (in_attempt ph ≡ true) ↔ ((m : ℕ) × OpensAt k l m × StillOpen k l m n)
  -- Settling exactly from where one ends in data mode until an 8 or what Valid needs
  pub in_settling : (ph ≡ Settling) ↔ ((m : ℕ) × (p : ℕ) × OpensAt k l m × EndsInData k l m p × (suc p ≤ n)
      × (count 8 l (suc p) n ≡ 0) × (shown k.settling l (suc p) n ≡ false))
  -- Exception exactly from where a silence begins until it has passed
  pub in_exception : (ph ≡ Exception) ↔ ((e : ℕ) × SilenceBegins k l e × (e ≤ n) × (count 8 l e n ≡ 0) × (shown k.silence l e n ≡ false))
