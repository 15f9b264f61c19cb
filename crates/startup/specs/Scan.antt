-- The computed form of demand 3: a scan that gives a list's attempts by place. It keeps what is still lacking, and runs no step.
use Rattle.std.specs.Prelude.{ℕ, suc, pred, ◌<◌, ◌≡◌, Bool, true, false, cond, ◌&&◌, ◌⊎◌, List, [], ◌∷◌, eqb, ltb}
use Rattle.supervisor.specs.Limits.{attempt_ticks}
use Rattle.startup.specs.Reports.{Need, need}
use Rattle.startup.specs.Attempts.{Needs, StillOpen, EndsInData, EndsInException, OpensAt}

-- an attempt: the place of the code that opened it, how it ended (1 still open, 2 data mode, 3 exception), and the place of the code that ended it, else 0
pub record Attempt : Type 0 where
  pub opened_at : ℕ
  pub outcome : ℕ
  pub ended_at : ℕ

-- such an attempt
abbrev pub attempt : ℕ → ℕ → ℕ → Attempt
attempt o h e = record { opened_at = o; outcome = h; ended_at = e }

-- the reports but c
abbrev pub without : ℕ → List ℕ → List ℕ
without c [] = []
without c (x ∷ xs) = cond (eqb c x) (without c xs) (x ∷ without c xs)

-- what is still lacking after the code c
abbrev pub less : ℕ → Need → Need
less c d = need d.phase (cond (eqb c 0) (pred d.ticks) d.ticks) (without c d.reports)

-- whether a list has no report
abbrev pub empty : List ℕ → Bool
empty [] = true
empty (x ∷ xs) = false

-- whether nothing is
abbrev pub nothing : Need → Bool
nothing d = eqb d.ticks 0 && empty d.reports

-- where a card stands: ready; told by a 1, with what its opening lacks; in an attempt, with what the present need lacks, the needs to come
-- and the ticks left to the 15,000th; in data mode; silent, with what its silence lacks
pub data Stand : Type 0 where
  ready : Stand
  told : Need → Stand
  trying : Need → List Need → ℕ → Stand
  settled : Stand
  silent : Need → Stand

-- a need is complete: the next, or data mode
abbrev pub onward : List Need → ℕ → Stand
onward [] left = settled
onward (d ∷ ds) left = trying d ds left

-- the code c comes
abbrev pub scanned : Needs → ℕ → Stand → Stand
scanned k c ready = cond (eqb c 8) (silent k.silence) (cond (eqb c 1) (told k.before) ready)
scanned k c (told d) =
    cond (eqb c 8) (silent k.silence)
    (cond (nothing (less c d)) (trying k.first k.others attempt_ticks) (told (less c d)))
scanned k c (trying d ds left) =
    cond (eqb c 8) (silent k.silence)
    (cond (eqb c 0 && eqb (pred left) 0) (silent k.silence)
    (cond (nothing (less c d)) (onward ds (cond (eqb c 0) (pred left) left)) (trying (less c d) ds (cond (eqb c 0) (pred left) left))))
scanned k c settled = cond (eqb c 8) (silent k.silence) settled
scanned k c (silent d) = cond (eqb c 8) (silent k.silence) (cond (nothing (less c d)) ready (silent (less c d)))

-- what it did to an attempt: 1 opened it, 2 ended it in data mode, 3 in the exception state, 0 none of these
abbrev pub event : Stand → Stand → ℕ
event ready w = 0
event (told d) ready = 0
event (told d) (told d') = 0
event (told d) (trying d' ds left) = 1
event (told d) settled = 0
event (told d) (silent d') = 0
event (trying d ds left) ready = 0
event (trying d ds left) (told d') = 0
event (trying d ds left) (trying d' ds' left') = 0
event (trying d ds left) settled = 2
event (trying d ds left) (silent d') = 3
event settled w = 0
event (silent d) w = 0

-- the last attempt ends so at the place p
abbrev pub closed : ℕ → ℕ → List Attempt → List Attempt
closed p e [] = []
closed p e (a ∷ log) = attempt a.opened_at e p ∷ log

-- the attempts so far, the last first, after an event at the place p
abbrev pub logged : ℕ → ℕ → List Attempt → List Attempt
logged p e log = cond (eqb e 1) (attempt p 1 0 ∷ log) (cond (ltb 1 e) (closed p e log) log)

-- and after each code from the place p on
abbrev pub scan : Needs → ℕ → Stand → List Attempt → List ℕ → List Attempt
scan k p w log [] = log
scan k p w log (c ∷ cs) = scan k (suc p) (scanned k c w) (logged p (event w (scanned k c w)) log) cs

-- THE ATTEMPTS OF A LIST, the last first
abbrev pub attempts : Needs → List ℕ → List Attempt
attempts k l = scan k 0 ready [] l

-- what the list says became of an attempt by the moment n
abbrev pub Fate : Needs → List ℕ → ℕ → Attempt → Type 0
Fate k l n a =
    ((a.outcome ≡ 1) × (a.ended_at ≡ 0) × StillOpen k l (suc a.opened_at) n)
    ⊎ (((a.outcome ≡ 2) × (a.ended_at < n) × EndsInData k l (suc a.opened_at) a.ended_at)
    ⊎ ((a.outcome ≡ 3) × (a.ended_at < n) × EndsInException k l (suc a.opened_at) a.ended_at))

-- a is the last attempt that the list opens before the moment n
pub record Last (k : Needs) (l : List ℕ) (n : ℕ) (a : Attempt) : Type 0 where
  pub before : a.opened_at < n
  pub opens : OpensAt k l (suc a.opened_at)
  pub last : (p : ℕ) → a.opened_at < p → p < n → OpensAt k l (suc p) → ⊥
  pub fate : Fate k l n a

-- these are all the attempts that the list opens before the moment n, the last first
abbrev pub Listed : Needs → List ℕ → ℕ → List Attempt → Type 0
Listed k l n [] = (p : ℕ) → p < n → OpensAt k l (suc p) → ⊥
Listed k l n (a ∷ log) = Last k l n a × Listed k l a.opened_at log
