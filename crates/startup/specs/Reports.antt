-- What the list shows of a need: ticks and reports, by their places in it. Nothing here runs a step.
-- Places are counted from 0. At the moment n the first n codes have come: the code at the place p comes between the moments p and suc p.
use Rattle.std.specs.Prelude.{ℕ, zero, suc, ◌+◌, ◌-◌, ◌≤◌, ◌≡◌, List, [], ◌∷◌, Bool, true, false, ◌&&◌, ◌⊎◌, leb, eqb, get_or}

-- the code at a place; past the end 9, which is no code. "Refused codes in the list are skipped": nothing below looks for one
abbrev pub at : List ℕ → ℕ → ℕ
at l p = get_or l p 9

-- 1 where a test holds, else 0
abbrev pub one : Bool → ℕ
one true = 1
one false = 0

-- how many of the first n codes are c
abbrev pub upto : ℕ → List ℕ → ℕ → ℕ
upto c l zero = 0
upto c l (suc n) = upto c l n + one (eqb (at l n) c)

-- how often c comes from the moment m to the moment n
abbrev pub count : ℕ → List ℕ → ℕ → ℕ → ℕ
count c l m n = upto c l n - upto c l m

-- what is needed: so many ticks, and each of these reports; until then this phase is shown
pub record Need : Type 0 where
  pub phase : ℕ
  pub ticks : ℕ
  pub reports : List ℕ

-- such a need
abbrev pub need : ℕ → ℕ → List ℕ → Need
need p t rs = record { phase = p; ticks = t; reports = rs }

-- whether each of these reports comes from the moment m to the moment n
abbrev pub reported : List ℕ → List ℕ → ℕ → ℕ → Bool
reported [] l m n = true
reported (c ∷ cs) l m n = leb 1 (count c l m n) && reported cs l m n

-- whether what is needed comes from the moment m to the moment n
abbrev pub shown : Need → List ℕ → ℕ → ℕ → Bool
shown d l m n = leb d.ticks (count 0 l m n) && reported d.reports l m n

-- the code at the place p completes what is needed since the moment m
pub record Completes (d : Need) (l : List ℕ) (m p : ℕ) : Type 0 where
  pub since : m ≤ p
  pub lacking : shown d l m p ≡ false
  pub shows : shown d l m (suc p) ≡ true

-- each need in its order, each counted only from the moment when the one before is complete: from the moment m to the moment n
abbrev pub InOrder : List Need → List ℕ → ℕ → ℕ → Type 0
InOrder [] l m n = m ≡ n
InOrder (d ∷ ds) l m n = (p : ℕ) × Completes d l m p × InOrder ds l (suc p) n

-- d is the first of these needs that is not complete at the moment n, counted so from the moment m
abbrev pub FirstLacking : List Need → List ℕ → ℕ → ℕ → Need → Type 0
FirstLacking [] l m n d = ⊥
FirstLacking (c ∷ cs) l m n d =
    ((m ≤ n) × (shown c l m n ≡ false) × (c ≡ d)) ⊎ ((p : ℕ) × Completes c l m p × FirstLacking cs l (suc p) n d)
