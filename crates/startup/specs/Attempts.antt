-- Demand 3 over the list: what an attempt needs, when it opens and how it ends, by the places of ticks and reports (Reports). Nothing here runs a step.
use Rattle.std.specs.Prelude.{ℕ, suc, ◌≤◌, ◌<◌, ◌≡◌, List, [], ◌∷◌, cond, ◌⊎◌, eqb}
use Rattle.supervisor.specs.Limits.{gap_ticks, cr_ticks, ntu_quiet_ticks, ltu_quiet_ticks, sc_ticks, settling_ticks, attempt_ticks, default_silence}
use Rattle.supervisor.specs.Names.{Gap, Await, Cr, Hearing, Quiet, Sc, Sr, Tc, Tr, Fc, Settling, Exception}
use Rattle.startup.specs.Reports.{at, count, Need, need, Completes, InOrder}

-- what an end needs: for its opening, after a 1 that counts; for an attempt, first and then; for Valid, after an attempt's end in data mode;
-- for Ready, after an 8 or an attempt that ended in the exception state
pub record Needs : Type 0 where
  pub before : Need
  pub first : Need
  pub others : List Need
  pub settling : Need
  pub silence : Need

-- "the NTU's attempt opens at the 300th tick after it"; then C_r, 1,000 ticks; Quiet, 1,500; both 4 and 5, in either order; 7
abbrev pub ntu_needs : ℕ → Needs
ntu_needs silence = record {
  before = need Gap gap_ticks [];
  first = need Cr cr_ticks [];
  others = need Quiet ntu_quiet_ticks [] ∷ need Sr 0 (4 ∷ 5 ∷ []) ∷ need Tr 0 (7 ∷ []) ∷ [];
  settling = need Settling settling_ticks [];
  silence = need Exception silence [];
}

-- "the LTU's at the first 2 after it"; then 3; Quiet, 500 ticks; 5,000 ticks and 4; 6; 7
abbrev pub ltu_needs : ℕ → Needs
ltu_needs silence = record {
  before = need Await 0 (2 ∷ []);
  first = need Hearing 0 (3 ∷ []);
  others = need Quiet ltu_quiet_ticks [] ∷ need Sc sc_ticks (4 ∷ []) ∷ need Tc 0 (6 ∷ []) ∷ need Fc 0 (7 ∷ []) ∷ [];
  settling = need Settling settling_ticks [];
  silence = need Exception silence [];
}

-- what an end needs, LTU 0 and NTU 1
abbrev pub needs_of : ℕ → ℕ → Needs
needs_of end silence = cond (eqb end 1) (ntu_needs silence) (ltu_needs silence)

-- the silence of a start: "0 stands for the default, 5,000 ticks"
abbrev pub meant : ℕ → ℕ
meant silence = cond (eqb silence 0) default_silence silence

-- all that an attempt needs, in order
abbrev pub all : Needs → List Need
all k = k.first ∷ k.others

-- from the moment m to the moment n comes no 8, and not the 15,000th tick
pub record InTime (l : List ℕ) (m n : ℕ) : Type 0 where
  pub calm : count 8 l m n ≡ 0
  pub early : count 0 l m n < attempt_ticks

-- an attempt opened at the moment m is still open at the moment n
pub record StillOpen (k : Needs) (l : List ℕ) (m n : ℕ) : Type 0 where
  pub since : m ≤ n
  pub in_time : InTime l m n
  pub unshown : (q : ℕ) → q ≤ n → InOrder (all k) l m q → ⊥

-- it ends in data mode with the code at the place p: then the list has shown all that is needed, before the 15,000th tick and before any 8
pub record EndsInData (k : Needs) (l : List ℕ) (m p : ℕ) : Type 0 where
  pub needed : InOrder (all k) l m (suc p)
  pub in_time : InTime l m (suc p)

-- it ends in the exception state with the code at the place p: still open before it, and it is an 8 or the 15,000th tick
pub record EndsInException (k : Needs) (l : List ℕ) (m p : ℕ) : Type 0 where
  pub before : StillOpen k l m p
  pub cut : (at l p ≡ 8) ⊎ (attempt_ticks ≤ count 0 l m (suc p))

mutual
  -- "the card is ready at the start, and again when its silence in ticks has passed since the last code 8,
  -- or the last 15,000th tick that found its attempt still open"
  pub data ReadyAt (k : Needs) (l : List ℕ) : ℕ → Type 0 where
    fresh : ReadyAt k l 0
    rested : {e p : ℕ} → SilenceBegins k l e → Completes k.silence l e p → count 8 l e (suc p) ≡ 0 → ReadyAt k l (suc p)

  -- a code 8, or the 15,000th tick of an attempt that is still open
  pub data SilenceBegins (k : Needs) (l : List ℕ) : ℕ → Type 0 where
    abnormal : {p : ℕ} → at l p ≡ 8 → SilenceBegins k l (suc p)
    late : {m p : ℕ} → OpensAt k l m → StillOpen k l m p → count 8 l m (suc p) ≡ 0 → attempt_ticks ≤ count 0 l m (suc p)
        → SilenceBegins k l (suc p)

  -- "the first 1 or 8 heard ends readiness, and if it is a 1, that 1 counts"
  pub data CountedOne (k : Needs) (l : List ℕ) : ℕ → Type 0 where
    counted : {r p : ℕ} → ReadyAt k l r → r ≤ p → count 1 l r p ≡ 0 → count 8 l r p ≡ 0 → at l p ≡ 1 → CountedOne k l (suc p)

  -- the attempt opens when what its opening needs has come after that 1, "if no 8 comes between"
  pub data OpensAt (k : Needs) (l : List ℕ) : ℕ → Type 0 where
    opens : {e p : ℕ} → CountedOne k l e → Completes k.before l e p → count 8 l e (suc p) ≡ 0 → OpensAt k l (suc p)
