-- The phases of the two ends (SCOPE, "The start-up supervisor"): what each awaits, how long it lasts, what it starts.
use Rattle.std.specs.Prelude.{ℕ, Bool, false, cond, not, ◌&&◌, ◌||◌, List, [], ◌∷◌, leb, eqb}
use Rattle.supervisor.specs.Limits.{gap_ticks, cr_ticks, ntu_quiet_ticks, ltu_quiet_ticks, sc_ticks, settling_ticks}
use Rattle.supervisor.specs.Names.{Ready, Gap, Await, Cr, Hearing, Quiet, Sc, Sr, Tc, Tr, Fc, Settling, Valid, Exception}

-- a phase, the ticks that it lasts, the reports that must come in it, and the phase that it then starts
pub record Row : Type 0 where
  pub phase : ℕ
  pub lasts : ℕ
  pub awaits : List ℕ
  pub starts : ℕ

-- such a row
abbrev pub row : ℕ → ℕ → List ℕ → ℕ → Row
row p t rs q = record { phase = p; lasts = t; awaits = rs; starts = q }

-- "NTU: Ready; 1 starts Gap, 300 ticks; C_r, 1,000; Quiet, 1,500; S_r until both 4 and 5 have come, in either order, during S_r;
-- T_r until 7; Settling, 1,000 ticks; Valid." Nothing but an 8 ends Valid. "After the silence the phase is Ready."
abbrev pub ntu_phases : ℕ → List Row
ntu_phases silence =
    row Ready 0 (1 ∷ []) Gap
    ∷ row Gap gap_ticks [] Cr
    ∷ row Cr cr_ticks [] Quiet
    ∷ row Quiet ntu_quiet_ticks [] Sr
    ∷ row Sr 0 (4 ∷ 5 ∷ []) Tr
    ∷ row Tr 0 (7 ∷ []) Settling
    ∷ row Settling settling_ticks [] Valid
    ∷ row Valid 0 [] Valid
    ∷ row Exception silence [] Ready
    ∷ []

-- "LTU: Ready; 1 starts Await; 2 starts Hearing; 3 starts Quiet, 500 ticks; S_c until it has lasted 5,000 ticks and 4 has come during it;
-- T_c until 6; F_c until 7; Settling, 1,000; Valid."
abbrev pub ltu_phases : ℕ → List Row
ltu_phases silence =
    row Ready 0 (1 ∷ []) Await
    ∷ row Await 0 (2 ∷ []) Hearing
    ∷ row Hearing 0 (3 ∷ []) Quiet
    ∷ row Quiet ltu_quiet_ticks [] Sc
    ∷ row Sc sc_ticks (4 ∷ []) Tc
    ∷ row Tc 0 (6 ∷ []) Fc
    ∷ row Fc 0 (7 ∷ []) Settling
    ∷ row Settling settling_ticks [] Valid
    ∷ row Valid 0 [] Valid
    ∷ row Exception silence [] Ready
    ∷ []

-- the phases of an end, LTU 0 and NTU 1
abbrev pub phases_of : ℕ → ℕ → List Row
phases_of end silence = cond (eqb end 1) (ntu_phases silence) (ltu_phases silence)

-- whether a phase is one of these
abbrev pub is_of : ℕ → List Row → Bool
is_of p [] = false
is_of p (r ∷ rs) = eqb p r.phase || is_of p rs

-- a phase's row; a phase that is none of these would stay for ever
abbrev pub row_of : ℕ → List Row → Row
row_of p [] = row p 0 [] p
row_of p (r ∷ rs) = cond (eqb p r.phase) r (row_of p rs)

-- "An attempt opens on entering C_r (NTU) or Hearing (LTU) and ends on entering Settling, or Exception."
abbrev pub in_attempt : ℕ → Bool
in_attempt p = leb Cr p && leb p Fc

-- whether a phase's ticks are counted: "In Ready, Await and Valid they aren't counted"
abbrev pub counts : ℕ → Bool
counts p = not (eqb p Ready || (eqb p Await || eqb p Valid))
