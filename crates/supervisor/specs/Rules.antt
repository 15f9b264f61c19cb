-- What a code does to a legal state, by the row of its phase.
use Rattle.std.specs.Prelude.{ℕ, ◌+◌, Bool, true, false, cond, not, ◌&&◌, ◌||◌, List, [], ◌∷◌, leb, ltb, eqb}
use Rattle.supervisor.specs.declared.Supervisor.{Supervisor}
use Rattle.supervisor.specs.Limits.{attempt_ticks, most_ticks}
use Rattle.supervisor.specs.Names.{Exception}
use Rattle.supervisor.specs.Phases.{Row, phases_of, row_of, in_attempt, counts}

-- a state in which the end and the silence stay
abbrev pub changed : Supervisor → ℕ → ℕ → ℕ → ℕ → ℕ → Supervisor
changed s p t a c e = record { end = s.end; phase = p; ticks = t; attempt = a; silence = s.silence; converged = c; seen = e }

-- "Phase ticks start at 0 on entering a phase." "On a change of phase every number or mark the new phase doesn't use becomes 0 or unheard,
-- save the silence, which every phase keeps": the marks begin unheard, and the attempt's ticks are a
abbrev pub entered : Supervisor → ℕ → ℕ → Supervisor
entered s p a = changed s p 0 a 0 0

-- the attempt's ticks go on from a phase of the attempt to the next, and else they are 0
abbrev pub carried : Row → ℕ → ℕ
carried r a = cond (in_attempt r.phase && in_attempt r.starts) a 0

-- "they stay at 59,999 once there if the phase goes on"
abbrev pub one_more : ℕ → ℕ
one_more t = cond (ltb t most_ticks) (t + 1) most_ticks

-- the phase goes on after a tick: without a change of phase unused numbers stay as handed in
abbrev pub counted : Supervisor → ℕ → Supervisor
counted s a = changed s s.phase (one_more s.ticks) a s.converged s.seen

-- a mark is heard where it is not 0
abbrev pub heard : ℕ → Bool
heard mark = not (eqb mark 0)

-- the mark of the report x: 4, own receiver converged, and 5, T_c seen, have one
abbrev pub marked : Supervisor → ℕ → Bool
marked s x = cond (eqb x 4) (heard s.converged) (cond (eqb x 5) (heard s.seen) false)

-- whether each of these reports has come in the phase, the code c the last
abbrev pub come : Supervisor → ℕ → List ℕ → Bool
come s c [] = true
come s c (x ∷ xs) = (eqb x c || marked s x) && come s c xs

-- whether the phase is over at t ticks, after the code c. "A phase's limit is reached at or over its number."
abbrev pub over : Row → Supervisor → ℕ → ℕ → Bool
over r s t c = come s c r.awaits && leb r.lasts t

-- "If the 15,000th tick since opening comes first, the state is Exception, even where the same tick would have ended a phase."
abbrev pub latest : Row → Supervisor → Bool
latest r s = in_attempt r.phase && leb attempt_ticks (s.attempt + 1)

-- code 0, one millisecond: the 15,000th tick first, then the phase's limit, then the hold at 59,999
abbrev pub on_tick : Row → Supervisor → Supervisor
on_tick r s =
    cond (counts r.phase)
    (cond (latest r s) (entered s Exception 0)
    (cond (over r s (s.ticks + 1) 0) (entered s r.starts (carried r (s.attempt + 1)))
    (counted s (cond (in_attempt r.phase) (s.attempt + 1) s.attempt))))
    s

-- its mark is heard and the phase goes on
abbrev pub told : Supervisor → ℕ → Supervisor
told s c = changed s s.phase s.ticks s.attempt (cond (eqb c 4) 1 s.converged) (cond (eqb c 5) 1 s.seen)

-- a report that the phase awaits: with it the phase may be over
abbrev pub on_report : Row → Supervisor → ℕ → Supervisor
on_report r s c = cond (over r s s.ticks c) (entered s r.starts (carried r s.attempt)) (told s c)

-- "Code 8 starts Exception from every phase, and there starts its silence again": no change of phase there, so unused numbers stay
abbrev pub on_abnormal : Row → Supervisor → Supervisor
on_abnormal r s =
    cond (eqb r.phase Exception) (changed s s.phase 0 s.attempt s.converged s.seen) (entered s Exception 0)

-- whether the report c is among these
abbrev pub among : ℕ → List ℕ → Bool
among c [] = false
among c (x ∷ xs) = eqb c x || among c xs

-- what a code does in a phase. "A report that a phase doesn't await changes nothing".
abbrev pub acted : Row → Supervisor → ℕ → Supervisor
acted r s c =
    cond (eqb c 0) (on_tick r s) (cond (eqb c 8) (on_abnormal r s) (cond (among c r.awaits) (on_report r s c) s))

-- the row of the phase that a state is in
abbrev pub here : Supervisor → Row
here s = row_of s.phase (phases_of s.end s.silence)

-- what a code does to a legal state
abbrev pub moved : Supervisor → ℕ → Supervisor
moved s c = acted (here s) s c
