-- The text of a log's end in an attempt, and of how an attempt ended.
use Rattle.std.specs.Prelude.{cond, ◌||◌, List, [], ◌++◌, ℕ, ◌-◌, eqb}
use Rattle.ascii.specs.Text.{text}
use Rattle.supervisor.specs.declared.Supervisor.{Supervisor}
use Rattle.supervisor.specs.Limits.{attempt_ticks}
use Rattle.supervisor.specs.Names.{Cr, Hearing, Quiet, Sc, Sr, Tc, Tr, Fc}
use Rattle.story.specs.declared.Outcome.{Outcome}
use Rattle.story.specs.declared.Story.{Story}
use Rattle.storytext.specs.Events.{numbered, seconds}

-- a phase of an attempt by its name alone
unfoldable pub short_name : ℕ → List ℕ
short_name p =
    cond (eqb p Cr) (text "C_r")
    (cond (eqb p Hearing) (text "Hearing")
    (cond (eqb p Quiet) (text "Quiet")
    (cond (eqb p Sc) (text "S_c")
    (cond (eqb p Sr) (text "S_r")
    (cond (eqb p Tc) (text "T_c")
    (cond (eqb p Tr) (text "T_r")
    (cond (eqb p Fc) (text "F_c")
    [])))))))

-- what the phase of an attempt still lacks beside time
abbrev pub lack_of : Supervisor → ℕ
lack_of s =
    cond (eqb s.phase Hearing) 1
    (cond (eqb s.phase Sc) (cond (eqb s.converged 0) 2 0)
    (cond (eqb s.phase Sr) (cond (eqb s.converged 0) (cond (eqb s.seen 0) 4 2) (cond (eqb s.seen 0) 3 0))
    (cond (eqb s.phase Tc) 5
    (cond (eqb s.phase Tr || eqb s.phase Fc) 6 0))))

-- in words
unfoldable pub lack_text : ℕ → List ℕ
lack_text n =
    cond (eqb n 1) (text ": C_r has not ended")
    (cond (eqb n 2) (text ": own receiver has not converged")
    (cond (eqb n 3) (text ": T_c has not been seen")
    (cond (eqb n 4) (text ": own receiver has not converged, and T_c has not been seen")
    (cond (eqb n 5) (text ": T_r has not been seen")
    (cond (eqb n 6) (text ": the second F_c frame is not over")
    [])))))

-- the time that it has used of 15,000 ticks, and has left
unfoldable pub used_text : ℕ → List ℕ
used_text t = seconds t ++ text " of 15.000 s used, " ++ seconds (attempt_ticks - t) ++ text " left"

-- still trying: the phase, the time, and what is lacking
unfoldable pub trying_text : Story → List ℕ
trying_text s =
    numbered "attempt " s.attempts " is still trying in " ++ short_name s.state.phase ++ text ", " ++ used_text s.state.attempt
    ++ lack_text (lack_of s.state)

-- how an attempt ended
unfoldable pub how_text : ℕ → List ℕ
how_text how = cond (eqb how 2) (text "data mode after ") (text "exception after ")

-- what ended it in the exception state: its 15,000th tick, or an 8
unfoldable pub cause_text : ℕ → List ℕ
cause_text c = cond (eqb c 0) (text ": time was up in ") (text ": code 8, abnormal, came in ")

-- why it did not end in data mode, and in which phase
unfoldable pub why_text : Outcome → List ℕ
why_text o = cond (eqb o.how 2) [] (cause_text o.code ++ short_name o.phase)

-- the last attempt has ended: how, after how long, and why
unfoldable pub outcome_text : Story → List ℕ
outcome_text s = numbered "attempt " s.attempts " ended in " ++ how_text s.last.how ++ seconds s.last.ticks ++ why_text s.last
