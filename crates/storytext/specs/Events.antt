-- The text of a story's events, a line for each.
use Rattle.std.specs.Prelude.{cond, List, [], ◌++◌, ℕ, eqb}
use Prim.Native.String.{String}
use Rattle.ascii.specs.Text.{text, decimal}
use Rattle.phrases.specs.Phrases.{thousandths}
use Rattle.supervisor.specs.declared.Supervisor.{Supervisor}
use Rattle.supervisor.specs.Names.{Ready, Gap, Await, Cr, Hearing, Quiet, Sc, Sr, Tc, Tr, Fc, Settling, Valid, Exception}
use Rattle.story.specs.Events.{Event}

-- ---- numbers

-- a number between words
abbrev pub numbered : String → ℕ → String → List ℕ
numbered before n after = text before ++ decimal n ++ text after

-- ticks, which are milliseconds, in seconds: "2.800 s"
unfoldable pub seconds : ℕ → List ℕ
seconds t = thousandths t ++ text " s"

-- ticks with the seconds beside them: "2800 (2.800 s)"
unfoldable pub ticks_text : ℕ → List ℕ
ticks_text t = decimal t ++ text " (" ++ seconds t ++ text ")"

-- ---- reports and phases

-- a report's name in SCOPE
unfoldable pub report_name : ℕ → List ℕ
report_name c =
    cond (eqb c 1) (text "pre-activation ended")
    (cond (eqb c 2) (text "C_r begins")
    (cond (eqb c 3) (text "C_r has ended")
    (cond (eqb c 4) (text "own receiver converged")
    (cond (eqb c 5) (text "T_c seen")
    (cond (eqb c 6) (text "T_r seen")
    (cond (eqb c 7) (text "second F_c frame over")
    (cond (eqb c 8) (text "abnormal")
    [])))))))

-- a code with its name: "code 5, T_c seen"
abbrev pub code_name : ℕ → List ℕ
code_name c = numbered "code " c ", " ++ report_name c

-- a phase by its name in the paper, and what it lasts or waits for; Quiet lasts longer at the NTU
unfoldable pub name_of : ℕ → ℕ → List ℕ
name_of end p =
    cond (eqb p Ready) (text "Ready (until code 1, pre-activation ended)")
    (cond (eqb p Gap) (text "Gap (0.300 s)")
    (cond (eqb p Await) (text "Await (until code 2, C_r begins)")
    (cond (eqb p Cr) (text "C_r (1.000 s)")
    (cond (eqb p Hearing) (text "Hearing (until code 3, C_r has ended)")
    (cond (eqb p Quiet) (cond (eqb end 1) (text "Quiet (1.500 s)") (text "Quiet (0.500 s)"))
    (cond (eqb p Sc) (text "S_c (5.000 s and until code 4, own receiver converged)")
    (cond (eqb p Sr) (text "S_r (until code 4, own receiver converged, and code 5, T_c seen)")
    (cond (eqb p Tc) (text "T_c (until code 6, T_r seen)")
    (cond (eqb p Tr) (text "T_r (until code 7, second F_c frame over)")
    (cond (eqb p Fc) (text "F_c (until code 7, second F_c frame over)")
    (cond (eqb p Settling) (text "Settling (1.000 s)")
    (cond (eqb p Valid) (text "Valid (until code 8, abnormal)")
    (text "no phase")))))))))))))

-- the exception state is named with its silence
unfoldable pub phase_text : Supervisor → List ℕ
phase_text s = cond (eqb s.phase Exception) (text "Exception (silent for " ++ seconds s.silence ++ text ")") (name_of s.end s.phase)

-- ---- an event

-- what an event is; an attempt that ends in the exception state on a tick ends on its 15,000th
unfoldable pub verb_of : ℕ → ℕ → List ℕ
verb_of kind c =
    cond (eqb kind 1) (text "opens: ")
    (cond (eqb kind 2) (text "ends in data mode: ")
    (cond (eqb kind 3) (cond (eqb c 0) (text "time is up, ends in exception: ") (text "ends in exception: "))
    (cond (eqb kind 5) (text "silence starts again: ")
    (cond (eqb kind 6) (text "heard, still ")
    (cond (eqb kind 7) (text "changes nothing, still ")
    [])))))

-- the attempt that it came in, and the attempt's tick
unfoldable pub attempt_text : ℕ → ℕ → List ℕ
attempt_text k t = cond (eqb k 0) [] (numbered "attempt " k ", tick " ++ ticks_text t ++ text ": ")

-- the code that did it, where it is no tick
unfoldable pub code_text : ℕ → List ℕ
code_text c = cond (eqb c 0) [] (code_name c ++ text ": ")

-- where it stands: the tick since the log began, and the attempt and its tick
unfoldable pub when_text : ℕ → ℕ → ℕ → List ℕ
when_text clock k t = text "tick " ++ ticks_text clock ++ text ": " ++ attempt_text k t

-- THE LINE OF AN EVENT: where it stands, the code, what it is, and the phase then
unfoldable pub event_text : Event → List ℕ
event_text e =
    when_text e.story.clock e.attempt e.ticks ++ code_text e.code ++ verb_of e.kind e.code ++ phase_text e.story.state ++ text "\n"
