-- The text of a log's end, two lines, of which the second is the verdict; and of a refusal.
use Rattle.std.specs.Prelude.{◌≡◌, Bool, cond, ◌||◌, List, [], ◌++◌, ℕ, ◌-◌, eqb}
use Rattle.ascii.specs.Text.{text, decimal}
use Rattle.supervisor.specs.declared.Supervisor.{Supervisor}
use Rattle.supervisor.specs.Limits.{gap_ticks, settling_ticks}
use Rattle.supervisor.specs.Names.{Ready, Gap, Await, Settling, Valid, Exception}
use Rattle.supervisor.specs.Phases.{in_attempt}
use Rattle.story.specs.declared.Story.{Story}
use Rattle.storytext.specs.Events.{numbered, seconds, ticks_text}
use Rattle.storytext.specs.Attempts.{trying_text, outcome_text}

-- ---- outside an attempt

-- Settling and Valid
abbrev pub in_data_mode : ℕ → Bool
in_data_mode p = eqb p Settling || eqb p Valid

-- in_data_mode
abbrev pub InDataMode : Story → Bool → Type 0
InDataMode s r = r ≡ in_data_mode s.state.phase

-- how long a phase outside an attempt lasts
abbrev pub lasts : ℕ → ℕ → ℕ
lasts silence p = cond (eqb p Gap) gap_ticks (cond (eqb p Settling) settling_ticks silence)

-- time that is left
unfoldable pub rest_text : ℕ → List ℕ
rest_text t = text ", " ++ seconds t ++ text " left"

-- what it has left, where it has a limit
unfoldable pub left_text : Supervisor → List ℕ
left_text s =
    cond (eqb s.phase Gap || (eqb s.phase Settling || eqb s.phase Exception)) (rest_text (lasts s.silence s.phase - s.ticks)) []

-- what the card does there
unfoldable pub wait_text : ℕ → List ℕ
wait_text p =
    cond (eqb p Ready) (text "still waiting in Ready for pre-activation to end, ")
    (cond (eqb p Gap) (text "still waiting in Gap for the attempt to open, ")
    (cond (eqb p Await) (text "still waiting in Await for C_r, ")
    (cond (eqb p Exception) (text "still silent in Exception, ")
    (text "still in data mode, "))))

-- what has not come
unfoldable pub unheard_text : ℕ → List ℕ
unheard_text p = cond (eqb p Await) (text ": C_r has not been heard") []

-- the phase, for how long, and what is left of it
unfoldable pub now_text : Story → List ℕ
now_text s =
    wait_text s.state.phase ++ seconds (s.clock - s.entered) ++ text " so far" ++ left_text s.state ++ unheard_text s.state.phase

-- only an 8 ends data mode
unfoldable pub behind_text : ℕ → List ℕ
behind_text how = cond (eqb how 2) (text "; code 8, abnormal, ended data mode; ") (text "; ")

-- what came then: nothing, while data mode lasts
unfoldable pub then_text : Story → List ℕ
then_text s = cond (in_data_mode s.state.phase) [] (behind_text s.last.how ++ now_text s)

-- the last attempt has ended, and what came then
unfoldable pub ended_text : Story → List ℕ
ended_text s = outcome_text s ++ then_text s

-- ---- the end of the log

-- THE VERDICT: an attempt that is still trying; no attempt yet; or how the last one ended
unfoldable pub verdict_text : Story → List ℕ
verdict_text s = cond (in_attempt s.state.phase) (trying_text s) (cond (eqb s.last.how 0) (now_text s) (ended_text s))

-- the line of its last tick
unfoldable pub last_tick : ℕ → List ℕ
last_tick t = text "end of log at tick " ++ ticks_text t ++ text "\n"

-- THE LINES OF THE LOG'S END: its last tick, and the verdict
unfoldable pub end_text : Story → List ℕ
end_text s = last_tick s.clock ++ verdict_text s ++ text "\n"

-- why a log is refused
unfoldable pub reason_text : ℕ → List ℕ
reason_text n =
    cond (eqb n 1) (text ": the log has more than 1048576 octets")
    (cond (eqb n 2) (text ": this line is no code")
    (cond (eqb n 4) (text ": no line counts so many ticks, or the log has over 1000000000")
    []))

-- what is refused, on which line of the log, and why
unfoldable pub refused_text : ℕ → ℕ → List ℕ
refused_text n l = numbered "refused " n " at line " ++ decimal l ++ reason_text n ++ text "\n"
