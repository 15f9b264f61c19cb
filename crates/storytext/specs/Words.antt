-- How the code puts a log's end together: the table of its phrases (crate phrases), and the verdict in two parts.
use Rattle.std.specs.Prelude.{cond, List, [], ◌++◌, ℕ, eqb}
use Rattle.ascii.specs.Text.{text}
use Rattle.supervisor.specs.Phases.{in_attempt}
use Rattle.story.specs.declared.Story.{Story}
use Rattle.storytext.specs.Attempts.{trying_text, outcome_text}
use Rattle.storytext.specs.Ending.{now_text, then_text}

-- the phrases, a row each
unfoldable pub end_words : List ℕ
end_words =
    text "\n: C_r has not ended\n: own receiver has not converged\n: T_c has not been seen\n"
    ++ text ": own receiver has not converged, and T_c has not been seen\n: T_r has not been seen\n: the second F_c frame is not over\n"
    ++ text "end of log at tick # (@ s)$\nattempt # is still trying in \nattempt # ended in \n"
    ++ text "\n\n\nC_r\nHearing\nQuiet\nS_c\nS_r\nT_c\nT_r\nF_c\n"
    ++ text ", @ s of 15.000 s used\n, @ s left\ndata mode after @ s\nexception after @ s\n: time was up in \n: code 8, abnormal, came in \n"
    ++ text "; code 8, abnormal, ended data mode; \n; \nstill waiting in Ready for pre-activation to end, @ s so far\n"
    ++ text "still waiting in Gap for the attempt to open, @ s so far\nstill waiting in Await for C_r, @ s so far\n"
    ++ text "still silent in Exception, @ s so far\nstill in data mode, @ s so far\n: C_r has not been heard\n$\n"

-- what the verdict tells of an attempt
unfoldable pub attempt_part : Story → List ℕ
attempt_part s = cond (in_attempt s.state.phase) (trying_text s) (cond (eqb s.last.how 0) [] (outcome_text s))

-- and of what is now
unfoldable pub now_part : Story → List ℕ
now_part s = cond (in_attempt s.state.phase) [] (cond (eqb s.last.how 0) (now_text s) (then_text s))
