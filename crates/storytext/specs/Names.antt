-- A phase in words from the table of phases: its name, and what its row says that it lasts and waits for.
use Rattle.std.specs.Prelude.{ℕ, cond, List, [], ◌∷◌, ◌++◌, eqb, get_or}
use Prim.Native.String.{String}
use Rattle.ascii.specs.Text.{text}
use Rattle.supervisor.specs.Names.{Exception}
use Rattle.supervisor.specs.Phases.{Row}
use Rattle.storytext.specs.Events.{seconds, code_name}

-- the phases' names, by number
abbrev pub names : List String
names =
    "Ready" ∷ "Gap" ∷ "Await" ∷ "C_r" ∷ "Hearing" ∷ "Quiet" ∷ "S_c" ∷ "S_r" ∷ "T_c" ∷ "T_r" ∷ "F_c"
    ∷ "Settling" ∷ "Valid" ∷ "Exception" ∷ []

-- the reports that a phase waits for; where there is none, only an 8 ends it
unfoldable pub awaits_text : List ℕ → List ℕ
awaits_text [] = text "until " ++ code_name 8
awaits_text (c ∷ []) = text "until " ++ code_name c
awaits_text (c ∷ d ∷ cs) = text "until " ++ code_name c ++ text ", and " ++ code_name d

-- how long it lasts, what it waits for, or both
unfoldable pub rule_text : Row → List ℕ
rule_text r = cond (eqb r.phase Exception) (text "silent for " ++ seconds r.lasts) (rule_of r.lasts r.awaits)
  where
    rule_of : ℕ → List ℕ → List ℕ
    rule_of t [] = cond (eqb t 0) (awaits_text []) (seconds t)
    rule_of t (c ∷ cs) = cond (eqb t 0) (awaits_text (c ∷ cs)) (seconds t ++ text " and " ++ awaits_text (c ∷ cs))

-- the name and the rule
abbrev pub row_text : Row → List ℕ
row_text r = text (get_or names r.phase "") ++ text " (" ++ rule_text r ++ text ")"
