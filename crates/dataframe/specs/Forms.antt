-- The two forms by their numbers (002, clause 7.1.5).
use Rattle.std.specs.Prelude.{◌≡◌, ℕ, ◌<◌, Result, MatchResult}
use Rattle.answer.specs.declared.Refused.{Refused}
use Rattle.answer.specs.declared.Refused.TheVariants.{Unknown}
use Rattle.dataframe.specs.declared.Form.{Form}
use Rattle.dataframe.specs.declared.Form.TheVariants.{Synchronous, Plesiochronous}
use Rattle.dataframe.specs.Table.{synchronous, plesiochronous}

-- a form's number
abbrev pub form_number : Form → ℕ
form_number Synchronous = synchronous
form_number Plesiochronous = plesiochronous

-- the form of a number; no form has a higher one
abbrev pub FormGiven : ℕ → Result Form Refused → Type 0
FormGiven n r = MatchResult r (λ f. form_number f ≡ n) (λ e. (e ≡ Unknown) × (plesiochronous < n))
