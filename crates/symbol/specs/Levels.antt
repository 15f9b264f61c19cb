-- Levels (000, clauses 4.1.6 and 4.3.3, table 3), in sixteenths.
use Rattle.std.specs.Prelude.{◌≡◌, Bool, false, cond, List, [], ◌∷◌, ℕ, suc, eqb, ltb, ℤ, pos, negsuc, neg_ℤ, get_or, Result, IfOk}
use Rattle.answer.specs.declared.Refused.{Refused}
use Rattle.answer.specs.Answer.{Refusal, refuse, answer}
use Rattle.answer.specs.Given.{answer_of}

-- activation: 0 gives -9/16, 1 gives +9/16
abbrev pub activation_levels : List ℤ
activation_levels = neg_ℤ (pos 9) ∷ pos 9 ∷ []

-- data: the sixteen levels at the places of their codes Y3..Y0. 1000 to 1011 are the four highest, and 1100 to 1111 lie below them
abbrev pub data_levels : List ℤ
data_levels =
    neg_ℤ (pos 15) ∷ neg_ℤ (pos 13) ∷ neg_ℤ (pos 11) ∷ neg_ℤ (pos 9) ∷ neg_ℤ (pos 7) ∷ neg_ℤ (pos 5) ∷ neg_ℤ (pos 3) ∷ neg_ℤ (pos 1)
    ∷ pos 9 ∷ pos 11 ∷ pos 13 ∷ pos 15
    ∷ pos 1 ∷ pos 3 ∷ pos 5 ∷ pos 7 ∷ []

-- the level at a place of such a list
abbrev pub level_at : List ℤ → ℕ → ℤ
level_at levels k = get_or levels k (pos 0)

-- whether two whole numbers are equal
abbrev pub same_level : ℤ → ℤ → Bool
same_level (pos m) (pos n) = eqb m n
same_level (pos m) (negsuc n) = false
same_level (negsuc m) (pos n) = false
same_level (negsuc m) (negsuc n) = eqb m n

-- going back: the first place of a level in such a list, and the list's length where it is not there
unfoldable pub place_in : List ℤ → ℤ → ℕ
place_in [] z = 0
place_in (level ∷ levels) z = cond (same_level level z) 0 (suc (place_in levels z))

-- an activation bit over 1 is 4
abbrev pub activation_tests : ℕ → List Refusal
activation_tests bit = refuse 4 (ltb 1 bit) ∷ []

-- a code over 15 is 4
abbrev pub data_tests : ℕ → List Refusal
data_tests code = refuse 4 (ltb 15 code) ∷ []

-- a level that is none of the sixteen is 4
abbrev pub back_tests : ℤ → List Refusal
back_tests level = refuse 4 (ltb 15 (place_in data_levels level)) ∷ []

-- what `activation_level` gives back
pub record ActivationLevel (bit : ℕ) (r : Result ℤ Refused) : Type 0 where
  pub answered : answer_of r ≡ answer (activation_tests bit)
  pub level : IfOk r (λ z. z ≡ level_at activation_levels bit)

-- what `data_level` gives back
pub record DataLevel (code : ℕ) (r : Result ℤ Refused) : Type 0 where
  pub answered : answer_of r ≡ answer (data_tests code)
  pub level : IfOk r (λ z. z ≡ level_at data_levels code)

-- what `level_code` gives back
pub record LevelCode (level : ℤ) (r : Result ℕ Refused) : Type 0 where
  pub answered : answer_of r ≡ answer (back_tests level)
  pub code : IfOk r (λ n. n ≡ place_in data_levels level)
