-- For private functions only; no promise of a public function names this.
use Rattle.std.specs.Prelude.{◌≡◌, Result, IfOk, List, ℕ, ◌≤◌, length, take}
use Rattle.answer.specs.Answer.{answer}
use Rattle.answer.specs.declared.Refused.{Refused}
use Rattle.answer.specs.Given.{answer_of}
use Rattle.eoc.specs.Reading.{fields_in}
use Rattle.eoc.specs.Refusals.{form_refusals}

-- n octets between the flags, without escapes, stand at the front
pub record AtFront (s : List ℕ) (n : ℕ) (exit : List ℕ) : Type 0 where
  pub size : n ≡ length (fields_in s)
  pub least : 4 ≤ n
  pub most : n ≤ 77
  pub front : take n exit ≡ fields_in s

-- judge: the answer; where it is 0 the octets between the flags, without escapes, stand at the front
pub record Judges (s : List ℕ) (r : Result ℕ Refused) (exit : List ℕ) : Type 0 where
  pub answered : answer_of r ≡ answer (form_refusals s)
  pub judged : IfOk r (λ n. AtFront s n exit)
