-- `remainder::from_start` meets its contract.
use mathlib.Core.Path.{◌≡◌, sym, ap, ap₂, subst, ◌∙◌}
use Prim.Native.Nat.{ℕ, ◌^◌, ◌<◌}
use Rattle.octets.specs.Bits.{bits_of, part}
use Rattle.answer.specs.Answer.{answer}
use Rattle.answer.specs.Given.{answer_of}
use Rattle.remainder.specs.Division.{Degree, generator}
use Rattle.remainder.specs.Promises.{start_refusals}
use Rattle.remainder.specs.Register.{register_of}
use Rattle.remainder.proofs.Errors.{generator-degree}
use Rattle.remainder.proofs.Period.{six-degree}
use Rattle.remainder.proofs.Start.{start-sound, degree-one, from-done}
use Rattle.remainder.proofs.from_start.Goals as goal

-- the degree of the generator that it is, where nothing is refused
degree-is : (generator degree start g k : ℕ) → answer (start_refusals generator degree start) ≡ 0 → Degree g k → generator ≡ g → degree ≡ k
degree-is generator degree start g k n d e = degree-one g k degree d (subst (λ (x : ℕ). Degree x degree) e (start-sound generator degree start n).2)

pub six_after-requires : goal.six_after-requires
six_after-requires c =
    let a = c.args in
    let sound = sym c.allowed.ensures ∙ ap answer_of c.in_ok-allowed.was in
    subst (λ (k : ℕ). a.start < 2 ^ k) (degree-is a.generator a.degree a.start 67 6 sound six-degree c.in-67.is)
    (start-sound a.generator a.degree a.start sound).3

pub returns-in-69665 : goal.returns-in-69665
returns-in-69665 c =
    let a = c.args in
    let sound = sym c.allowed.ensures ∙ ap answer_of c.in_ok-allowed.was in
    let g = c.in-69665.is in
    record {
      answered = sym sound;
      given =
          from-done a.generator a.degree a.start a.s.now a.at a.n c.after.result sound
          (c.after.ensures
          ∙ ap₂ (λ (k x : ℕ). register_of k x a.start (part a.at a.n (bits_of a.s.now))) (sym (degree-is a.generator a.degree a.start generator 16 sound generator-degree g)) (sym g));
    }

pub returns-in-67 : goal.returns-in-67
returns-in-67 c =
    let a = c.args in
    let sound = sym c.allowed.ensures ∙ ap answer_of c.in_ok-allowed.was in
    let g = c.in-67.is in
    record {
      answered = sym sound;
      given =
          from-done a.generator a.degree a.start a.s.now a.at a.n c.six_after.result sound
          (c.six_after.ensures
          ∙ ap₂ (λ (k x : ℕ). register_of k x a.start (part a.at a.n (bits_of a.s.now))) (sym (degree-is a.generator a.degree a.start 67 6 sound six-degree g)) (sym g));
    }

pub returns-in_default : goal.returns-in_default
returns-in_default c =
    let a = c.args in
    let sound = sym c.allowed.ensures ∙ ap answer_of c.in_ok-allowed.was in
    record { answered = sym sound; given = from-done a.generator a.degree a.start a.s.now a.at a.n c.by_bits.result sound c.by_bits.ensures }
