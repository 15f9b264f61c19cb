-- `receiver::Heard::taken` meets its contract.
use mathlib.Core.Path.{refl, sym, ap, subst, ◌∙◌}
use mathlib.Core.List.{List}
use Prim.Native.Nat.{ℕ}
use native.Mathlib.Omega.{arith}
use borrow.Author.Tests.{eq-eqb, ne_eqb}
use lib.ListN.{length}
use Rattle.answer.specs.Answer.{answer}
use Rattle.layout.specs.Refusals.{check_refusals}
use Rattle.octets.specs.Bits.{bits_of}
use Rattle.octets.proofs.Laws.{Octets}
use Rattle.receiver.proofs.Laws.{frame-size, frame-octets, whole-copied}
use Rattle.receiver.proofs.Heard.taken.Goals as goal

pub returns-then-answered-ne-DONE : goal.returns-then-answered-ne-DONE
returns-then-answered-ne-DONE c =
    (sym (ne_eqb _ _ (λ k. c.if-answered-ne-DONE.true (c.answered.ensures ∙ c.check.ensures.answered ∙ ap (λ (t : List ℕ). answer (check_refusals t)) c.descrambled.ensures ∙ k))), refl)

pub returns : goal.returns
returns c =
    let a = c.args in (
      sym (eq-eqb _ _ (ap (λ (t : List ℕ). answer (check_refusals t)) (sym c.descrambled.ensures) ∙ sym c.check.ensures.answered ∙ sym c.answered.ensures ∙ c.if-answered-ne-DONE.false)),
      c.copy.ensures
          ∙ whole-copied a.frame.now c.descrambled.new.plain 529
          (λ i. omega (arith, c.slice_known-1.given i))
          (subst Octets (sym c.descrambled.ensures) (frame-octets a.self.end a.self.octets.now a.at)) c.requires.2
          (ap length c.descrambled.ensures ∙ frame-size a.self.end (bits_of a.self.octets.now) a.at) ∙ c.descrambled.ensures,
    )
