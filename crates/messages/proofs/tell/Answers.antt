-- `messages::tell` meets its contract.
use mathlib.Core.Path.{◌≡◌, refl, ap, ◌∙◌}
use mathlib.Core.Bool.{Bool, true, false, cond}
use Prim.Native.Nat.{ℕ, ◌+◌}
use mir.Val.{bool_byte}
use Rattle.messages.specs.Messages.{is_good, is_taken}
use Rattle.messages.proofs.Laws.{told-ok, told-err}
use Rattle.messages.proofs.tell.Goals as goal
use Rattle.messages.proofs.tell.Goals.{in-Ok, in-Err}

-- one or none
counted : (b d : Bool) → b ≡ d → bool_byte b ≡ cond d 1 0
counted true d e = ap {B = ℕ} (λ (x : Bool). cond x 1 0) e
counted false d e = ap {B = ℕ} (λ (x : Bool). cond x 1 0) e

pub returns : goal.returns
returns c =
    let a = c.args in
    let s = a.octets.now in
    let l = c.line-line in
    let m = c.match-line in
    let told : (m.good.0 ≡ is_good s) × (m.good.1 ≡ is_taken a.own s) =
    elim m.branch [
      | in-Ok w ↦
          let k = told-ok s l.result.destination w.in-Ok.destination a.own w.in-Ok.is l.ensures.answered l.ensures.to in
          (ap (λ (p : Bool × Bool). p.0) w.good-is ∙ k.0, ap (λ (p : Bool × Bool). p.1) w.good-is ∙ w.is_meant.ensures ∙ k.1)
      | in-Err w ↦
          let k = told-err s l.result.destination _ a.own w.in-Err.is l.ensures.answered in
          (ap (λ (p : Bool × Bool). p.0) w.good-is ∙ k.0, ap (λ (p : Bool × Bool). p.1) w.good-is ∙ k.1)
    ] in (
      refl,
      ap (λ (n : ℕ). a.told.good + n) (c.from.ensures ∙ counted _ _ told.0),
      ap (λ (n : ℕ). a.told.taken + n) (c.from-2.ensures ∙ counted _ _ told.1),
    )
