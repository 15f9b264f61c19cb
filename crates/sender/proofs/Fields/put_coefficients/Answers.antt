-- `sender::Fields::put_coefficients` meets its contract: the first `count` numbers, and zero behind them.
use mathlib.Core.Path.{◌≡◌, ap, ap₂, ◌∙◌}
use mathlib.Core.List.{List, ◌++◌, append-nil}
use Prim.Native.Nat.{ℕ, ◌-◌}
use native.Mathlib.Omega.{arith}
use lib.IntN.{ℤ, pos}
use lib.ListN.{length, take, replicate}
use lib.Seq.{length-take-le, take_all}
use Rattle.octets.specs.Bits.{laid}
use Rattle.octets.specs.Signed.{number_bits}
use Rattle.sender.proofs.Laws.{coefficients-put}
use Rattle.sender.proofs.Fields.put_coefficients.Goals as goal

pub returns : goal.returns
returns c =
    let t = c.clear in
    let s = c.put_signed_fields in
    let a = c.args in
    let f = a.frame.now in
    let cs = a.self.coefficients.now in
    let n : a.self.count - 0 ≡ a.self.count = omega arith in
    let size : length (take a.self.count cs) ≡ a.self.count = length-take-le a.self.count cs (omega arith) in
    let none : a.self.count - length (take a.self.count cs) ≡ 0 = omega (arith, size) in
    let put : s.new.s ≡ laid f 14 (number_bits 22 (take a.self.count cs)) =
    s.ensures
    ∙ ap (λ (k : ℕ). laid f 14 (number_bits 22 (take a.self.count (take k cs) ++ replicate (a.self.count - length (take k cs)) (pos 0)))) n
    ∙ ap₂ (λ (l : List ℤ) (k : ℕ). laid f 14 (number_bits 22 (l ++ replicate k (pos 0)))) (take_all a.self.count (take a.self.count cs) (omega (arith, size))) none
    ∙ ap (λ (l : List ℤ). laid f 14 (number_bits 22 l)) (append-nil (take a.self.count cs)) in
    coefficients-put f cs a.self.count c.requires a.self.all s.new.s t.new.s put t.ensures
