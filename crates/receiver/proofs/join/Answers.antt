-- `receiver::join` meets its contract.
use mathlib.Core.Path.{◌≡◌, subst}
use mathlib.Core.List.{List}
use Prim.Native.Nat.{ℕ}
use Rattle.octets.specs.Bits.{bits_of, part, laid}
use Rattle.receiver.proofs.Laws.{joined-bits}
use Rattle.receiver.proofs.join.Goals as goal

pub returns : goal.returns
returns c =
    let a = c.args in
    joined-bits a.line.now a.lump.now c.copy.new.s c.copy-2.new.s a.bits c.requires.1 c.requires.2 c.requires.3
    (subst (λ (s : List ℕ). c.copy.new.s ≡ laid s 0 (part 0 4256 (bits_of a.line.now))) c.requires.0 c.copy.ensures) c.copy-2.ensures
