-- `remainder::check_bits` meets its contract.
use mathlib.Core.Path.{sym, subst}
use lib.Dec.{lit≤}
use lib.ListN.{drop}
use Rattle.octets.specs.Bits.{bits_of, part}
use Rattle.octets.proofs.Digits.{take-bits, drop_bits}
use Rattle.octets.proofs.Laws.{bits-bits}
use Rattle.remainder.specs.Division.{Remainder, generator}
use Rattle.remainder.proofs.Division.{exists}
use Rattle.remainder.proofs.Errors.{generator-degree}
use Rattle.remainder.proofs.check_bits.Goals as goal

pub returns : goal.returns
returns c =
    let a = c.args in
    let B = bits_of a.s.now in
    let P = part a.at a.n B in
    subst (Remainder 16 generator P) (sym c.after.ensures)
    (exists 16 generator (lit≤ tt) generator-degree P (take-bits a.n (drop a.at B) (drop_bits a.at B (bits-bits a.s.now))))
