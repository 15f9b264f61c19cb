-- `fcs::sequence` meets its contract.
use native.Mathlib.Omega.{arith}
use lib.ListN.{take}
use Rattle.octets.proofs.Digits.{turned_lt}
use Rattle.fcs.specs.Sequence.{register}
use Rattle.fcs.proofs.Laws.{sequenced}
use Rattle.fcs.proofs.sequence.Goals as goal

pub overflow_sub-result : goal.overflow_sub-result
overflow_sub-result c = omega (arith, c.behind_ones.ensures, turned_lt 16 (register (take c.args.n c.args.s.now)))

pub returns : goal.returns
returns c =
    let a = c.args in
    sequenced a.s.now a.n c.behind_ones.result c.behind_ones.ensures
