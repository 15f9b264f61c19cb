-- `datachecker::announced` meets its contract.
use native.Mathlib.Omega.{arith}
use Rattle.datachecker.proofs.Laws.{announced-in}
use Rattle.datachecker.proofs.announced.Goals as goal

pub returns-in-Plesiochronous : goal.returns-in-Plesiochronous
returns-in-Plesiochronous c = (
  announced-in c.args.room c.in-Plesiochronous.is c.block-m.result c.piece.result c.block-m.ensures c.piece.ensures.0,
  omega (arith, c.piece.ensures.1),
)
