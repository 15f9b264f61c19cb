-- `symbol::Encoder::code` meets its contract. Assumes nothing.
use native.Mathlib.Omega.{arith}
use Rattle.symbol.proofs.Sent.{window-parity}
use Rattle.symbol.proofs.Encoder.code.Goals as goal

pub returns : goal.returns
returns c =
    let a = c.args in
    let h = c.requires.0 in
    omega (arith, window-parity a.self.a a.window h, window-parity a.self.b a.window h)
