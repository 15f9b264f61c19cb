-- `symbol::Encoder::turn` meets its contract. Assumes nothing.
use mathlib.Core.Path.{ap, ap₂, ◌∙◌}
use Prim.Native.Nat.{ℕ, ◌+◌, ◌*◌}
use native.Mathlib.Omega.{arith}
use Rattle.symbol.specs.Encoder.{x2, x3, with_register}
use Rattle.symbol.proofs.Sent.{turn-parity, turn-register}
use Rattle.symbol.proofs.Runs.{encoder-in}
use Rattle.symbol.proofs.Encoder.turn.Goals as goal

pub overflow_mul-window : goal.overflow_mul-window
overflow_mul-window c = omega (arith, encoder-in c.args.self c.requires.0)

pub overflow_add-window : goal.overflow_add-window
overflow_add-window c = omega (arith, encoder-in c.args.self c.requires.0)

pub code-requires : goal.code-requires
code-requires c = (omega (arith, encoder-in c.args.self c.requires.0), c.requires.1)

pub returns : goal.returns
returns c =
    let a = c.args in
    let small = (encoder-in a.self c.requires.0).2 in
    let parity = turn-parity a.self.register a.symbol small c.requires.1 in (
      c.code.ensures
          ∙ ap₂ (λ (x y : ℕ). 8 * x3 a.symbol + 4 * x2 a.symbol + 2 * x + y) (parity a.self.a) (parity a.self.b),
      ap (with_register a.self) (turn-register a.self.register a.symbol small c.requires.1),
    )
