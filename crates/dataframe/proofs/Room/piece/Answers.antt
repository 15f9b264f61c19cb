-- `dataframe::Room::piece` meets its contract.
use mathlib.Core.Path.{sym, subst}
use Prim.Native.Nat.{ℕ, ◌^◌, ◌<◌, min}
use Rattle.octets.proofs.Laws.{part-lt}
use Rattle.dataframe.proofs.Room.piece.Goals as goal

pub returns : goal.returns
returns c =
    let w = min c.args.w 32 in
    (c.field.ensures, subst (λ (n : ℕ). n < 2 ^ w) (sym c.field.ensures) (part-lt c.args.self.octets.now c.args.at w))
