-- What the code computes, symbol by symbol. Assumes nothing.
use mathlib.Core.Bool.{Bool, true, false}
use mathlib.Core.List.{List, [], ◌∷◌}
use lib.IntN.{ℤ, ◌+ℤ◌, ◌-ℤ◌}
use Rattle.samples.specs.Samples.{past_after}
use Rattle.samples.proofs.Rounding.{nearest, fold_of}
use Rattle.precoder.specs.Precoder.{exact_sum, line_of}

-- the y that x goes out as
abbrev pub output_of : List ℤ → List ℤ → ℤ → ℤ
output_of coefficients past x = fold_of (x -ℤ nearest (exact_sum 180 coefficients past))

-- the x that goes out as y
abbrev pub input_of : List ℤ → List ℤ → ℤ → ℤ
input_of coefficients past y = fold_of (y +ℤ nearest (exact_sum 180 coefficients past))

-- either of them
abbrev pub turn_of : Bool → List ℤ → List ℤ → ℤ → ℤ
turn_of false coefficients past x = output_of coefficients past x
turn_of true coefficients past y = input_of coefficients past y

-- one after the other
unfoldable pub turned_of : Bool → List ℤ → List ℤ → List ℤ → List ℤ
turned_of back coefficients past [] = []
turned_of back coefficients past (z ∷ zs) =
    let w = turn_of back coefficients past z in
    w ∷ turned_of back coefficients (past_after past (line_of back z w)) zs

-- the ys that xs go out as
abbrev pub outputs_of : List ℤ → List ℤ → List ℤ → List ℤ
outputs_of coefficients past xs = turned_of false coefficients past xs

-- the xs that go out as ys
abbrev pub inputs_of : List ℤ → List ℤ → List ℤ → List ℤ
inputs_of coefficients past ys = turned_of true coefficients past ys
