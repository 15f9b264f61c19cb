use mathlib.Core.Path.{◌≡◌}
use mathlib.Core.List.{List, ◌++◌}
use Prim.Native.Nat.{ℕ, ◌≤◌}
use lib.IntN.{ℤ, pos}
use lib.ListN.{length, take, replicate}
use Rattle.numbers.specs.Promises.{numbers_of}
use Rattle.numbers.proofs.numbers.Given as goal

-- the numbers of octets and 180 zeros behind them
abbrev pub padded : List ℕ → List ℤ
padded os = numbers_of os ++ replicate 180 (pos 0)

abbrev pub invariant-loop-k : goal.invariant-loop-k
invariant-loop-k l = (l.k ≤ 180) × (length l.into ≡ 180) × (take l.k l.into ≡ take l.k (padded l.octets))
