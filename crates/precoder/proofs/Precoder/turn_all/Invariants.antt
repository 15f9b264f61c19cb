use mathlib.Core.Path.{◌≡◌}
use mathlib.Core.Bool.{Bool, true}
use mathlib.Core.List.{List, ◌++◌}
use Prim.Native.Nat.{◌*◌}
use lib.IntN.{ℤ}
use lib.ListN.{length, take, drop}
use Rattle.numbers.specs.Promises.{numbers_of, number_octets}
use Rattle.ranges.specs.Ranges.{every}
use Rattle.samples.specs.Samples.{is_signal}
use Rattle.precoder.specs.Directions.{is_back}
use Rattle.precoder.specs.Runs.{past_after_all, lines_of}
use Rattle.precoder.proofs.Recipe.{turned_of}
use Rattle.precoder.proofs.Precoder.turn_all.Given as goal

-- the past after the symbols zs
abbrev pub end : Bool → List ℤ → List ℤ → List ℤ → List ℤ
end back coefficients past zs = past_after_all past (lines_of back zs (turned_of back coefficients past zs))

abbrev pub invariant-loop-i : goal.invariant-loop-i
invariant-loop-i l =
    (length l.room ≡ length l.initial.room) × (l.self.taps ≡ l.initial.self.taps)
    × (take (4 * l.i) l.room ++ number_octets (turned_of (is_back l.fn.direction) l.initial.self.taps.now l.self.past (drop l.i (numbers_of l.symbols)))
    ≡ number_octets (turned_of (is_back l.fn.direction) l.initial.self.taps.now l.initial.self.past (numbers_of l.symbols)))
    × (end (is_back l.fn.direction) l.initial.self.taps.now l.self.past (drop l.i (numbers_of l.symbols)) ≡ end (is_back l.fn.direction) l.initial.self.taps.now l.initial.self.past (numbers_of l.symbols))
    × (every is_signal (drop l.i (numbers_of l.symbols)) ≡ true)
