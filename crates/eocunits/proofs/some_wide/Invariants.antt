use mathlib.Core.Path.{◌≡◌}
use Prim.Native.Nat.{◌%◌}
use lib.ListN.{length}
use Rattle.std.specs.Slice.Iter.{chunks_exact_rest, chunks_exact_size}
use Rattle.eocunits.specs.Units.{records_in, some_wide}
use Rattle.eocunits.proofs.some_wide.Given as goal

abbrev pub invariant-loop-unit : goal.invariant-loop-unit
invariant-loop-unit l =
    let rest = chunks_exact_rest l.unit-iterator in
    (chunks_exact_size l.unit-iterator ≡ 79) × (length rest % 79 ≡ 0) × (some_wide (records_in rest) ≡ some_wide (records_in l.units))
