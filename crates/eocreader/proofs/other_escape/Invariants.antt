use mathlib.Core.Path.{◌≡◌}
use Prim.Native.Nat.{◌-◌, ◌≤◌}
use lib.ListN.{length, drop}
use Rattle.std.specs.Slice.Iter.{windows_rest, windows_size}
use Rattle.eocreader.proofs.Laws.{Others}
use Rattle.eocreader.proofs.other_escape.Given as goal

abbrev pub invariant-loop-pair : goal.invariant-loop-pair
invariant-loop-pair l =
    let rest = windows_rest l.pair-iterator in
    let all = drop 1 l.s in
    (windows_size l.pair-iterator ≡ 2) × (1 ≤ length rest) × (length rest ≤ length all) × (rest ≡ drop (length all - length rest) all)
    × Others l.s (length l.s - 1) l.other (length l.s - length rest)
