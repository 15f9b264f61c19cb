use mathlib.Core.Path.{◌≡◌}
use lib.ListN.{drop}
use Rattle.eoclisting.specs.Contents.{string_length}
use Rattle.eoclisting.proofs.Laws.{length_from}
use Rattle.eoclisting.proofs.string_length.Given as goal

abbrev pub invariant-loop-k : goal.invariant-loop-k
invariant-loop-k l = length_from l.last l.k (string_length (drop l.k l.field)) ≡ string_length l.field
