-- What remains of the room takes what remains of the fields: those before place k are there, and the reader stands behind them.
use mathlib.Core.Path.{◌≡◌}
use mathlib.Core.List.{◌++◌}
use Prim.Native.Nat.{◌-◌, ◌≤◌}
use lib.ListN.{length, take}
use Rattle.walk.specs.Promises.{signed_from, behind_all}
use Rattle.walk.proofs.fill_signed.Given as goal

abbrev pub invariant-loop-k : goal.invariant-loop-k
invariant-loop-k l =
    (l.k ≤ length l.initial.into)
    × (l.r.frame ≡ l.initial.r.frame)
    × (signed_from l.r.frame.now l.initial.r.at l.w (length l.initial.into) ≡ take l.k l.into ++ signed_from l.r.frame.now l.r.at l.w (length l.initial.into - l.k))
    × (behind_all l.initial.r.at l.w (length l.initial.into) ≡ behind_all l.r.at l.w (length l.initial.into - l.k))
