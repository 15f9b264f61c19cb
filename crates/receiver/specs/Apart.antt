-- How many sync words stand among n places from b on.
use Rattle.std.specs.Prelude.{cond, List, ℕ, zero, suc, ◌+◌}
use Rattle.receiver.specs.Stream.{synced}

-- the places where one stands, counted
unfoldable pub syncs : List ℕ → ℕ → ℕ → ℕ
syncs bits b zero = 0
syncs bits b (suc n) = cond (synced bits b) 1 0 + syncs bits (suc b) n
