-- The numbers of the totals add up to the cards. Assumes nothing.
use mathlib.Core.Path.{◌≡◌, refl, ap, ◌∙◌}
use mathlib.Core.Bool.{Bool}
use mathlib.Core.List.{List, [], ◌∷◌}
use Prim.Native.Nat.{ℕ, suc, ◌+◌, ◌-◌, ◌≤◌}
use native.Mathlib.Omega.{arith}
use lib.ListN.{length}
use Rattle.verdict.specs.declared.Customer.{Customer}
use Rattle.card.specs.Ranks.{good, verdicts, unreadable}
use Rattle.verdict.specs.Verdict.{refused_verdict, verdict_of}
use Rattle.verdict.proofs.Ranks.{within, unread-within}
use Rattle.totals.specs.Totals.{how_many, fine}
use Rattle.totals.proofs.Counting.{counted_below, AllBelow, all-counted, fine-and-not}

-- a card: a file that was read, by its octets, or one that cannot be read
pub data Card : Type 0 where
  read : List ℕ → Card
  unread : Card

-- its verdict beside a customer, or beside none
abbrev pub rank_of : Customer → Card → ℕ
rank_of k (read frame) = (verdict_of frame k).rank
rank_of k unread = (refused_verdict unreadable 0 k).rank

abbrev pub ranks_of : Customer → List Card → List ℕ
ranks_of k [] = []
ranks_of k (c ∷ cs) = rank_of k c ∷ ranks_of k cs

rank-within : (k : Customer) (c : Card) → rank_of k c ≤ good
rank-within k (read frame) = within frame k
rank-within k unread = unread-within k

below : (k : Customer) (cs : List Card) → AllBelow verdicts (ranks_of k cs)
below k [] = tt
below k (c ∷ cs) = (omega (arith, rank-within k c), below k cs)

ranks-length : (k : Customer) (cs : List Card) → length (ranks_of k cs) ≡ length cs
ranks-length k [] = refl
ranks-length k (c ∷ cs) = ap suc (ranks-length k cs)

-- the counts of the lines, verdict by verdict, are all the cards: every card is counted in one line, and in one only
pub lines-add-up : (k : Customer) (cs : List Card) → counted_below verdicts (ranks_of k cs) ≡ length cs
lines-add-up k cs = all-counted verdicts (ranks_of k cs) (below k cs) ∙ ranks-length k cs

-- so are the two counts of the first line
pub first-adds-up : (given : Bool) (k : Customer) (cs : List Card)
    → how_many (fine given) (ranks_of k cs) + (length (ranks_of k cs) - how_many (fine given) (ranks_of k cs)) ≡ length cs
first-adds-up given k cs = fine-and-not (fine given) (ranks_of k cs) ∙ ranks-length k cs
