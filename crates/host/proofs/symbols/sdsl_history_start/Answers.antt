-- `host::symbols::sdsl_history_start` meets its contract.
use borrow.Author.Tests.{eq-eqb, ne_eqb}
use mathlib.Core.Path.{◌≡◌, refl, subst, ◌∙◌}
use mathlib.Core.List.{List}
use Prim.Native.Nat.{ℕ}
use lib.IntN.{ℤ}
use lib.ListN.{length}
use Rattle.numbers.specs.Promises.{NumbersPut}
use Rattle.numbers.proofs.Laws.{put_whole}
use Rattle.samples.specs.Samples.{at_start}
use Rattle.host.specs.Symbols.{HistoryStarted}
use Rattle.host.proofs.symbols.sdsl_history_start.Goals as goal

pub returns-then-history-ne-HISTORY_OCTETS : goal.returns-then-history-ne-HISTORY_OCTETS
returns-then-history-ne-HISTORY_OCTETS c = rw c.number.ensures (record { answered = simp (ne_eqb _ _ c.if-history-ne-HISTORY_OCTETS.true); left = refl })

pub start-past-requires : goal.start-past-requires
start-past-requires c = tt

-- the 180 numbers of a start fill the 720 octets
filled : (history history' : List ℕ) (past : List ℤ) → length history ≡ 720 → past ≡ at_start → NumbersPut history past history'
    → HistoryStarted history 0 history'
filled history history' past whole e put =
    record {
      answered = simp (eq-eqb (length history) 720 whole);
      left = subst (λ (zs : List ℤ). NumbersPut history zs history') e put ∙ put_whole history whole at_start refl;
    }

pub returns : goal.returns
returns c =
    let start = c.start-past in
    let put = c.put_numbers in
    filled c.args.history.now put.new.octets start.result c.if-history-ne-HISTORY_OCTETS.false start.ensures put.ensures
