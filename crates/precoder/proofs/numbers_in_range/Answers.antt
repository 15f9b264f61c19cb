-- `precoder::numbers_in_range` meets its contract. Assumes nothing.
use mathlib.Core.Path.{◌≡◌, refl, sym, ap, ◌∙◌}
use mathlib.Core.Bool.{Bool}
use mathlib.Core.List.{List}
use Prim.Native.Nat.{ℕ, ◌/◌}
use native.Mathlib.Omega.{arith}
use borrow.Author.Rules.{rules}
use borrow.Author.Tests.{tests}
use lib.IntN.{ℤ, pos}
use lib.ListN.{length, get_or}
use Rattle.std.specs.List.{list_all, range_with_len}
use Rattle.std.proofs.lemmas.List.Folds.{list_all-map}
use Rattle.std.proofs.lemmas.List.FromFn.{fill_by_all}
use Rattle.std.proofs.lemmas.Iterator.{YieldsList-from_range}
use Rattle.std.proofs.lemmas.Iterator.Search.{all_from_yields_List}
use Rattle.numbers.specs.Promises.{numbers_of}
use Rattle.numbers.proofs.Laws.{numbers-many}
use Rattle.ranges.specs.Ranges.{every}
use Rattle.ranges.proofs.Laws.{every-all}
use Rattle.samples.specs.Samples.{is_signal}
use Rattle.precoder.proofs.numbers_in_range.Goals as goal

-- a test of each number by its index
at-each : (test : ℤ → Bool) (zs : List ℤ) (n : ℕ) → length zs ≡ n → list_all (λ (i : ℕ). test (get_or zs i (pos 0))) (range_with_len 0 n) ≡ every test zs
at-each test zs n h =
    let at : ℕ → ℤ = λ i. get_or zs i (pos 0) in
    sym (list_all-map test at (range_with_len 0 n)) ∙ ap (list_all test) (sym (fill_by_all at zs n (pos 0) h (λ k g. refl))) ∙ every-all test zs

pub returns : goal.returns
returns c =
    let os = c.args.octets.now in
    let n = length os / 4 in
    all_from_yields_List (λ (i : ℕ). is_signal (get_or (numbers_of os) i (pos 0))) _ _ _ c.all.ensures.ran
    (YieldsList-from_range 0 n n (cc) (omega arith)) (λ i b q k. search (rules, tests))
    ∙ at-each is_signal (numbers_of os) n (numbers-many os)
