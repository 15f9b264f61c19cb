-- `symbol::symbols_in` meets its contract. Assumes nothing.
use mathlib.Core.Path.{◌≡◌, refl, ap, ◌∙◌}
use mathlib.Core.Bool.{Bool, ◌&&◌}
use mathlib.Core.List.{List, [], ◌∷◌}
use Prim.Native.Nat.{ℕ}
use lib.Dec.{leb}
use Rattle.std.proofs.Common.{rules, tests}
use Rattle.std.proofs.lemmas.Iterator.{YieldsList-from_slice}
use Rattle.std.proofs.lemmas.Iterator.Search.{all_from_yields_List}
use Rattle.std.specs.List.{list_all}
use Rattle.symbol.specs.Encoder.{symbols_in}
use Rattle.symbol.proofs.symbols_in.Goals as goal

-- the definition is the library's word for such a test
all_in : (symbols : List ℕ) → list_all (λ (symbol : ℕ). leb symbol 7) symbols ≡ symbols_in symbols
unfolding symbols_in
all_in [] = refl
all_in (symbol ∷ symbols) = ap (λ (b : Bool). leb symbol 7 && b) (all_in symbols)

pub returns : goal.returns
returns c =
    all_from_yields_List (λ (symbol : ℕ). leb symbol 7) _ _ c.all.result c.all.ensures.ran (YieldsList-from_slice c.args.symbols.now cc)
    (λ x b q k. search (rules, tests)) ∙ all_in c.args.symbols.now
