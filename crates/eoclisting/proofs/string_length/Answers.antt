-- `eoclisting::string_length` meets its contract. What was found so far and what is found from place k on are the string's length.
use mathlib.Core.Path.{◌≡◌, sym, ◌∙◌, subst}
use Prim.Native.Nat.{ℕ, ◌+◌}
use lib.ListN.{drop}
use Rattle.eoclisting.specs.Contents.{string_length}
use Rattle.eoclisting.proofs.Laws.{length_from, length-first, length-stop, length-end, length_over, length-blank}
use Rattle.eoclisting.proofs.string_length.Goals as goal
use Rattle.eoclisting.proofs.string_length.Goals.{then-octet-ne32, else-octet-ne32}

pub loop-k-init : goal.loop-k-init
loop-k-init c = length-first _

pub returns-then-octet-eq-END : goal.returns-then-octet-eq-END
returns-then-octet-eq-END c =
    let l = c.loop-k in
    sym (length-stop c.args.field.now l.last l.k c.loop-k-test.true c.if-octet-eq-END.true) ∙ l.invariant

pub loop-k-preserved : goal.loop-k-preserved
loop-k-preserved c =
    let l = c.loop-k in
    let s = c.args.field.now in
    let from = λ (n : ℕ). length_from n (l.k + 1) (string_length (drop (l.k + 1) s)) ≡ string_length s in
    elim c.if-octet-ne32.branch [
      | then-octet-ne32 w ↦
          subst from (sym w.last-is) (length_over s l.last l.k c.loop-k-test.true c.if-octet-eq-END.false w.if-octet-ne32.true ∙ l.invariant)
      | else-octet-ne32 w ↦
          subst from (sym w.last-is) (length-blank s l.last l.k c.loop-k-test.true c.if-octet-eq-END.false w.if-octet-ne32.false ∙ l.invariant)
    ]

pub returns : goal.returns
returns c = sym (length-end c.args.field.now c.loop-k.last c.loop-k.k c.loop-k-test.false) ∙ c.loop-k.invariant
