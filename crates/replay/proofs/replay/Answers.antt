-- `replay::replay` meets its contract: at each turn the lines from a place on are still to come.
use mathlib.Core.Path.{sym, ap, ◌∙◌}
use Prim.Native.Nat.{ℕ, ◌+◌, ◌-◌}
use native.Mathlib.Numerals.{add-one}
use native.Mathlib.Omega.{arith}
use lib.ListN.{take, drop}
use Rattle.startlog.proofs.Laws.{end-within}
use Rattle.replay.specs.Replay.{lines_of, ending_from}
use Rattle.replay.proofs.Laws.{lines_next, ends-here, goes-on, ends-last}
use Rattle.replay.proofs.replay.Goals as goal

pub slice_bounds-said-count : goal.slice_bounds-said-count
slice_bounds-said-count c = omega (arith, c.line_end-end.ensures, end-within c.args.log.now c.loop-at.at (omega arith), c.requires)

pub slice_bounds-said-start : goal.slice_bounds-said-start
slice_bounds-said-start c = omega (arith, c.line_end-end.ensures, end-within c.args.log.now c.loop-at.at (omega arith), c.requires)

pub slice_bounds-said-end : goal.slice_bounds-said-end
slice_bounds-said-end c = omega (arith, c.line_end-end.ensures, end-within c.args.log.now c.loop-at.at (omega arith), c.requires)

pub returns-in-Err : goal.returns-in-Err
returns-in-Err c =
    let i = c.loop-at in
    let g = c.args.log.now in
    let f = c.line_end-end.result in
    let n = lines_next g i.at f c.loop-at-test.true c.line_end-end.ensures in
    ends-here i.line i.story c.follow.new.story (take (f - i.at) (drop i.at g)) (lines_of (drop (f + 1) g)) c.in-Err.why _ c.in-Err.ensures
    (ap (ending_from i.line i.story) (sym n) ∙ i.invariant.2)

pub loop-at-preserved : goal.loop-at-preserved
loop-at-preserved c =
    let i = c.loop-at in
    let g = c.args.log.now in
    let f = c.line_end-end.result in
    let s = c.follow.new.story in
    let x = take (f - i.at) (drop i.at g) in
    let y = lines_of (drop (f + 1) g) in
    let n = lines_next g i.at f c.loop-at-test.true c.line_end-end.ensures in
    let w = end-within g i.at (omega arith) in (
      omega (arith, c.line_end-end.ensures, w),
      omega (arith, c.line_end-end.ensures, w),
      ap (λ (k : ℕ). ending_from k s y) (add-one i.line) ∙ goes-on i.line i.story s x y c.in-Ok.field-0 c.in-Ok.ensures
          ∙ ap (ending_from i.line i.story) (sym n) ∙ i.invariant.2,
    )

pub returns : goal.returns
returns c =
    let i = c.loop-at in
    ends-last c.args.log.now i.at i.line i.story _ c.loop-at-test.false i.invariant.2
