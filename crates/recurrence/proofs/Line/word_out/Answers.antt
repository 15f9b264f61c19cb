-- `recurrence::Line::word_out` meets its contract.
use mathlib.Core.Path.{sym, subst}
use Prim.Native.Nat.{ℕ, ◌-◌, ◌/◌, ◌^◌, ◌≤◌}
use native.Mathlib.Omega.{arith}
use lib.Bits.{bit_xor}
use Rattle.recurrence.specs.declared.Way.{Way}
use Rattle.recurrence.specs.declared.Way.TheVariants.{Descramble as descramble}
use Rattle.recurrence.specs.Window.{Out}
use Rattle.recurrence.proofs.Block.{word_back, word-forth}
use Rattle.recurrence.proofs.Line.word_out.Goals as goal

-- what is promised of a word that came out, in a direction
abbrev Meets : ℕ → ℕ → ℕ → ℕ → Way → Type 0
Meets tap window bits r way = (n : ℕ) → n ≤ 64 → Out way tap window n bits r

pub returns-in-Scramble : goal.returns-in-Scramble
returns-in-Scramble c =
    let a = c.args in
    let l = a.self in
    subst (Meets l.tap a.window a.bits c.gathered.result) (sym c.in-Scramble.is)
    (word-forth l.tap l.reaches.0 l.reaches.1 a.window c.requires c.gathered.result a.bits (omega arith) c.gathered.ensures)

pub returns-in-Descramble : goal.returns-in-Descramble
returns-in-Descramble c =
    let a = c.args in
    let l = a.self in
    let b = bit_xor (a.window / 2 ^ (23 - l.tap)) a.window in
    subst (Meets l.tap a.window a.bits (bit_xor c.spread.result b)) (sym c.in-Descramble.is)
    (subst (λ (x : ℕ). Meets l.tap a.window a.bits (bit_xor x b) descramble) (sym c.spread.ensures)
    (word_back l.tap l.reaches.0 l.reaches.1 a.window c.requires a.bits (omega arith)))
