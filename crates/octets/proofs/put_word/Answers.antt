-- `octets::put_word` meets its contract: the eight octets are there, or as many are put as there are.
use mathlib.Core.Path.{◌∙◌}
use native.Mathlib.Omega.{arith}
use Rattle.octets.proofs.Words.{word-laid}
use Rattle.octets.proofs.put_word.Goals as goal

pub returns-then-i-starts : goal.returns-then-i-starts
returns-then-i-starts c =
    let a = c.args in
    c.put_octets.ensures ∙ word-laid a.s.now a.i a.v (λ n. omega (arith, c.slice_known-1.given n))

pub returns-else-i-starts : goal.returns-else-i-starts
returns-else-i-starts c =
    let a = c.args in
    c.put_octets-else-i-starts.ensures ∙ word-laid a.s.now a.i a.v (λ n. omega (arith, c.slice_known-1.given n))
