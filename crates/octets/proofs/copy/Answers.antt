-- `octets::copy` meets its contract.
use native.Mathlib.Omega.{arith}
use Rattle.octets.proofs.Whole.{copied_all}
use Rattle.octets.proofs.copy.Goals as goal

pub returns-then-in_octets : goal.returns-then-in_octets
returns-then-in_octets c =
    let a = c.args in
    copied_all a.s.now a.source.now c.copy_octets.new.s a.at a.from a.n (λ i. omega (arith, c.slice_known-1.given i))
    (λ i. omega (arith, c.shared_slice_known-1.given i)) (c.in_octets.ensures c.if-in_octets.true) c.copy_octets.ensures
