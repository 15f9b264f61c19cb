-- `listing::put_coefficient_lines` meets its contract. What stands in the room and the lines of the coefficients that are left are all lines.
use mathlib.Core.Path.{◌≡◌, ap, ◌∙◌}
use mathlib.Core.List.{[], ◌++◌}
use native.Mathlib.Omega.{arith}
use lib.ListN.{length}
use Rattle.std.proofs.Common.{rules}
use Rattle.std.proofs.lemmas.List.{nil_from_length}
use Rattle.ascii.proofs.Room.{puts-none, puts-more, puts_as}
use Rattle.listing.specs.Listing.{coefficient_line}
use Rattle.listing.proofs.Laws.{lines-next, lines-last}
use Rattle.octets.proofs.Complement.{read-i32}
use Rattle.listing.proofs.put_coefficient_lines.Goals as goal

pub loop-k-init : goal.loop-k-init
loop-k-init c =
    let a : c.into_iter-k-iterator.result.a.start ≡ 1 = search rules in
    let b : c.into_iter-k-iterator.result.b.rest.now ≡ c.args.cs.now = search rules in
    ([], puts-none c.args.text.now, cc (a, b), omega (arith, a, ap length b, c.requires))

pub loop-k-preserved : goal.loop-k-preserved
loop-k-preserved c =
    let i = c.loop-k.invariant in
    let s = c.in-Some.ensures.steps in
    let z = c.in-Some.field-0-1.now in
    let read = read-i32 z (search rules) in (
      i.0 ++ coefficient_line c.in-Some.k z,
      puts-more i.1 (rw read at c.put_coefficient_line.ensures),
      lines-next i.0 _ z _ _ _ _ _ s.0.0 s.0.1 s.1 i.2,
      omega (arith, i.3, s.0.0, s.0.1, ap length s.1),
    )

pub returns : goal.returns
returns c =
    let i = c.loop-k.invariant in
    let none : c.loop-k.k-iterator.b.rest.now ≡ [] = nil_from_length _ (omega (arith, c.in-None.ensures.steps, i.3)) in
    puts_as i.1 (lines-last i.0 _ _ none ∙ i.2)
