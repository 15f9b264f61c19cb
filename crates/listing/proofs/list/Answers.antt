-- `listing::list` meets its contract.
use mathlib.Core.Path.{refl, ap, ◌∙◌}
use Prim.Native.Nat.{ℕ}
use Rattle.std.proofs.Common.{rules}
use Rattle.ascii.proofs.Room.{puts-more, puts_as, puts-told}
use Rattle.listing.specs.Listing.{number_line}
use Rattle.reader.proofs.Given.{read_length}
use Rattle.listing.proofs.Laws.{refused-text, read-text}
use Rattle.listing.proofs.list.Goals as goal

pub returns-in-Ok : goal.returns-in-Ok
returns-in-Ok c =
    let d = c.read in
    let f = c.args.frame.now in
    let r = c.in-Ok.ensures in
    puts-told
    (puts_as (puts-more c.put_kind.ensures c.put_tail.ensures)
    (read-text f _ _ _ (record { coefficients = refl; vendor = refl; reserved = refl }) d.new.coefficients d.new.vendor d.new.reserved c.in-Ok.found r c.check_of.result
    (c.check_of.ensures.1 (read_length f _ _ _ (record { coefficients = refl; vendor = refl; reserved = refl }) d.new.coefficients d.new.vendor d.new.reserved c.in-Ok.found r)))) refl (search rules)

pub returns-in-Err : goal.returns-in-Err
returns-in-Err c =
    let d = c.read in
    let f = c.args.frame.now in
    puts-told
    (puts_as c.put_refused.ensures
    (ap (λ (n : ℕ). number_line "refused " n) c.number.ensures
    ∙ refused-text f _ _ _ (record { coefficients = refl; vendor = refl; reserved = refl }) d.new.coefficients d.new.vendor d.new.reserved c.in-Err.no c.in-Err.ensures)) refl (search rules)
