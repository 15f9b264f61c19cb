-- `listing::words` meets its contract.
use mathlib.Core.Path.{refl}
use Rattle.std.proofs.Common.{rules}
use Rattle.ascii.proofs.Room.{puts_as, puts-told}
use Rattle.listing.proofs.Wording.{refused-words, vendor-words}
use Rattle.listing.proofs.words.Goals as goal

pub returns-in-Ok : goal.returns-in-Ok
returns-in-Ok c =
    let a = c.args in
    let d = c.read in
    puts-told
    (puts_as c.put_vendor.ensures
    (vendor-words a.frame.now _ _ _ (record { coefficients = refl; vendor = refl; reserved = refl }) d.new.coefficients d.new.vendor d.new.reserved c.in-Ok.field-0 c.in-Ok.ensures)) refl (search rules)

pub returns-in-Err : goal.returns-in-Err
returns-in-Err c =
    let a = c.args in
    let d = c.read in
    puts-told
    (puts_as c.put_refusal.ensures
    (refused-words a.frame.now _ _ _ (record { coefficients = refl; vendor = refl; reserved = refl }) d.new.coefficients d.new.vendor d.new.reserved c.in-Err.no c.in-Err.ensures))
    refl (search rules)
