-- `eoclisting::put_vendor` meets its contract.
use Rattle.ascii.proofs.Room.{puts-more}
use Rattle.eoclisting.specs.Contents.{field_text, vendor_text}
use Rattle.eoclisting.proofs.put_vendor.Goals as goal

pub returns : goal.returns
unfolding vendor_text field_text
returns c =
    puts-more (puts-more (puts-more (puts-more c.word.ensures c.hexes.ensures) c.put_field.ensures) c.put_field-2.ensures) c.put_field-3.ensures
