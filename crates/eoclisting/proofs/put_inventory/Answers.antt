-- `eoclisting::put_inventory` meets its contract.
use Rattle.ascii.proofs.Room.{puts-more, puts_as}
use Rattle.eoclisting.specs.Contents.{field_text, inventory_text}
use Rattle.eoclisting.proofs.Laws.{inventory-short, inventory-whole}
use Rattle.eoclisting.proofs.put_inventory.Goals as goal

pub returns-then-contents-lt-INVENTORY_OCTETS : goal.returns-then-contents-lt-INVENTORY_OCTETS
returns-then-contents-lt-INVENTORY_OCTETS c =
    puts_as c.put_short.ensures (inventory-short c.args.contents.now c.if-contents-lt-INVENTORY_OCTETS.true)

pub returns-else-contents-lt-INVENTORY_OCTETS : goal.returns-else-contents-lt-INVENTORY_OCTETS
unfolding inventory_text field_text
returns-else-contents-lt-INVENTORY_OCTETS c =
    puts_as (puts-more (puts-more c.put_software.ensures c.put_field.ensures) c.put_vendor.ensures)
    (inventory-whole c.args.contents.now c.if-contents-lt-INVENTORY_OCTETS.false)
