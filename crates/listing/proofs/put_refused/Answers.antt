-- `listing::put_refused` meets its contract.
use Rattle.forms.specs.Forms.{formed, formed_by, first_of}
use Rattle.listing.specs.Listing.{number_line}
use Rattle.listing.proofs.put_refused.Goals as goal

pub returns : goal.returns
unfolding formed formed_by first_of number_line
returns c = c.form.ensures
