-- `listing::put_length` meets its contract.
use borrow.Author.Tests.{eq-eqb, ne_eqb, lt-ltb, le-ltb}
use Rattle.forms.specs.Forms.{first_of, formed_by, formed}
use Rattle.listing.specs.Words.{length_words}
use Rattle.listing.proofs.put_length.Goals as goal

pub returns-then-octets-gt-FRAME_OCTETS : goal.returns-then-octets-gt-FRAME_OCTETS
unfolding length_words
returns-then-octets-gt-FRAME_OCTETS c = simp (lt-ltb _ _ c.if-octets-gt-FRAME_OCTETS.true) c.word.ensures

pub returns-then-octets-eq1 : goal.returns-then-octets-eq1
unfolding length_words
returns-then-octets-eq1 c =
    simp (le-ltb _ _ c.if-octets-gt-FRAME_OCTETS.false, eq-eqb _ _ c.if-octets-eq1.true) c.word-then-octets-eq1.ensures

pub returns-else-octets-eq1 : goal.returns-else-octets-eq1
unfolding length_words formed formed_by first_of
returns-else-octets-eq1 c =
    simp (le-ltb _ _ c.if-octets-gt-FRAME_OCTETS.false, ne_eqb _ _ c.if-octets-eq1.false) c.form.ensures
