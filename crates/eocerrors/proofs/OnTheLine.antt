-- On the line one wrong bit may go unseen: it makes an escape, and so another message with the same check sequence. By computation. Assumes nothing.
use mathlib.Core.Path.{◌≡◌, refl, ap}
use Prim.Native.Nat.{ℕ}
use native.Mathlib.Omega.{arith}
use lib.ListN.{length}
use Rattle.octets.specs.Bits.{digits_of, value_of, bits_of, octets_of}
use Rattle.remainder.specs.Register.{register_of}
use Rattle.distance.specs.Errors.{distance}
use Rattle.fcs.specs.Sequence.{sequence_of}
use Rattle.eoc.specs.Message.{Message}
use Rattle.eoc.specs.Reading.{among, other_escape, decoded}
use Rattle.eocerrors.specs.Errors.{Unseen, sent_form, came_form}

pub one-bit-unseen : Unseen sent_form came_form
unfolding distance among other_escape decoded sequence_of register_of digits_of value_of bits_of octets_of
one-bit-unseen =
    record {
      one_bit = refl;
      first_right = refl;
      second_right = refl;
      different = λ e. let z : ◌≡◌ {A = ℕ} 4 3 = ap (λ (m : Message). length m.contents) e in omega arith;
    }
