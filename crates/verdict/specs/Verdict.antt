-- What a card's frame is found to be: the verdict (Ranks), how many octets were read, the answer of reading them, the frame's kind, what a
-- buyer compares, and how its words compare with those of a customer.
use Rattle.std.specs.Prelude.{Bool, true, false, cond, List, reverse, ℕ, zero, suc, min, eqb, length, replicate}
use Rattle.answer.specs.Answer.{answer}
use Rattle.octets.specs.Bits.{digits_of, value_of, bits_of}
use Rattle.ranges.specs.Ranges.{word_width}
use Rattle.layout.specs.Places.{vendor_length, frame_length, a_field, b_field}
use Rattle.layout.specs.Frame.{training_sync, field_of, coefficients_of}
use Rattle.layout.specs.Refusals.{has_sync, check_refusals}
use Rattle.reader.specs.Promises.{vendor_octets}
use Rattle.highest.specs.Highest.{highest}
use Rattle.verdict.specs.declared.Customer.{Customer}
use Rattle.card.specs.declared.Verdict.{Verdict}
use Rattle.card.specs.Ranks.{no_customer, same_word, turned_word, other_word, no_word}
use Rattle.verdict.specs.Ranks.{refused_rank, training_rank, final_rank}

-- a word read last bit first, the old bench program's mistake
unfoldable pub last_first : ℕ → ℕ
last_first y = value_of (reverse (digits_of word_width y))

-- word x beside the customer's word y. A word that reads the same from both ends is the same
abbrev pub like_of : Bool → ℕ → ℕ → ℕ
like_of given x y = cond given (cond (eqb x y) same_word (cond (eqb x (last_first y)) turned_word other_word)) no_customer

-- a card that carries no words
abbrev pub absent : Bool → ℕ
absent given = cond given no_word no_customer

-- one octet more than a frame has
abbrev pub most_octets : ℕ
most_octets = suc frame_length

-- how many octets a file has; more than a frame has are counted as one more
abbrev pub octets_of : List ℕ → ℕ
octets_of file = min (length file) most_octets

-- a file of so many octets, refused with n: every other number is 0, and vendor data too
abbrev pub refused_verdict : ℕ → ℕ → Customer → Verdict
refused_verdict n octets k =
    record {
      rank = refused_rank n;
      octets = octets;
      answer = n;
      kind = 0;
      used = 0;
      a = 0;
      b = 0;
      alike = absent k.given;
      blike = absent k.given;
      vendor = replicate vendor_length 0;
    }

-- a training frame with these: the number of the highest non-zero coefficient, A, B, and vendor data. The frame doesn't carry the count of
-- coefficients in use; those behind the highest are zero, whether in use or not
abbrev pub training_by : ℕ → ℕ → ℕ → ℕ → List ℕ → Customer → Verdict
training_by octets used a b vendor k =
    record {
      rank = training_rank (like_of k.given a k.a) (like_of k.given b k.b);
      octets = octets;
      answer = 0;
      kind = 0;
      used = used;
      a = a;
      b = b;
      alike = like_of k.given a k.a;
      blike = like_of k.given b k.b;
      vendor = vendor;
    }

-- a training frame
abbrev pub training_verdict : ℕ → List ℕ → Customer → Verdict
training_verdict octets bits k =
    training_by octets (highest (coefficients_of bits)) (value_of (field_of a_field bits)) (value_of (field_of b_field bits)) (vendor_octets bits) k

-- a final frame with this vendor data
abbrev pub final_by : ℕ → List ℕ → Customer → Verdict
final_by octets vendor k =
    record {
      rank = final_rank k.given;
      octets = octets;
      answer = 0;
      kind = 1;
      used = 0;
      a = 0;
      b = 0;
      alike = absent k.given;
      blike = absent k.given;
      vendor = vendor;
    }

-- a final frame
abbrev pub final_verdict : ℕ → List ℕ → Customer → Verdict
final_verdict octets bits k = final_by octets (vendor_octets bits) k

-- with an answer, of a file's octets and bits
unfoldable pub judged : ℕ → ℕ → List ℕ → Customer → Verdict
judged zero octets bits k = cond (has_sync training_sync bits) (training_verdict octets bits k) (final_verdict octets bits k)
judged (suc n) octets bits k = refused_verdict (suc n) octets k

-- what a card's frame is found to be
unfoldable pub verdict_of : List ℕ → Customer → Verdict
verdict_of frame k = judged (answer (check_refusals frame)) (octets_of frame) (bits_of frame) k

-- no customer
abbrev pub nobody : Customer
nobody = record { given = false; a = 0; b = 0 }

-- the customer by the answer and the kind of a card's verdict: a training frame that reads gives its words, any other gives no customer
unfoldable pub customer_by : ℕ → ℕ → Verdict → Customer
customer_by zero zero v = record { given = true; a = v.a; b = v.b }
customer_by zero (suc k) v = nobody
customer_by (suc n) k v = nobody

-- the customer whose card this verdict is on
abbrev pub customer_of : Verdict → Customer
customer_of v = customer_by v.answer v.kind v
