-- No library that meets demand 2 has a reader that is wrong about reserved bits: a training frame that is zero but for the first of them and its
-- check bits shows it. Assumes nothing.
use mathlib.Core.Path.{◌≡◌, refl, sym, ap, ◌∙◌}
use mathlib.Core.Bool.{true}
use mathlib.Core.List.{List, ◌∷◌}
use Prim.Native.Nat.{ℕ}
use native.Mathlib.Omega.{arith}
use lib.Dec.{lit<}
use lib.IntN.{ℤ, pos}
use lib.ListN.{length, get_or, replicate, length-replicate}
use Rattle.answer.specs.Answer.{answer}
use Rattle.octets.specs.Bits.{value_of, bits_of, octets_of}
use Rattle.octets.proofs.Digits.{Bits, cons-bits, zeros-bits, zeros-value}
use Rattle.octets.proofs.Laws.{octets-length}
use Rattle.layout.specs.Places.{reserved_field}
use Rattle.layout.specs.Frame.{training_sync, message, frame_bits, field_of}
use Rattle.layout.specs.Refusals.{has_sync, bit_refusals}
use Rattle.layout.proofs.Laws.{message-length, message-bits, training-length}
use Rattle.layout.proofs.Fields.{reserved-field}
use Rattle.layout.proofs.RoundTrip.{free, free-laid}
use Rattle.demands.specs.Handed.{Outcome, ReadCall, Fields, Rooms}
use Rattle.demands.specs.Library.{Library}
use Rattle.demands.specs.Checks.{read_checks}
use Rattle.demands.specs.Frames.{Right}
use Rattle.demands.specs.Two.{Two}
use Rattle.demands.specs.WrongReserved.{reserved_number, RejectedReserved}
use Rattle.demands.proofs.Fit.{read_right}
use Rattle.demands.proofs.Rejected.{zeros}

-- the first reserved bit alone
abbrev one_set : List ℕ
one_set = 1 ∷ zeros 66

abbrev no-coefficients : List ℤ
no-coefficients = replicate 180 (pos 0)

abbrev m : List ℕ
m = message no-coefficients 0 0 (zeros 16) one_set

m-length : length m ≡ 4197
m-length = message-length 0 0 (zeros 16) one_set refl refl no-coefficients (length-replicate 180 (pos 0))

m-bits : Bits m
m-bits = message-bits no-coefficients 0 0 (zeros 16) one_set (cons-bits 1 (zeros 66) (lit< tt) (zeros-bits 66))

-- the frame of a newer card
abbrev newer : List ℕ
newer = octets_of 529 (frame_bits training_sync m)

newer-bits : bits_of newer ≡ frame_bits training_sync m
newer-bits = free-laid true m m-length m-bits

abbrev pub call : ReadCall
call = record { frame = newer; coefficients = zeros 720; vendor = zeros 16; reserved = zeros 9 }

pub call-right : Right (read_checks call)
call-right =
    read_right call refl (octets-length 529 (frame_bits training_sync m)) refl refl
    (ap (λ (b : List ℕ). answer (bit_refusals b)) newer-bits ∙ (free true m m-length m-bits).0)

pub trains : has_sync training_sync (bits_of newer) ≡ true
trains = ap (has_sync training_sync) newer-bits ∙ (free true m m-length m-bits).1

field_is : field_of reserved_field (bits_of newer) ≡ one_set
field_is =
    ap (field_of reserved_field) newer-bits
    ∙ reserved-field no-coefficients 0 0 (zeros 16) one_set (length-replicate 180 (pos 0)) refl refl training_sync training-length

number_is : value_of one_set ≡ 1
unfolding value_of
number_is = omega (arith, zeros-value 66)

first-octet : get_or (octets_of 9 one_set) 0 0 ≡ 1
unfolding octets_of value_of
first-octet = refl

pub some-set : reserved_number call ≡ 0 → ⊥
some-set z = omega (arith, sym (ap value_of field_is ∙ number_is) ∙ z)

module _ (x : Library) (two : Two x) where
  read-newer : ((x.read call).answer ≡ 0) × ((x.read call).numbers.kind ≡ 0) × (get_or (x.read call).memory.reserved 0 0 ≡ 1)
  read-newer =
      let e = two.exact.frames.read_training call call-right trains in (
        ap (λ (r : Outcome Fields Rooms). r.answer) e,
        ap (λ (r : Outcome Fields Rooms). r.numbers.kind) e,
        ap (λ (r : Outcome Fields Rooms). get_or r.memory.reserved 0 0) e ∙ ap (λ (l : List ℕ). get_or (octets_of 9 l) 0 0) field_is ∙ first-octet,
      )

  -- nine zeros are not what comes back
  not_zeros : (x.read call).memory.reserved ≡ zeros 9 → ⊥
  not_zeros e = omega (arith, sym read-newer.2 ∙ ap (λ (l : List ℕ). get_or l 0 0) e)

  pub reserved-rejected : RejectedReserved x
  reserved-rejected = record {
    turns_away = λ w.
        let t = w.1 in
        w.3 (ap (λ (r : Outcome Fields Rooms). r.answer) (two.exact.frames.read_training w.0 t.0 t.1));
    hands_zeros = λ w. not_zeros (w call read-newer.0 read-newer.1);
    reserved_unwritten = λ w. not_zeros (w call read-newer.0);
  }
