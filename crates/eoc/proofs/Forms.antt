-- A written form is octets, from 6 to 156 of them, with flags at its two ends and nowhere else; one message's form has all 156. Assumes nothing.
use mathlib.Core.Path.{◌≡◌, refl, sym, ap, ◌∙◌}
use mathlib.Core.Bool.{false}
use mathlib.Core.List.{List, [], ◌∷◌, ◌++◌}
use mathlib.Core.Logic.{◌↔◌, ◌⊎◌, inl, inr}
use Prim.Native.Nat.{ℕ, zero, suc, ◌-◌, ◌≤◌, ◌<◌}
use native.Mathlib.Decide.{dec_lt}
use native.Mathlib.Omega.{arith}
use lib.Dec.{lit≤}
use lib.ListN.{length, get_or, replicate, length-append, get_or-append}
use lib.Seq.{get_or_at}
use Rattle.octets.specs.Bits.{digits_of, value_of, bits_of, octets_of}
use Rattle.octets.proofs.Laws.{Octets}
use Rattle.octets.proofs.Whole.{append-octets}
use Rattle.remainder.specs.Register.{register_of}
use Rattle.fcs.specs.Sequence.{sequence_of}
use Rattle.fcs.proofs.Laws.{sequence-octets}
use Rattle.eoc.specs.Message.{Message, Lawful, address_of, body_of, fields_of, flag, escape, escaped, framed, written, form_most}
use Rattle.eoc.specs.Reading.{among}
use Rattle.eoc.proofs.Escapes.{cons-octets, tested-octets, among_none, escaped-least, escaped-most, escaped-octets, escaped-no-flag}
use Rattle.eoc.proofs.RoundTrip.{fields-length}

-- ---- flags

framed-flags : (s : List ℕ) → among flag s ≡ false → (i : ℕ) → i < length (framed s)
    → (get_or (framed s) i 0 ≡ flag) ↔ ((i ≡ 0) ⊎ (i ≡ length (framed s) - 1))
framed-flags s e i h = (there i h, back)
  where
    l : length (s ++ (flag ∷ [])) ≡ suc (length s)
    l = omega (arith, length-append s (flag ∷ []))

    there : (i : ℕ) → i < length (framed s) → get_or (framed s) i 0 ≡ flag → (i ≡ 0) ⊎ (i ≡ length (framed s) - 1)
    there zero h q = inl refl
    there (suc i) h q = pick (dec_lt i (length s))
      where
        pick : Dec (i < length s) → (suc i ≡ 0) ⊎ (suc i ≡ length (framed s) - 1)
        pick (yes k) = absurd (among_none flag s e i k (sym (get_or-append s (flag ∷ []) 0 i k) ∙ q))
        pick (no k) = inr (omega (arith, l))

    back : (i ≡ 0) ⊎ (i ≡ length (framed s) - 1) → get_or (framed s) i 0 ≡ flag
    back (inl z) = ap (λ (k : ℕ). get_or (framed s) k 0) z
    back (inr z) = get_or_at (flag ∷ s) flag [] 0 i (omega (arith, l))

-- a written form has a flag at a place exactly where that is the first or the last
pub form-flags : (m : Message) (i : ℕ) → i < length (written m) → (get_or (written m) i 0 ≡ flag) ↔ ((i ≡ 0) ⊎ (i ≡ length (written m) - 1))
form-flags m = framed-flags (escaped (fields_of m)) (escaped-no-flag (fields_of m))

-- ---- octets

pub form-octets : (m : Message) → Lawful m → Octets (written m)
form-octets m l =
    let body = cons-octets (address_of m) (m.number ∷ m.contents) (omega arith) (cons-octets m.number m.contents l.number_fits l.octets) in
    let fields = append-octets (body_of m) (sequence_of (body_of m)) body (sequence-octets (body_of m)) in
    cons-octets flag (escaped (fields_of m) ++ (flag ∷ [])) (lit≤ tt)
    (append-octets (escaped (fields_of m)) (flag ∷ []) (escaped-octets (fields_of m) fields) (tested-octets (flag ∷ []) refl))

-- ---- length

pub form-length : (m : Message) → Lawful m → (6 ≤ length (written m)) × (length (written m) ≤ form_most)
form-length m l =
    omega (arith, length-append (escaped (fields_of m)) (flag ∷ []), escaped-least (fields_of m), escaped-most (fields_of m), fields-length m, l.contents_fit)

-- ---- a form of 156 octets

-- 75 octets that are all flags and escapes, with a check sequence of two escapes
abbrev pub longest : Message
longest =
    record {
      source = 7;
      destination = 14;
      number = flag;
      contents =
          replicate 57 flag
          ++ (escape ∷ flag ∷ escape ∷ escape ∷ escape ∷ escape ∷ escape ∷ escape ∷ flag ∷ escape ∷ escape ∷ flag ∷ flag ∷ flag ∷ escape ∷ flag ∷ []);
    }

pub longest-lawful : Lawful longest
longest-lawful =
    record {
      source_fits = lit≤ tt;
      destination_fits = lit≤ tt;
      number_fits = lit≤ tt;
      contents_fit = lit≤ tt;
      octets = tested-octets longest.contents refl;
    }

longest-sequence : sequence_of (body_of longest) ≡ escape ∷ escape ∷ []
unfolding sequence_of register_of bits_of digits_of octets_of value_of
longest-sequence = refl

-- its form fills the room, all 156 octets
pub longest-reached : length (written longest) ≡ form_most
unfolding escaped
longest-reached = ap (λ (c : List ℕ). length (framed (escaped (body_of longest ++ c)))) longest-sequence
