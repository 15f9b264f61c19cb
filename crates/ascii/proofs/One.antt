-- One result per call. Assumes nothing.
use mathlib.Core.Path.{◌≡◌, sym, ap, ◌∙◌}
use mathlib.Core.List.{List, ◌++◌}
use Prim.Native.Nat.{ℕ}
use lib.ListN.{take, drop}
use Rattle.ascii.specs.declared.Text.{Text}
use Rattle.ascii.specs.Promises.{Put, Puts, Told}
use Rattle.ascii.specs.Plain.{TextLength}

-- any text that is put from a place on
pub put_one : (room : List ℕ) (at : ℕ) (text : List ℕ) (r r' : ℕ) (t t' : List ℕ) → Put room at text r t → Put room at text r' t' → (r ≡ r') × (t ≡ t')
put_one room at text r r' t t' p q = (p.behind ∙ sym q.behind, p.laid ∙ sym q.laid)

-- Text::put, word, decimal, signed and hexes: each promises `Puts` of a text that its arguments give
pub puts-one : (old : Text) (text : List ℕ) (new new' : Text) → Puts old text new → Puts old text new'
    → (new.at ≡ new'.at) × (new.room.now ≡ new'.room.now) × (new.room.ghost_name ≡ new'.room.ghost_name)
puts-one old text new new' p q =
    let same = put_one old.room.now old.at text new.at new'.at new.room.now new'.room.now p.put q.put in
    (same.0, same.1, p.lent ∙ sym q.lent)

-- a text told
pub told-one : (text room : List ℕ) (r r' : ℕ) (t t' : List ℕ) → Told text room r t → Told text room r' t' → (r ≡ r') × (t ≡ t')
told-one text room r r' t t' p q =
    let e : r ≡ r' = p.count ∙ sym q.count in
    (e, p.room_left ∙ ap (λ (n : ℕ). take n text ++ drop n room) e ∙ sym q.room_left)

-- how many octets of a field are text
pub text-length-one : (os : List ℕ) (r r' : ℕ) → TextLength os r → TextLength os r' → r ≡ r'
text-length-one os r r' p q = p ∙ sym q
