-- Laws of rooms: what their facts say, and that two with the same form, size and octets are equal. Assumes nothing.
use mathlib.Core.Path.{◌≡◌, sym, ap, ◌∙◌, subst}
use mathlib.Core.List.{List}
use Prim.Native.Nat.{ℕ, ◌+◌, ◌*◌, ◌≤◌}
use native.Mathlib.Omega.{arith}
use denote.Ref.{Bor}
use lib.Dec.{lit≤}
use lib.ListN.{length}
use Rattle.std.proofs.Math.Nat.{ℕ_set}
use Rattle.std.specs.Coded.{le_prop}
use Rattle.dataframe.specs.declared.Form.{Form}
use Rattle.dataframe.specs.declared.Form.TheVariants.{Synchronous, Plesiochronous}
use Rattle.dataframe.specs.declared.Room.{Room}
use Rattle.dataframe.specs.Table.{room_of}
use Rattle.dataframe.specs.Forms.{form_number}
use Rattle.dataframe.specs.Rooms.{form_in, IsRoomOf, BlockGiven, PieceRead}
use Rattle.dataframe.proofs.Refused.{Fit, room-least}

-- a form's number is 0 or 1
pub form-known : (f : Form) → form_number f ≤ 1
form-known Synchronous = lit≤ tt
form-known Plesiochronous = lit≤ tt

-- so no check of a room, a form and a size applies
pub room-fits : (r : Room) → Fit (form_in r) r.size r.octets.now
room-fits r =
    let h = form-known r.form in
    record { known = h; least = r.least; most = r.most; room = r.whole; wide = room-least (form_in r) r.octets.now h r.whole }

-- forms with the same number are equal
pub form-one : (f g : Form) → form_number f ≡ form_number g → f ≡ g
form-one Synchronous Synchronous e = cc
form-one Synchronous Plesiochronous e = cc
form-one Plesiochronous Synchronous e = cc
form-one Plesiochronous Plesiochronous e = cc

-- the facts of a room are no part of what it is
room-by : (f : Form) (k : ℕ) (o : Bor (List ℕ)) (l l' : 24 ≤ k) (m m' : k ≤ 289) (w w' : length o.now ≡ room_of (form_number f))
    → ◌≡◌ {A = Room} (record { form = f; size = k; octets = o; least = l; most = m; whole = w })
    (record { form = f; size = k; octets = o; least = l'; most = m'; whole = w' })
room-by f k o l l' m m' w w' =
    ap (λ (x : 24 ≤ k). record { form = f; size = k; octets = o; least = x; most = m; whole = w }) (le_prop l l')
    ∙ ap (λ (x : k ≤ 289). record { form = f; size = k; octets = o; least = l'; most = x; whole = w }) (le_prop m m')
    ∙ ap (λ (x : length o.now ≡ room_of (form_number f)). record { form = f; size = k; octets = o; least = l'; most = m'; whole = x }) (ℕ_set (length o.now) (room_of (form_number f)) w w')

pub room-same : (a b : Room) → a.form ≡ b.form → a.size ≡ b.size → a.octets ≡ b.octets → a ≡ b
room-same a b e f g =
    by_octets b.octets g b.least b.most b.whole
  where
    by_form : (x : Form) → a.form ≡ x → (w : length a.octets.now ≡ room_of (form_number x))
        → ◌≡◌ {A = Room} a (record { form = x; size = a.size; octets = a.octets; least = a.least; most = a.most; whole = w })
    by_form x p =
        subst (λ (y : Form). (w : length a.octets.now ≡ room_of (form_number y))
        → ◌≡◌ {A = Room} a (record { form = y; size = a.size; octets = a.octets; least = a.least; most = a.most; whole = w })) p
        (λ w. room-by a.form a.size a.octets a.least a.least a.most a.most a.whole w)

    by_size : (n : ℕ) → a.size ≡ n → (l : 24 ≤ n) (m : n ≤ 289) (w : length a.octets.now ≡ room_of (form_number b.form))
        → ◌≡◌ {A = Room} a (record { form = b.form; size = n; octets = a.octets; least = l; most = m; whole = w })
    by_size n p =
        subst (λ (y : ℕ). (l : 24 ≤ y) (m : y ≤ 289) (w : length a.octets.now ≡ room_of (form_number b.form))
        → ◌≡◌ {A = Room} a (record { form = b.form; size = y; octets = a.octets; least = l; most = m; whole = w })) p
        (λ l m w. by_form b.form e w ∙ room-by b.form a.size a.octets a.least l a.most m w w)

    by_octets : (o : Bor (List ℕ)) → a.octets ≡ o → (l : 24 ≤ b.size) (m : b.size ≤ 289) (w : length o.now ≡ room_of (form_number b.form))
        → ◌≡◌ {A = Room} a (record { form = b.form; size = b.size; octets = o; least = l; most = m; whole = w })
    by_octets o p =
        subst (λ (y : Bor (List ℕ)). (l : 24 ≤ b.size) (m : b.size ≤ 289) (w : length y.now ≡ room_of (form_number b.form))
        → ◌≡◌ {A = Room} a (record { form = b.form; size = b.size; octets = y; least = l; most = m; whole = w })) p
        (λ l m w. by_size b.size f l m w)

-- what holds of a room holds of what it was made of
pub by-room : (P : ℕ → ℕ → Bor (List ℕ) → Type 0) (form k : ℕ) (octets : Bor (List ℕ)) (r : Room) → IsRoomOf form k octets r
    → P (form_in r) r.size r.octets → P form k octets
by-room P form k octets r i p =
    subst (λ (f : ℕ). P f k octets) i.form_is (subst (λ (n : ℕ). P (form_in r) n octets) i.size_is (subst (λ (o : Bor (List ℕ)). P (form_in r) r.size o) i.octets_are p))

-- ---- one result per call

pub block-one : (r : Room) (n n' : ℕ) → BlockGiven r n → BlockGiven r n' → n ≡ n'
block-one r n n' p q = p ∙ sym q

pub piece-one : (r : Room) (at w n n' : ℕ) → PieceRead r at w n → PieceRead r at w n' → n ≡ n'
piece-one r at w n n' p q = p.0 ∙ sym q.0

-- ---- the payload blocks and the overhead up to the last of them lie within

pub room-holds : (r : Room) → 4 * (12 * r.size) + 46 ≤ 8 * length r.octets.now
room-holds r = let f = room-fits r in omega (arith, f.most, f.wide)
