-- Every line and the totals fit a room of 4,096 octets, so that nothing is cut there. Assumes nothing.
use mathlib.Core.Path.{◌≡◌, refl}
use mathlib.Core.Bool.{Bool, true, false, cond, not, ◌&&◌}
use mathlib.Core.List.{List, [], ◌∷◌}
use Prim.Native.Nat.{ℕ, zero, suc, ◌+◌, ◌-◌, ◌*◌, ◌^◌, ◌≤◌, ◌<◌}
use Prim.Native.String.{String}
use native.Mathlib.Omega.{arith}
use borrow.Author.Tests.{ltb-true}
use lib.Dec.{eqb, ltb, lit≤}
use lib.ListN.{length, get_or, take, drop, length-append, length-take}
use Rattle.answer.specs.Answer.{refuse, answer}
use Rattle.octets.specs.Bits.{part}
use Rattle.octets.proofs.Laws.{Octets}
use Rattle.octets.proofs.Whole.{take-octets, drop-octets}
use Rattle.ascii.specs.Text.{text, hexes}
use Rattle.ascii.specs.Plain.{text_length}
use Rattle.ascii.proofs.Numbers.{decimal-length, hexes-length}
use Rattle.ascii.proofs.Room.{told-whole}
use Rattle.forms.specs.Forms.{first_of, formed_by, formed, row_by, row_of}
use Rattle.eoc.specs.Message.{Message, Lawful, addresses}
use Rattle.eoc.specs.Reading.{between, fields_in, is_between_flags, other_escape, is_length, is_checked, message_in}
use Rattle.eoc.specs.Refusals.{form_refusals}
use Rattle.eoc.proofs.Escapes.{unescaped-octets}
use Rattle.eoc.proofs.RoundTrip.{sound-form, message-lawful}
use Rattle.eoclisting.specs.declared.Listed.{Listed}
use Rattle.eoclisting.specs.declared.Counts.{Counts}
use Rattle.eoclisting.specs.Names.{units, names, source_row, source_name, destination_name, name_row, name_of}
use Rattle.eoclisting.specs.Contents.{hex_part, short_part, margin_text, margins_text, status_part, string_length, string_by, string_text, field_text}
use Rattle.eoclisting.specs.Contents.{software_text, vendor_text, inventory_text, inventory_part, contents_text}
use Rattle.eoclisting.specs.Line.{way_text, message_line, reasons, reason_row, refused_line, line_by, line_of}
use Rattle.eoclisting.specs.Promises.{Lined}
use Rattle.eoclisting.specs.Totals.{left_text, count_text, taken_text, totals_text, Totalled}

cond-length : (b : Bool) (x y : List ℕ) (n : ℕ) → length x ≤ n → length y ≤ n → length (cond b x y) ≤ n
cond-length true x y n h l = h
cond-length false x y n h l = l

-- a row is no longer than its table
row-length : (table : List ℕ) (n : ℕ) → length (row_of table n) ≤ length table
unfolding row_of row_by
row-length [] n = omega arith
row-length (o ∷ os) n = pick (eqb o 10) n (row-length os)
  where
    pick : (b : Bool) (n : ℕ) → ((m : ℕ) → length (row_of os m) ≤ length os) → length (row_by b o (row_of os) n) ≤ suc (length os)
    pick true zero h = omega arith
    pick true (suc n) h = omega (arith, h n)
    pick false zero h = omega (arith, h 0)
    pick false (suc n) h = omega (arith, h (suc n))

unit-length : (n : ℕ) → length (row_of units n) ≤ 203
unit-length n = row-length units n

-- ---- contents

hex-length : (c : List ℕ) → length (hex_part c) ≤ 2 + 2 * length c
unfolding hex_part
hex-length c = cond-length (eqb (length c) 0) [] _ (2 + 2 * length c) (omega arith) (simp length-append (omega (arith, hexes-length c)))

short-length : (c : List ℕ) → length (short_part c) ≤ 22 + 2 * length c
unfolding short_part
short-length c = simp length-append (omega (arith, hex-length c))

over-length : (o : ℕ) → o < 1000 → length (formed (text "# dB") (o ∷ [])) ≤ 13
unfolding formed formed_by first_of
over-length o h = simp length-append (omega (arith, decimal-length 2 o h))

under-length : (o : ℕ) → o < 1000 → length (formed (text "-# dB") (o ∷ [])) ≤ 13
unfolding formed formed_by first_of
under-length o h = simp length-append (omega (arith, decimal-length 2 o h))

margin-length : (o : ℕ) → length (margin_text o) ≤ 13
unfolding margin_text
margin-length o = cond-length (eqb o 127) _ _ 13 (lit≤ tt) (go (ltb o 128) refl)
  where
    go : (b : Bool) → ltb o 128 ≡ b → length (cond b (formed (text "# dB") (o ∷ [])) (formed (text "-# dB") ((256 - o) ∷ []))) ≤ 13
    go true q = over-length o (omega (arith, ltb-true o 128 q))
    go false q = under-length (256 - o) (omega arith)

loop-length : (o : ℕ) → o < 1000 → length (formed (text ", loop #") (o ∷ [])) ≤ 10
unfolding formed formed_by first_of
loop-length o h = simp length-append (omega (arith, decimal-length 2 o h))

margins-length : (a b c : ℕ) → c < 1000 → length (margins_text a b c) ≤ 67
unfolding margins_text
margins-length a b c h = simp length-append (omega (arith, margin-length a, margin-length b, loop-length c h))

status-length : (c : List ℕ) → Octets c → length (status_part c) ≤ 67 + 2 * length c
unfolding status_part
status-length c o =
    cond-length (ltb (length c) 3) _ _ (67 + 2 * length c) (omega (arith, short-length c))
    (omega (arith, margins-length (get_or c 0 0) (get_or c 1 0) (get_or c 2 0) (omega (arith, o 2))))

string-length : (f : List ℕ) → length (string_text f) ≤ 2 + 2 * length f
unfolding string_text string_by
string-length f =
    cond-length (eqb (text_length (take (string_length f) f)) (string_length f)) _ (hexes f) (2 + 2 * length f)
    (simp (length-append, length-take) (omega arith)) (omega (arith, hexes-length f))

field-length : (label : String) (at n : ℕ) (c : List ℕ) → length (field_text label at n c) ≤ length (text label) + 2 + 2 * n
unfolding field_text
field-length label at n c = simp length-append (omega (arith, string-length (part at n c), length-take n (drop at c)))

version-length : (o : ℕ) → o < 1000 → length (formed (text ": SDSL version #") (o ∷ [])) ≤ 18
unfolding formed formed_by first_of
version-length o h = simp length-append (omega (arith, decimal-length 2 o h))

software-length : (c : List ℕ) → Octets c → length (software_text c) ≤ 72
unfolding software_text
software-length c o =
    simp length-append
    (omega
    (arith, version-length (get_or c 0 0) (omega (arith, o 0)), field-length ", list " 1 3 c, field-length ", issue " 4 2 c, field-length ", software " 6 6 c))

vendor-length : (c : List ℕ) → length (vendor_text c) ≤ 131
unfolding vendor_text
vendor-length c =
    simp length-append
    (omega
    (arith, hexes-length (part 23 8 c), length-take 8 (drop 23 c), field-length ", model " 31 12 c, field-length ", serial " 43 12 c, field-length ", other " 55 12 c))

inventory-length : (c : List ℕ) → Octets c → length (inventory_text c) ≤ 232
unfolding inventory_text
inventory-length c o = simp length-append (omega (arith, software-length c o, field-length ", unit " 12 10 c, vendor-length c))

contents-length : (n : ℕ) (c : List ℕ) → Octets c → length c ≤ 73 → length (contents_text n c) ≤ 400
unfolding contents_text inventory_part
contents-length n c o h =
    cond-length (eqb n 139) _ _ 400 (omega (arith, status-length c o))
    (cond-length (eqb n 130) _ _ 400
    (cond-length (ltb (length c) 67) _ _ 400 (omega (arith, short-length c)) (omega (arith, inventory-length c o)))
    (omega (arith, hex-length c)))

-- ---- lines

way-length : (a b : ℕ) → length (way_text a b) ≤ 410
unfolding way_text source_name destination_name
way-length a b = simp length-append (omega (arith, unit-length (source_row a), unit-length b))

name-length : (n : ℕ) → length (name_of n) ≤ 1444
unfolding name_of
name-length n = row-length names (name_row n)

place-length : (n : ℕ) → n < 10000000000 → length (formed (text "# ") (n ∷ [])) ≤ 11
unfolding formed formed_by first_of
place-length n h = simp length-append (omega (arith, decimal-length 9 n h))

number-length : (n : ℕ) → n < 1000 → length (formed (text ": # ") (n ∷ [])) ≤ 6
unfolding formed formed_by first_of
number-length n h = simp length-append (omega (arith, decimal-length 2 n h))

message-length : (n : ℕ) (m : Message) → n < 10000000000 → Lawful m → length (message_line n m) ≤ 4096
unfolding message_line
message-length n m h l =
    simp length-append
    (omega (
      arith,
      place-length n h,
      way-length m.source m.destination,
      number-length m.number (omega (arith, l.number_fits)),
      name-length m.number,
      contents-length m.number m.contents l.octets l.contents_fit,
    ))

refusal-length : (n a : ℕ) → n < 10000000000 → a < 1000 → length (formed (text "# refused #: ") (n ∷ a ∷ [])) ≤ 24
unfolding formed formed_by first_of
refusal-length n a h l = simp length-append (omega (arith, decimal-length 9 n h, decimal-length 2 a l))

refused-length : (n a : ℕ) → n < 10000000000 → a < 1000 → length (refused_line n a) ≤ 4096
unfolding refused_line
refused-length n a h l = simp length-append (omega (arith, refusal-length n a h l, row-length reasons (reason_row a)))

answer-low : (s : List ℕ) → answer (form_refusals s) ≤ 12
answer-low s = go (not (is_between_flags s)) (other_escape (between s)) (not (is_length (fields_in s))) (not (is_checked (fields_in s)))
  where
    go : (a b c d : Bool) → answer (refuse 10 a ∷ refuse 11 b ∷ refuse 12 c ∷ refuse 7 d ∷ []) ≤ 12
    go true b c d = lit≤ tt
    go false true c d = lit≤ tt
    go false false true d = lit≤ tt
    go false false false true = lit≤ tt
    go false false false false = lit≤ tt

-- a message that reads can be written
lawful : (s : List ℕ) → Octets s → answer (form_refusals s) ≡ 0 → Lawful (message_in s)
lawful s o z =
    message-lawful (fields_in s) (unescaped-octets (between s) (take-octets (length s - 2) (drop 1 s) (drop-octets 1 s o))) (sound-form s z).short-enough

pub line-fits : (n : ℕ) (s : List ℕ) → n < 2 ^ 32 → Octets s → length (line_of n s) ≤ 4096
unfolding line_by
line-fits n s h o = go (answer (form_refusals s)) refl
  where
    go : (a : ℕ) → answer (form_refusals s) ≡ a → length (line_by a n s) ≤ 4096
    go zero z = message-length n (message_in s) (omega arith) (lawful s o z)
    go (suc a) e = refused-length n (suc a) (omega arith) (omega (arith, answer-low s))

-- with a room of 4,096 octets all of it stands at its start
pub line-whole : (n : ℕ) (s room : List ℕ) (r : Listed) (exit : List ℕ) → n < 2 ^ 32 → Octets s → Lined n s room r exit → length room ≡ 4096
    → take r.length exit ≡ line_of n s
line-whole n s room r exit h o p l = told-whole (line_of n s) room r.length exit p.told (omega (arith, line-fits n s h o))

-- ---- totals

left-length : (a b : ℕ) → a < 10000000000 → b < 10000000000 → length (left_text a b) ≤ 100
unfolding left_text formed formed_by first_of
left-length a b h l =
    cond-length (eqb a 0 && eqb b 0) [] _ 100 (lit≤ tt) (simp length-append (omega (arith, decimal-length 9 a h, decimal-length 9 b l)))

count-length : (n good : ℕ) → n < 10000000000 → good < 10000000000 → length (count_text n good) ≤ 100
unfolding count_text formed formed_by first_of
count-length n good h l =
    cond-length (eqb n 1) _ _ 100
    (simp length-append (omega (arith, decimal-length 9 n h, decimal-length 9 good l, decimal-length 9 (n - good) (omega arith))))
    (simp length-append (omega (arith, decimal-length 9 n h, decimal-length 9 good l, decimal-length 9 (n - good) (omega arith))))

takes-length : (n : ℕ) → n < 10000000000 → length (formed (text " takes #") (n ∷ [])) ≤ 17
unfolding formed formed_by first_of
takes-length n h = simp length-append (omega (arith, decimal-length 9 n h))

taken-length : (own n : ℕ) → n < 10000000000 → length (taken_text own n) ≤ 222
unfolding taken_text
taken-length own n h =
    cond-length (ltb own addresses) _ [] 222 (simp length-append (omega (arith, unit-length own, takes-length n h))) (lit≤ tt)

-- numbers of 32 bits
pub record Small (c : Counts) : Type 0 where
  pub before : c.before < 2 ^ 32
  pub behind : c.behind < 2 ^ 32
  pub messages : c.messages < 2 ^ 32
  pub good : c.good < 2 ^ 32
  pub taken : c.taken < 2 ^ 32

pub totals-fit : (c : Counts) → Small c → length (totals_text c) ≤ 4096
unfolding totals_text
totals-fit c h =
    simp length-append
    (omega (
      arith,
      left-length c.before c.behind (omega (arith, h.before)) (omega (arith, h.behind)),
      count-length c.messages c.good (omega (arith, h.messages)) (omega (arith, h.good)),
      taken-length c.own c.taken (omega (arith, h.taken)),
    ))

pub totals-whole : (c : Counts) (room : List ℕ) (r : ℕ) (exit : List ℕ) → Small c → Totalled c room r exit → length room ≡ 4096 → take r exit ≡ totals_text c
totals-whole c room r exit h p l = told-whole (totals_text c) room r exit p (omega (arith, totals-fit c h))
