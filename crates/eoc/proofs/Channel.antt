-- Messages joined with shared or repeated flags fall apart again in one way, at the flags. Assumes nothing.
use mathlib.Core.Path.{◌≡◌, refl, sym, ap, ap₂, ◌∙◌}
use mathlib.Core.Bool.{Bool, false, cond}
use mathlib.Core.List.{List, [], ◌∷◌, ◌++◌, map, append-nil, append_assoc}
use Prim.Native.Nat.{ℕ, zero, suc, ◌≤◌}
use native.Mathlib.Omega.{arith}
use lib.Dec.{eqb}
use lib.ListN.{length, replicate}
use Rattle.eoc.specs.Message.{Message, Lawful, flag, escaped, fields_of, framed, written}
use Rattle.eoc.specs.Reading.{among, message_in}
use Rattle.eoc.specs.Channel.{Filled, channel, behind_flag, before, pieces_from, pieces}
use Rattle.eoc.proofs.Escapes.{neither, escaped-least, escaped-no-flag}
use Rattle.eoc.proofs.RoundTrip.{fields-length, reads-back}

-- what stands between the flags of a message's form
abbrev pub inside : Message → List ℕ
inside m = escaped (fields_of m)

-- with a flag on either side it is the form
pub inside-form : (m : Message) → framed (inside m) ≡ written m
inside-form m = refl

inside-some : (m : Message) → 1 ≤ length (inside m)
inside-some m = omega (arith, escaped-least (fields_of m), fields-length m)

-- ---- flags and pieces taken off

-- repeated flags end no piece
flags-off : (n : ℕ) (s : List ℕ) → pieces_from [] (replicate n flag ++ s) ≡ pieces_from [] s
unfolding pieces_from
flags-off zero s = refl
flags-off (suc n) s = flags-off n s

-- what has no flag and stands before one is a piece
piece-off : (begun s t : List ℕ) → among flag s ≡ false → pieces_from begun (s ++ (flag ∷ t)) ≡ before (begun ++ s) (pieces_from [] t)
unfolding pieces_from among
piece-off begun [] t e = ap (λ (l : List ℕ). before l (pieces_from [] t)) (sym (append-nil begun))
piece-off begun (o ∷ s) t e =
    let n = neither (eqb o flag) (among flag s) e in
    ap (λ (b : Bool). cond b (before begun (pieces_from [] (s ++ (flag ∷ t)))) (pieces_from (begun ++ (o ∷ [])) (s ++ (flag ∷ t)))) n.0
    ∙ piece-off (begun ++ (o ∷ [])) s t n.1 ∙ ap (λ (l : List ℕ). before l (pieces_from [] t)) (append_assoc begun (o ∷ []) s)

before-some : (s : List ℕ) (ps : List (List ℕ)) → 1 ≤ length s → before s ps ≡ s ∷ ps
before-some [] ps h = absurd (omega arith)
before-some (o ∷ s) ps h = refl

-- a channel opens with a flag
opens : (fill : ℕ) (fs : List Filled) → channel fill fs ≡ flag ∷ behind_flag (channel fill fs)
unfolding channel behind_flag
opens fill [] = refl
opens fill (f ∷ fs) = refl

-- ---- falling apart

-- the pieces are the insides of the messages' forms in their order, whatever the fill
pub falls-apart : (fill : ℕ) (fs : List Filled) → pieces (channel fill fs) ≡ map (λ (f : Filled). inside f.message) fs
unfolding channel behind_flag pieces_from
falls-apart fill [] = ap (pieces_from []) (sym (append-nil (replicate fill flag))) ∙ flags-off fill []
falls-apart fill (f ∷ fs) =
    let s = inside f.message in
    let next = channel f.fill fs in
    flags-off fill (s ++ next) ∙ ap (λ (l : List ℕ). pieces_from [] (s ++ l)) (opens f.fill fs)
    ∙ piece-off [] s (behind_flag next) (escaped-no-flag (fields_of f.message)) ∙ before-some s (pieces next) (inside-some f.message)
    ∙ ap (λ (ps : List (List ℕ)). s ∷ ps) (falls-apart f.fill fs)

-- ---- in one way

abbrev pub messages : List Filled → List Message
messages fs = map (λ (f : Filled). f.message) fs

-- all of them can be written
abbrev pub AllLawful : List Filled → Type 0
AllLawful [] = Unit {0}
AllLawful (f ∷ fs) = Lawful f.message × AllLawful fs

-- the messages that pieces give, each with a flag on either side
abbrev pub messages_in : List (List ℕ) → List Message
messages_in ps = map (λ (p : List ℕ). message_in (framed p)) ps

insides-read : (fs : List Filled) → AllLawful fs → messages_in (map (λ (f : Filled). inside f.message) fs) ≡ messages fs
insides-read [] l = refl
insides-read (f ∷ fs) l = ap₂ ◌∷◌ (reads-back f.message l.0).1 (insides-read fs l.1)

-- the pieces of a channel give its messages
pub channel-reads : (fill : ℕ) (fs : List Filled) → AllLawful fs → messages_in (pieces (channel fill fs)) ≡ messages fs
channel-reads fill fs l = ap messages_in (falls-apart fill fs) ∙ insides-read fs l

-- so octets are the channel of no two lists of messages
pub channel-one : (a b : ℕ) (fs gs : List Filled) → AllLawful fs → AllLawful gs → channel a fs ≡ channel b gs → messages fs ≡ messages gs
channel-one a b fs gs l k e = sym (channel-reads a fs l) ∙ ap (λ (s : List ℕ). messages_in (pieces s)) e ∙ channel-reads b gs k
