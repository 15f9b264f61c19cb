-- Any cut: the frames and places that calls give are those of the joined bits, however these were cut into lumps. Assumes nothing.
use mathlib.Core.Path.{◌≡◌, refl, sym, ap, ap₂, subst, ◌∙◌}
use mathlib.Core.Bool.{Bool, true, false, cond, ◌&&◌, not}
use mathlib.Core.List.{List, [], ◌∷◌, ◌++◌, append_assoc, append-nil}
use Prim.Native.Nat.{ℕ, zero, suc, ◌+◌, ◌-◌, ◌*◌, ◌≤◌, ◌<◌}
use native.Mathlib.Decide.{dec_le}
use native.Mathlib.Omega.{arith}
use borrow.Author.Tests.{ltb-true, ltb-false, leb-true, le-leb, eqb-true, not-false}
use lib.Dec.{eqb, leb, ltb}
use lib.ListN.{length, take, drop, length-append, length-drop}
use lib.Seq.{length-take-le, drop-drop, drop-append-le}
use Rattle.answer.specs.Answer.{answer, held}
use Rattle.answer.proofs.Laws.{none}
use Rattle.answer.proofs.Order.{both}
use Rattle.octets.specs.Bits.{bits_of, part}
use Rattle.octets.proofs.Digits.{append_bits, drop_bits}
use Rattle.octets.proofs.Laws.{bits-length, bits-bits, bits-part, bits-octets}
use Rattle.octets.proofs.Fields.{part-behind}
use Rattle.receiver.specs.Stream.{frame_at, lies_at}
use Rattle.receiver.specs.Given.{Given, given_at, GivenFrom, nothing, next, GivenOf}
use Rattle.receiver.specs.Promises.{StartPromise, receive_refusals, joined, takes, found, gives, place_on, received_of, line_after, room_after}
use Rattle.receiver.specs.Calls.{Lump, bits_in, joined_bits, handed, Calls, none as no_call, call, all_handed}
use Rattle.receiver.specs.declared.Receiver.{Receiver}
use Rattle.receiver.specs.Promises.{Got}
use Rattle.receiver.proofs.Earliest.{First, first_is}
use Rattle.receiver.proofs.Window.{around, same-frame, same-lies, lies-early, lies-late, lies_more}
use Rattle.receiver.proofs.Given.{go_on, none_left, given-one, given-extend}

-- ---- the line room

-- the line room holds the last 4,256 bits: of what stood in it at the start, and the bits heard since then
pub record Kept (L line : List ℕ) : Type 0 where
  pub before : List ℕ
  pub size : length before ≡ 4256
  pub is : bits_of line ≡ drop (length L) (before ++ L)

module _ (L line lump : List ℕ) (count : ℕ) (k : Kept L line) (enough : count ≤ 8 * length lump) where
  abbrev X : List ℕ
  X = part 0 count (bits_of lump)

  abbrev G : List ℕ
  G = k.before

  abbrev B : List ℕ
  B = joined line lump count

  pub lump-length : length X ≡ count
  lump-length = length-take-le count (bits_of lump) (omega (arith, bits-length lump))

  -- the joined bits are the line's from a place on
  pub joined_is : B ≡ drop (length L) (G ++ (L ++ X))
  joined_is =
      ap (λ (t : List ℕ). t ++ X) k.is
      ∙ sym (drop-append-le (length L) (G ++ L) X (omega (arith, length-append G L)))
      ∙ ap (drop (length L)) (append_assoc G L X)

  pub joined_length : length B ≡ 4256 + count
  joined_length =
      ap length joined_is ∙ length-drop (length L) (G ++ (L ++ X))
      ∙ omega (arith, length-append G (L ++ X), length-append L X, lump-length, k.size)

  -- and the same 4,250 bits stand around a place of either
  same-around : (b p : ℕ) → 23 ≤ b → 4279 ≤ length L + b → p ≡ length L + b - 4256 → around B b ≡ around (L ++ X) p
  same-around b p h l e =
      ap (λ (t : List ℕ). around t b) joined_is
      ∙ ap (take 4250) (drop-drop (b - 23) (length L) (G ++ (L ++ X)))
      ∙ part-behind G (L ++ X) (p - 23) 4250 (length L + (b - 23)) (omega (arith, k.size))

  pub frame-there : (end b p : ℕ) → 23 ≤ b → 4279 ≤ length L + b → p ≡ length L + b - 4256 → frame_at end B b ≡ frame_at end (L ++ X) p
  frame-there end b p h l e = same-frame B (L ++ X) b p h (omega arith) (same-around b p h l e) end

  pub lies-there : (end b p : ℕ) → 23 ≤ b → b < 30 + count → 4279 ≤ length L + b → p ≡ length L + b - 4256 → lies_at end B b ≡ lies_at end (L ++ X) p
  lies-there end b p h m l e =
      same-lies B (L ++ X) b p h (omega arith) (same-around b p h l e) end (omega (arith, joined_length)) (omega (arith, length-append L X, lump-length))

  -- what is kept for the next call
  pub kept_next : length line ≡ 532 → (line' : List ℕ) → line' ≡ line_after line lump count → Kept (L ++ X) line'
  kept_next s line' e =
      record {
        before = G;
        size = k.size;
        is =
            ap bits_of e
            ∙ bits-octets 532 (drop count B) (length-drop count B ∙ omega (arith, joined_length))
            (drop_bits count B (append_bits (bits_of line) X (bits-bits line) (bits-part lump 0 count)))
            ∙ ap (drop count) joined_is ∙ drop-drop count (length L) (G ++ (L ++ X))
            ∙ ap (λ (n : ℕ). drop n (G ++ (L ++ X))) (ap (λ (n : ℕ). length L + n) (sym lump-length) ∙ sym (length-append L X));
      }

-- ---- one call

-- no check applies
pub call-sound : (x : Receiver) (line lump : List ℕ) (count : ℕ) (frame : List ℕ) → answer (receive_refusals x line lump count frame) ≡ 0
    → (count ≤ 8 * length lump) × (length line ≡ 532) × (length frame ≡ 529) × (x.end ≤ 1) × (count ≤ 4096) × (x.heard + count ≤ 4294967295)
call-sound x line lump count frame e =
    let R = receive_refusals x line lump count frame in
    let a = none 0 (ltb (8 * length lump) count) (drop 1 R) e in
    let b = none 0 (not (eqb (length line) 532)) (drop 2 R) a.1 in
    let c = none 0 (not (eqb (length frame) 529)) (drop 3 R) b.1 in
    let d = none 1 (ltb 1 x.end) (drop 4 R) c.1 in
    let f = none 3 (ltb 4096 count) (drop 5 R) d.1 in
    let g = none 3 (ltb 4294967295 (x.heard + count)) (drop 6 R) f.1 in (
      ltb-false _ _ a.0,
      eqb-true _ _ (not-false _ b.0),
      eqb-true _ _ (not-false _ c.0),
      ltb-false _ _ d.0,
      ltb-false _ _ f.0,
      ltb-false _ _ g.0,
    )

-- the answer is the first of the refusals
pub answer-is : (n : ℕ) (x : Receiver) (b count : ℕ) → (received_of n x b count).answer ≡ n
answer-is zero x b count = refl
answer-is (suc n) x b count = refl

-- a refusal gives nothing else
pub refused-is : (n : ℕ) (x : Receiver) (b count : ℕ) → (n ≡ 0 → ⊥) → received_of n x b count ≡ record { answer = n; given = 0; place = 0; next = x }
refused-is zero x b count h = absurd (h refl)
refused-is (suc n) x b count h = refl

-- a place that a call takes
pub takes-sound : (x : Receiver) (B : List ℕ) (b : ℕ) → takes x B b ≡ true
    → (4279 ≤ x.heard + b) × (x.from + 4256 ≤ x.heard + b) × (lies_at x.end B b ≡ true)
takes-sound x B b e =
    let p = both (leb 4279 (x.heard + b)) _ e in
    let q = both (leb (x.from + 4256) (x.heard + b)) (lies_at x.end B b) p.1 in
    (leb-true 4279 (x.heard + b) p.0, leb-true (x.from + 4256) (x.heard + b) q.0, q.1)

pub takes-there : (x : Receiver) (B : List ℕ) (b : ℕ) → 4279 ≤ x.heard + b → x.from + 4256 ≤ x.heard + b → takes x B b ≡ lies_at x.end B b
takes-there x B b h l =
    ap₂ (λ (s t : Bool). s && (t && lies_at x.end B b)) (le-leb 4279 (x.heard + b) h) (le-leb (x.from + 4256) (x.heard + b) l)

-- A RECEIVER THAT HAS HEARD the bits L and given gs: it counts them, goes on behind what was given, and keeps the last of them
pub record Stands (end : ℕ) (L : List ℕ) (x : Receiver) (line : List ℕ) (gs : List Given) : Type 0 where
  pub same_end : x.end ≡ end
  pub counted : x.heard ≡ length L
  pub goes_on : x.from ≡ go_on 0 gs
  pub kept : Kept L line
  pub given : GivenFrom end L 0 gs

-- behind what was given
go-on-append : (from : ℕ) (gs hs : List Given) → go_on from (gs ++ hs) ≡ go_on (go_on from gs) hs
unfolding go_on
go-on-append from [] hs = refl
go-on-append from (g ∷ gs) hs = go-on-append (g.place + 4227) gs hs

module _ (end : ℕ) (L : List ℕ) (x : Receiver) (line : List ℕ) (gs : List Given) (s : Stands end L x line gs) (lump : List ℕ) (count : ℕ)
    (enough : count ≤ 8 * length lump) (few : count ≤ 4096) where
  abbrev Y : List ℕ
  Y = part 0 count (bits_of lump)

  abbrev M : List ℕ
  M = L ++ Y

  abbrev J : List ℕ
  J = joined line lump count

  abbrev at : ℕ
  at = found x line lump count

  first-at : First (takes x J) 30 count at
  first-at = first_is (takes x J) 30 count

  M-length : length M ≡ length L + count
  M-length = length-append L Y ∙ ap (λ (n : ℕ). length L + n) (lump-length L line lump count s.kept enough)

  -- before the place where a frame is given, or anywhere where none is, none lies that was not given before
  none_before : (q : ℕ) → go_on 0 gs ≤ q → length L + at ≤ 4256 + length L + count + 30 → q + 4256 < length L + at → lies_at end M q ≡ false
  none_before q h t l = old (dec_le (q + 4227) (length L))
    where
      b : ℕ
      b = q + 4256 - length L

      old : Dec (q + 4227 ≤ length L) → lies_at end M q ≡ false
      old (yes p) = lies_more end L Y q p ∙ none_left end L 0 gs s.given q h
      old (no p) = early (dec_le 23 q)
        where
          early : Dec (23 ≤ q) → lies_at end M q ≡ false
          early (no e) = lies-early end M q (omega arith)
          early (yes e) =
              let c = s.counted in
              let f = s.goes_on in
              let z : b < at = omega arith in
              sym (lies-there L line lump count s.kept enough end b q (omega arith) (omega (arith, first-at.to)) (omega arith) (omega arith))
              ∙ ap (λ (n : ℕ). lies_at n J b) (sym s.same_end)
              ∙ sym (takes-there x J b (omega arith) (omega arith))
              ∙ first-at.before b (omega arith) z

  -- what the call hands out is what is given from the place on that it goes on from
  given-now : GivenFrom end M (go_on 0 gs) (cond (gives at count) (given_at end M (length L + at - 4256) ∷ []) [])
  given-now = pick (gives at count) refl
    where
      pick : (t : Bool) → gives at count ≡ t → GivenFrom end M (go_on 0 gs) (cond t (given_at end M (length L + at - 4256) ∷ []) [])
      pick false e =
          nothing (go_on 0 gs) (λ q h. late q h (dec_le (suc (q + 4256)) (length L + at)))
        where
          late : (q : ℕ) → go_on 0 gs ≤ q → Dec (q + 4256 < length L + at) → lies_at end M q ≡ false
          late q h (yes l) = none_before q h (omega (arith, first-at.to)) l
          late q h (no l) = lies-late end M q (omega (arith, M-length, ltb-false at (30 + count) e))
      pick true e =
          let l = ltb-true at (30 + count) e in
          let t = takes-sound x J at (first-at.holds l) in
          let c = s.counted in
          let f = s.goes_on in
          let p = length L + at - 4256 in
          next (go_on 0 gs) p []
          (record {
            not_before = omega (arith, t.1);
            lies =
                sym (lies-there L line lump count s.kept enough end at p (omega (arith, first-at.from)) l (omega (arith, t.0)) refl)
                ∙ ap (λ (n : ℕ). lies_at n J at) (sym s.same_end) ∙ t.2;
            first = λ q h k. none_before q h (omega (arith, first-at.to)) (omega (arith, t.0));
          })
          (nothing (p + 4227) (λ q h. lies-late end M q (omega (arith, M-length, first-at.from, t.0))))

  -- the call brings the receiver further
  pub stands-next : length line ≡ 532 → (r : Got) (line' room room' : List ℕ) → r ≡ received_of 0 x at count → line' ≡ line_after line lump count
      → room' ≡ room_after x.end J at count room → Stands end M r.next line' (gs ++ handed r room')
  unfolding go_on
  stands-next z r line' room room' e f g =
      record {
        same_end = ap (λ (t : Got). t.next.end) e ∙ s.same_end;
        counted = ap (λ (t : Got). t.next.heard) e ∙ ap (λ (n : ℕ). n + count) s.counted ∙ sym M-length;
        goes_on = ap (λ (t : Got). t.next.from) e ∙ on (gives at count) ∙ sym (ap (λ (l : List Given). go_on 0 (gs ++ l)) out ∙ go-on-append 0 gs _);
        kept = kept_next L line lump count s.kept enough z line' f;
        given = subst (λ (l : List Given). GivenFrom end M 0 (gs ++ l)) (sym out)
            (given-extend end L Y 0 gs _ s.given given-now);
      }
    where
      p : ℕ
      p = length L + at - 4256

      now : List Given
      now = cond (gives at count) (given_at end M p ∷ []) []

      on : (t : Bool) → cond t (place_on x at + 4227) x.from ≡ go_on (go_on 0 gs) (cond t (given_at end M p ∷ []) [])
      on true = ap (λ (n : ℕ). n + at - 4256 + 4227) s.counted
      on false = s.goes_on

      out : handed r room' ≡ now
      out = ap₂ handed e g ∙ pick (gives at count) refl
        where
          pick : (t : Bool) → gives at count ≡ t
              → cond (eqb (cond t 1 0) 1) (record { place = cond t (place_on x at) 0; frame = cond t (frame_at x.end J at) room } ∷ []) []
              ≡ cond t (given_at end M p ∷ []) []
          pick false h = refl
          pick true h =
              let t = takes-sound x J at (first-at.holds (ltb-true at (30 + count) h)) in
              let c = s.counted in
              ap₂ (λ (i : ℕ) (l : List ℕ). record { place = i; frame = l } ∷ []) (ap (λ (n : ℕ). n + at - 4256) c)
              (ap (λ (n : ℕ). frame_at n J at) s.same_end
              ∙ frame-there L line lump count s.kept enough end at p (omega (arith, first-at.from)) (omega (arith, t.0)) refl)

-- ---- calls one after the other

-- after calls over lumps, a receiver has heard their bits too, and has given what they handed out
pub calls-stand : (end : ℕ) (L : List ℕ) (x : Receiver) (line : List ℕ) (gs : List Given) (ls : List Lump) (outs : List (List Given))
    → Stands end L x line gs → Calls x line ls outs → GivenFrom end (L ++ joined_bits ls) 0 (gs ++ all_handed outs)
unfolding joined_bits all_handed
calls-stand end L x line gs [] [] s (no_call _ _) =
    subst (λ (l : List ℕ). GivenFrom end l 0 (gs ++ [])) (sym (append-nil L)) (subst (λ (l : List Given). GivenFrom end L 0 l) (sym (append-nil gs)) s.given)
calls-stand end L x line gs _ _ s (call _ _ l ls room r line' room' outs p z k) =
    let a : answer (receive_refusals x line l.octets l.count room) ≡ 0 = sym (answer-is _ x _ l.count) ∙ sym (ap (λ (t : Got). t.answer) p.returned) ∙ z in
    let w = call-sound x line l.octets l.count room a in
    let b = found x line l.octets l.count in
    let t = stands-next end L x line gs s l.octets l.count w.0 w.4 w.1 r line' room room'
    (p.returned ∙ ap (λ (n : ℕ). received_of n x b l.count) a)
    (p.line_left ∙ ap (λ (n : ℕ). held n line (line_after line l.octets l.count)) a)
    (p.room_left ∙ ap (λ (n : ℕ). held n room (room_after x.end (joined line l.octets l.count) b l.count room)) a) in
    subst (λ (m : List ℕ). GivenFrom end m 0 (gs ++ (handed r room' ++ all_handed outs))) (append_assoc L (bits_in l) (joined_bits ls))
    (subst (λ (m : List Given). GivenFrom end ((L ++ bits_in l) ++ joined_bits ls) 0 m) (append_assoc gs (handed r room') (all_handed outs))
    (calls-stand end (L ++ bits_in l) r.next line' (gs ++ handed r room') ls outs t k))

-- a receiver at its start has heard nothing
pub stands-start : (end : ℕ) (r : Got) (line : List ℕ) → StartPromise end r → length line ≡ 532 → Stands end [] r.next line []
unfolding go_on
stands-start end r line p l =
    record {
      same_end = ap (λ (t : Got). t.next.end) p;
      counted = ap (λ (t : Got). t.next.heard) p;
      goes_on = ap (λ (t : Got). t.next.from) p;
      kept = record { before = bits_of line; size = bits-length line ∙ ap (λ (n : ℕ). 8 * n) l; is = sym (append-nil (bits_of line)) };
      given = nothing 0 (λ q h. lies-late end [] q (omega arith));
    }

-- ANY CUT: from a start, over any lumps of which none is refused, what calls hand out is what is given of the joined bits
pub any-cut : (end : ℕ) (r : Got) (line : List ℕ) (ls : List Lump) (outs : List (List Given)) → StartPromise end r → length line ≡ 532
    → Calls r.next line ls outs → GivenOf end (joined_bits ls) (all_handed outs)
any-cut end r line ls outs p l k = calls-stand end [] r.next line [] ls outs (stands-start end r line p l) k

-- so two cuts of the same bits give the same
pub two-cuts : (end : ℕ) (r r' : Got) (line line' : List ℕ) (ls ls' : List Lump) (outs outs' : List (List Given))
    → StartPromise end r → StartPromise end r' → length line ≡ 532 → length line' ≡ 532
    → Calls r.next line ls outs → Calls r'.next line' ls' outs' → joined_bits ls ≡ joined_bits ls' → all_handed outs ≡ all_handed outs'
two-cuts end r r' line line' ls ls' outs outs' p p' l l' k k' e =
    given-one end (joined_bits ls') 0 (all_handed outs) (all_handed outs')
    (subst (λ (b : List ℕ). GivenOf end b (all_handed outs)) e (any-cut end r line ls outs p l k)) (any-cut end r' line' ls' outs' p' l' k')
