-- What was sent is there: a frame that checks with 0, scrambled behind bits whose last 23 are the sender's state, lies at its place and comes out as
-- it was; and frames sent on end are all given. Assumes nothing.
use mathlib.Core.Path.{◌≡◌, refl, sym, ap, ap₂, subst, ◌∙◌}
use mathlib.Core.Bool.{true, not, ◌||◌, ◌&&◌, false≢true}
use mathlib.Core.List.{List, [], ◌∷◌, ◌++◌, append_assoc, append-nil, reverse, reverse-append}
use Prim.Native.Nat.{ℕ, suc, ◌+◌, ◌-◌, ◌*◌, ◌^◌, ◌≤◌, ◌<◌}
use native.Mathlib.Decide.{dec_le}
use native.Mathlib.Omega.{arith}
use borrow.Author.Tests.{eqb-true, not-false}
use lib.Dec.{eqb}
use lib.ListN.{length, take, drop, replicate, length-append, length-drop, length-reverse, take-append-drop}
use lib.Seq.{length-take-le, take_all, take_at, take-append-le}
use Rattle.answer.specs.Answer.{answer}
use Rattle.answer.proofs.Laws.{none}
use Rattle.octets.specs.Bits.{digits_of, value_of, bits_of, octets_of, part}
use Rattle.octets.proofs.Digits.{Bits, append_bits, take-bits, drop_bits, reverse_bits, value-lt}
use Rattle.octets.proofs.Laws.{Octets, bits-length, bits-bits}
use Rattle.octets.proofs.Fields.{part-is, part-behind, part-before}
use Rattle.layout.specs.Places.{pad_field}
use Rattle.layout.specs.Frame.{training_sync, final_sync, field_of}
use Rattle.layout.specs.Refusals.{has_sync, check_refusals}
use Rattle.recurrence.specs.Line.{newest}
use Rattle.recurrence.specs.Run.{run_of}
use Rattle.recurrence.specs.declared.Way.TheVariants.{Scramble as scramble, Descramble as descramble}
use Rattle.recurrence.proofs.Exactly.{scrambled-state}
use Rattle.recurrence.proofs.Laws.{run_length}
use Rattle.scrambler.specs.Ends.{tap_of}
use Rattle.scrambler.specs.Promises.{clocked, frame_out}
use Rattle.scrambler.specs.declared.Scrambler.{Scrambler}
use Rattle.scrambler.proofs.Frames.{sent, frame_back}
use Rattle.receiver.specs.Stream.{state_at, heard_at, frame_at, lies_at}
use Rattle.receiver.specs.Given.{Given, given_at, GivenFrom, nothing, next, GivenOf}
use Rattle.receiver.specs.Sent.{sent_bits, after_frame, Good, none as no_frame, more, on_end, placed_from, Across, here, there}
use Rattle.receiver.proofs.Window.{lies-sound, lies-here, lies-early, lies-late}
use Rattle.receiver.proofs.Given.{Begins}

-- what a frame that checks with 0 is
pub checked : (frame : List ℕ) → answer (check_refusals frame) ≡ 0
    → (length frame ≡ 529) × (has_sync training_sync (bits_of frame) || has_sync final_sync (bits_of frame) ≡ true) × (value_of (field_of pad_field (bits_of frame)) ≡ 0)
checked frame e =
    let R = check_refusals frame in
    let a = none 0 (not (eqb (length frame) 529)) (drop 1 R) e in
    let b = none 4 (not (has_sync training_sync (bits_of frame) || has_sync final_sync (bits_of frame))) (drop 2 R) a.1 in
    let c = none 5 (not (eqb (value_of (field_of pad_field (bits_of frame))) 0)) (drop 3 R) b.1 in
    (eqb-true _ _ (not-false _ a.0), not-false _ b.0, eqb-true _ _ (not-false _ c.0))

module _ (x : Scrambler) (frame : List ℕ) (o : Octets frame) (c : answer (check_refusals frame) ≡ 0) where
  abbrev S : List ℕ
  S = part 0 14 (bits_of frame)

  abbrev R : List ℕ
  R = run_of scramble (tap_of x.end) x.state (clocked frame)

  abbrev Z : List ℕ
  Z = replicate 5 0

  l : length frame ≡ 529
  l = (checked frame c).0

  B-length : length (bits_of frame) ≡ 4232
  B-length = bits-length frame ∙ ap (λ (n : ℕ). 8 * n) l

  S-length : length S ≡ 14
  S-length = length-take-le 14 (bits_of frame) (omega (arith, B-length))

  R-length : length R ≡ 4213
  R-length =
      run_length scramble (tap_of x.end) x.state (clocked frame)
      ∙ length-take-le 4213 (drop 14 (bits_of frame)) (omega (arith, length-drop 14 (bits_of frame), B-length))

  -- the bits on the line: sync, and the rest scrambled
  pub sent-bits : sent_bits x frame ≡ S ++ R
  sent-bits =
      ap (take 4227) (sent x frame l o (checked frame c).2 ∙ sym (append_assoc S R Z))
      ∙ take_at (S ++ R) Z 4227 (length-append S R ∙ omega (arith, S-length, R-length))

  pub sent-length : length (sent_bits x frame) ≡ 4227
  sent-length = ap length sent-bits ∙ length-append S R ∙ omega (arith, S-length, R-length)

  module _ (before after : List ℕ) (h : 23 ≤ length before) (st : state_at before (length before) ≡ x.state) where
    abbrev L : List ℕ
    L = before ++ (sent_bits x frame ++ after)

    abbrev p : ℕ
    p = length before

    its-bits : part p 4227 L ≡ sent_bits x frame
    its-bits = part-is before (sent_bits x frame) after p 4227 refl sent-length

    its-octets : heard_at L p ≡ frame_out scramble x frame
    its-octets = ap (λ (t : List ℕ). octets_of 529 (t ++ Z)) (its-bits ∙ sent-bits) ∙ ap (octets_of 529) (append_assoc S R Z)

    its-state : state_at L p ≡ x.state
    its-state = ap (λ (t : List ℕ). value_of (reverse t)) (part-before before (sent_bits x frame ++ after) (p - 23) 23 (omega arith)) ∙ st

    -- it comes out as it was
    pub comes-out : frame_at x.end L p ≡ frame
    unfolding frame_at
    comes-out =
        ap₂ (λ (n : ℕ) (t : List ℕ). frame_out descramble (record { end = x.end; state = n }) t) its-state its-octets
        ∙ frame_back x frame l o (checked frame c).2

    its-sync : part p 14 L ≡ S
    its-sync =
        ap (λ (t : List ℕ). part p 14 (before ++ t)) (ap (λ (t : List ℕ). t ++ after) sent-bits ∙ append_assoc S R after)
        ∙ part-is before S (R ++ after) p 14 refl S-length

    -- and lies at its place
    pub lies-sent : lies_at x.end L p ≡ true
    lies-sent =
        lies-here x.end L p h (omega (arith, length-append before (sent_bits x frame ++ after), length-append (sent_bits x frame) after, sent-length))
        ∙ ap₂ ◌&&◌
        (ap (λ (t : List ℕ). eqb (value_of t) (value_of training_sync) || eqb (value_of t) (value_of final_sync)) its-sync ∙ (checked frame c).1)
        (ap (λ (t : List ℕ). eqb (answer (check_refusals t)) 0) comes-out ∙ ap (λ (n : ℕ). eqb n 0) c)

    -- behind it the sender's next state stands on the line
    pub next-state : x.state < 2 ^ 23 → state_at (before ++ sent_bits x frame) (length (before ++ sent_bits x frame)) ≡ (after_frame x frame).state
    next-state k =
        ap (λ (t : List ℕ). state_at t (length t)) (ap (λ (t : List ℕ). before ++ t) sent-bits ∙ sym (append_assoc before S R))
        ∙ last_of (before ++ S) R x.state (omega (arith, R-length))
        ∙ sym (scrambled-state (tap_of x.end) x.state (clocked frame) k)
      where
        last_of : (A Q : List ℕ) (state : ℕ) → 23 ≤ length Q → state_at (A ++ Q) (length (A ++ Q)) ≡ newest state Q
        last_of A Q state m =
            let E = reverse (digits_of 23 state) in
            let k = length Q - 23 in
            let D = drop k Q in
            let d : length D ≡ 23 = length-drop k Q ∙ omega arith in
            ap (λ (t : List ℕ). value_of (reverse t))
            (part-behind A Q k 23 (length (A ++ Q) - 23) (omega (arith, length-append A Q)) ∙ take_all 23 D (omega (arith, d)))
            ∙ ap value_of
            (sym (ap (take 23) (reverse-append E Q)
            ∙ take-append-le 23 (reverse Q) (reverse E) (omega (arith, length-reverse Q))
            ∙ ap (λ (t : List ℕ). take 23 (reverse t)) (sym (take-append-drop k Q))
            ∙ ap (take 23) (reverse-append (take k Q) D)
            ∙ take_at (reverse D) (reverse (take k Q)) 23 (length-reverse D ∙ d)))

-- ---- frames on end

-- a state on the line fits its 23 bits
state-small : (bits : List ℕ) → Bits bits → 23 ≤ length bits → state_at bits (length bits) < 2 ^ 23
state-small bits b h =
    let P = part (length bits - 23) 23 bits in
    let l : length P ≡ 23 = length-take-le 23 (drop (length bits - 23) bits) (omega (arith, length-drop (length bits - 23) bits)) in
    subst (λ (n : ℕ). value_of (reverse P) < 2 ^ n) (length-reverse P ∙ l)
    (value-lt (reverse P) (reverse_bits P (take-bits 23 (drop (length bits - 23) bits) (drop_bits (length bits - 23) bits b))))

-- from the place of the first of them on
at_once : (x : Scrambler) (fs : List (List ℕ)) (before after : List ℕ) (gs : List Given) → Good fs → Bits before → 23 ≤ length before
    → state_at before (length before) ≡ x.state → GivenFrom x.end (before ++ (on_end x fs ++ after)) (length before) gs
    → Begins (placed_from (length before) fs) gs
unfolding on_end placed_from
at_once x [] before after gs no_frame b h st g = record { rest = gs; whole = refl }
at_once x _ before after gs (more f fs o c good) b h st g =
    pick gs (subst (λ (t : List ℕ). GivenFrom x.end t (length before) gs) rejoin g)
    (λ before' hs b' h' st' g'. at_once (after_frame x f) fs before' after hs good b' h' st' g')
  where
    n : ℕ
    n = length before

    y : Scrambler
    y = after_frame x f

    tail : List ℕ
    tail = on_end y fs ++ after

    B : List ℕ
    B = before ++ sent_bits x f

    M : List ℕ
    M = before ++ (sent_bits x f ++ tail)

    rejoin : before ++ ((sent_bits x f ++ on_end y fs) ++ after) ≡ M
    rejoin = ap (λ (t : List ℕ). before ++ t) (append_assoc (sent_bits x f) (on_end y fs) after)

    B-size : length B ≡ n + 4227
    B-size = length-append before (sent_bits x f) ∙ ap (λ (m : ℕ). n + m) (sent-length x f o c)

    B-bits : Bits B
    B-bits = append_bits before (sent_bits x f) b (take-bits 4227 (bits_of (frame_out scramble x f)) (bits-bits (frame_out scramble x f)))

    state-now : x.state < 2 ^ 23
    state-now = subst (λ (m : ℕ). m < 2 ^ 23) st (state-small before b h)

    it-lies : lies_at x.end M n ≡ true
    it-lies = lies-sent x f o c before tail h st

    Rest : Type 0
    Rest = (before' : List ℕ) (hs : List Given) → Bits before' → 23 ≤ length before' → state_at before' (length before') ≡ y.state
        → GivenFrom x.end (before' ++ (on_end y fs ++ after)) (length before') hs → Begins (placed_from (length before') fs) hs

    pick : (hs : List Given) → GivenFrom x.end M n hs → Rest → Begins (record { place = n; frame = f } ∷ placed_from (n + 4227) fs) hs
    pick _ (nothing _ none) ih = absurd (false≢true (sym (none n (omega arith)) ∙ it-lies))
    pick _ (next _ p hs e g') ih = first (dec_le (suc n) p)
      where
        first : Dec (n < p) → Begins (record { place = n; frame = f } ∷ placed_from (n + 4227) fs) (given_at x.end M p ∷ hs)
        first (yes l) = absurd (false≢true (sym (e.first n (omega arith) l) ∙ it-lies))
        first (no l) =
            let s : p ≡ n = omega (arith, e.not_before) in
            let m = ih B hs B-bits (omega (arith, B-size)) (next-state x f o c before tail h st state-now)
            (subst (λ (i : ℕ). GivenFrom x.end (B ++ tail) i hs) (ap (λ (i : ℕ). i + 4227) s ∙ sym B-size)
            (subst (λ (t : List ℕ). GivenFrom x.end t (p + 4227) hs) (sym (append_assoc before (sent_bits x f) tail)) g')) in
            record {
              rest = m.rest;
              whole = ap₂ (λ (v : Given) (vs : List Given). v ∷ vs)
                  (ap (given_at x.end M) s ∙ ap (λ (t : List ℕ). record { place = n; frame = t }) (comes-out x f o c before tail h st))
                  (m.whole ∙ ap (λ (i : ℕ). placed_from i fs ++ m.rest) B-size);
            }

-- what is given holds others, one behind the other
pub record Holds (gs ms : List Given) : Type 0 where
  pub front : List Given
  pub rest : List Given
  pub whole : gs ≡ front ++ (ms ++ rest)

-- where a frame lies at place n, what is given comes to it, or goes across it
come-to : (end : ℕ) (L : List ℕ) (n from : ℕ) (gs ms : List Given) → lies_at end L n ≡ true → GivenFrom end L from gs → from ≤ n → (Across n gs → ⊥)
    → ((hs : List Given) → GivenFrom end L n hs → Begins ms hs) → Holds gs ms
come-to end L n from [] ms e (nothing _ none) h a k = absurd (false≢true (sym (none n h) ∙ e))
come-to end L n from _ ms e (next _ p gs f g) h a k =
    pick (dec_le p n) (dec_le n p) (λ i c. come-to end L n (p + 4227) gs ms e g i c k)
  where
    G : Given
    G = given_at end L p

    pick : Dec (p ≤ n) → Dec (n ≤ p) → (p + 4227 ≤ n → (Across n gs → ⊥) → Holds gs ms) → Holds (G ∷ gs) ms
    pick (no l) m ih = absurd (false≢true (sym (f.first n h (omega arith)) ∙ e))
    pick (yes l) (yes m) ih =
        let w = k (G ∷ gs) (next n p gs (record { not_before = m; lies = f.lies; first = λ q i j. absurd (omega arith) }) g) in
        record { front = []; rest = w.rest; whole = w.whole }
    pick (yes l) (no m) ih = ends (dec_le (p + 4227) n)
      where
        ends : Dec (p + 4227 ≤ n) → Holds (G ∷ gs) ms
        ends (no i) = absurd (a (here G gs (omega arith) (omega arith)))
        ends (yes i) =
            let w = ih i (λ c. a (there G gs c)) in
            record { front = G ∷ w.front; rest = w.rest; whole = ap (λ (v : List Given). G ∷ v) w.whole }

-- FRAMES SENT ON END ARE ALL GIVEN, one behind the other, unless a frame that is given begins before the first of them and ends behind its place
pub all-given : (x : Scrambler) (fs : List (List ℕ)) (before after : List ℕ) (gs : List Given) → Good fs → Bits before → 23 ≤ length before
    → state_at before (length before) ≡ x.state → GivenOf x.end (before ++ (on_end x fs ++ after)) gs → (Across (length before) gs → ⊥)
    → Holds gs (placed_from (length before) fs)
unfolding on_end placed_from
all-given x [] before after gs no_frame b h st g a = record { front = []; rest = gs; whole = refl }
all-given x _ before after gs (more f fs o c good) b h st g a =
    come-to x.end (before ++ (on_end x (f ∷ fs) ++ after)) (length before) 0 gs (placed_from (length before) (f ∷ fs))
    (ap (λ (t : List ℕ). lies_at x.end (before ++ t) (length before)) (append_assoc (sent_bits x f) (on_end (after_frame x f) fs) after)
    ∙ lies-sent x f o c before (on_end (after_frame x f) fs ++ after) h st)
    g (omega arith) a (λ hs k. at_once x (f ∷ fs) before after hs (more f fs o c good) b h st k)

-- no frame that is given begins before place 23
pub none-across : (end : ℕ) (bits : List ℕ) (from n : ℕ) (gs : List Given) → n ≤ 23 → GivenFrom end bits from gs → Across n gs → ⊥
none-across end bits from n _ h (nothing _ _) x = elim x [ ]
none-across end bits from n _ h (next _ p gs e g) (here _ _ a b) = absurd (omega (arith, (lies-sound end bits p e.lies).0, a))
none-across end bits from n _ h (next _ p gs e g) (there _ _ a) = none-across end bits (p + 4227) n gs h g a

-- A FRAME ALONE behind the sender's last 23 bits: it is given, and nothing else
pub alone : (x : Scrambler) (frame : List ℕ) (o : Octets frame) (c : answer (check_refusals frame) ≡ 0) (before : List ℕ) → length before ≡ 23
    → state_at before (length before) ≡ x.state → GivenOf x.end (before ++ sent_bits x frame) (record { place = 23; frame = frame } ∷ [])
alone x frame o c before l st =
    let h : 23 ≤ length before = omega (arith, l) in
    let L = before ++ (sent_bits x frame ++ []) in
    let n : length L ≡ length before + 4227 =
    length-append before (sent_bits x frame ++ []) ∙ ap (λ (m : ℕ). length before + m) (length-append (sent_bits x frame) [] ∙ omega (arith, sent-length x frame o c)) in
    subst (λ (t : List ℕ). GivenOf x.end (before ++ t) (record { place = 23; frame = frame } ∷ [])) (append-nil (sent_bits x frame))
    (subst (λ (g : Given). GivenOf x.end L (g ∷ []))
    (ap₂ (λ (i : ℕ) (f : List ℕ). record { place = i; frame = f }) l (comes-out x frame o c before [] h st))
    (next 0 (length before) []
    (record { not_before = omega arith; lies = lies-sent x frame o c before [] h st; first = λ q a b. lies-early x.end L q (omega (arith, l)) })
    (nothing (length before + 4227) (λ q a. lies-late x.end L q (omega (arith, n))))))
