-- Laws of a call: what the search through the joined bits finds is what the promise says, and what is left behind. Assumes nothing.
use mathlib.Core.Path.{◌≡◌, refl, sym, ap, ap₂, subst, ◌∙◌}
use mathlib.Core.Bool.{Bool, true, false, cond, ◌&&◌}
use mathlib.Core.Logic.{◌⊎◌, inl, inr}
use mathlib.Core.List.{List, ◌++◌}
use Prim.Native.Nat.{ℕ, ◌+◌, ◌-◌, ◌*◌, ◌≤◌, ◌<◌, min, max}
use native.Mathlib.Decide.{dec_le}
use native.Mathlib.Omega.{arith}
use borrow.Author.Tests.{ltb-true, lt-leb}
use lib.Dec.{leb, ltb}
use lib.ListN.{length, drop, replicate, length-append, length-drop, length-replicate}
use lib.Seq.{length-take-le, take_all}
use Rattle.answer.specs.Answer.{answer}
use Rattle.answer.proofs.Laws.{kept, given}
use Rattle.octets.specs.Bits.{bits_of, octets_of, part, laid}
use Rattle.octets.proofs.Laws.{bits-length, laid_end}
use Rattle.octets.proofs.Fields.{part-before}
use Rattle.receiver.specs.Stream.{frame_at, lies_at}
use Rattle.receiver.specs.Promises.{receive_refusals, joined, takes, first_that, found, received_of, line_after, room_after, ReceivePromise}
use Rattle.receiver.specs.declared.Receiver.{Receiver}
use Rattle.receiver.specs.Promises.{Got}
use Rattle.receiver.proofs.Earliest.{First, first_is, first_one}
use Rattle.receiver.proofs.Window.{lies_more, frame-more}
use Rattle.receiver.proofs.Cut.{call-sound, refused-is, takes-sound, takes-there}

-- a refused call
pub refused-call : (x : Receiver) (line lump : List ℕ) (count : ℕ) (frame : List ℕ) (n : ℕ) → n ≡ answer (receive_refusals x line lump count frame) → (n ≡ 0 → ⊥)
    → ReceivePromise x line lump count frame (record { answer = n; given = 0; place = 0; next = x }) line frame
refused-call x line lump count frame n e z =
    let R = receive_refusals x line lump count frame in
    let y : answer R ≡ 0 → ⊥ = λ k. z (e ∙ k) in
    record {
      returned = sym (refused-is n x (found x line lump count) count z) ∙ ap (λ (k : ℕ). received_of k x (found x line lump count) count) e;
      line_left = sym (kept (answer R) line _ y);
      room_left = sym (kept (answer R) frame _ y);
    }

module _ (x : Receiver) (line lump : List ℕ) (count : ℕ) (frame room : List ℕ) (sound : answer (receive_refusals x line lump count frame) ≡ 0)
    (joins : bits_of room ≡ joined line lump count ++ replicate (4096 - count) 0) where
  abbrev J : List ℕ
  J = joined line lump count

  abbrev Z : List ℕ
  Z = replicate (4096 - count) 0

  abbrev stop : ℕ
  stop = 30 + count

  pub J-length : length J ≡ 4256 + count
  J-length =
      let w = call-sound x line lump count frame sound in
      length-append (bits_of line) (part 0 count (bits_of lump))
      ∙ ap₂ ◌+◌ (bits-length line ∙ ap (λ (n : ℕ). 8 * n) w.1) (length-take-le count (bits_of lump) (omega (arith, w.0, bits-length lump)))

  pub room-length : 8 * length room ≡ 8352
  room-length =
      let w = call-sound x line lump count frame sound in
      sym (bits-length room) ∙ ap length joins ∙ length-append J Z ∙ omega (arith, J-length, w.4, length-replicate {A = ℕ} (4096 - count) 0)

  -- before the place to begin at nothing is taken
  too-early : (b : ℕ) → (x.heard + b < 4279) ⊎ (x.heard + b < x.from + 4256) → takes x J b ≡ false
  too-early b (inl h) = ap (λ (s : Bool). s && (leb (x.from + 4256) (x.heard + b) && lies_at x.end J b)) (lt-leb 4279 (x.heard + b) h)
  too-early b (inr h) =
      ap (λ (s : Bool). leb 4279 (x.heard + b) && (s && lies_at x.end J b)) (lt-leb (x.from + 4256) (x.heard + b) h) ∙ never (leb 4279 (x.heard + b))
    where
      never : (s : Bool) → s && false ≡ false
      never true = refl
      never false = refl

  module _ (start at : ℕ) (begins : start ≡ min (max 30 (max 23 x.from + 4256 - x.heard)) stop)
      (finds : at ≡ first_that (lies_at x.end (bits_of room)) start (stop - start)) where
    searched : First (lies_at x.end (J ++ Z)) start (stop - start) at
    searched =
        subst (λ (l : List ℕ). First (lies_at x.end l) start (stop - start) at) joins
        (subst (First (lies_at x.end (bits_of room)) start (stop - start)) (sym finds) (first_is (lies_at x.end (bits_of room)) start (stop - start)))

    -- from there on
    in_time : (b : ℕ) → start ≤ b → b < stop → takes x J b ≡ lies_at x.end (J ++ Z) b
    in_time b h l =
        takes-there x J b (omega (arith, begins)) (omega (arith, begins)) ∙ sym (lies_more x.end J Z b (omega (arith, J-length)))

    pub is_found : at ≡ found x line lump count
    is_found =
        first_one (takes x J) 30 count at
        (record {
          from = omega (arith, begins, searched.from);
          to = omega (arith, begins, searched.to);
          holds = λ l. in_time at searched.from l ∙ searched.holds (omega (arith, begins));
          before = λ q h l. pick q h l (dec_le start q);
        })
      where
        pick : (q : ℕ) → 30 ≤ q → q < at → Dec (start ≤ q) → takes x J q ≡ false
        pick q h l (yes k) = in_time q k (omega (arith, begins, searched.to)) ∙ searched.before q k l
        pick q h l (no k) = too-early q (side (dec_le 4279 (x.heard + q)))
          where
            side : Dec (4279 ≤ x.heard + q) → (x.heard + q < 4279) ⊎ (x.heard + q < x.from + 4256)
            side (yes m) = inr (omega (arith, begins))
            side (no m) = inl (omega arith)

    pub place-there : at < stop → 4256 ≤ x.heard + at
    place-there l = omega (arith, (takes-sound x J at (in_time at searched.from l ∙ searched.holds (omega (arith, begins)))).0)

    pub room-is : (exit : List ℕ) → exit ≡ cond (ltb at stop) (frame_at x.end (bits_of room) at) frame → exit ≡ room_after x.end J (found x line lump count) count frame
    room-is exit e = e ∙ pick (ltb at stop) refl ∙ ap (λ (b : ℕ). room_after x.end J b count frame) is_found
      where
        pick : (t : Bool) → ltb at stop ≡ t → cond t (frame_at x.end (bits_of room) at) frame ≡ cond t (frame_at x.end J at) frame
        pick false f = refl
        pick true f =
            ap (λ (l : List ℕ). frame_at x.end l at) joins
            ∙ frame-more x.end J Z at (omega (arith, J-length, ltb-true at stop f)) (omega (arith, begins, searched.from))

  pub line-is : (exit : List ℕ) → exit ≡ laid line 0 (part count 4256 (bits_of room)) → exit ≡ line_after line lump count
  line-is exit e =
      let l : length line ≡ 532 = (call-sound x line lump count frame sound).1 in
      let d : length (drop count J) ≡ 4256 = length-drop count J ∙ omega (arith, J-length) in
      let p : part count 4256 (bits_of room) ≡ drop count J =
      ap (part count 4256) joins ∙ part-before J Z count 4256 (omega (arith, J-length)) ∙ take_all 4256 (drop count J) (omega (arith, d)) in
      e ∙ ap (laid line 0) p ∙ laid_end line 0 (drop count J) (omega (arith, d, l)) ∙ ap (λ (n : ℕ). octets_of n (drop count J)) l

-- a call that is not refused
pub done-call : (x : Receiver) (line lump : List ℕ) (count : ℕ) (frame : List ℕ) (r : Got) (at : ℕ) (line' frame' : List ℕ)
    → answer (receive_refusals x line lump count frame) ≡ 0 → at ≡ found x line lump count → r ≡ received_of 0 x at count → line' ≡ line_after line lump count
    → frame' ≡ room_after x.end (joined line lump count) (found x line lump count) count frame → ReceivePromise x line lump count frame r line' frame'
done-call x line lump count frame r at line' frame' z e f g h =
    let R = receive_refusals x line lump count frame in
    record {
      returned = f ∙ ap₂ (λ (n b : ℕ). received_of n x b count) (sym z) e;
      line_left = g ∙ sym (given (answer R) line (line_after line lump count) z);
      room_left = h ∙ sym (given (answer R) frame (room_after x.end (joined line lump count) (found x line lump count) count frame) z);
    }
