-- No library that receives as `Receives` says is one of `RejectedReceivers`: two frames on end are both given, a bit at a time. Assumes nothing.
use mathlib.Core.Path.{◌≡◌, refl, sym, ap, ap₂, subst, ◌∙◌}
use mathlib.Core.Bool.{Bool, true, false, cond, not}
use mathlib.Core.List.{List, [], ◌∷◌, ◌++◌, map}
use Prim.Native.Nat.{ℕ, suc, ◌+◌, ◌*◌, ◌≤◌, ◌<◌}
use native.Mathlib.Nat.{mod-eq_of_lt}
use native.Mathlib.Omega.{arith}
use borrow.Author.Tests.{eq-eqb}
use lib.Dec.{eqb}
use lib.ListN.{length, get_or, replicate, length-append, length-take, length-replicate}
use Rattle.answer.specs.Answer.{answer}
use Rattle.answer.proofs.Laws.{passed}
use Rattle.octets.specs.Bits.{digits_of, value_of, bits_of, octets_of, part}
use Rattle.octets.proofs.Digits.{Bits, nil-bits, append_bits, take-bits, zeros-bits}
use Rattle.octets.proofs.Laws.{octets-length, bits-bits}
use Rattle.octets.proofs.Words.{octets-octets}
use Rattle.layout.specs.Frame.{final_sync, frame_bits, final_bits}
use Rattle.layout.specs.Refusals.{bit_refusals, check_refusals}
use Rattle.layout.proofs.RoundTrip.{final-laid, final-answers}
use Rattle.recurrence.specs.declared.Way.TheVariants.{Scramble as scramble}
use Rattle.scrambler.specs.Promises.{frame_out}
use Rattle.scrambler.specs.declared.Scrambler.{Scrambler}
use Rattle.receiver.specs.Stream.{state_at}
use Rattle.receiver.specs.Given.{Given, GivenOf}
use Rattle.receiver.specs.Calls.{joined_bits, all_handed}
use Rattle.receiver.specs.Sent.{none as no_frame, more, sent_bits, after_frame, on_end, placed_from}
use Rattle.receiver.proofs.Given.{Some, given-some}
use Rattle.receiver.proofs.Sent.{Holds, all-given, none-across}
use Rattle.host.specs.declared.receiving.Receiver.{Receiver}
use Rattle.demands.specs.Library.{Library}
use Rattle.demands.specs.Receiving.{LumpCall, lumps_of, call_of, outs_of, heard_by, NoneRefused, one, AllFit, no_lump, lump_fits, Receives}
use Rattle.demands.specs.Handed.{Outcome}
use Rattle.demands.specs.HandedLine.{GivenPlace, LineRooms}
use Rattle.demands.specs.WrongLibraries.{Refuses}
use Rattle.demands.specs.WrongReceivers.{RoomUnwritten, RejectedReceivers}

-- ---- two frames on end

-- a final frame
abbrev zeros : List ℕ
zeros = replicate 16 0

F : List ℕ
F = octets_of 529 (final_bits zeros)

F-bits : bits_of F ≡ final_bits zeros
unfolding F
F-bits = final-laid zeros refl

F-octets : (i : ℕ) → get_or F i 0 < 256
unfolding F
F-octets = octets-octets 529 (final_bits zeros) (subst Bits F-bits (bits-bits F))

F-checks : answer (check_refusals F) ≡ 0
unfolding F
F-checks =
    passed 1 (bit_refusals (bits_of F)) (ap not (eq-eqb _ _ (octets-length 529 (final_bits zeros))))
    ∙ ap (λ (b : List ℕ). answer (bit_refusals b)) F-bits ∙ (final-answers zeros refl).0

-- from the LTU, at its start
abbrev X : Scrambler
X = record { end = 0; state = 0 }

abbrev before : List ℕ
before = replicate 23 0

before-state : state_at before (length before) ≡ 0
unfolding value_of
before-state = refl

-- the bits on the line
stream : List ℕ
stream = before ++ (on_end X (F ∷ F ∷ []) ++ [])

-- what is given of them
list : Some 0 stream 0
list = given-some 0 stream (length stream) 0 (omega arith)

both-given : Holds list.list (placed_from 23 (F ∷ F ∷ []))
unfolding stream
both-given =
    let gs = list.list in
    all-given X (F ∷ F ∷ []) before [] gs (more F (F ∷ []) F-octets F-checks (more F [] F-octets F-checks no_frame)) (zeros-bits 23) (omega arith) before-state
    list.is (none-across 0 stream 0 23 gs (omega arith) list.is)

two-given : 2 ≤ length list.list
unfolding placed_from
two-given =
    let h = both-given in
    omega (arith, ap length h.whole, length-append h.front (placed_from 23 (F ∷ F ∷ []) ++ h.rest), length-append (placed_from 23 (F ∷ F ∷ [])) h.rest)

-- ---- a bit at a time

abbrev room : List ℕ
room = replicate 529 0

abbrev single : ℕ → LumpCall
single b = record { lump = record { octets = b ∷ []; count = 1 }; room = room }

abbrev singles : List ℕ → List LumpCall
singles bits = map single bits

one_bit : (b : ℕ) → b < 2 → part 0 1 (bits_of (b ∷ [])) ≡ b ∷ []
unfolding bits_of digits_of
one_bit b h = ap (λ (n : ℕ). n ∷ []) (mod-eq_of_lt h)

singles-joined : (bits : List ℕ) → Bits bits → joined_bits (lumps_of (singles bits)) ≡ bits
unfolding joined_bits
singles-joined [] h = refl
singles-joined (b ∷ bits) h = ap₂ ◌++◌ (one_bit b (h 0)) (singles-joined bits (λ i. h (suc i)))

singles-fit : (bits : List ℕ) (heard : ℕ) → heard + length bits ≤ 4294967295 → AllFit heard (singles bits)
singles-fit [] heard h = no_lump heard
singles-fit (b ∷ bits) heard h =
    lump_fits heard (single b) (singles bits) (omega arith) (omega arith) (length-replicate {A = ℕ} 529 0) (omega arith) (singles-fit bits (heard + 1) (omega arith))

sent-bits : (x : Scrambler) (fs : List (List ℕ)) → Bits (on_end x fs)
unfolding on_end
sent-bits x [] = nil-bits
sent-bits x (f ∷ fs) =
    append_bits (sent_bits x f) (on_end (after_frame x f) fs) (take-bits 4227 (bits_of (frame_out scramble x f)) (bits-bits (frame_out scramble x f))) (sent-bits (after_frame x f) fs)

sent-length : (x : Scrambler) (fs : List (List ℕ)) → length (on_end x fs) ≤ 4227 * length fs
unfolding on_end
sent-length x [] = omega arith
sent-length x (f ∷ fs) =
    let B = bits_of (frame_out scramble x f) in
    omega (arith, length-append (sent_bits x f) (on_end (after_frame x f) fs), length-take 4227 B, sent-length (after_frame x f) fs)

stream_bits : Bits stream
unfolding stream
stream_bits = append_bits before (on_end X (F ∷ F ∷ []) ++ []) (zeros-bits 23) (append_bits (on_end X (F ∷ F ∷ [])) [] (sent-bits X (F ∷ F ∷ [])) nil-bits)

stream-length : length stream ≤ 4294967295
unfolding stream
stream-length =
    let E = on_end X (F ∷ F ∷ []) in
    let two : length {A = List ℕ} (F ∷ F ∷ []) ≡ 2 = refl in
    omega (arith, length-append before (E ++ []), length-append E [], sent-length X (F ∷ F ∷ []), two)

-- ---- a room that is not written

zero-first : get_or (bits_of room) 0 0 ≡ 0
unfolding bits_of digits_of
zero-first = refl

one-first : get_or (final_bits zeros) 0 0 ≡ 1
unfolding final_bits frame_bits final_sync
one-first = refl

-- frames that are all what stood in the room
data All (z : List ℕ) : List Given → Type 0 where
  none : All z []
  one_more : (g : Given) (gs : List Given) → g.frame ≡ z → All z gs → All z (g ∷ gs)

-- one that does not write the room hands out what stood in it
idle-handed : (x : Library) → RoomUnwritten x → (state : Receiver) (line bits : List ℕ) → NoneRefused x state line (singles bits)
    → All room (all_handed (outs_of x state line (singles bits)))
unfolding outs_of all_handed
idle-handed x w state line [] n = none
idle-handed x w state line (b ∷ bits) (one _ _ _ _ z n) =
    at (eqb r.numbers.given 1) (idle-handed x w r.memory.state r.memory.line bits n)
  where
    r : Outcome GivenPlace LineRooms
    r = x.receive (call_of state line (single b))

    rest : List Given
    rest = all_handed (outs_of x r.memory.state r.memory.line (singles bits))

    at : (t : Bool) → All room rest → All room (cond t (record { place = r.numbers.place; frame = r.memory.frame } ∷ []) [] ++ rest)
    at true a = one_more (record { place = r.numbers.place; frame = r.memory.frame }) rest (w (call_of state line (single b)) z) a
    at false a = a

-- one of them, behind others
its-frame : (front gs : List Given) (g : Given) → All room (front ++ (g ∷ gs)) → g.frame ≡ room
its-frame [] gs g (one_more _ _ e a) = e
its-frame (f ∷ front) gs g (one_more _ _ e a) = its-frame front gs g a

-- and F is not what stood there: its first bit is a one
F-other : F ≡ room → ⊥
F-other e =
    absurd (omega (arith, ap (λ (s : List ℕ). get_or (bits_of s) 0 0) e, zero-first, ap (λ (l : List ℕ). get_or l 0 0) F-bits, one-first))

-- the first of the two is F
first_frame : (gs : List Given) → Holds gs (placed_from 23 (F ∷ F ∷ [])) → All room gs → F ≡ room
unfolding placed_from
first_frame gs h a =
    its-frame h.front (record { place = 4250; frame = F } ∷ h.rest) (record { place = 23; frame = F }) (subst (All room) h.whole a)

-- ---- the theorem

module _ (x : Library) (rx : Receives x) where
  abbrev line : List ℕ
  line = replicate 532 0

  all-taken : NoneRefused x (x.receive_start 0).memory line (singles stream)
  all-taken = rx.taken 0 line (singles stream) refl (length-replicate {A = ℕ} 532 0) (singles-fit stream 0 (omega (arith, stream-length)))

  all-handed : all_handed (heard_by x 0 line (singles stream)) ≡ list.list
  all-handed =
      rx.given 0 line (singles stream) list.list refl (length-replicate {A = ℕ} 532 0) all-taken
      (subst (λ (b : List ℕ). GivenOf 0 b list.list) (sym (singles-joined stream stream_bits)) list.is)

  pub receivers-rejected : RejectedReceivers x
  receivers-rejected =
      record {
        refuses_starts = λ w. w 0 (ap (λ (o : Outcome GivenPlace Receiver). o.answer) (rx.started 0 refl));
        refuses_lumps = λ w. refused (rx.taken 0 line (single 0 ∷ []) refl (length-replicate {A = ℕ} 532 0) (singles-fit (0 ∷ []) 0 (omega arith))) w;
        never_gives = λ w. absurd (omega (arith, two-given, ap length (sym all-handed ∙ w 0 line (singles stream) all-taken)));
        first_only = λ w. absurd (omega (arith, two-given, ap length all-handed, w 0 line (singles stream) all-taken));
        room_unwritten = λ w.
            F-other (first_frame list.list both-given
            (subst (All room) all-handed (idle-handed x w (x.receive_start 0).memory line stream all-taken)));
      }
    where
      refused : NoneRefused x (x.receive_start 0).memory line (single 0 ∷ []) → Refuses x.receive → ⊥
      refused (one _ _ _ _ z n) w = w (call_of (x.receive_start 0).memory line (single 0)) z
