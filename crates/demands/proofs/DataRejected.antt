-- No library whose data-mode frames are exact is one of those that have to be rejected. Assumes nothing.
use mathlib.Core.Path.{◌≡◌, refl, sym, ap, ◌∙◌, subst}
use mathlib.Core.List.{List, ◌∷◌}
use Prim.Native.Nat.{ℕ, zero, suc, ◌<◌, ◌^◌}
use native.Mathlib.Omega.{arith}
use lib.Dec.{lit≤, lit<}
use lib.ListN.{length}
use Rattle.octets.specs.Bits.{bits_of}
use Rattle.octets.proofs.Laws.{bits-bits}
use Rattle.remainder.specs.Division.{polynomial}
use Rattle.dataframe.specs.Table.{crc}
use Rattle.dataframe.specs.Frame.{carried, due_of, Due}
use Rattle.dataframe.proofs.RoundTrip.{Right as Taken, writes, same-octets}
use Rattle.dataframe.proofs.Order.{due-one}
use Rattle.host.specs.declared.data.DataOverhead.{DataOverhead}
use Rattle.host.specs.Data.{overhead_of}
use Rattle.demands.specs.Handed.{Outcome, None}
use Rattle.demands.specs.HandedData.{DataWriteCall, DataCrcCall, Sixes, DataCheckCall, DataReadCall}
use Rattle.demands.specs.Library.{Library}
use Rattle.demands.specs.Checks.{data_write_checks}
use Rattle.demands.specs.Frames.{Right, Octets}
use Rattle.demands.specs.DataFrames.{DataFrames}
use Rattle.demands.specs.WrongData.{OneDataFrame, DataFrameUnwritten, PayloadUnwritten, OwnSix, RejectedData}
use Rattle.demands.proofs.DataLaws.{written-fits, written-checks, six-is, due-same}
use Rattle.demands.proofs.DataOurs.{frame_for}
use Rattle.demands.proofs.DataTwo.{data-interwork}
use Rattle.demands.proofs.Rejected.{zeros, differ, zeros-small}

-- ---- calls to which no check applies: the smallest synchronous frame, all zero but for the six in it, payload p, over the room f

abbrev overhead_with : ℕ → DataOverhead
overhead_with six = record { indicators = 0; eoc = 0; spare = 0; stuffing = 0; crc = six }

abbrev smallest : ℕ → List ℕ → List ℕ → DataWriteCall
smallest six p f = record { form = 0; size = 24; sync = 0; overhead = overhead_with six; payload = p; frame = f }

taken : (six : ℕ) (p : List ℕ) → six < 2 ^ 6 → length p ≡ 144 → Taken 0 24 0 (overhead_of (overhead_with six)) p
taken six p h l =
    record {
      known = lit≤ tt;
      least = lit≤ tt;
      most = lit≤ tt;
      long = l;
      stuffed = refl;
      word_fits = lit< tt;
      indicators-fit = lit< tt;
      eoc-fits = lit< tt;
      crc-fits = h;
      spare-fits = λ e. lit< tt;
    }

right : (six : ℕ) (p f : List ℕ) → six < 2 ^ 6 → length p ≡ 144 → length f ≡ 1740 → Right (data_write_checks (smallest six p f))
right six p f h l m = writes 0 24 0 (overhead_of (overhead_with six)) p f (taken six p h l) m

abbrev one-first : List ℕ
one-first = 1 ∷ zeros 143

one-small : Octets one-first
one-small zero = lit≤ tt
one-small (suc i) = zeros-small 143 i

module _ (x : Library) (exact : DataFrames x) where
  written : (six : ℕ) (p f : List ℕ) → six < 2 ^ 6 → length p ≡ 144 → length f ≡ 1740
      → ((x.data_write (smallest six p f)).answer ≡ 0) × ((x.data_write (smallest six p f)).memory ≡ frame_for (smallest six p f))
  written six p f h l m =
      let e = exact.written (smallest six p f) (right six p f h l m) in
      (ap (λ (o : Outcome ℕ (List ℕ)). o.answer) e, ap (λ (o : Outcome ℕ (List ℕ)). o.memory) e)

  -- a frame of zeros
  abbrev plain : DataWriteCall
  plain = smallest 0 (zeros 144) (zeros 1740)

  plain-right : Right (data_write_checks plain)
  plain-right = right 0 (zeros 144) (zeros 1740) (lit< tt) refl refl

  plain-taken : Taken 0 24 0 (overhead_of (overhead_with 0)) (zeros 144)
  plain-taken = taken 0 (zeros 144) (lit< tt) refl

  plain-written : ((x.data_write plain).answer ≡ 0) × ((x.data_write plain).memory ≡ frame_for plain)
  plain-written = written 0 (zeros 144) (zeros 1740) (lit< tt) refl refl

  -- read into a room that begins with a one
  abbrev over-one : DataReadCall
  over-one = record { form = 0; size = 24; sync = 0; next = (x.data_write plain).numbers; frame = (x.data_write plain).memory; payload = one-first }

  plain-read : ((x.data_read over-one).answer ≡ 0) × ((x.data_read over-one).memory ≡ zeros 144)
  plain-read =
      let e = (data-interwork x x exact exact).frame plain plain-right (zeros-small 144) one-first refl in
      (ap (λ (o : Outcome DataOverhead (List ℕ)). o.answer) e, ap (λ (o : Outcome DataOverhead (List ℕ)). o.memory) e)

  -- two payloads
  one-frame-refuted : OneDataFrame x → ⊥
  one-frame-refuted w =
      let u = written 0 one-first (zeros 1740) (lit< tt) refl refl in
      let e : frame_for (smallest 0 one-first (zeros 1740)) ≡ frame_for plain =
      sym u.1 ∙ w plain one-first plain-written.0 u.0 ∙ plain-written.1 in
      differ 143 (sym (same-octets 0 24 0 0 (overhead_of (overhead_with 0)) (overhead_of (overhead_with 0)) one-first (zeros 144)
      (taken 0 one-first (lit< tt) refl) plain-taken one-small (zeros-small 144) e).2)

  -- two rooms
  frame-refuted : DataFrameUnwritten x → ⊥
  frame-refuted w =
      let c = smallest 0 (zeros 144) (1 ∷ zeros 1739) in
      let u = written 0 (zeros 144) (1 ∷ zeros 1739) (lit< tt) refl refl in
      differ 1739 (sym (w plain plain-written.0) ∙ plain-written.1 ∙ sym u.1 ∙ w c u.0)

  payload-refuted : PayloadUnwritten x → ⊥
  payload-refuted w = differ 143 (sym plain-read.1 ∙ w over-one plain-read.0)

  -- six of 0 and six of 1 in two frames that are the same otherwise: the six due of them are the same
  own_is : (six : ℕ) → six < 2 ^ 6 → OwnSix x → six ≡ due_of 0 24 (bits_of (frame_for (smallest six (zeros 144) (zeros 1740))))
  own_is six h w =
      let c = smallest six (zeros 144) (zeros 1740) in
      let F = frame_for c in
      let u = written six (zeros 144) (zeros 1740) h refl refl in
      let d = w c u.0 in
      let e : Due 0 24 (bits_of F) six =
      subst (Due 0 24 (bits_of F)) (six-is 0 24 0 (overhead_of (overhead_with six)) (zeros 144) (taken six (zeros 144) h refl))
      (subst (λ (f : List ℕ). Due 0 24 (bits_of f) (polynomial (carried crc 0 24 (bits_of f)))) u.1 d) in
      due-one 0 24 (bits_of F) (bits-bits F) six e

  own-six-refuted : OwnSix x → ⊥
  own-six-refuted w =
      let o = overhead_of (overhead_with 0) in
      omega (arith, own_is 0 (lit< tt) w ∙ due-same 0 24 0 o (zeros 144) plain-taken 1 (lit< tt) ∙ sym (own_is 1 (lit< tt) w))

  pub data-rejected : RejectedData x
  data-rejected =
      let o = overhead_of (overhead_with 0) in
      let F = frame_for plain in
      record {
        refuses_writing = λ w. w plain plain-written.0;
        refuses_sixes = λ w.
            let c : DataCrcCall = record { form = 0; size = 24; frame = F } in
            w c (ap (λ (s : Outcome Sixes None). s.answer) (exact.sixes c (written-fits 0 24 0 o (zeros 144) plain-taken)));
        refuses_checking = λ w.
            let c : DataCheckCall = record { form = 0; size = 24; sync = 0; next = due_of 0 24 (bits_of F); frame = F } in
            w c (ap (λ (s : Outcome None None). s.answer) (exact.checked c (written-checks 0 24 0 o (zeros 144) plain-taken)));
        refuses_reading = λ w. w over-one plain-read.0;
        one_frame = one-frame-refuted;
        frame_unwritten = frame-refuted;
        payload_unwritten = payload-refuted;
        own_six = own-six-refuted;
      }
