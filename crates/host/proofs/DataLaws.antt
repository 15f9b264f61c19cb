-- What the functions of data-mode frames answer with a Result, as it goes to C. Assumes nothing.
use mathlib.Core.Path.{◌≡◌, refl, ap, ◌∙◌}
use mathlib.Core.List.{List}
use Prim.Native.Nat.{ℕ, zero, suc, ◌≤◌}
use native.Mathlib.Omega.{arith}
use Rattle.std.specs.Prelude.{Ok, Err}
use Rattle.answer.specs.declared.Refused.{Refused}
use Rattle.answer.specs.Given.{number_of}
use Rattle.answer.proofs.Given.{refused-number}
use Rattle.octets.specs.Bits.{bits_of}
use Rattle.dataframe.specs.declared.Overhead.{Overhead}
use Rattle.dataframe.specs.Frame.{data_octets}
use Rattle.datacrc.specs.declared.Sixes.{Sixes}
use Rattle.datacrc.specs.Promises.{CrcGiven}
use Rattle.datawriter.specs.Promises.{DataWritten}
use Rattle.datareader.specs.Promises.{DataRead}
use Rattle.host.specs.declared.data.DataOverhead.{DataOverhead}
use Rattle.host.specs.declared.data.DataSent.{DataSent}
use Rattle.host.specs.declared.data.DataCrcs.{DataCrcs}
use Rattle.host.specs.declared.data.DataFields.{DataFields}
use Rattle.host.specs.Data.{overhead_of, overhead_for, written_of, DataFrameWritten, crc_of, DataCrcGiven, no_overhead, found_of, DataFrameRead}

-- ---- writing

written-none : (n form k : ℕ) (bits : List ℕ) → 1 ≤ n → ◌≡◌ {A = DataSent} (record { answer = n; crc = 0 }) (written_of n form k bits)
written-none zero form k bits h = absurd (omega arith)
written-none (suc n) form k bits h = refl

module _ (form k word : ℕ) (o : DataOverhead) (octets frame exit : List ℕ) where
  abbrev B : List ℕ
  B = bits_of (data_octets form k word (overhead_of o) octets)

  pub written-ok : (six : ℕ) → DataWritten form k word (overhead_of o) octets frame (Ok six) exit
      → DataFrameWritten form k word o octets frame (record { answer = 0; crc = six }) exit
  written-ok six w =
      record {
        given = ap (λ (d : ℕ). record { answer = 0; crc = d }) w.given ∙ ap (λ (n : ℕ). written_of n form k B) w.answered;
        left = w.left;
        due_right = λ z. w.due_right;
      }

  pub written-err : (e : Refused) → DataWritten form k word (overhead_of o) octets frame (Err e) exit
      → DataFrameWritten form k word o octets frame (record { answer = number_of e; crc = 0 }) exit
  written-err e w =
      let p = refused-number e in
      record {
        given = written-none (number_of e) form k B p ∙ ap (λ (n : ℕ). written_of n form k B) w.answered;
        left = w.left;
        due_right = λ z. absurd (omega (arith, p, z));
      }

-- ---- check bits

crc-none : (n form k : ℕ) (bits : List ℕ) → 1 ≤ n → ◌≡◌ {A = DataCrcs} (record { answer = n; carried = 0; due = 0 }) (crc_of n form k bits)
crc-none zero form k bits h = absurd (omega arith)
crc-none (suc n) form k bits h = refl

module _ (form k : ℕ) (frame : List ℕ) where
  pub crc-ok : (s : Sixes) → CrcGiven form k frame (Ok s) → DataCrcGiven form k frame (record { answer = 0; carried = s.carried; due = s.due })
  crc-ok s w =
      record {
        given = ap (λ (x : Sixes). record { answer = 0; carried = x.carried; due = x.due }) w.given ∙ ap (λ (n : ℕ). crc_of n form k (bits_of frame)) w.answered;
        due_right = λ z. w.due_right;
      }

  pub crc-err : (e : Refused) → CrcGiven form k frame (Err e) → DataCrcGiven form k frame (record { answer = number_of e; carried = 0; due = 0 })
  crc-err e w =
      let p = refused-number e in
      record {
        given = crc-none (number_of e) form k (bits_of frame) p ∙ ap (λ (n : ℕ). crc_of n form k (bits_of frame)) w.answered;
        due_right = λ z. absurd (omega (arith, p, z));
      }

-- ---- reading

found-none : (n form k : ℕ) (bits : List ℕ) → 1 ≤ n → ◌≡◌ {A = DataFields} (record { answer = n; overhead = overhead_for no_overhead }) (found_of n form k bits)
found-none zero form k bits h = absurd (omega arith)
found-none (suc n) form k bits h = refl

module _ (form k word next : ℕ) (frame octets exit : List ℕ) where
  pub read-ok : (o : Overhead) (d : DataOverhead) → d ≡ overhead_for o → DataRead form k word next frame octets (Ok o) exit
      → DataFrameRead form k word next frame octets (record { answer = 0; overhead = d }) exit
  read-ok o d e w =
      record {
        found = ap (λ (x : DataOverhead). record { answer = 0; overhead = x }) (e ∙ ap overhead_for w.found) ∙ ap (λ (n : ℕ). found_of n form k (bits_of frame)) w.answered;
        payload_left = w.payload_left;
        due_right = w.due_right;
        due_wrong = w.due_wrong;
      }

  pub read-err : (e : Refused) → DataRead form k word next frame octets (Err e) exit
      → DataFrameRead form k word next frame octets (record { answer = number_of e; overhead = overhead_for no_overhead }) exit
  read-err e w =
      record {
        found = found-none (number_of e) form k (bits_of frame) (refused-number e) ∙ ap (λ (n : ℕ). found_of n form k (bits_of frame)) w.answered;
        payload_left = w.payload_left;
        due_right = w.due_right;
        due_wrong = w.due_wrong;
      }
