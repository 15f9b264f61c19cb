-- One result per call of the functions of data-mode frames. Assumes nothing.
use mathlib.Core.Path.{◌≡◌, sym, ◌∙◌}
use mathlib.Core.List.{List}
use Prim.Native.Nat.{ℕ}
use Rattle.host.specs.declared.data.DataOverhead.{DataOverhead}
use Rattle.host.specs.declared.data.DataSent.{DataSent}
use Rattle.host.specs.declared.data.DataCrcs.{DataCrcs}
use Rattle.host.specs.declared.data.DataFields.{DataFields}
use Rattle.host.specs.Data.{DataFrameWritten, DataCrcGiven, DataFrameRead}

pub sdsl-data-write-one : (form size sync : ℕ) (o : DataOverhead) (payload frame : List ℕ) (r r' : DataSent) (t t' : List ℕ)
    → DataFrameWritten form size sync o payload frame r t → DataFrameWritten form size sync o payload frame r' t' → (r ≡ r') × (t ≡ t')
sdsl-data-write-one form size sync o payload frame r r' t t' p q = (p.given ∙ sym q.given, p.left ∙ sym q.left)

pub sdsl-data-crc-one : (form size : ℕ) (frame : List ℕ) (r r' : DataCrcs) → DataCrcGiven form size frame r → DataCrcGiven form size frame r' → r ≡ r'
sdsl-data-crc-one form size frame r r' p q = p.given ∙ sym q.given

pub sdsl-data-read-one : (form size sync next : ℕ) (frame payload : List ℕ) (r r' : DataFields) (t t' : List ℕ)
    → DataFrameRead form size sync next frame payload r t → DataFrameRead form size sync next frame payload r' t' → (r ≡ r') × (t ≡ t')
sdsl-data-read-one form size sync next frame payload r r' t t' p q = (p.found ∙ sym q.found, p.payload_left ∙ sym q.payload_left)
