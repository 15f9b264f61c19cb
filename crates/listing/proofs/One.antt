-- One result per call. Assumes nothing.
use mathlib.Core.Path.{◌≡◌}
use mathlib.Core.List.{List}
use Prim.Native.Nat.{ℕ}
use Rattle.ascii.proofs.One.{told-one}
use Rattle.listing.specs.Listing.{listing}
use Rattle.listing.specs.Promises.{Listed}
use Rattle.listing.specs.Words.{words_of, Worded}

pub list-one : (octets room : List ℕ) (r r' : ℕ) (t t' : List ℕ) → Listed octets room r t → Listed octets room r' t' → (r ≡ r') × (t ≡ t')
list-one octets = told-one (listing octets)

pub words-one : (octets room : List ℕ) (r r' : ℕ) (t t' : List ℕ) → Worded octets room r t → Worded octets room r' t' → (r ≡ r') × (t ≡ t')
words-one octets = told-one (words_of octets)
