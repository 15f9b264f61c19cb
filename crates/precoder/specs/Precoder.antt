-- The channel precoder (000, clause 4.3.4; the sign of v is a reading: figure 9 is not in our copy). All values are whole numbers of
-- steps of 1/131,072.
use Rattle.std.specs.Prelude.{◌≡◌, Bool, true, false, List, ℕ, zero, suc, ◌-◌, ◌*◌, ◌^◌, ◌≤◌, ◌<◌, ℤ, pos, neg_ℤ, ◌+ℤ◌, ◌-ℤ◌, ◌*ℤ◌, get_or}
use Rattle.ranges.specs.Ranges.{coefficient_count, between}
use Rattle.samples.specs.Samples.{is_signal, Rounds, Folds}

-- a number that can be split in halves: the lowest is -(weight raise), and the number lies from there to below weight raise
pub record Splits (lowest : ℤ) (weight : ℕ) (raise z : ℤ) : Type 0 where
  pub size : ℕ
  pub raise_is : raise ≡ pos size
  pub lowest_is : lowest ≡ neg_ℤ (pos (weight * size))
  pub some : 0 < weight
  pub sized : 0 < size
  pub weight_fits : weight ≤ 2 ^ 14
  pub size_fits : size ≤ 2 ^ 14
  pub range : between lowest (pos (weight * size - 1)) z ≡ true

-- S over the first n places: the exact sum of C(k) times y(m-k). C(1) and y(m-1) stand at place 0
unfoldable pub exact_sum : ℕ → List ℤ → List ℤ → ℤ
exact_sum zero coefficients past = pos 0
exact_sum (suc k) coefficients past = exact_sum k coefficients past +ℤ get_or coefficients k (pos 0) *ℤ get_or past k (pos 0)

-- x goes out as y: S is rounded to v, u = x - v, and u is folded to y
pub record Sends (coefficients past : List ℤ) (x y : ℤ) : Type 0 where
  pub v : ℤ
  pub rounds : Rounds (exact_sum coefficient_count coefficients past) v
  pub folds : Folds (x -ℤ v) y

-- the receiving end, given y, the same coefficients and the same past, gets x back: the x in range that goes out as y
pub record Receives (coefficients past : List ℤ) (y x : ℤ) : Type 0 where
  pub signal : is_signal x ≡ true
  pub sends : Sends coefficients past x y

-- one symbol in either direction. Forward (false) x goes out as y; back (true) y comes in and x is got back
abbrev pub Turns : Bool → List ℤ → List ℤ → ℤ → ℤ → Type 0
Turns false coefficients past x y = Sends coefficients past x y
Turns true coefficients past y x = Receives coefficients past y x

-- of the number that comes in and the one that comes out, the y: it joins the past at both ends
abbrev pub line_of : Bool → ℤ → ℤ → ℤ
line_of false x y = y
line_of true y x = y
