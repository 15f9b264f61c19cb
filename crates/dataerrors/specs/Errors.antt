-- Changed bits of a data-mode frame: where they stand in its table, how near to each other, and how far the six check bits see.
use Rattle.std.specs.Prelude.{◌≡◌, Bool, true, cond, not, ◌&&◌, ◌||◌, ◌⊎◌, List, [], ◌∷◌, ℕ, ◌+◌, ◌-◌, ◌*◌, ◌%◌, ◌<◌, eqb, ltb, length, get_or}
use Rattle.places.specs.Streams.{Row}
use Rattle.remainder.specs.Errors.{flipped}
use Rattle.dataframe.specs.Table.{sbid}
use Rattle.dataframe.specs.Frame.{is_covered}

-- ---- any table

-- the stream that the bit at a place belongs to
unfoldable pub stream_at : List Row → ℕ → ℕ
stream_at [] i = 0
stream_at (r ∷ rs) i = cond (ltb i r.width) r.stream (stream_at rs (i - r.width))

-- which bit of the wanted streams it is, counted from 0
unfoldable pub rank_at : (ℕ → Bool) → List Row → ℕ → ℕ
rank_at wanted [] i = i
rank_at wanted (r ∷ rs) i = cond (ltb i r.width) i (cond (wanted r.stream) r.width 0 + rank_at wanted rs (i - r.width))

-- ---- the six check bits

-- the order of X modulo X^6 + X + 1: two bits so far apart, or a multiple of it, go unseen, and no other two
abbrev pub turn : ℕ
turn = 63

-- any number of changed bits within so many in a row is seen
abbrev pub longest : ℕ
longest = 6

-- what a frame that answers 0 answers with one bit of a stream turned over: sync 5, a spare, indicator, eoc or payload bit 7, sbid1, sbid2 or a
-- stuffing bit 9, a bit of the room behind it 6. Its own six are for the frame before it
abbrev pub seen_as : ℕ → ℕ
seen_as x = get_or (5 ∷ 7 ∷ 7 ∷ 7 ∷ 0 ∷ 7 ∷ 9 ∷ 9 ∷ 6 ∷ []) x 7

-- one of the four answers to wrong bits
abbrev pub Wrong : ℕ → Type 0
Wrong a = (a ≡ 5) ⊎ ((a ≡ 9) ⊎ ((a ≡ 6) ⊎ (a ≡ 7)))

-- two places, one behind the other
abbrev pub is_pair : ℕ → ℕ → Bool
is_pair at i = eqb i at || eqb i (at + 1)

-- the places of a frame's own six, crc1 to crc6, counted from 0: three pairs
abbrev pub is_crc : ℕ → ℕ → Bool
is_crc k i = is_pair (12 * k + 20) i || (is_pair (24 * k + 30) i || is_pair (36 * k + 40) i)

-- two bits of a list are turned over
pub record TwoBits (bs cs : List ℕ) : Type 0 where
  pub first : ℕ
  pub second : ℕ
  pub ordered : first < second
  pub inside : second < length bs
  pub turned : cs ≡ flipped (flipped bs first) second

-- not a multiple of the order apart: the six see them
pub record FarBits (bs cs : List ℕ) : Type 0 where
  pub two : TwoBits bs cs
  pub far : (two.second - two.first) % turn ≡ 0 → ⊥

-- a multiple of it apart: they do not
pub record TurnBits (bs cs : List ℕ) : Type 0 where
  pub two : TwoBits bs cs
  pub round : (two.second - two.first) % turn ≡ 0

-- ---- two places of a frame

-- whether the bits of a stream are covered, and nothing else is said of them: all that are but sbid1 and sbid2 of the plesiochronous form
abbrev pub is_free : ℕ → Bool
is_free x = is_covered x && not (eqb x sbid)

-- two such places of a table, a multiple of the order apart among what is covered
pub record TurnPlaces (rs : List Row) (i j : ℕ) : Type 0 where
  pub first_free : is_free (stream_at rs i) ≡ true
  pub second_free : is_free (stream_at rs j) ≡ true
  pub ordered : rank_at is_covered rs i < rank_at is_covered rs j
  pub round : (rank_at is_covered rs j - rank_at is_covered rs i) % turn ≡ 0
