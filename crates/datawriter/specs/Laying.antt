-- For the functions that lay a frame only; no promise of a public function names this.
use Rattle.std.specs.Prelude.{◌≡◌, cond, List, ◌++◌, ℕ, ◌*◌, ◌/◌, eqb, replicate}
use Rattle.octets.specs.Bits.{digits_of, part}
use Rattle.remainder.specs.Division.{check_bits}
use Rattle.dataframe.specs.declared.Overhead.{Overhead}
use Rattle.dataframe.specs.Table.{end_width}
use Rattle.dataframe.specs.Frame.{mark_of}
use Rattle.datawriter.specs.declared.Marks.{Marks}
use Rattle.datawriter.specs.declared.Rows.{Rows}

-- sbid1 and sbid2, and the end: spare bits, or stuffing bits and what announces them
pub record MarksOf (form spare stuffed : ℕ) (m : Marks) : Type 0 where
  pub first_is : digits_of 1 m.first ≡ cond (eqb form 0) (digits_of 1 spare) (replicate 1 (mark_of stuffed))
  pub second_is : digits_of 1 m.second ≡ cond (eqb form 0) (digits_of 1 (spare / 2)) (replicate 1 (mark_of stuffed))
  pub end_is : digits_of m.ends m.end ≡ cond (eqb form 0) (digits_of 2 (spare / 4)) (replicate stuffed 1)
  pub ends_is : m.ends ≡ end_width form stuffed

-- the runs of overhead bits, with check bits from the first on
pub record RowsOf (word : ℕ) (o : Overhead) (m : Marks) (r : Rows) : Type 0 where
  pub head_is : digits_of 16 r.head ≡ digits_of 14 word ++ digits_of 2 o.indicators
  pub first_is : digits_of 10 r.first
      ≡ digits_of 4 o.eoc ++ (part 0 2 (check_bits 6 o.crc) ++ (digits_of 1 (o.indicators / 4) ++ (digits_of 1 m.first ++ digits_of 2 (o.eoc / 16))))
  pub second_is : digits_of 10 r.second
      ≡ digits_of 4 (o.eoc / 64)
      ++ (part 2 2 (check_bits 6 o.crc) ++ (digits_of 1 (o.indicators / 8) ++ (digits_of 2 (o.eoc / 1024) ++ digits_of 1 m.second)))
  pub third_is : digits_of 10 r.third ≡ digits_of 4 (o.eoc / 4096) ++ (part 4 2 (check_bits 6 o.crc) ++ digits_of 4 (o.eoc / 65536))
  pub end_is : r.end ≡ m.end
  pub ends_is : r.ends ≡ m.ends

-- a frame: the runs, and between them four blocks of n bits of payload; zeros behind
abbrev pub laid_frame : Rows → ℕ → ℕ → List ℕ → List ℕ
laid_frame r n rest payload =
    (digits_of 16 r.head ++ part 0 n payload)
    ++ ((digits_of 10 r.first ++ part n n payload)
    ++ ((digits_of 10 r.second ++ part (2 * n) n payload)
    ++ ((digits_of 10 r.third ++ part (3 * n) n payload)
    ++ (digits_of r.ends r.end ++ replicate rest 0))))
