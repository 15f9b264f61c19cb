-- `datawriter::put_frame` meets its contract.
use Prim.Native.Nat.{◌+◌, ◌*◌, ◌≤◌}
use native.Mathlib.Omega.{arith}
use lib.ListN.{length}
use Rattle.dataframe.specs.Forms.{form_number}
use Rattle.dataframe.proofs.Rooms.{form-known}
use Rattle.datawriter.proofs.Flat.{ends-fit, put-frame-is}
use Rattle.datawriter.proofs.put_frame.Goals as goal

-- the numbers fit
fit : (c : goal.After-marks_of-marks) → (length c.args.frame.now ≤ 1741) × (c.marks_of-marks.result.ends ≤ 4)
    × (4 * (12 * c.args.size) + 46 + c.marks_of-marks.result.ends ≤ 8 * length c.args.frame.now)
fit c =
    let a = c.args in
    ends-fit (form_number a.form) a.size a.overhead.stuffing c.marks_of-marks.result.ends a.frame.now (form-known a.form) c.requires.0 c.requires.1
    c.marks_of-marks.ensures.ends_is c.requires.3

pub overflow_mul-rest : goal.overflow_mul-rest
overflow_mul-rest c = let h = (fit c).0 in record { fits = omega (arith, h) }

pub overflow_cast-rest : goal.overflow_cast-rest
overflow_cast-rest c = let h = (fit c).0 in record { fits = omega (arith, h) }

pub overflow_add-rest-2 : goal.overflow_add-rest-2
overflow_add-rest-2 c = let h = (fit c).1 in record { fits = omega (arith, h, c.requires.0) }

pub overflow_sub-rest : goal.overflow_sub-rest
overflow_sub-rest c = (fit c).2

pub put-requires : goal.put-requires
put-requires c =
    let a = c.args in
    let h =
    ends-fit (form_number a.form) a.size a.overhead.stuffing c.marks_of-marks.result.ends a.frame.now (form-known a.form) c.requires.0 c.requires.1
    c.marks_of-marks.ensures.ends_is c.requires.3 in
    (omega (arith, c.requires.0), omega (arith, c.requires.2), omega (arith, h.1, c.rows_of.ensures.ends_is), omega (arith, h.2, c.rows_of.ensures.ends_is))

pub returns : goal.returns
returns c =
    let a = c.args in
    put-frame-is (form_number a.form) a.size a.sync a.overhead a.payload.now a.frame.now c.put.new.frame c.marks_of-marks.result c.rows_of.result
    (form-known a.form) c.requires.3 c.marks_of-marks.ensures c.rows_of.ensures c.put.ensures
