-- `eocreader::is_framed` meets its contract.
use native.Mathlib.Omega.{arith}
use Rattle.eocreader.proofs.Judging.{at_both}
use Rattle.eocreader.proofs.is_framed.Goals as goal

pub returns-in-126 : goal.returns-in-126
returns-in-126 c = at_both c.args.s.now c.contains.result c.in-126.len_at_least (omega arith) (omega arith) c.contains.ensures.value
