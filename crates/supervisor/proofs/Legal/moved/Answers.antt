-- The last arm is the last phase's.
use Rattle.std.proofs.Common.{◌≡◌, arith}
use Rattle.std.proofs.lemmas.Grind.{common_steps}
use lib.Dec.{eqb}
use Rattle.supervisor.specs.Names.{Exception}
use Rattle.supervisor.proofs.Laws.{last}
use Rattle.supervisor.proofs.Legal.moved.Goals as goal

pub returns-in_default : goal.returns-in_default
returns-in_default c =
    let s = c.args.self.state in
    let is : s.phase ≡ Exception = last s.phase (eqb s.end 1) s.silence c.args.self.of_end (omega arith) in
    grind (arith, common_steps)
