-- `eocunits::hand_up` meets its contract.
use mathlib.Core.Path.{sym, ◌∙◌, subst}
use lib.ListN.{replicate}
use Rattle.std.specs.Prelude.{Result}
use Rattle.answer.specs.declared.Refused.{Refused}
use Rattle.eocreader.specs.declared.Found.{Found}
use Rattle.eocreader.specs.Promises.{MessageRead}
use Rattle.eocunits.proofs.Promise.{done-hand}
use Rattle.eocunits.proofs.hand_up.Goals as goal

pub returns : goal.returns
returns c =
    let a = c.args in
    let f = c.in_ok-found in
    let p = subst (λ (r : Result Found Refused). MessageRead a.octets.now (replicate 73 0) r c.read.new.contents) f.was c.read.ensures in
    done-hand a.octets.now a.units.now f.found c.read.new.contents c.hand.new.units c.hand.result c.if-units-ne0.false (sym c.some_wide.ensures ∙ c.if-some_wide.false) p
    c.hand.ensures.0 c.hand.ensures.1
