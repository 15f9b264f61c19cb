-- `ascii::printables` meets its contract.
use Rattle.std.proofs.Common.{sym, ◌∙◌, rules, tests}
use Rattle.std.proofs.lemmas.Iterator.{YieldsList-from_slice}
use Rattle.std.proofs.lemmas.Iterator.Consumers.{count_from_yields_List}
use Rattle.std.proofs.lemmas.Iterator.Search.{YieldsList-from_take_while}
use Rattle.std.proofs.lemmas.List.Folds.{length-prefix_len}
use Rattle.ascii.specs.Plain.{is_printable}
use Rattle.ascii.proofs.Plainly.{printables-prefix}
use Rattle.ascii.proofs.printables.Goals as goal

pub returns : goal.returns
returns c =
    let os = c.args.octets.now in
    count_from_yields_List c.take_while.result _ c.count.ensures.ran
    (YieldsList-from_take_while _ is_printable (YieldsList-from_slice os cc) c.take_while.ensures.closure c.take_while.ensures.done (λ x b q k. search (rules, tests)))
    ∙ length-prefix_len is_printable os
    ∙ sym (printables-prefix os)
