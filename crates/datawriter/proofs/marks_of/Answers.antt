-- `datawriter::marks_of` meets its contract.
use Rattle.datawriter.proofs.Laws.{marks-synchronous, marks-plesiochronous}
use Rattle.datawriter.proofs.marks_of.Goals as goal

pub returns-in-Synchronous : goal.returns-in-Synchronous
returns-in-Synchronous c = marks-synchronous c.args.form c.args.spare c.args.stuffing c.in-Synchronous.is

pub returns-in-Plesiochronous : goal.returns-in-Plesiochronous
returns-in-Plesiochronous c = marks-plesiochronous c.args.form c.args.spare c.args.stuffing c.in-Plesiochronous.is c.requires
