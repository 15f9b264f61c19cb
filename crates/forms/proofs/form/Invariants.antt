use Rattle.std.proofs.Common.{drop}
use Rattle.forms.specs.Forms.{formed}
use Rattle.forms.proofs.Laws.{Through}
use Rattle.forms.proofs.form.Given as goal

abbrev pub invariant-loop-octet : goal.invariant-loop-octet
invariant-loop-octet l =
    Through (formed l.form l.numbers) l.initial.text (formed (drop l.octet-index l.form) l.left) l.text
