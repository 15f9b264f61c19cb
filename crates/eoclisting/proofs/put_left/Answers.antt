-- `eoclisting::put_left` meets its contract.
use borrow.Author.Tests.{eq-eqb, ne_eqb}
use Rattle.ascii.proofs.Room.{puts-none, puts_as}
use Rattle.eoclisting.specs.Totals.{left_text}
use Rattle.eoclisting.proofs.put_left.Goals as goal
use Rattle.eoclisting.proofs.put_left.Goals.{in_default-via-in-0+in_default, in_default-via-in_default}

pub returns-in-0-eq0 : goal.returns-in-0-eq0
unfolding left_text
returns-in-0-eq0 c =
    puts_as (puts-none c.args.text.now) (simp (eq-eqb c.args.before 0 c.in-0-eq0.is-0, eq-eqb c.args.behind 0 c.in-0-eq0.is-1))

pub returns-in_default : goal.returns-in_default
unfolding left_text
returns-in_default c =
    let a = c.args.before in
    let b = c.args.behind in
    puts_as c.form.ensures
    (elim c.in_default.branch [
      | in_default-via-in-0+in_default w ↦ simp (eq-eqb a 0 w.in_default.is-0, ne_eqb b 0 w.in_default.is-1.1)
      | in_default-via-in_default w ↦ simp (ne_eqb a 0 w.in_default.is-0.1)
    ])
