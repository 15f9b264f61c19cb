-- A state that is allowed is legal.
use mathlib.Core.Path.{sym}
use Rattle.supervisor.proofs.Laws.{legal}
use Rattle.supervisor.proofs.Supervisor.step.Goals as goal

pub invariant_of-legal : goal.invariant_of-legal
invariant_of-legal c =
    let l = legal c.args.self (sym c.in_ok-allowed.ensures) in
    record { of_end = l.of; attempt = l.attempt; ticks = l.ticks }
