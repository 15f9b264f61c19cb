-- `messages::tell_channel` is safe: the first flag lies within the channel.
use native.Mathlib.Omega.{arith}
use Rattle.messages.proofs.Laws.{flag-within}
use Rattle.messages.proofs.tell_channel.Goals as goal

pub overflow_cast-first : goal.overflow_cast-first
overflow_cast-first c = omega (arith, c.flag_from-first.ensures, flag-within c.args.channel.now 0 (omega arith), c.requires)
