-- `verdict::refused` meets its contract.
use Rattle.verdict.proofs.refused.Goals as goal

pub returns : goal.returns
returns c = cc (c.refused_rank.ensures, c.no_word.ensures, c.no_word-2.ensures)
