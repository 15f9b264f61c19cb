-- The measure of `Text::decimal`, which calls itself on a tenth of n, is n.
use Rattle.ascii.proofs.Text.+decimal.Given as goal

abbrev pub decreases-decimal : goal.decreases-decimal
decreases-decimal l = l.n
