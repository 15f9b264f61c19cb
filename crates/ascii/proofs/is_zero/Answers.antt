-- `ascii::is_zero` meets its contract.
use Rattle.std.proofs.Common.{eqb, refl, rules}
use Rattle.std.proofs.lemmas.List.Recursion.{and_is}
use Rattle.ascii.specs.Plain.{all_zeros}
use Rattle.ascii.proofs.is_zero.Goals as goal

pub returns : goal.returns
unfolding all_zeros
returns c = and_is all_zeros (λ x. eqb x 0) refl (λ _ _. refl) c.args.octets.now 0 _ (search rules) (search rules)
