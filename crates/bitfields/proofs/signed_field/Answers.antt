-- `bitfields::signed_field` meets its contract.
use mathlib.Core.Path.{ap, ◌∙◌}
use Prim.Native.Nat.{ℕ, ◌%◌, ◌^◌, min}
use native.Mathlib.Nat.{mod-eq_of_lt}
use Rattle.octets.specs.Signed.{signed_of}
use Rattle.octets.proofs.Laws.{part-lt}
use Rattle.octets.proofs.Complement.{read-i32}
use Rattle.bitfields.proofs.signed_field.Goals as goal

pub returns : goal.returns
returns c =
    let a = c.args in
    let w = min a.w 32 in
    read-i32 c.signed.result c.signed.type_inv ∙ c.signed.ensures
    ∙ ap (signed_of w) (ap (λ (x : ℕ). x % 2 ^ w) c.field.ensures ∙ mod-eq_of_lt (part-lt a.s.now a.at w))
