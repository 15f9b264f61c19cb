-- `messages::flag_from` meets its contract: before the first flag stand as many octets as the search passes.
use mathlib.Core.Path.{◌≡◌, sym, ap, ◌∙◌}
use Prim.Native.Nat.{ℕ, ◌+◌, ◌-◌}
use native.Mathlib.Omega.{arith}
use lib.ListN.{length, drop, length-drop}
use lib.Seq.{take_all}
use Rattle.std.proofs.Common.{rules, tests}
use Rattle.std.proofs.lemmas.Iterator.{YieldsList-from_slice, IsFirst-from_position, index_from_first}
use Rattle.eoc.specs.Message.{flag}
use Rattle.messages.specs.Messages.{up_to_flag}
use Rattle.messages.proofs.Laws.{none-there, flag-first, flag-later}
use Rattle.messages.proofs.flag_from.Goals as goal

pub returns : goal.returns
returns c =
    let s = c.args.channel.now in
    let a = c.args.at in
    let r = c.position.result in
    let first = IsFirst-from_position _ _ r (λ o. o ≡ flag) (λ o. o ≡ flag → ⊥) c.position.ensures.ran (YieldsList-from_slice _ c.iter.ensures.rest)
    (λ x q k. search (rules, tests)) (λ x q k. search (rules, tests)) in
    let e = index_from_first up_to_flag (λ o. o ≡ flag) (λ o. o ≡ flag → ⊥) none-there flag-first flag-later _ r first in
    ap (λ (n : ℕ). a + n) (c.unwrap_or.ensures ∙ sym e ∙ ap up_to_flag (take_all (length s - a) (drop a s) (omega (arith, length-drop a s))))
