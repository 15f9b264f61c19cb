-- `recurrence::Line::go` meets its contract: the bits up to an octet, the words, and the bits behind them.
use mathlib.Core.Path.{◌≡◌, refl, sym, ap, subst, ◌∙◌}
use mathlib.Core.Logic.{◌⊎◌, inl, inr}
use Prim.Native.Nat.{ℕ, ◌+◌, ◌-◌, ◌*◌, ◌/◌, ◌%◌, ◌^◌, ◌<◌}
use native.Mathlib.Omega.{arith}
use Rattle.octets.specs.Bits.{bits_of, part, laid}
use Rattle.octets.proofs.Digits.{turned_lt}
use Rattle.octets.proofs.Turn.{turn-turn}
use Rattle.recurrence.specs.Run.{run_of, after_of}
use Rattle.recurrence.specs.Window.{state_of, Gone}
use Rattle.recurrence.proofs.Block.{gone-join, gone-moved}
use Rattle.recurrence.proofs.Line.go.Goals as goal

pub by_parts-second-requires : goal.by_parts-second-requires
by_parts-second-requires c =
    (subst (λ (x : ℕ). x < 2 ^ 23) (sym (c.from-window.ensures ∙ c.turned.ensures)) (turned_lt 23 c.args.start), omega arith, omega arith)

-- where words begin: at an octet, or nowhere
side : (at m bits : ℕ) → (m ≡ bits) ⊎ ((at + m) % 8 ≡ 0) → (64 * ((bits - m) / 64) ≡ 0) ⊎ (8 * ((at + m) / 8) ≡ at + m)
side at m bits (inl e) = inl (omega arith)
side at m bits (inr e) = inr (omega arith)

pub returns : goal.returns
returns c =
    let three = c.by_parts-last in
    let two = c.by_words-third in
    let one = c.by_parts-second in
    let lead = c.lead-first in
    let a = c.args in
    let s = a.input.now in
    let way = a.self.way in
    let W = c.from-window.result in
    let m = lead.result in
    let i = (a.at + m) / 8 in
    let n = 64 * ((a.bits - m) / 64) in
    let place : (n ≡ 0) ⊎ (8 * i ≡ a.at + m) = side a.at m a.bits lead.ensures.2 in
    let start : a.at + 0 ≡ a.at = omega arith in
    let whole : m - 0 ≡ m = omega arith in
    let first : Gone way a.self.tap W (part a.at m (bits_of s)) a.output.now a.at one.result _ =
    gone-moved way a.self.tap s m (a.at + 0) a.at W one.result a.output.now _ (inr start)
    (subst (λ (k : ℕ). Gone way a.self.tap W (part (a.at + 0) k (bits_of s)) a.output.now (a.at + 0) one.result one.new.output) whole one.ensures) in
    let both : Gone way a.self.tap W (part a.at (m + n) (bits_of s)) a.output.now a.at two.result _ =
    gone-join way a.self.tap s a.at m n (m + n) (a.at + m) W one.result two.result a.output.now _ _ refl (omega arith) refl first
    (gone-moved way a.self.tap s n (8 * i) (a.at + m) one.result two.result _ _ place two.ensures) in
    let e : m + n + (a.bits - (m + n)) ≡ a.bits = omega arith in
    let all = gone-join way a.self.tap s a.at (m + n) (a.bits - (m + n)) a.bits (a.at + (m + n)) W two.result three.result a.output.now _ _ e
    (omega arith) refl both three.ensures in
    let back : state_of W ≡ a.start = ap state_of (c.from-window.ensures ∙ c.turned.ensures) ∙ turn-turn 23 a.start c.requires.0 in
    let B = part a.at a.bits (bits_of s) in (
      c.turned-2.ensures ∙ all.1 ∙ ap (λ (x : ℕ). after_of way a.self.tap x B) back,
      all.2 ∙ ap (λ (x : ℕ). laid a.output.now a.at (run_of way a.self.tap x B)) back,
    )
