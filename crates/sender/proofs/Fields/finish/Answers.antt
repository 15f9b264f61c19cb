-- `sender::Fields::finish` meets its contract: six stores, each behind the one before.
use Rattle.sender.proofs.Laws.{four, finished}
use Rattle.sender.proofs.Fields.finish.Goals as goal

pub returns : goal.returns
returns c =
    let a = c.args in
    let p = c.requires in
    let s₁ = c.put_word in
    let s₂ = c.put_word-2 in
    let s₃ = c.copy in
    let s₄ = c.clear in
    let r = c.check_bits-r in
    let t = c.turned-c in
    let s₅ = c.put_field in
    let s₆ = c.clear-2 in
    finished a.frame.now a.self.vendor.now a.self.a a.self.b p a.self.whole s₄.new.s s₅.new.s s₆.new.s r.result t.result
    (four a.frame.now a.self.vendor.now a.self.a a.self.b p a.self.whole s₁.new.frame s₂.new.frame s₃.new.s s₄.new.s
    s₁.ensures s₂.ensures s₃.ensures s₄.ensures)
    r.ensures t.ensures s₅.ensures s₆.ensures
