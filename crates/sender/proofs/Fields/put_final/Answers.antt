-- `sender::Fields::put_final` meets its contract.
use Rattle.sender.proofs.Laws.{final-put}
use Rattle.sender.proofs.Fields.put_final.Goals as goal

pub returns : goal.returns
returns c =
    let a = c.args in
    let s₁ = c.put_field in
    let s₂ = c.clear in
    let t = c.finish in
    final-put a.frame.now a.self.vendor.now
    c.requires s₁.new.s
    s₂.new.s t.new.frame s₁.ensures s₂.ensures t.ensures
