-- `sender::Fields::put_training` meets its contract.
use Rattle.sender.proofs.Laws.{training-put}
use Rattle.sender.proofs.Fields.put_training.Goals as goal

pub returns : goal.returns
returns c =
    let a = c.args in
    let p = c.requires in
    let s₁ = c.put_field in
    let s₂ = c.put_coefficients in
    let t = c.finish in
    training-put a.frame.now a.self.vendor.now p.0 s₁.new.s s₂.new.frame t.new.frame a.self.count a.self.coefficients.now a.self.a a.self.b p.1 a.self.all
    s₁.ensures s₂.ensures t.ensures
