-- `eocreader::take_contents` meets its contract.
use Rattle.eocreader.proofs.Judging.{contents-put}
use Rattle.eocreader.proofs.take_contents.Goals as goal

pub returns : goal.returns
returns c =
    let a = c.args in
    contents-put a.contents.now a.fields.now c.copy_from_slice.new.self c.fill.new.self c.requires.0 c.requires.1 c.requires.2 c.copy_from_slice.ensures.after
    (c.fill.ensures.after (λ y e. e))
