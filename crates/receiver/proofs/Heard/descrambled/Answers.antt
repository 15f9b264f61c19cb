-- `receiver::Heard::descrambled` meets its contract.
use Rattle.receiver.proofs.Laws.{descrambled-is}
use Rattle.receiver.proofs.Heard.descrambled.Goals as goal

pub returns : goal.returns
returns c =
    let out = c.descramble_frame in
    let a = c.args in
    descrambled-is a.self.end a.self.octets.now a.at a.self.known c.requires.0 c.requires.1 c.copy.new.s a.plain.now out.new.output c.field-before.result
    c.turned-state.result out.result c.requires.2 c.copy.ensures c.field-before.ensures c.turned-state.ensures out.ensures
