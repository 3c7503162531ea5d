use Rattle.wire.proofs.Lays.{laid_all}
use Rattle.wire.proofs.laying.Parts.put.Goals as goal

pub returns : goal.returns
returns c = laid_all c.args.out.now c.args.self.head.now c.args.self.middle.now c.args.self.tail.now _ _ _ c.put.ensures c.put-2.ensures c.put-3.ensures
