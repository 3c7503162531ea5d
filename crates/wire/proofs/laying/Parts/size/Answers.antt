use Rattle.std.proofs.Common.{refl}
use Rattle.wire.proofs.Lays.{size}
use Rattle.wire.proofs.laying.Parts.size.Goals as goal

pub returns : goal.returns
returns c = record { sum = refl; form = size c.args.self.head.now c.args.self.middle.now c.args.self.tail.now }
