use Rattle.std.proofs.Common.{append_assoc, arith, rules}
use Rattle.bodies.specs.Fields.{angle_text}
use Rattle.messages.proofs.line.Line.angle.Goals as goal

pub returns : goal.returns
unfolding angle_text
returns c = record { text = search (rules, append_assoc); len = omega arith }
