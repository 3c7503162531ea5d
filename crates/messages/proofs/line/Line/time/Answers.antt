use Rattle.std.proofs.Common.{append_assoc, arith, rules}
use Rattle.bodies.specs.Fields.{time_text}
use Rattle.messages.proofs.line.Line.time.Goals as goal

pub returns : goal.returns
unfolding time_text
returns c = record { text = search (rules, append_assoc); len = omega arith }
