use Rattle.std.proofs.Common.{append_assoc, arith, rules}
use Rattle.bodies.specs.Fields.{date_text}
use Rattle.messages.proofs.line.Line.date.Goals as goal

pub returns : goal.returns
unfolding date_text
returns c = record { text = search (rules, append_assoc); len = omega arith }
