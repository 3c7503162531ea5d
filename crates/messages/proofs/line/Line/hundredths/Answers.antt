use Rattle.std.proofs.Common.{◌/◌, append_assoc, arith, rules}
use Rattle.std.proofs.lemmas.Fmt.{length-decimal-le}
use Rattle.bodies.specs.Decimals.{pointed}
use Rattle.messages.proofs.line.Line.hundredths.Goals as goal

pub pointed-requires : goal.pointed-requires
pointed-requires c = omega (arith, length-decimal-le 5 (c.args.n / 100) (omega arith) (omega arith) (omega arith))

pub returns : goal.returns
unfolding pointed
returns c = record {
  text = search (rules, append_assoc);
  len = omega (arith, length-decimal-le 5 (c.args.n / 100) (omega arith) (omega arith) (omega arith));
}
