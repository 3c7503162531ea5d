use Rattle.std.proofs.Common.{◌/◌, ◌≤◌, length, decimal, append_assoc, arith, rules}
use Rattle.std.proofs.lemmas.Fmt.{length-decimal-le}
use Rattle.std.proofs.lemmas.Int.{ints}
use Rattle.bodies.specs.Decimals.{pointed}
use Rattle.bodies.specs.Fields.{metres_text}
use Rattle.messages.proofs.line.Line.metres.Goals as goal

pub pointed-requires : goal.pointed-requires
pointed-requires c =
    let small : c.unsigned_abs-n.result ≤ 9999999 = omega (arith, ints) in
    omega (arith, length-decimal-le 5 (c.unsigned_abs-n.result / 100) (omega arith) (omega arith) (omega arith))

pub returns : goal.returns
unfolding metres_text pointed
returns c =
    let small : c.unsigned_abs-n.result ≤ 9999999 = omega (arith, ints) in
    let short : length (decimal (c.unsigned_abs-n.result / 100)) ≤ 5 = length-decimal-le 5 (c.unsigned_abs-n.result / 100) (omega arith) (omega arith) (omega arith) in
    record { text = search (rules, append_assoc); len = omega arith }
