use Rattle.std.proofs.Common.{◌+◌, ◌*◌, length, ap, ◌∙◌, arith}
use Rattle.commands.proofs.Digits.{some_there, one_more, stopped, all_read}
use Rattle.commands.proofs.fields.number.Goals as goal

pub returns-in_err-digit : goal.returns-in_err-digit
returns-in_err-digit c = c.from_residual.ensures ∙ stopped c.args.field.now c.loop-b.b-index c.loop-b.invariant.2 c.loop-b-test.true c.in_err-digit.ensures

pub loop-b-preserved : goal.loop-b-preserved
loop-b-preserved c =
    let one = one_more c.args.field.now c.loop-b.b-index c.loop-b.invariant.2 c.loop-b.number c.in_ok-digit.field-0 c.loop-b-test.true c.loop-b.invariant.0 c.loop-b.invariant.1 c.in_ok-digit.ensures in
    let same = c.from.ensures in
    (omega (arith, same, one.0), ap (λ d. c.loop-b.number * 10 + d) same ∙ one.1, one.2)

pub returns : goal.returns
returns c =
    all_read c.args.field.now c.loop-b.b-index c.loop-b.invariant.2 c.loop-b.number c.loop-b-test.false c.loop-b.auto.b-index-end (some_there (length c.args.field.now) c.if-is_empty.ensures) c.if-field-gt5.false c.loop-b.invariant.1
