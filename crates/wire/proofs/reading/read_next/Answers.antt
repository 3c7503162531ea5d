use Rattle.std.proofs.Common.{◌∙◌, arith}
use Rattle.wire.proofs.Steps.{none_left}
use Rattle.wire.proofs.reading.read_next.Goals as goal

pub returns : goal.returns
returns c = record {
  reads = c.loop-place.invariant.2 ∙ none_left c.args.ending c.args.bytes.now c.loop-place.place.at c.loop-place-test.false;
  place = omega arith;
  stands = tt;
}
