use Rattle.std.proofs.Common.{◌+◌, sym, ap, ◌∙◌, arith}
use Rattle.wire.specs.Seen.{seen}
use Rattle.wire.proofs.Sizes.{full_size}
use Rattle.wire.proofs.tries.try_sentence.Goals as goal

pub returns : goal.returns
returns c = record {
  verdict = c.without_more.ensures.verdict ∙ full_size c.args.bytes.now (seen c.try_sized-2.result) (omega arith) c.try_sized-2.ensures.verdict;
  place = c.try_sized-2.ensures.place ∙ ap (λ n. c.args.place.now.at + n) (sym c.without_more.ensures.spends);
}
