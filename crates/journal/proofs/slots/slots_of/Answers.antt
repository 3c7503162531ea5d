use Rattle.std.proofs.Common.{ap, ◌∙◌, get_or, arith}
use Rattle.journal.proofs.Search.{get_or-slots}
use Rattle.journal.proofs.slots.slots_of.Goals as goal

pub returns-clause-each : goal.returns-clause-each
returns-clause-each c i d l =
    ap (λ ys. get_or ys i d) c.as_chunks.ensures.front ∙ get_or-slots c.args.image.now c.slot_count.result c.slot_count.ensures.count i d (omega arith)
