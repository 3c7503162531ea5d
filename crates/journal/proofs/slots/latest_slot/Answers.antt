use Rattle.std.proofs.Common.{rules}
use Rattle.journal.specs.Slots.{names}
use Rattle.journal.proofs.Search.{last_passing, found_from}
use Rattle.journal.proofs.slots.latest_slot.Goals as goal

pub returns : goal.returns
returns c =
    let xs = c.args.image.now in
    let s = c.args.section in
    found_from xs s c.rposition.result
    (last_passing xs (λ p. names p s) _ _ (λ x b q k. search rules) c.rposition.result c.iter.result c.slots_of-slots.result.now c.iter.ensures.rest c.slots_of-slots.ensures.count c.slots_of-slots.ensures.each c.iter.ensures.runs_back c.rposition.ensures.bound c.rposition.ensures.runs)
