use Rattle.std.proofs.Common.{◌≡◌, ◌+◌, not, sym, ◌∙◌, rules}
use Rattle.std.specs.Option.{option_map_or}
use Rattle.journal.specs.Slots.{free}
use Rattle.journal.proofs.Search.{last_passing, used_from}
use Rattle.journal.proofs.slots.used_slots.Goals as goal

pub returns-clause-count : goal.returns-clause-count
returns-clause-count c =
    let xs = c.args.image.now in
    let u = used_from xs c.rposition-last.result
    (last_passing xs (λ p. not (free p)) _ _ (λ x b q k. search rules) c.rposition-last.result c.iter.result c.slots_of.result.now c.iter.ensures.rest c.slots_of.ensures.count c.slots_of.ensures.each c.iter.ensures.runs_back c.rposition-last.ensures.bound c.rposition-last.ensures.runs) in
    let m : c.map_or.result ≡ option_map_or (λ i. i + 1) c.rposition-last.result 0 = search rules in
    m ∙ sym u
