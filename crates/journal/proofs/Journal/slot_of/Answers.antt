use Rattle.journal.proofs.Search.{said}
use Rattle.journal.proofs.Journal.slot_of.Goals as goal

pub returns-clause-said : goal.returns-clause-said
returns-clause-said c = said c.args.self.now.image.now c.args.section
