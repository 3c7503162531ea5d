use Rattle.std.proofs.Common.{sym, subst}
use Rattle.journal.specs.Latest.{FreeBehind}
use Rattle.journal.proofs.Search.{free_behind}
use Rattle.journal.proofs.JournalSettingsMemory.left.Goals as goal

pub returns-clause-behind : goal.returns-clause-behind
returns-clause-behind c =
    let xs = c.args.self.now.image.now in
    subst (λ n. FreeBehind xs n) (sym c.writes_left.ensures) (free_behind xs)
