use Rattle.std.proofs.Common.{rules, ◌<◌, true, ◌++◌, codes, ap}
use Rattle.std.proofs.Output.{has_written_of_eq}
use Rattle.std.proofs.lemmas.Fmt.{hex_byte}
use Rattle.prints.proofs.PairDisplay.fmt.Goals as goal

pub returns-clause-writes : goal.returns-clause-writes
returns-clause-writes g c p ok = let small : c.args.self.now.0 < 256 = search (rules, c.well_formed) in has_written_of_eq _ _ _ _ _ (ap (λ d. codes " " ++ d) (hex_byte true c.args.self.now.0 small)) (search rules)
