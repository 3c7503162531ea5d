use Rattle.std.proofs.Common.{sym, ap}
use Rattle.names.specs.Names.{nav_name}
use Rattle.names.proofs.nav_name.Goals as goal

pub returns-in-32 : goal.returns-in-32
returns-in-32 c = sym (ap nav_name c.in-32.is)

pub returns-in-33 : goal.returns-in-33
returns-in-33 c = sym (ap nav_name c.in-33.is)

pub returns-in-34 : goal.returns-in-34
returns-in-34 c = sym (ap nav_name c.in-34.is)
