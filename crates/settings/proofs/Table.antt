-- The places of the five messages in the table.
use Rattle.std.proofs.Common.{◌<◌, arith}
use Rattle.settings.specs.declared.names.Message.{Message}
use Rattle.settings.specs.declared.names.Message.TheVariants.{Gga, Gll, Rmc, Zda, TimeUtc}
use Rattle.settings.specs.Names.{place}

pub place_within : (m : Message) → place m < 5
place_within Gga = omega arith
place_within Gll = omega arith
place_within Rmc = omega arith
place_within Zda = omega arith
place_within TimeUtc = omega arith
