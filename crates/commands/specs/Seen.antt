-- What the code's commands stand for.
use Rattle.std.specs.Prelude.{[], ◌∷◌, Some, None, Option, Ok, Err, Result}
use Rattle.settings.specs.declared.values.Setting.{Setting}
use Rattle.settings.specs.declared.values.Setting.TheVariants as setting
use Rattle.settings.specs.Values.{pulse_values}
use Rattle.commands.specs.declared.command.Command.{Command as CodeCommand}
use Rattle.commands.specs.declared.command.Command.TheVariants.{Set, SetRates, Save, Clear, Load, Start, Query}
use Rattle.commands.specs.declared.command.Unheeded.{Unheeded}
use Rattle.commands.specs.declared.command.Unheeded.TheVariants.{PassedOver, Wrong}
use Rattle.commands.specs.Settings.{Change, baud_to, rate_to, interval_to, systems_to, pulse_to, group_to}
use Rattle.commands.specs.Commands.{Command, sets, saves, clears, loads, starts, asks, Request, passed_over, wrong, command, four_rates}

-- a setting with its value, as a change
abbrev pub change_of : Setting → Change
change_of (setting.Baud x) = baud_to x.code
change_of (setting.Rate m n) = rate_to m n
change_of (setting.Interval x) = interval_to x.milliseconds
change_of (setting.Systems x) = systems_to x.mask
change_of (setting.Pulse x) = pulse_to (pulse_values x)
change_of (setting.Group x) = group_to x.bytes

abbrev pub command_of : CodeCommand → Command
command_of (Set x) = sets (change_of x ∷ [])
command_of (SetRates r) = sets (four_rates r.gga r.gll r.rmc r.zda)
command_of (Save x) = saves x
command_of (Clear x) = clears x
command_of (Load x) = loads x
command_of (Start s) = starts s
command_of (Query q) = asks q

-- what a frame or sentence that is the card's own asks
abbrev pub asked : Option CodeCommand → Request
asked None = wrong
asked (Some c) = command (command_of c)

-- what any frame or sentence is to the card
abbrev pub seen_request : Result CodeCommand Unheeded → Request
seen_request (Err PassedOver) = passed_over
seen_request (Err Wrong) = wrong
seen_request (Ok c) = command (command_of c)
