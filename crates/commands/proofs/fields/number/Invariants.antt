use Rattle.std.proofs.Common.{◌≡◌, ◌+◌, ◌^◌, ◌<◌, take, drop}
use Rattle.std.specs.List.{prefix_len}
use Rattle.commands.specs.Fields.{is_decimal, number_of}
use Rattle.commands.proofs.fields.number.Given as goal

abbrev pub invariant-loop-b : goal.invariant-loop-b
invariant-loop-b l =
    (l.number < 10 ^ l.b-index)
    × (l.number ≡ number_of (take l.b-index l.field))
    × (l.b-index + prefix_len is_decimal (drop l.b-index l.field) ≡ prefix_len is_decimal l.field)
