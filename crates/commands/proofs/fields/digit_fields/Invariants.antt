use Rattle.std.proofs.Common.{◌≡◌, ◌++◌, length}
use Rattle.std.specs.Option.{option_map}
use Rattle.commands.specs.Fields.{digit_fields}
use Rattle.commands.proofs.fields.digit_fields.Given as goal

abbrev pub invariant-loop-rest : goal.invariant-loop-rest
invariant-loop-rest l = digit_fields l.fn.rest ≡ option_map (λ more. l.digits.items ++ more) (digit_fields l.rest)

abbrev pub decreases-loop-rest : goal.decreases-loop-rest
decreases-loop-rest l = length l.rest
