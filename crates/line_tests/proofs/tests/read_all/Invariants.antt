use Rattle.std.proofs.Common.{◌-◌, ◌≤◌, length}
use Rattle.line_tests.proofs.tests.read_all.Given as goal

abbrev pub invariant-loop-at : goal.invariant-loop-at
invariant-loop-at l = (l.place.at ≤ length l.bytes) × (l.items ≤ l.place.at)

abbrev pub decreases-loop-at : goal.decreases-loop-at
decreases-loop-at l = length l.bytes - l.place.at
