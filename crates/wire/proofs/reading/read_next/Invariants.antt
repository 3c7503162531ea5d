use Rattle.std.proofs.Common.{◌≡◌, ◌-◌, ◌≤◌, max, length}
use Rattle.wire.specs.Reading.{reading}
use Rattle.wire.proofs.reading.read_next.Given as goal

-- what is left to read is all that was to be read
abbrev pub invariant-loop-place : goal.invariant-loop-place
invariant-loop-place l = (l.initial.place.at ≤ l.place.at) × (l.place.at ≤ max l.initial.place.at (length l.bytes)) × (reading l.ending l.bytes l.initial.place.at ≡ reading l.ending l.bytes l.place.at)

abbrev pub decreases-loop-place : goal.decreases-loop-place
decreases-loop-place l = length l.bytes - l.place.at
