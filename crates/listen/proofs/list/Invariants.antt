use Rattle.std.proofs.Common.{◌≡◌, ◌+◌, ◌-◌, ◌≤◌, length}
use Rattle.wire.specs.Reading.{reading}
use Rattle.listen.specs.Listing.{bytes_of}
use Rattle.listen.proofs.list.Given as goal

-- what was found and what is still to be read is all that was to be read
abbrev pub invariant-loop-at : goal.invariant-loop-at
invariant-loop-at l =
    (l.place.at ≤ length l.bytes) × (l.good ≤ l.place.at) × (l.good + bytes_of (reading l.ending l.bytes l.place.at).found ≡ bytes_of (reading l.ending l.bytes 0).found) × ((reading l.ending l.bytes l.place.at).unread ≡ (reading l.ending l.bytes 0).unread)

abbrev pub decreases-loop-at : goal.decreases-loop-at
decreases-loop-at l = length l.bytes - l.place.at
