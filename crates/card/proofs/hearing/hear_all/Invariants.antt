use Rattle.std.proofs.Common.{◌-◌, List, length}
use Rattle.rule.specs.Events.{Event}
use Rattle.rule.specs.Words.{State, Follows}
use Rattle.inforce.specs.Has.{state_of}
use Rattle.card.specs.Hearing.{SoFar}
use Rattle.card.proofs.Turns.{Where}
use Rattle.card.proofs.hearing.hear_all.Given as goal

abbrev pub invariant-loop-item : goal.invariant-loop-item
invariant-loop-item g l =
    let meaning = g.M.SettingsMemory.meaning in
    Where l.ending l.bytes l.place.at l.tally l.initial.reply l.reply
    × ((b : State) (h : List Event) → Follows b h (state_of meaning l.initial.inside) → SoFar b h l.ending l.bytes l.place.at l.tally l.reply (state_of meaning l.inside))

abbrev pub decreases-loop-item : goal.decreases-loop-item
decreases-loop-item g l = length l.bytes - l.place.at
