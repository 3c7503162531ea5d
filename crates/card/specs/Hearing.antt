-- What has been answered and counted so far, in a tally and a reply buffer.
use Rattle.std.specs.Prelude.{◌≡◌, ℕ, List, map, take}
use Rattle.wire.specs.declared.reading.Ending.{Ending}
use Rattle.wire.specs.Items.{Item, frame_item, sentence_item}
use Rattle.wire.specs.Reading.{reading}
use Rattle.rule.specs.Events.{Event}
use Rattle.rule.specs.Words.{State, Follows}
use Rattle.rule.specs.Saying.{Said, opened, told, written, AllLawful}
use Rattle.rule.specs.Calls.{items}
use Rattle.card.specs.declared.tally.Tally.{Tally}

-- the most bytes that a frame or sentence draws
abbrev pub most : Item → ℕ
most (frame_item class id payload) = 66
most (sentence_item body) = 0

-- the answers stand in the buffer, the totals in the tally, and the card follows the events
pub record Heard (b : State) (s : Said) (t : Tally) (reply : List ℕ) (v : State) : Type 0 where
  pub answers : take t.written reply ≡ written s.answers
  pub lawful : AllLawful s.answers
  pub accepted : t.accepted ≡ s.accepted
  pub down : t.down ≡ s.down
  pub follows : Follows b s.events v

-- what was said so far, and what is said from a place on, make what is said of all the bytes
pub record SoFar (b : State) (h : List Event) (ending : Ending) (bytes : List ℕ) (at : ℕ) (t : Tally) (reply : List ℕ) (v : State) : Type 0 where
  pub said : Said
  pub heard : Heard b said t reply v
  pub same : told b said (map (λ p. p.item) (reading ending bytes at).found) ≡ told b (opened h) (items ending bytes)
