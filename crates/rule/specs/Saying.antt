-- What is answered to a run of frames and sentences.
use Rattle.std.specs.Prelude.{◌≡◌, ℕ, ◌+◌, true, List, [], ◌∷◌, ◌++◌, fold}
use Rattle.std.specs.List.{flat_map}
use Rattle.wire.specs.Items.{Item, frame_item, sentence_item, form, lawful_item}
use Rattle.commands.specs.declared.command.Outcome.{Outcome}
use Rattle.commands.specs.declared.command.Outcome.TheVariants.{PassedOver, TurnedDown, Done, Told}
use Rattle.commands.specs.Settings.{Configuration}
use Rattle.commands.specs.Commands.{request_of, told_payload}
use Rattle.rule.specs.Events.{Event}
use Rattle.rule.specs.Words.{State, in_force}
use Rattle.rule.specs.Judging.{outcome, heard}

-- what a frame draws: ACK, NACK, or the same frame with the setting in force
abbrev pub drawn : ℕ → ℕ → Outcome → Configuration → List Item
drawn class id PassedOver c = []
drawn class id TurnedDown c = frame_item 0x05 0x00 (class ∷ id ∷ 0 ∷ 0 ∷ []) ∷ []
drawn class id Done c = frame_item 0x05 0x01 (class ∷ id ∷ 0 ∷ 0 ∷ []) ∷ []
drawn class id (Told q) c = frame_item class id (told_payload q c) ∷ []

-- sentences draw nothing
abbrev pub answers_to : Item → Outcome → Configuration → List Item
answers_to (frame_item class id payload) o c = drawn class id o c
answers_to (sentence_item body) o c = []

-- each of some frames and sentences may be written
abbrev pub AllLawful : List Item → Type 0
AllLawful [] = Unit {0}
AllLawful (x ∷ xs) = (lawful_item x ≡ true) × AllLawful xs

-- what counts as accepted, queries too, and what as turned down
abbrev pub accepts : Outcome → ℕ
accepts PassedOver = 0
accepts TurnedDown = 0
accepts Done = 1
accepts (Told q) = 1

abbrev pub turns_down : Outcome → ℕ
turns_down PassedOver = 0
turns_down TurnedDown = 1
turns_down Done = 0
turns_down (Told q) = 0

-- the events so far, newest first, and what was answered and counted on the way
pub record Said : Type 0 where
  pub events : List Event
  pub answers : List Item
  pub accepted : ℕ
  pub down : ℕ

abbrev pub opened : List Event → Said
opened h = record { events = h; answers = []; accepted = 0; down = 0 }

-- one frame or sentence more: it is judged with the events so far, and acts
abbrev pub spoken : State → Said → Item → Said
spoken b s x = record {
  events = heard b s.events (request_of x);
  answers = s.answers ++ answers_to x (outcome b s.events (request_of x)) (in_force b s.events);
  accepted = s.accepted + accepts (outcome b s.events (request_of x));
  down = s.down + turns_down (outcome b s.events (request_of x));
}

abbrev pub told : State → Said → List Item → Said
told b s xs = fold (spoken b) s xs

-- the bytes of some frames and sentences, one behind the other
abbrev pub written : List Item → List ℕ
written xs = flat_map form xs
