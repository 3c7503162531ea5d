-- One event more, as a step from what a card has.
use Rattle.std.specs.Prelude.{◌-◌, ◌*◌, cond, List, [], ◌∷◌}
use Rattle.std.specs.Option.{unwrap_or}
use Rattle.settings.specs.Entries.{next_count}
use Rattle.commands.specs.Settings.{rate}
use Rattle.commands.specs.Commands.{Request, passed_over, wrong, command}
use Rattle.rule.specs.Events.{Event, touches, names, files, writes, is_fix}
use Rattle.rule.specs.Words.{State, chosen}
use Rattle.rule.specs.Judging.{judged}

-- what a card has after one event more
abbrev pub stepped : State → Event → State
stepped v e = record {
  settings = chosen (touches e) (names e v.string) v.settings;
  count = λ m. cond (touches e (rate m)) 0 (cond (is_fix e) (next_count (v.settings.rate m) (v.count m)) (v.count m));
  string = λ s. unwrap_or (files e s v.settings) (v.string s);
  left = v.left - writes e * v.price;
  price = v.price;
}

-- after some events more, newest first
abbrev pub stepped_all : State → List Event → State
stepped_all v [] = v
stepped_all v (e ∷ es) = stepped (stepped_all v es) e

-- the events that a request is for a card that has this
abbrev pub events_of : State → Request → List Event
events_of v passed_over = []
events_of v wrong = []
events_of v (command c) = unwrap_or (judged v [] c) []
