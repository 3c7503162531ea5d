-- What becomes of a command: it is judged by the events so far, and accepted it is some events more.
use Rattle.std.specs.Prelude.{ℕ, ◌*◌, Bool, cond, List, [], ◌∷◌, ◌++◌, map, is_some, Some, Option, nat_le}
use Rattle.std.specs.Option.{unwrap_or}
use Rattle.commands.specs.declared.command.Start.TheVariants.{Hot, Warm, Cold, Factory}
use Rattle.commands.specs.declared.command.Outcome.{Outcome}
use Rattle.commands.specs.declared.command.Outcome.TheVariants.{PassedOver, TurnedDown, Done, Told}
use Rattle.commands.specs.Commands.{Command, sets, saves, clears, loads, starts, asks, Request, passed_over, wrong, command}
use Rattle.rule.specs.Events.{Event, restarted, factoried, set, saved, cleared, loaded, when, how_many}
use Rattle.rule.specs.Words.{State, left}

-- whether so many sections can be written
abbrev pub affords : State → List Event → ℕ → Bool
affords b h n = nat_le (n * b.price) (left b h)

-- the events that a command is, newest first; nothing where it is turned down
abbrev pub judged : State → List Event → Command → Option (List Event)
judged b h (sets xs) = Some (map set xs)
judged b h (saves x) = when (affords b h (how_many x)) (saved x ∷ [])
judged b h (clears x) = when (affords b h (how_many x)) (cleared x ∷ [])
judged b h (loads x) = Some (loaded x ∷ [])
judged b h (starts Hot) = Some (restarted ∷ [])
judged b h (starts Warm) = Some (restarted ∷ [])
judged b h (starts Cold) = Some (restarted ∷ [])
judged b h (starts Factory) = when (affords b h 5) (factoried ∷ [])
judged b h (asks q) = Some []

-- what an accepted command comes to: a query is told, any other is done
abbrev pub fulfilled : Command → Outcome
fulfilled (sets xs) = Done
fulfilled (saves x) = Done
fulfilled (clears x) = Done
fulfilled (loads x) = Done
fulfilled (starts s) = Done
fulfilled (asks q) = Told q

-- what becomes of a request
abbrev pub outcome : State → List Event → Request → Outcome
outcome b h passed_over = PassedOver
outcome b h wrong = TurnedDown
outcome b h (command c) = cond (is_some (judged b h c)) (fulfilled c) TurnedDown

-- the events after a request: one that is passed over or turned down is no event
abbrev pub heard : State → List Event → Request → List Event
heard b h passed_over = h
heard b h wrong = h
heard b h (command c) = unwrap_or (judged b h c) [] ++ h
