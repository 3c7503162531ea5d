-- A factory start, and a request for a card that follows some events.
use Rattle.std.proofs.Common.{◌≡◌, List, [], get_or, replicate, None, Ok, Result, sym, refl, ap, ◌∙◌, subst}
use Rattle.memory.specs.declared.Refusal.{Refusal}
use Rattle.settings.specs.declared.names.Section.{Section}
use Rattle.settings.specs.declared.names.Section.TheVariants.{Port, Messages, Navigation, Pulse, Group}
use Rattle.settings.specs.declared.names.Message.{Message}
use Rattle.settings.specs.declared.values.Settings.{Settings}
use Rattle.settings.specs.Names.{place}
use Rattle.settings.specs.Values.{values, counts, factory}
use Rattle.commands.specs.declared.command.Command.{Command}
use Rattle.commands.specs.declared.command.Unheeded.{Unheeded}
use Rattle.commands.specs.declared.command.Outcome.{Outcome}
use Rattle.commands.specs.Settings.{configuration}
use Rattle.commands.specs.Commands.{all_sections, command}
use Rattle.commands.specs.Seen.{command_of, seen_request}
use Rattle.rule.specs.Events.{Event, cleared, factoried}
use Rattle.rule.specs.Words.{State, Follows}
use Rattle.rule.specs.Judging.{outcome, heard}
use Rattle.rule.specs.Steps.{stepped, stepped_all, events_of}
use Rattle.rule.proofs.Steps.{requests}
use Rattle.inforce.specs.Has.{settings_of, count_of}
use Rattle.inforce.proofs.Loads.{none_counted}

erased : (v : State) (s : Section) → (stepped v (cleared all_sections)).string s ≡ None
erased v Port = refl
erased v Messages = refl
erased v Navigation = refl
erased v Pulse = refl
erased v Group = refl

-- all sections erased, and the factory settings in force
pub factory_step : (v w : State) (t : Settings) → w ≡ stepped v (cleared all_sections) → values t ≡ factory → counts t ≡ replicate 5 0
    → record { settings = settings_of t; count = count_of t; string = w.string; left = w.left; price = w.price } ≡ stepped v factoried
factory_step v w t is ev ec =
    let settings = ap configuration ev in
    let count : (m : Message) → count_of t m ≡ 0 = λ m. ap (λ c. get_or c (place m) 0) ec ∙ none_counted m [] in
    let string : (s : Section) → w.string s ≡ None = λ s. ap (λ x. x.string s) is ∙ erased v s in
    λ i. record { settings = settings i; count = λ m. count m i; string = λ s. string s i; left = (is i).left; price = (is i).price }

-- a command that was acted upon
pub obeyed : {b : State} {h : List Event} {v : State} → Follows b h v → (q : Result Command Unheeded) (x : Command) (r : Result Outcome Refusal) (w : State) → q ≡ Ok x
    → r ≡ Ok (outcome v [] (command (command_of x))) → w ≡ stepped_all v (events_of v (command (command_of x)))
    → (r ≡ Ok (outcome b h (seen_request q))) × Follows b (heard b h (seen_request q)) w
obeyed {b} {h} f q x r w is er ew =
    let both = requests f (command (command_of x)) in
    subst (λ y. (r ≡ Ok (outcome b h (seen_request y))) × Follows b (heard b h (seen_request y)) w) (sym is)
    (er ∙ ap Ok both.0, subst (Follows b (heard b h (command (command_of x)))) (sym ew) both.1)
