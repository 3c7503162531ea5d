-- One section after the other: what is loaded and what is written.
use Rattle.std.specs.Prelude.{ℕ, ◌-◌, ◌*◌, Bool, cond, ◌&&◌, List, Some, None, Option, ◌==◌}
use Rattle.settings.specs.declared.names.Section.{Section}
use Rattle.settings.specs.Names.{number}
use Rattle.commands.specs.declared.command.Sections.{Sections}
use Rattle.commands.specs.Settings.{Name, section_of, Configuration}
use Rattle.commands.specs.Commands.{names_section}
use Rattle.inforce.specs.declared.parts.Writing.{Writing}
use Rattle.inforce.specs.declared.parts.Writing.TheVariants.{Keep, Erase}
use Rattle.rule.specs.Events.{Event, saved, cleared, string_of, one_if, Strings}

abbrev pub same_section : Section → Section → Bool
same_section s t = number s == number t

-- whether a setting is of one section, where that is among some
abbrev pub in_section : Sections → Section → Name → Bool
in_section x s n = same_section s (section_of n) && names_section x s

-- what is written of some settings as the string of a section
abbrev pub filed : Writing → Configuration → Section → Option (List ℕ)
filed Keep c s = Some (string_of c s)
filed Erase c s = None

-- the event that writing some sections is
abbrev pub writing_event : Writing → Sections → Event
writing_event Keep x = saved x
writing_event Erase x = cleared x

-- the strings after one section is written, where that is among some
abbrev pub with_filed : Writing → Configuration → Sections → Section → Strings → Strings
with_filed w c x s k = λ t. cond (same_section t s && names_section x s) (filed w c s) (k t)

-- the writes left after it
abbrev pub paid : Sections → Section → ℕ → ℕ → ℕ
paid x s left price = left - one_if (names_section x s) * price
