-- The numbers of the sections, and the order of the messages.
use Rattle.std.specs.Prelude.{ℕ, cond, Some, None, Option, ◌==◌}
use Rattle.settings.specs.declared.names.Section.{Section}
use Rattle.settings.specs.declared.names.Section.TheVariants.{Port, Messages, Navigation, Pulse, Group}
use Rattle.settings.specs.declared.names.UnknownSection.{UnknownSection}
use Rattle.settings.specs.declared.names.Message.{Message}
use Rattle.settings.specs.declared.names.Message.TheVariants.{Gga, Gll, Rmc, Zda, TimeUtc}

-- the number by which a memory knows a section
abbrev pub number : Section → ℕ
number Port = 0
number Messages = 1
number Navigation = 3
number Pulse = 4
number Group = 5

-- the section of a number; no other number has one
abbrev pub section_at : ℕ → Option Section
section_at n =
    cond (n == 0) (Some Port) (cond (n == 1) (Some Messages) (cond (n == 3) (Some Navigation) (cond (n == 4) (Some Pulse) (cond (n == 5) (Some Group) None))))

-- the error that holds a number
abbrev pub unknown_section : ℕ → UnknownSection
unknown_section n = record { 0 = n }

-- the place of a message's entry in the table, and of its rate in the kept string
abbrev pub place : Message → ℕ
place Gga = 0
place Gll = 1
place Rmc = 2
place Zda = 3
place TimeUtc = 4
