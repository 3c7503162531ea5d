-- The words for the sections.
use Rattle.std.specs.Prelude.{ℕ, List, codes}
use Rattle.settings.specs.declared.names.Section.{Section}
use Rattle.settings.specs.declared.names.Section.TheVariants.{Port, Messages, Navigation, Pulse, Group}

-- the word for a section
abbrev pub section_word : Section → List ℕ
section_word Port = codes "port"
section_word Messages = codes "messages"
section_word Navigation = codes "navigation"
section_word Pulse = codes "pulse"
section_word Group = codes "group"
