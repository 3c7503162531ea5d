-- The settings that a load brings into force.
use Rattle.std.specs.Prelude.{ℕ, cond, List, Some, None, Option}
use Rattle.settings.specs.declared.names.Section.{Section}
use Rattle.settings.specs.Strings.{kept_string, is_kept, with_section}
use Rattle.settings.specs.Values.{Values, factory}

-- the settings v with those of a section as they leave the factory
abbrev pub restored : Values → Section → Values
restored v s = with_section v s (kept_string factory s)

-- the settings v with those of a section as its string names them, or from the factory where none is kept
abbrev pub loaded : Values → Section → Option (List ℕ) → Values
loaded v s None = restored v s
loaded v s (Some b) = cond (is_kept s b) (with_section v s b) (restored v s)
