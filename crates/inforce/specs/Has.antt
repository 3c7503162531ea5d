-- What a card has, of its settings and its memory.
use Rattle.std.specs.Prelude.{ℕ, slice_index}
use Rattle.memory.specs.Memory.{Meaning}
use Rattle.settings.specs.declared.names.Message.{Message}
use Rattle.settings.specs.declared.values.Settings.{Settings}
use Rattle.settings.specs.Names.{place, number}
use Rattle.settings.specs.Values.{values, counts}
use Rattle.commands.specs.Settings.{Configuration, configuration}
use Rattle.rule.specs.Events.{Strings}
use Rattle.rule.specs.Words.{State}
use Rattle.inforce.specs.declared.parts.InForce.{InForce}

-- the settings by name, and the fixes counted for each message
abbrev pub settings_of : Settings → Configuration
settings_of s = configuration (values s)

abbrev pub count_of : Settings → Message → ℕ
count_of s m = slice_index (counts s) (place m)

-- the strings of a memory by section
abbrev pub strings_of : Meaning → Strings
strings_of m = λ s. m.string (number s)

-- settings on a memory, where f says what the memory means
abbrev pub state_of : {A : Type 0} → (A → Meaning) → InForce A → State
state_of f x = record { settings = settings_of x.settings; count = count_of x.settings; string = strings_of (f x.memory); left = (f x.memory).left; price = (f x.memory).price }
