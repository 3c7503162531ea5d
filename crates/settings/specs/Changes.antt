-- What is in force after a setting is set, a section is loaded, or a fix is counted.
use Rattle.std.specs.Prelude.{ℕ, List, replicate, slice_index, slice_set}
use Rattle.settings.specs.declared.names.Section.{Section}
use Rattle.settings.specs.declared.names.Section.TheVariants.{Port, Messages, Navigation, Pulse, Group}
use Rattle.settings.specs.declared.values.Setting.{Setting}
use Rattle.settings.specs.declared.values.Setting.TheVariants as setting
use Rattle.settings.specs.Entries.{next_count}
use Rattle.settings.specs.Names.{place}
use Rattle.settings.specs.Values.{Values, pulse_values}

-- the settings v with one of them set
abbrev pub with_setting : Values → Setting → Values
with_setting v (setting.Baud x) = record { baud = x.code; rates = v.rates; interval = v.interval; systems = v.systems; pulse = v.pulse; group = v.group }
with_setting v (setting.Rate m n) = record { baud = v.baud; rates = slice_set v.rates (place m) n; interval = v.interval; systems = v.systems; pulse = v.pulse; group = v.group }
with_setting v (setting.Interval x) = record { baud = v.baud; rates = v.rates; interval = x.milliseconds; systems = v.systems; pulse = v.pulse; group = v.group }
with_setting v (setting.Systems x) = record { baud = v.baud; rates = v.rates; interval = v.interval; systems = x.mask; pulse = v.pulse; group = v.group }
with_setting v (setting.Pulse x) = record { baud = v.baud; rates = v.rates; interval = v.interval; systems = v.systems; pulse = pulse_values x; group = v.group }
with_setting v (setting.Group x) = record { baud = v.baud; rates = v.rates; interval = v.interval; systems = v.systems; pulse = v.pulse; group = x.bytes }

-- a rate that comes into force begins its count again
abbrev pub counts_set : List ℕ → Setting → List ℕ
counts_set c (setting.Baud x) = c
counts_set c (setting.Rate m n) = slice_set c (place m) 0
counts_set c (setting.Interval x) = c
counts_set c (setting.Systems x) = c
counts_set c (setting.Pulse x) = c
counts_set c (setting.Group x) = c

-- the counts after a section's settings come into force
abbrev pub counts_loaded : List ℕ → Section → List ℕ
counts_loaded c Port = c
counts_loaded c Messages = replicate 5 0
counts_loaded c Navigation = c
counts_loaded c Pulse = c
counts_loaded c Group = c

-- the counts after a fix is counted in the entry at i
abbrev pub counts_fixed : List ℕ → List ℕ → ℕ → List ℕ
counts_fixed rates c i = slice_set c i (next_count (slice_index rates i) (slice_index c i))
