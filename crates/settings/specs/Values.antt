-- The settings as plain numbers and bytes.
use Rattle.std.specs.Prelude.{ℕ, List, [], ◌∷◌, map, replicate}
use Rattle.settings.specs.declared.values.Entry.{Entry}
use Rattle.settings.specs.declared.values.Pulse.{Pulse}
use Rattle.settings.specs.declared.values.Navigation.{Navigation}
use Rattle.settings.specs.declared.values.Settings.{Settings}

-- what the navigation settings hold
pub record NavigationValues : Type 0 where
  pub interval : ℕ
  pub systems : ℕ

-- what the pulse setting holds
pub record PulseValues : Type 0 where
  pub interval : ℕ
  pub width : ℕ
  pub enable : ℕ
  pub polarity : ℕ
  pub reference : ℕ
  pub source : ℕ
  pub delay : List ℕ

-- the ten settings; the rates stand in the order of the messages
pub record Values : Type 0 where
  pub baud : ℕ
  pub rates : List ℕ
  pub interval : ℕ
  pub systems : ℕ
  pub pulse : PulseValues
  pub group : List ℕ

-- the two navigation settings as numbers
abbrev pub navigation_values : Navigation → NavigationValues
navigation_values n = record { interval = n.interval.milliseconds; systems = n.systems.mask }

-- the pulse setting as numbers and bytes
abbrev pub pulse_values : Pulse → PulseValues
pulse_values p = record { interval = p.interval; width = p.width; enable = p.enable; polarity = p.polarity; reference = p.reference; source = p.source; delay = p.delay }

-- the rates in a table of entries
abbrev pub rates_in : List Entry → List ℕ
rates_in es = map (λ e. e.rate) es

-- the counts in a table of entries
abbrev pub counts_in : List Entry → List ℕ
counts_in es = map (λ e. e.count) es

-- the ten settings in force
abbrev pub values : Settings → Values
values s = record { baud = s.baud.code; rates = rates_in s.messages.entries; interval = s.interval.milliseconds; systems = s.systems.mask; pulse = pulse_values s.pulse; group = s.group.bytes }

-- the fixes counted for each message
abbrev pub counts : Settings → List ℕ
counts s = counts_in s.messages.entries

-- the settings as they leave the factory
abbrev pub factory : Values
factory = record {
  baud = 1;
  rates = 1 ∷ (0 ∷ (1 ∷ (1 ∷ (0 ∷ []))));
  interval = 1000;
  systems = 3;
  pulse = record { interval = 1000000; width = 100000; enable = 1; polarity = 0; reference = 0; source = 0; delay = replicate 4 0 };
  group = replicate 56 0;
}
