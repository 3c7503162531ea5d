-- The ten settings by name: what they are, and a change of one of them.
use Rattle.std.specs.Prelude.{ℕ, ◌+◌, List, slice_index}
use Rattle.settings.specs.declared.names.Section.{Section}
use Rattle.settings.specs.declared.names.Section.TheVariants.{Port, Messages, Navigation, Pulse, Group}
use Rattle.settings.specs.declared.names.Message.{Message}
use Rattle.settings.specs.Names.{place}
use Rattle.settings.specs.Values.{Values, PulseValues}

-- the ten settings: each of the five messages has a rate
pub data Name : Type 0 where
  baud : Name
  rate : Message → Name
  interval : Name
  systems : Name
  pulse : Name
  group : Name

-- a number for each of them, by which two are told apart
abbrev pub index : Name → ℕ
index baud = 0
index (rate m) = 1 + place m
index interval = 6
index systems = 7
index pulse = 8
index group = 9

-- the section in whose string a setting is kept
abbrev pub section_of : Name → Section
section_of baud = Port
section_of (rate m) = Messages
section_of interval = Navigation
section_of systems = Navigation
section_of pulse = Pulse
section_of group = Group

-- the values of the ten settings
pub record Configuration : Type 0 where
  pub baud : ℕ
  pub rate : Message → ℕ
  pub interval : ℕ
  pub systems : ℕ
  pub pulse : PulseValues
  pub group : List ℕ

-- settings whose rates stand in a list, by name
abbrev pub configuration : Values → Configuration
configuration v = record { baud = v.baud; rate = λ m. slice_index v.rates (place m); interval = v.interval; systems = v.systems; pulse = v.pulse; group = v.group }

-- one setting and the value that it is to take
pub data Change : Type 0 where
  baud_to : ℕ → Change
  rate_to : Message → ℕ → Change
  interval_to : ℕ → Change
  systems_to : ℕ → Change
  pulse_to : PulseValues → Change
  group_to : List ℕ → Change

-- the setting that a change is of
abbrev pub changes : Change → Name
changes (baud_to n) = baud
changes (rate_to m n) = rate m
changes (interval_to n) = interval
changes (systems_to n) = systems
changes (pulse_to p) = pulse
changes (group_to b) = group
