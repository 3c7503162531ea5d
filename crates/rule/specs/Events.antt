-- What can happen to a card's settings, and what each such event names.
use Rattle.std.specs.Prelude.{ℕ, ◌+◌, Bool, true, false, cond, List, [], ◌∷◌, ◌++◌, Some, None, Option, ◌==◌}
use Rattle.numbers.specs.Bytes.{bytes2}
use Rattle.settings.specs.declared.names.Section.{Section}
use Rattle.settings.specs.declared.names.Section.TheVariants.{Port, Messages, Navigation, Pulse, Group}
use Rattle.settings.specs.declared.names.Message.TheVariants.{Gga, Gll, Rmc, Zda, TimeUtc}
use Rattle.settings.specs.Strings.{pulse_string}
use Rattle.settings.specs.Values.{factory}
use Rattle.keeping.specs.Loaded.{loaded as loaded_values}
use Rattle.commands.specs.declared.command.Sections.{Sections}
use Rattle.commands.specs.Settings.{Name, index, section_of, Configuration, configuration, Change, baud_to, rate_to, interval_to, systems_to, pulse_to, group_to, changes}
use Rattle.commands.specs.Commands.{names_section}

-- what happens: the build, a power, a start 0 to 2, a factory start, an accepted fix,
-- an accepted set of one setting, and an accepted save, clear or load of some sections
pub data Event : Type 0 where
  built : Event
  powered : Event
  restarted : Event
  factoried : Event
  fixed : Event
  set : Change → Event
  saved : Sections → Event
  cleared : Sections → Event
  loaded : Sections → Event

-- the strings in a memory, or none, by section
abbrev pub Strings : Type 0
Strings = Section → Option (List ℕ)

-- the settings as they leave the factory
abbrev pub factory_settings : Configuration
factory_settings = configuration factory

-- a section's kept value, or the factory value where none is kept; of the other sections the factory value
abbrev pub kept_section : Strings → Section → Configuration
kept_section k s = configuration (loaded_values factory s (k s))

-- the kept value of every setting, or the factory value where none is kept
abbrev pub kept_settings : Strings → Configuration
kept_settings k = record {
  baud = (kept_section k Port).baud;
  rate = (kept_section k Messages).rate;
  interval = (kept_section k Navigation).interval;
  systems = (kept_section k Navigation).systems;
  pulse = (kept_section k Pulse).pulse;
  group = (kept_section k Group).group;
}

-- settings of which one has the value that a change carries
abbrev pub carried : Change → Configuration
carried (baud_to n) = record { baud = n; rate = factory_settings.rate; interval = factory_settings.interval; systems = factory_settings.systems; pulse = factory_settings.pulse; group = factory_settings.group }
carried (rate_to m n) = record { baud = factory_settings.baud; rate = λ k. n; interval = factory_settings.interval; systems = factory_settings.systems; pulse = factory_settings.pulse; group = factory_settings.group }
carried (interval_to n) = record { baud = factory_settings.baud; rate = factory_settings.rate; interval = n; systems = factory_settings.systems; pulse = factory_settings.pulse; group = factory_settings.group }
carried (systems_to n) = record { baud = factory_settings.baud; rate = factory_settings.rate; interval = factory_settings.interval; systems = n; pulse = factory_settings.pulse; group = factory_settings.group }
carried (pulse_to p) = record { baud = factory_settings.baud; rate = factory_settings.rate; interval = factory_settings.interval; systems = factory_settings.systems; pulse = p; group = factory_settings.group }
carried (group_to b) = record { baud = factory_settings.baud; rate = factory_settings.rate; interval = factory_settings.interval; systems = factory_settings.systems; pulse = factory_settings.pulse; group = b }

-- whether an event touches a setting, that is, names its value
abbrev pub touches : Event → Name → Bool
touches built n = true
touches powered n = true
touches restarted n = true
touches factoried n = true
touches fixed n = false
touches (set x) n = index (changes x) == index n
touches (saved x) n = false
touches (cleared x) n = false
touches (loaded x) n = names_section x (section_of n)

-- the values that an event names for the settings that it touches, where k are the strings of that moment
abbrev pub names : Event → Strings → Configuration
names built k = kept_settings k
names powered k = kept_settings k
names restarted k = kept_settings k
names factoried k = factory_settings
names fixed k = factory_settings
names (set x) k = carried x
names (saved x) k = factory_settings
names (cleared x) k = factory_settings
names (loaded x) k = kept_settings k

-- a section's string, of some settings
abbrev pub string_of : Configuration → Section → List ℕ
string_of c Port = c.baud ∷ []
string_of c Messages = c.rate Gga ∷ c.rate Gll ∷ c.rate Rmc ∷ c.rate Zda ∷ c.rate TimeUtc ∷ []
string_of c Navigation = bytes2 c.interval ++ (c.systems ∷ [])
string_of c Pulse = pulse_string c.pulse
string_of c Group = c.group

-- something where a test holds, else nothing
abbrev pub when : {A : Type 0} → Bool → A → Option A
when b x = cond b (Some x) None

-- what an event names as the string of a section, where c was in force just before it: a string, or no string; nothing where it does not touch it
abbrev pub files : Event → Section → Configuration → Option (Option (List ℕ))
files built s c = None
files powered s c = None
files restarted s c = None
files factoried s c = Some None
files fixed s c = None
files (set x) s c = None
files (saved x) s c = when (names_section x s) (Some (string_of c s))
files (cleared x) s c = when (names_section x s) None
files (loaded x) s c = None

-- how many sections are among some
abbrev pub one_if : Bool → ℕ
one_if b = cond b 1 0

abbrev pub how_many : Sections → ℕ
how_many x = one_if x.port + one_if x.messages + one_if x.navigation + one_if x.pulse + one_if x.group

-- how many writes an event makes
abbrev pub writes : Event → ℕ
writes built = 0
writes powered = 0
writes restarted = 0
writes factoried = 5
writes fixed = 0
writes (set x) = 0
writes (saved x) = how_many x
writes (cleared x) = how_many x
writes (loaded x) = 0

abbrev pub is_fix : Event → Bool
is_fix built = false
is_fix powered = false
is_fix restarted = false
is_fix factoried = false
is_fix fixed = true
is_fix (set x) = false
is_fix (saved x) = false
is_fix (cleared x) = false
is_fix (loaded x) = false
