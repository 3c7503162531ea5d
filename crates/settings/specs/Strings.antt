-- The kept string of each section, and which settings a string names.
use Rattle.std.specs.Prelude.{ℕ, Bool, cond, ◌&&◌, List, [], ◌∷◌, ◌++◌, length, Some, None, Option, ◌==◌, slice_index}
use Rattle.settings.specs.declared.names.Section.{Section}
use Rattle.settings.specs.declared.names.Section.TheVariants.{Port, Messages, Navigation, Pulse, Group}
use Rattle.numbers.specs.Bytes.{bytes2, bytes4, u2_at, u4_at}
use Rattle.settings.specs.Bytes.{four_at, five_of}
use Rattle.settings.specs.Ranges.{baud_in_range, interval_in_range, systems_in_range, pulse_in_range}
use Rattle.settings.specs.Values.{NavigationValues, PulseValues, Values}

-- the navigation settings that three bytes name
abbrev pub navigation_at : List ℕ → NavigationValues
navigation_at b = record { interval = u2_at b 0; systems = slice_index b 2 }

-- the sixteen bytes of the pulse setting
abbrev pub pulse_string : PulseValues → List ℕ
pulse_string p = bytes4 p.interval ++ (bytes4 p.width ++ (p.enable ∷ (p.polarity ∷ (p.reference ∷ (p.source ∷ four_at p.delay 0)))))

-- the pulse setting that sixteen bytes name
abbrev pub pulse_at : List ℕ → PulseValues
pulse_at b = record { interval = u4_at b 0; width = u4_at b 4; enable = slice_index b 8; polarity = slice_index b 9; reference = slice_index b 10; source = slice_index b 11; delay = four_at b 12 }

-- the kept string of a section
abbrev pub kept_string : Values → Section → List ℕ
kept_string v Port = v.baud ∷ []
kept_string v Messages = v.rates
kept_string v Navigation = bytes2 v.interval ++ (v.systems ∷ [])
kept_string v Pulse = pulse_string v.pulse
kept_string v Group = v.group

-- whether sixteen bytes name a pulse setting in range
abbrev pub pulse_lawful : PulseValues → Bool
pulse_lawful p = pulse_in_range p.interval p.width p.enable p.polarity p.reference

-- whether a string is a kept value: its length and every value in it are right
abbrev pub is_kept : Section → List ℕ → Bool
is_kept Port b = length b == 1 && baud_in_range (slice_index b 0)
is_kept Messages b = length b == 5
is_kept Navigation b = length b == 3 && (interval_in_range (navigation_at b).interval && systems_in_range (navigation_at b).systems)
is_kept Pulse b = length b == 16 && pulse_lawful (pulse_at b)
is_kept Group b = length b == 56

-- the settings v with those of a section as a kept string names them
abbrev pub with_section : Values → Section → List ℕ → Values
with_section v Port b = record { baud = slice_index b 0; rates = v.rates; interval = v.interval; systems = v.systems; pulse = v.pulse; group = v.group }
with_section v Messages b = record { baud = v.baud; rates = five_of b; interval = v.interval; systems = v.systems; pulse = v.pulse; group = v.group }
with_section v Navigation b = record { baud = v.baud; rates = v.rates; interval = (navigation_at b).interval; systems = (navigation_at b).systems; pulse = v.pulse; group = v.group }
with_section v Pulse b = record { baud = v.baud; rates = v.rates; interval = v.interval; systems = v.systems; pulse = pulse_at b; group = v.group }
with_section v Group b = record { baud = v.baud; rates = v.rates; interval = v.interval; systems = v.systems; pulse = v.pulse; group = b }

-- reading a string back: any other string counts as none, for every setting of the section
abbrev pub read_back : Values → Section → List ℕ → Option Values
read_back v s b = cond (is_kept s b) (Some (with_section v s b)) None
