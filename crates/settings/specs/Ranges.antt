-- The range of each setting.
use Rattle.std.specs.Prelude.{ℕ, Bool, ◌&&◌, nat_le, nat_lt}

-- a baud code is 0 to 5
abbrev pub baud_in_range : ℕ → Bool
baud_in_range code = nat_le code 5

-- an interval is 100 to 10,000 milliseconds
abbrev pub interval_in_range : ℕ → Bool
interval_in_range ms = nat_le 100 ms && nat_le ms 10000

-- some of three satellite systems
abbrev pub systems_in_range : ℕ → Bool
systems_in_range mask = nat_le 1 mask && nat_le mask 7

-- a pulse is shorter than the time between two, with an enable up to 3 and polarity and reference up to 1
abbrev pub pulse_in_range : ℕ → ℕ → ℕ → ℕ → ℕ → Bool
pulse_in_range interval width enable polarity reference = nat_lt width interval && (nat_le enable 3 && (nat_le polarity 1 && nat_le reference 1))
