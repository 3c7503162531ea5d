-- The ranges of a fix.
use Rattle.std.specs.Prelude.{ℕ, Bool, true, ◌&&◌, ℤ, pos, neg_ℤ, Some, None, Option, int_le, nat_le}
use Rattle.fix.specs.declared.Date.{Date}
use Rattle.fix.specs.declared.Time.{Time}
use Rattle.fix.specs.declared.Position.{Position}
use Rattle.fix.specs.Calendar.{month_length}

-- a number from low to high
abbrev pub within : ℕ → ℕ → ℕ → Bool
within low high n = nat_le low n && nat_le n high

-- a signed number from -low to high
abbrev pub between : ℕ → ℕ → ℤ → Bool
between low high z = int_le (neg_ℤ (pos low)) z && int_le z (pos high)

-- a day of the calendar from 1999 to 2099
abbrev pub lawful_date : Date → Bool
lawful_date d = within 1999 2099 d.year && (within 1 12 d.month && within 1 (month_length d.year d.month) d.day)

-- a time of day
abbrev pub lawful_time : Time → Bool
lawful_time t = nat_le t.hour 23 && (nat_le t.minute 59 && (nat_le t.second 59 && nat_le t.ms 999))

-- angles in ten-thousandths of a minute, altitude in cm, speed in thousandths of a knot, course in thousandths of a degree, HDOP in hundredths
abbrev pub lawful_position : Position → Bool
lawful_position p =
    between 54000000 54000000 p.latitude
    && (between 108000000 108000000 p.longitude
    && (between 99999 9999999 p.altitude
    && (nat_le p.speed 9999999
    && (nat_le p.course 359999
    && nat_le p.hdop 9999))))

-- no position is in range
abbrev pub lawful_place : Option Position → Bool
lawful_place None = true
lawful_place (Some p) = lawful_position p
