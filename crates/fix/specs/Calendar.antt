-- The Gregorian calendar.
use Rattle.std.specs.Prelude.{ℕ, ◌%◌, Bool, cond, not, ◌&&◌, ◌||◌, ◌==◌}

-- every fourth year is a leap year, but of the full centuries only every fourth
abbrev pub leap : ℕ → Bool
leap year = year % 4 == 0 && (not (year % 100 == 0) || year % 400 == 0)

-- how many days a month has
abbrev pub month_length : ℕ → ℕ → ℕ
month_length year month =
    cond (month == 2) (cond (leap year) 29 28)
    (cond (month == 4 || (month == 6 || (month == 9 || month == 11))) 30 31)
