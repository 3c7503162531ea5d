-- The payload of NAV-TIMEUTC, field by field.
use Rattle.std.specs.Prelude.{ℕ, ◌%◌, cond, List, [], ◌∷◌, ◌++◌, Some, None, Option, ◌==◌}
use Rattle.numbers.specs.Bytes.{bytes2, bytes4}
use Rattle.fix.specs.declared.checked.CheckedPosition.{CheckedPosition}
use Rattle.fix.specs.declared.checked.CheckedFix.{CheckedFix}

-- the three flags of a valid time, or none
abbrev pub validity : Option CheckedPosition → ℕ
validity None = 0
validity (Some p) = 7

-- the time's source by the systems in use: 0 GPS, 1 BeiDou, 2 GLONASS
abbrev pub source : ℕ → ℕ
source systems = cond (systems % 2 == 1) 0 (cond (systems == 4) 2 1)

-- a date confirmed by several satellites, or none
abbrev pub date_validity : Option CheckedPosition → ℕ
date_validity None = 0
date_validity (Some p) = 3

-- numbers of several bytes have their low byte first
abbrev pub time_utc_payload : ℕ → CheckedFix → List ℕ
time_utc_payload systems f =
    bytes4 f.run_time
    ++ (bytes4 f.time_accuracy
    ++ (bytes4 f.ms_error
    ++ (bytes2 f.time.ms
    ++ (bytes2 f.date.year
    ++ (f.date.month
    ∷ f.date.day
    ∷ f.time.hour
    ∷ f.time.minute
    ∷ f.time.second
    ∷ validity f.position
    ∷ source systems
    ∷ date_validity f.position
    ∷ [])))))
