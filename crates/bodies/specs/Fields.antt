-- The fields of the sentences.
use Rattle.std.specs.Prelude.{ℕ, ◌/◌, ◌%◌, cond, List, [], ◌++◌, ℤ, pos, codes, int_lt, unsigned_abs}
use Rattle.fix.specs.declared.checked.CheckedDate.{CheckedDate}
use Rattle.fix.specs.declared.checked.CheckedTime.{CheckedTime}
use Rattle.texts.specs.Decimals.{padded}
use Rattle.bodies.specs.Decimals.{pointed}

-- hhmmss.sss
unfoldable pub time_text : CheckedTime → List ℕ
time_text t = padded 2 t.hour ++ (padded 2 t.minute ++ (padded 2 t.second ++ (codes "." ++ padded 3 t.ms)))

-- ddmmyy
unfoldable pub date_text : CheckedDate → List ℕ
date_text d = padded 2 d.day ++ (padded 2 d.month ++ padded 2 (d.year % 100))

-- an angle in ten-thousandths of a minute: degrees in so many digits, then mm.mmmm
unfoldable pub angle_text : ℕ → ℤ → List ℕ
angle_text width z = padded width (unsigned_abs z / 600000) ++ (padded 2 (unsigned_abs z / 10000 % 60) ++ (codes "." ++ padded 4 (unsigned_abs z % 10000)))

-- one text from zero on, another below
abbrev pub side_text : List ℕ → List ℕ → ℤ → List ℕ
side_text plus minus z = cond (int_lt z (pos 0)) minus plus

-- an altitude in cm, told in metres: a minus below zero, and the size
unfoldable pub metres_text : ℤ → List ℕ
metres_text z = side_text [] (codes "-") z ++ pointed 2 (unsigned_abs z)
