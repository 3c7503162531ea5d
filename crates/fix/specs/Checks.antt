-- What the check answers.
use Rattle.std.specs.Prelude.{◌≡◌, ℕ, Bool, true, false, cond, ◌&&◌, List, Ok, Err, codes, Result, MatchResult, nat_le}
use Rattle.std.specs.Option.{option_map}
use Rattle.fix.specs.declared.Date.{Date}
use Rattle.fix.specs.declared.Time.{Time}
use Rattle.fix.specs.declared.Position.{Position}
use Rattle.fix.specs.declared.Fix.{Fix}
use Rattle.fix.specs.declared.Refusal.{Refusal}
use Rattle.fix.specs.declared.Refusal.TheVariants.{DateOrTime, OutOfRange}
use Rattle.fix.specs.declared.checked.CheckedDate.{CheckedDate}
use Rattle.fix.specs.declared.checked.CheckedTime.{CheckedTime}
use Rattle.fix.specs.declared.checked.CheckedPosition.{CheckedPosition}
use Rattle.fix.specs.declared.checked.CheckedFix.{CheckedFix}
use Rattle.fix.specs.Ranges.{lawful_date, lawful_time, lawful_place}

-- the numbers of a checked date, time, position and fix
abbrev pub date_of : CheckedDate → Date
date_of d = record { year = d.year; month = d.month; day = d.day }

abbrev pub time_of : CheckedTime → Time
time_of t = record { hour = t.hour; minute = t.minute; second = t.second; ms = t.ms }

abbrev pub position_of : CheckedPosition → Position
position_of p = record { latitude = p.latitude; longitude = p.longitude; altitude = p.altitude; speed = p.speed; course = p.course; hdop = p.hdop }

abbrev pub fix_of : CheckedFix → Fix
fix_of f = record {
  date = date_of f.date;
  time = time_of f.time;
  run_time = f.run_time;
  time_accuracy = f.time_accuracy;
  ms_error = f.ms_error;
  satellites = f.satellites;
  position = option_map position_of f.position;
}

-- the number of a refusal
abbrev pub number_of : Refusal → ℕ
number_of DateOrTime = 4
number_of OutOfRange = 5

-- the words for a refusal
abbrev pub words : Refusal → List ℕ
words DateOrTime = codes "date or time"
words OutOfRange = codes "a number out of range"

-- r is a lawful x with its own numbers, or the refusal of an x that is not lawful
abbrev pub Checks : {A B : Type 0} → (A → Bool) → (B → A) → Refusal → A → Result B Refusal → Type 0
Checks lawful numbers refusal x r = MatchResult r (λ y. (lawful x ≡ true) × (numbers y ≡ x)) (λ e. (lawful x ≡ false) × (e ≡ refusal))

-- an answer of the check: the numbers of the checked fix, or the refusal
abbrev pub answer_of : Result CheckedFix Refusal → Result Fix Refusal
answer_of (Ok f) = Ok (fix_of f)
answer_of (Err e) = Err e

-- date and time come first; a fix in range is answered with its own numbers
abbrev pub check_answer : Fix → Result Fix Refusal
check_answer f =
    cond (lawful_date f.date && lawful_time f.time)
    (cond (nat_le f.satellites 24 && lawful_place f.position) (Ok f) (Err OutOfRange))
    (Err DateOrTime)
