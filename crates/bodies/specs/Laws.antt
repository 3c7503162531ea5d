-- What holds of every message that is written.
use Rattle.std.specs.Prelude.{◌≡◌, ℕ, ◌+◌, ◌%◌, ◌≤◌, Bool, true, List, length, ℤ, is_some, Option}
use Rattle.std.specs.Option.{option_map}
use Rattle.wire.specs.Frames.{frame, lawful_length}
use Rattle.wire.specs.Sentences.{sentence, lawful_body}
use Rattle.wire.specs.declared.reading.Ending.{Ending}
use Rattle.wire.specs.Items.{frame_item, sentence_item}
use Rattle.wire.specs.Laws.{Back}
use Rattle.fix.specs.declared.Date.{Date}
use Rattle.fix.specs.declared.Time.{Time}
use Rattle.fix.specs.declared.checked.CheckedFix.{CheckedFix}
use Rattle.fix.specs.Checks.{date_of, time_of}

-- a body makes a good sentence that is not too long, and reading it gives the body back
pub record GoodSentence (body : List ℕ) : Type 0 where
  pub lawful : lawful_body body ≡ true
  pub size : length (sentence body) ≤ 82
  pub back : (behind : List ℕ) (end : Ending) → Back (sentence_item body) behind end

-- what is written of a payload is a good frame, and the reader hands the payload back
pub record GoodFrame (class id : ℕ) (payload : List ℕ) : Type 0 where
  pub lawful : lawful_length (length payload) ≡ true
  pub size : length (frame class id payload) ≡ length payload + 10
  pub back : (behind : List ℕ) (end : Ending) → Back (frame_item class id payload) behind end

-- the numbers that ZDA carries: time and date
abbrev pub zda_numbers : CheckedFix → Time × Date
zda_numbers f = (time_of f.time, date_of f.date)

-- GLL: time; latitude and longitude, if there is a position
abbrev pub gll_numbers : CheckedFix → Time × Option (ℤ × ℤ)
gll_numbers f = (time_of f.time, option_map (λ p. (p.latitude, p.longitude)) f.position)

-- RMC: time; day, month and the year's last two digits; latitude, longitude, speed and course
abbrev pub rmc_numbers : CheckedFix → Time × (ℕ × ℕ × ℕ) × Option (ℤ × ℤ × ℕ × ℕ)
rmc_numbers f = (time_of f.time, (f.date.day, f.date.month, f.date.year % 100), option_map (λ p. (p.latitude, p.longitude, p.speed, p.course)) f.position)

-- GGA: time; satellites; latitude, longitude, HDOP and altitude
abbrev pub gga_numbers : CheckedFix → Time × ℕ × Option (ℤ × ℤ × ℕ × ℤ)
gga_numbers f = (time_of f.time, f.satellites, option_map (λ p. (p.latitude, p.longitude, p.hdop, p.altitude)) f.position)

-- NAV-TIMEUTC: run time, time accuracy and ms error; time; date; whether there is a position
abbrev pub time_utc_numbers : CheckedFix → (ℕ × ℕ × ℕ) × Time × Date × Bool
time_utc_numbers f = ((f.run_time, f.time_accuracy, f.ms_error), time_of f.time, date_of f.date, is_some f.position)

-- a message tells its numbers: a fix of which the same bytes are written, whatever the systems, has the same numbers
abbrev pub Tells : {A : Type 0} → (ℕ → CheckedFix → List ℕ) → (CheckedFix → A) → ℕ → CheckedFix → Type 0
Tells written numbers systems f = (t : ℕ) (g : CheckedFix) → written t g ≡ written systems f → numbers g ≡ numbers f
