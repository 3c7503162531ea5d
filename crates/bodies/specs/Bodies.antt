-- The bodies of the four sentences, field by field.
use Rattle.std.specs.Prelude.{ℕ, cond, List, [], ◌∷◌, ◌++◌, Some, None, codes, fold, Option, ◌==◌}
use Rattle.fix.specs.declared.checked.CheckedPosition.{CheckedPosition}
use Rattle.fix.specs.declared.checked.CheckedFix.{CheckedFix}
use Rattle.texts.specs.Decimals.{padded}
use Rattle.bodies.specs.Decimals.{pointed}
use Rattle.bodies.specs.Fields.{time_text, date_text, angle_text, side_text, metres_text}

-- a start, and each field behind a comma
abbrev pub body_of : List ℕ → List (List ℕ) → List ℕ
body_of start fields = fold (λ text field. text ++ (codes "," ++ field)) start fields

-- who sends, by the systems in use
abbrev pub sender : ℕ → List ℕ
sender systems = cond (systems == 1) (codes "GP") (cond (systems == 2) (codes "BD") (cond (systems == 4) (codes "GL") (codes "GN")))

-- sender and sentence
abbrev pub address : ℕ → List ℕ → List ℕ
address systems name = sender systems ++ name

-- a field of the position, empty where there is none
abbrev pub told : (CheckedPosition → List ℕ) → Option CheckedPosition → List ℕ
told field None = []
told field (Some p) = field p

-- one text with a position, another without
abbrev pub whether : List ℕ → List ℕ → Option CheckedPosition → List ℕ
whether there not_there None = not_there
whether there not_there (Some p) = there

-- latitude, N or S, longitude, E or W
abbrev pub latitude_text : CheckedPosition → List ℕ
latitude_text p = angle_text 2 p.latitude

abbrev pub north_or_south : CheckedPosition → List ℕ
north_or_south p = side_text (codes "N") (codes "S") p.latitude

abbrev pub longitude_text : CheckedPosition → List ℕ
longitude_text p = angle_text 3 p.longitude

abbrev pub east_or_west : CheckedPosition → List ℕ
east_or_west p = side_text (codes "E") (codes "W") p.longitude

-- ZDA, date and time: time, day, month, year, hours and minutes of the local zone, which is none
abbrev pub zda_fields : CheckedFix → List (List ℕ)
zda_fields f =
    time_text f.time
    ∷ padded 2 f.date.day
    ∷ padded 2 f.date.month
    ∷ padded 4 f.date.year
    ∷ codes "00"
    ∷ codes "00"
    ∷ []

-- GLL, position and time: latitude, side, longitude, side, time, valid, mode
abbrev pub gll_fields : CheckedFix → List (List ℕ)
gll_fields f =
    told latitude_text f.position
    ∷ told north_or_south f.position
    ∷ told longitude_text f.position
    ∷ told east_or_west f.position
    ∷ time_text f.time
    ∷ whether (codes "A") (codes "V") f.position
    ∷ whether (codes "A") (codes "N") f.position
    ∷ []

-- RMC, the least that navigation needs: time, status, latitude, side, longitude, side, speed, course, date, magnetic variation and its side, which are not told, mode
abbrev pub rmc_fields : CheckedFix → List (List ℕ)
rmc_fields f =
    time_text f.time
    ∷ whether (codes "A") (codes "V") f.position
    ∷ told latitude_text f.position
    ∷ told north_or_south f.position
    ∷ told longitude_text f.position
    ∷ told east_or_west f.position
    ∷ told (λ p. pointed 3 p.speed) f.position
    ∷ told (λ p. pointed 3 p.course) f.position
    ∷ date_text f.date
    ∷ []
    ∷ []
    ∷ whether (codes "A") (codes "N") f.position
    ∷ []

-- GGA, the position and how it was found: time, latitude, side, longitude, side, quality, satellites, HDOP, altitude, its unit, separation, its unit, age and station of a correction, which are not told
abbrev pub gga_fields : CheckedFix → List (List ℕ)
gga_fields f =
    time_text f.time
    ∷ told latitude_text f.position
    ∷ told north_or_south f.position
    ∷ told longitude_text f.position
    ∷ told east_or_west f.position
    ∷ whether (codes "1") (codes "0") f.position
    ∷ padded 2 f.satellites
    ∷ told (λ p. pointed 2 p.hdop) f.position
    ∷ told (λ p. metres_text p.altitude) f.position
    ∷ codes "M"
    ∷ codes "0.00"
    ∷ codes "M"
    ∷ []
    ∷ []
    ∷ []

-- each body starts with its address
abbrev pub zda_body : ℕ → CheckedFix → List ℕ
zda_body systems f = body_of (address systems (codes "ZDA")) (zda_fields f)

abbrev pub gll_body : ℕ → CheckedFix → List ℕ
gll_body systems f = body_of (address systems (codes "GLL")) (gll_fields f)

abbrev pub rmc_body : ℕ → CheckedFix → List ℕ
rmc_body systems f = body_of (address systems (codes "RMC")) (rmc_fields f)

abbrev pub gga_body : ℕ → CheckedFix → List ℕ
gga_body systems f = body_of (address systems (codes "GGA")) (gga_fields f)
