-- The laws of the five messages.
use Rattle.std.proofs.Common.{◌≡◌, ℕ, ◌^◌, ◌<◌, ◌≤◌, List, [], length, get_or, take, drop, is_some, Some, None, Err, codes, Option, refl, ap, arith}
use Rattle.std.specs.List.{AllByRecursion as All}
use Rattle.numbers.specs.Bytes.{bytes4}
use Rattle.wire.specs.Frames.{frame}
use Rattle.wire.specs.Sentences.{sentence, lawful_body}
use Rattle.wire.specs.Writes.{fitted, sentence_written}
use Rattle.wire.specs.declared.refusal.Refusal.TheVariants.{Body}
use Rattle.std.proofs.lemmas.Bool.{cond-true}
use Rattle.fix.specs.declared.checked.CheckedPosition.{CheckedPosition}
use Rattle.fix.specs.declared.checked.CheckedFix.{CheckedFix}
use Rattle.bodies.specs.Decimals.{pointed}
use Rattle.bodies.specs.Fields.{metres_text}
use Rattle.bodies.specs.Bodies.{zda_fields, gll_fields, rmc_fields, gga_fields, zda_body, gll_body, rmc_body, gga_body, latitude_text, north_or_south, longitude_text, east_or_west}
use Rattle.bodies.specs.Laws.{GoodSentence, Tells, zda_numbers, gll_numbers, rmc_numbers, gga_numbers, time_utc_numbers}
use Rattle.bodies.specs.Payloads.{validity, time_utc_payload}
use Rattle.bodies.proofs.Numbers.{padded_same, pointed_same}
use Rattle.bodies.proofs.Bytes.{Inner, inner_text, inner_padded, inner_pointed, good_body, same_told}
use Rattle.bodies.proofs.Parts.{inner_time, inner_date, inner_angle, inner_side, inner_metres, inner_told, inner_whether, day_short, same_time, same_date, same_latitude, same_longitude, same_altitude, told_at, same_position}

inner_latitude : (p : CheckedPosition) → All Inner (latitude_text p)
inner_latitude p = inner_angle 2 p.latitude

inner_north : (p : CheckedPosition) → All Inner (north_or_south p)
inner_north p = inner_side (codes "N") (codes "S") p.latitude (inner_text (codes "N") refl) (inner_text (codes "S") refl)

inner_longitude : (p : CheckedPosition) → All Inner (longitude_text p)
inner_longitude p = inner_angle 3 p.longitude

inner_east : (p : CheckedPosition) → All Inner (east_or_west p)
inner_east p = inner_side (codes "E") (codes "W") p.longitude (inner_text (codes "E") refl) (inner_text (codes "W") refl)

pub zda_inner : (f : CheckedFix) → All (All Inner) (zda_fields f)
zda_inner f = (
  inner_time f.time,
  (
    inner_padded 2 f.date.day,
    (
      inner_padded 2 f.date.month,
      (
        inner_padded 4 f.date.year,
        (
          inner_text (codes "00") refl,
          (inner_text (codes "00") refl, tt),
        ),
      ),
    ),
  ),
)

pub gll_inner : (f : CheckedFix) → All (All Inner) (gll_fields f)
gll_inner f = (
  inner_told latitude_text inner_latitude f.position,
  (
    inner_told north_or_south inner_north f.position,
    (
      inner_told longitude_text inner_longitude f.position,
      (
        inner_told east_or_west inner_east f.position,
        (
          inner_time f.time,
          (
            inner_whether (codes "A") (codes "V") (inner_text (codes "A") refl) (inner_text (codes "V") refl) f.position,
            (inner_whether (codes "A") (codes "N") (inner_text (codes "A") refl) (inner_text (codes "N") refl) f.position, tt),
          ),
        ),
      ),
    ),
  ),
)

pub rmc_inner : (f : CheckedFix) → All (All Inner) (rmc_fields f)
rmc_inner f = (
  inner_time f.time,
  (
    inner_whether (codes "A") (codes "V") (inner_text (codes "A") refl) (inner_text (codes "V") refl) f.position,
    (
      inner_told latitude_text inner_latitude f.position,
      (
        inner_told north_or_south inner_north f.position,
        (
          inner_told longitude_text inner_longitude f.position,
          (
            inner_told east_or_west inner_east f.position,
            (
              inner_told (λ p. pointed 3 p.speed) (λ p. inner_pointed 3 p.speed (omega arith)) f.position,
              (
                inner_told (λ p. pointed 3 p.course) (λ p. inner_pointed 3 p.course (omega arith)) f.position,
                (
                  inner_date f.date,
                  (
                    tt,
                    (
                      tt,
                      (inner_whether (codes "A") (codes "N") (inner_text (codes "A") refl) (inner_text (codes "N") refl) f.position, tt),
                    ),
                  ),
                ),
              ),
            ),
          ),
        ),
      ),
    ),
  ),
)

pub gga_inner : (f : CheckedFix) → All (All Inner) (gga_fields f)
gga_inner f = (
  inner_time f.time,
  (
    inner_told latitude_text inner_latitude f.position,
    (
      inner_told north_or_south inner_north f.position,
      (
        inner_told longitude_text inner_longitude f.position,
        (
          inner_told east_or_west inner_east f.position,
          (
            inner_whether (codes "1") (codes "0") (inner_text (codes "1") refl) (inner_text (codes "0") refl) f.position,
            (
              inner_padded 2 f.satellites,
              (
                inner_told (λ p. pointed 2 p.hdop) (λ p. inner_pointed 2 p.hdop (omega arith)) f.position,
                (
                  inner_told (λ p. metres_text p.altitude) inner_metres f.position,
                  (
                    inner_text (codes "M") refl,
                    (
                      inner_text (codes "0.00") refl,
                      (
                        inner_text (codes "M") refl,
                        (
                          tt,
                          (tt, tt),
                        ),
                      ),
                    ),
                  ),
                ),
              ),
            ),
          ),
        ),
      ),
    ),
  ),
)

-- a field of two equal lists of fields
at : {fs gs : List (List ℕ)} (k : ℕ) → fs ≡ gs → get_or fs k [] ≡ get_or gs k []
at k e = ap (λ fs. get_or fs k []) e

pub zda_tells : (s : ℕ) (f : CheckedFix) → Tells (λ t g. sentence (zda_body t g)) zda_numbers s f
zda_tells s f t g e =
    let same = same_told t s (codes "ZDA") (zda_fields g) (zda_fields f) (inner_text (codes "ZDA") refl) (zda_inner g) (zda_inner f) e in
    let time = same_time g.time f.time (at 0 same) in
    let day = padded_same 2 g.date.day f.date.day (omega (arith, day_short g.date)) (omega (arith, day_short f.date)) (at 1 same) in
    let month = padded_same 2 g.date.month f.date.month (omega arith) (omega arith) (at 2 same) in
    let year = padded_same 4 g.date.year f.date.year (omega arith) (omega arith) (at 3 same) in
    λ i. (time i, record { year = year i; month = month i; day = day i })

pub gll_tells : (s : ℕ) (f : CheckedFix) → Tells (λ t g. sentence (gll_body t g)) gll_numbers s f
gll_tells s f t g e =
    let same = same_told t s (codes "GLL") (gll_fields g) (gll_fields f) (inner_text (codes "GLL") refl) (gll_inner g) (gll_inner f) e in
    let place = same_position (λ p. (p.latitude, p.longitude)) g.position f.position (at 0 same) (λ p r ep er.
    let latitude = same_latitude p r (told_at latitude_text _ _ p r ep er (at 0 same)) (told_at north_or_south _ _ p r ep er (at 1 same)) in
    let longitude = same_longitude p r (told_at longitude_text _ _ p r ep er (at 2 same)) (told_at east_or_west _ _ p r ep er (at 3 same)) in
    λ i. (latitude i, longitude i)) in
    λ i. (same_time g.time f.time (at 4 same) i, place i)

pub rmc_tells : (s : ℕ) (f : CheckedFix) → Tells (λ t g. sentence (rmc_body t g)) rmc_numbers s f
rmc_tells s f t g e =
    let same = same_told t s (codes "RMC") (rmc_fields g) (rmc_fields f) (inner_text (codes "RMC") refl) (rmc_inner g) (rmc_inner f) e in
    let date = same_date g.date f.date (at 8 same) in
    let place = same_position (λ p. (p.latitude, p.longitude, p.speed, p.course)) g.position f.position (at 2 same) (λ p r ep er.
    let latitude = same_latitude p r (told_at latitude_text _ _ p r ep er (at 2 same)) (told_at north_or_south _ _ p r ep er (at 3 same)) in
    let longitude = same_longitude p r (told_at longitude_text _ _ p r ep er (at 4 same)) (told_at east_or_west _ _ p r ep er (at 5 same)) in
    let speed = pointed_same 3 p.speed r.speed (omega arith) (omega arith) (omega arith) (told_at (λ q. pointed 3 q.speed) _ _ p r ep er (at 6 same)) in
    let course = pointed_same 3 p.course r.course (omega arith) (omega arith) (omega arith) (told_at (λ q. pointed 3 q.course) _ _ p r ep er (at 7 same)) in
    λ i. (latitude i, longitude i, speed i, course i)) in
    λ i. (same_time g.time f.time (at 0 same) i, (date.0 i, date.1 i, date.2 i), place i)

pub gga_tells : (s : ℕ) (f : CheckedFix) → Tells (λ t g. sentence (gga_body t g)) gga_numbers s f
gga_tells s f t g e =
    let same = same_told t s (codes "GGA") (gga_fields g) (gga_fields f) (inner_text (codes "GGA") refl) (gga_inner g) (gga_inner f) e in
    let satellites = padded_same 2 g.satellites f.satellites (omega arith) (omega arith) (at 6 same) in
    let place = same_position (λ p. (p.latitude, p.longitude, p.hdop, p.altitude)) g.position f.position (at 1 same) (λ p r ep er.
    let latitude = same_latitude p r (told_at latitude_text _ _ p r ep er (at 1 same)) (told_at north_or_south _ _ p r ep er (at 2 same)) in
    let longitude = same_longitude p r (told_at longitude_text _ _ p r ep er (at 3 same)) (told_at east_or_west _ _ p r ep er (at 4 same)) in
    let hdop = pointed_same 2 p.hdop r.hdop (omega arith) (omega arith) (omega arith) (told_at (λ q. pointed 2 q.hdop) _ _ p r ep er (at 7 same)) in
    let altitude = same_altitude p r (told_at (λ q. metres_text q.altitude) _ _ p r ep er (at 8 same)) in
    λ i. (latitude i, longitude i, hdop i, altitude i)) in
    λ i. (same_time g.time f.time (at 0 same) i, satellites i, place i)

-- a good body is never refused itself
pub fitted_good : (body out : List ℕ) → GoodSentence body → sentence_written body out ≡ fitted (sentence body) out
fitted_good body out good = cond-true (lawful_body body) (fitted (sentence body) out) (Err Body, out) good.lawful

-- what a line holds is short enough
pub zda_good : (s : ℕ) (f : CheckedFix) → length (zda_body s f) ≤ 76 → GoodSentence (zda_body s f)
zda_good s f short = good_body s (codes "ZDA") (zda_fields f) (inner_text (codes "ZDA") refl) (zda_inner f) short

pub gll_good : (s : ℕ) (f : CheckedFix) → length (gll_body s f) ≤ 76 → GoodSentence (gll_body s f)
gll_good s f short = good_body s (codes "GLL") (gll_fields f) (inner_text (codes "GLL") refl) (gll_inner f) short

pub rmc_good : (s : ℕ) (f : CheckedFix) → length (rmc_body s f) ≤ 76 → GoodSentence (rmc_body s f)
rmc_good s f short = good_body s (codes "RMC") (rmc_fields f) (inner_text (codes "RMC") refl) (rmc_inner f) short

pub gga_good : (s : ℕ) (f : CheckedFix) → length (gga_body s f) ≤ 76 → GoodSentence (gga_body s f)
gga_good s f short = good_body s (codes "GGA") (gga_fields f) (inner_text (codes "GGA") refl) (gga_inner f) short

bytes4_same : (m n : ℕ) → m < 2 ^ 32 → n < 2 ^ 32 → bytes4 m ≡ bytes4 n → m ≡ n
bytes4_same m n hm hn e =
    let a = ap (λ l. get_or l 0 0) e in
    let b = ap (λ l. get_or l 1 0) e in
    let c = ap (λ l. get_or l 2 0) e in
    let d = ap (λ l. get_or l 3 0) e in
    omega arith

same_there : (o q : Option CheckedPosition) → validity o ≡ validity q → is_some o ≡ is_some q
same_there None None e = refl
same_there None (Some r) e = absurd (omega (arith, e))
same_there (Some p) None e = absurd (omega (arith, e))
same_there (Some p) (Some r) e = refl

pub utc_tells : (s : ℕ) (f : CheckedFix) → Tells (λ t g. frame 0x01 0x10 (time_utc_payload t g)) time_utc_numbers s f
utc_tells s f t g same =
    let e : time_utc_payload t g ≡ time_utc_payload s f = ap (λ l. take 24 (drop 6 l)) same in
    let byte : (k : ℕ) → get_or (time_utc_payload t g) k 0 ≡ get_or (time_utc_payload s f) k 0 = λ k. ap (λ l. get_or l k 0) e in
    let run = bytes4_same g.run_time f.run_time g.words.0 f.words.0 (ap (take 4) e) in
    let accuracy = bytes4_same g.time_accuracy f.time_accuracy g.words.1 f.words.1 (ap (λ l. take 4 (drop 4 l)) e) in
    let error = bytes4_same g.ms_error f.ms_error g.words.2 f.words.2 (ap (λ l. take 4 (drop 8 l)) e) in
    let ms : g.time.ms ≡ f.time.ms = omega (arith, byte 12, byte 13) in
    let year : g.date.year ≡ f.date.year = omega (arith, byte 14, byte 15) in
    let there = same_there g.position f.position (byte 21) in
    λ i. ((run i, accuracy i, error i), record { hour = byte 18 i; minute = byte 19 i; second = byte 20 i; ms = ms i }, record { year = year i; month = byte 16 i; day = byte 17 i }, there i)
