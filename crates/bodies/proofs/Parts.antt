-- Each field has inner bytes only, and its numbers can be read back from it.
use Rattle.std.proofs.Common.{◌≡◌, ℕ, ◌+◌, ◌/◌, ◌%◌, ◌^◌, ◌<◌, ◌≤◌, Bool, true, false, cond, List, [], ◌∷◌, ◌++◌, length, get_or, drop, ℤ, pos, nat_abs, Some, None, codes, decimal, Option, sym, refl, ap, ◌∙◌, arith}
use lib.Signed.{lt_z}
use Rattle.std.specs.List.{AllByRecursion as All}
use Rattle.std.specs.Option.{option_map}
use Rattle.std.proofs.ByRecursion.{All-append, All-push, All-get_or}
use Rattle.std.proofs.lemmas.List.{get_or_append_left}
use Rattle.std.proofs.lemmas.Fmt.{decimal_nonempty, decimal_by_steps}
use Rattle.std.proofs.lemmas.Int.{ints}
use Rattle.std.proofs.lemmas.Bool.{cond_both}
use Rattle.fix.specs.declared.checked.CheckedDate.{CheckedDate}
use Rattle.fix.specs.declared.checked.CheckedTime.{CheckedTime}
use Rattle.fix.specs.declared.checked.CheckedPosition.{CheckedPosition}
use Rattle.fix.specs.Calendar.{month_length}
use Rattle.fix.specs.Checks.{time_of}
use Rattle.texts.specs.Decimals.{padded}
use Rattle.bodies.specs.Decimals.{pointed}
use Rattle.bodies.specs.Fields.{time_text, date_text, angle_text, side_text, metres_text}
use Rattle.bodies.specs.Bodies.{told, whether, latitude_text, north_or_south, longitude_text, east_or_west}
use Rattle.bodies.proofs.Numbers.{padded_front, padded_same, pointed_same}
use Rattle.bodies.proofs.Bytes.{Inner, inner_text, inner_padded, inner_pointed}

pub inner_time : (t : CheckedTime) → All Inner (time_text t)
unfolding time_text
inner_time t =
    All-append Inner (padded 2 t.hour) _ (inner_padded 2 t.hour)
    (All-append Inner (padded 2 t.minute) _ (inner_padded 2 t.minute)
    (All-append Inner (padded 2 t.second) _ (inner_padded 2 t.second) ((omega arith, omega arith), inner_padded 3 t.ms)))

pub inner_date : (d : CheckedDate) → All Inner (date_text d)
unfolding date_text
inner_date d =
    All-append Inner (padded 2 d.day) _ (inner_padded 2 d.day)
    (All-append Inner (padded 2 d.month) _ (inner_padded 2 d.month) (inner_padded 2 (d.year % 100)))

pub inner_angle : (width : ℕ) (z : ℤ) → All Inner (angle_text width z)
unfolding angle_text
inner_angle width z =
    All-append Inner (padded width (nat_abs z / 600000)) _ (inner_padded width (nat_abs z / 600000))
    (All-append Inner (padded 2 (nat_abs z / 10000 % 60)) _ (inner_padded 2 (nat_abs z / 10000 % 60)) ((omega arith, omega arith), inner_padded 4 (nat_abs z % 10000)))

pub inner_side : (plus minus : List ℕ) (z : ℤ) → All Inner plus → All Inner minus → All Inner (side_text plus minus z)
inner_side plus minus z h k = cond_both (lt_z z (pos 0)) minus plus (All Inner) (λ _. k) (λ _. h)

pub inner_metres : (p : CheckedPosition) → All Inner (metres_text p.altitude)
unfolding metres_text
inner_metres p =
    let small : nat_abs p.altitude ≤ 9999999 = omega (arith, ints) in
    All-append Inner (side_text [] (codes "-") p.altitude) _ (inner_side [] (codes "-") p.altitude tt (inner_text (codes "-") refl)) (inner_pointed 2 (nat_abs p.altitude) (omega arith))

-- a field of the position, or none
pub inner_told : (field : CheckedPosition → List ℕ) → ((p : CheckedPosition) → All Inner (field p)) → (o : Option CheckedPosition) → All Inner (told field o)
inner_told field h None = tt
inner_told field h (Some p) = h p

pub inner_whether : (there not_there : List ℕ) → All Inner there → All Inner not_there → (o : Option CheckedPosition) → All Inner (whether there not_there o)
inner_whether there not_there h k None = k
inner_whether there not_there h k (Some p) = h

-- the numbers of the fields
pub same_time : (t u : CheckedTime) → time_text t ≡ time_text u → time_of t ≡ time_of u
unfolding time_text
same_time t u e =
    let h = padded_front 2 t.hour u.hour _ _ (omega arith) (omega arith) e in
    let m = padded_front 2 t.minute u.minute _ _ (omega arith) (omega arith) h.1 in
    let s = padded_front 2 t.second u.second _ _ (omega arith) (omega arith) m.1 in
    let ms = padded_same 3 t.ms u.ms (omega arith) (omega arith) (ap (drop 1) s.1) in
    λ i. record { hour = h.0 i; minute = m.0 i; second = s.0 i; ms = ms i }

month_short : (year month : ℕ) → month_length year month ≤ 31
month_short year month = grind arith

pub day_short : (d : CheckedDate) → d.day ≤ 31
day_short d = omega (arith, month_short d.year d.month)

pub same_date : (d e : CheckedDate) → date_text d ≡ date_text e → (d.day ≡ e.day) × (d.month ≡ e.month) × (d.year % 100 ≡ e.year % 100)
unfolding date_text
same_date d e h =
    let day = padded_front 2 d.day e.day _ _ (omega (arith, day_short d)) (omega (arith, day_short e)) h in
    let month = padded_front 2 d.month e.month _ _ (omega arith) (omega arith) day.1 in
    (day.0, month.0, padded_same 2 (d.year % 100) (e.year % 100) (omega arith) (omega arith) month.1)

same_size : (width : ℕ) (y z : ℤ) → nat_abs y / 600000 < 10 ^ width → nat_abs z / 600000 < 10 ^ width → angle_text width y ≡ angle_text width z → nat_abs y ≡ nat_abs z
unfolding angle_text
same_size width y z hy hz e =
    let degrees = padded_front width (nat_abs y / 600000) (nat_abs z / 600000) _ _ hy hz e in
    let minutes = padded_front 2 (nat_abs y / 10000 % 60) (nat_abs z / 10000 % 60) _ _ (omega arith) (omega arith) degrees.1 in
    let rest = padded_same 4 (nat_abs y % 10000) (nat_abs z % 10000) (omega arith) (omega arith) (ap (drop 1) minutes.1) in
    omega (arith, degrees.0, minutes.0, rest)

same_test : (plus minus : List ℕ) (b c : Bool) → (plus ≡ minus → ⊥) → cond b minus plus ≡ cond c minus plus → b ≡ c
same_test plus minus true true h e = refl
same_test plus minus true false h e = absurd (h (sym e))
same_test plus minus false true h e = absurd (h e)
same_test plus minus false false h e = refl

same_signed : (y z : ℤ) → nat_abs y ≡ nat_abs z → lt_z y (pos 0) ≡ lt_z z (pos 0) → y ≡ z
same_signed y z e f = grind (arith, ints)

-- an angle and its side tell the signed number
same_angle : (width : ℕ) (plus minus : List ℕ) (y z : ℤ) → (plus ≡ minus → ⊥) → nat_abs y / 600000 < 10 ^ width → nat_abs z / 600000 < 10 ^ width → angle_text width y ≡ angle_text width z → side_text plus minus y ≡ side_text plus minus z → y ≡ z
same_angle width plus minus y z h hy hz e f = same_signed y z (same_size width y z hy hz e) (same_test plus minus (lt_z y (pos 0)) (lt_z z (pos 0)) h f)

pub same_latitude : (p q : CheckedPosition) → latitude_text p ≡ latitude_text q → north_or_south p ≡ north_or_south q → p.latitude ≡ q.latitude
same_latitude p q e f =
    let a : nat_abs p.latitude ≤ 54000000 = omega (arith, ints) in
    let b : nat_abs q.latitude ≤ 54000000 = omega (arith, ints) in
    same_angle 2 (codes "N") (codes "S") p.latitude q.latitude (λ n. omega (arith, ap (λ l. get_or l 0 0) n)) (omega arith) (omega arith) e f

pub same_longitude : (p q : CheckedPosition) → longitude_text p ≡ longitude_text q → east_or_west p ≡ east_or_west q → p.longitude ≡ q.longitude
same_longitude p q e f =
    let a : nat_abs p.longitude ≤ 108000000 = omega (arith, ints) in
    let b : nat_abs q.longitude ≤ 108000000 = omega (arith, ints) in
    same_angle 3 (codes "E") (codes "W") p.longitude q.longitude (λ n. omega (arith, ap (λ l. get_or l 0 0) n)) (omega arith) (omega arith) e f

decimal_digits : (n : ℕ) → n < 2 ^ 64 → All (λ b. 48 ≤ b) (decimal n)
decimal_digits = decimal_by_steps (λ n ds. All (λ b. 48 ≤ b) ds) (λ n h. (omega arith, tt)) (λ n ds h ih. All-push (λ b. 48 ≤ b) ds (48 + n % 10) ih (omega arith))

pointed_first : (places n : ℕ) → n / 10 ^ places < 2 ^ 64 → 48 ≤ get_or (pointed places n) 0 0
unfolding pointed
pointed_first places n h =
    let whole = decimal (n / 10 ^ places) in
    let some : 0 < length whole = decimal_nonempty (n / 10 ^ places) h in
    let first = All-get_or (λ b. 48 ≤ b) whole 0 0 some (decimal_digits (n / 10 ^ places) h) in
    omega (arith, get_or_append_left whole (46 ∷ padded places (n % 10 ^ places)) 0 0 some)

-- a minus in front of texts that begin with a digit
same_sign : (b c : Bool) (s t : List ℕ) → 48 ≤ get_or s 0 0 → 48 ≤ get_or t 0 0 → cond b (codes "-") [] ++ s ≡ cond c (codes "-") [] ++ t → (b ≡ c) × (s ≡ t)
same_sign true true s t h k e = (refl, ap (drop 1) e)
same_sign true false s t h k e = absurd (omega (arith, ap (λ l. get_or l 0 0) e))
same_sign false true s t h k e = absurd (omega (arith, ap (λ l. get_or l 0 0) e))
same_sign false false s t h k e = (refl, e)

pub same_altitude : (p q : CheckedPosition) → metres_text p.altitude ≡ metres_text q.altitude → p.altitude ≡ q.altitude
unfolding metres_text
same_altitude p q e =
    let a : nat_abs p.altitude ≤ 9999999 = omega (arith, ints) in
    let b : nat_abs q.altitude ≤ 9999999 = omega (arith, ints) in
    let m : nat_abs p.altitude / 10 ^ 2 < 2 ^ 64 = omega arith in
    let n : nat_abs q.altitude / 10 ^ 2 < 2 ^ 64 = omega arith in
    let s = same_sign (lt_z p.altitude (pos 0)) (lt_z q.altitude (pos 0)) (pointed 2 (nat_abs p.altitude)) (pointed 2 (nat_abs q.altitude)) (pointed_first 2 (nat_abs p.altitude) m) (pointed_first 2 (nat_abs q.altitude) n) e in
    same_signed p.altitude q.altitude (pointed_same 2 (nat_abs p.altitude) (nat_abs q.altitude) (omega arith) m n s.1) s.0

-- a field of two positions that are there
pub told_at : (field : CheckedPosition → List ℕ) (o q : Option CheckedPosition) (p r : CheckedPosition) → o ≡ Some p → q ≡ Some r → told field o ≡ told field q → field p ≡ field r
told_at field o q p r eo eq e = sym (ap (told field) eo) ∙ e ∙ ap (told field) eq

-- an empty latitude tells that there is no position
pub same_position : {A : Type 0} (numbers : CheckedPosition → A) (o q : Option CheckedPosition) → told latitude_text o ≡ told latitude_text q → ((p r : CheckedPosition) → o ≡ Some p → q ≡ Some r → numbers p ≡ numbers r) → option_map numbers o ≡ option_map numbers q
unfolding angle_text padded
same_position numbers None None e h = refl
same_position numbers None (Some r) e h = absurd (omega (arith, ap length e))
same_position numbers (Some p) None e h = absurd (omega (arith, ap length e))
same_position numbers (Some p) (Some r) e h = ap Some (h p r refl refl)
