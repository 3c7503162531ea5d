-- What becomes of a try at the bytes from a lead byte on: each rule is judged at the byte that it needs.
use Rattle.std.specs.Prelude.{ℕ, ◌+◌, ◌/◌, ◌%◌, Bool, true, cond, ◌&&◌, ◌||◌, List, [], ◌∷◌, length, take, drop, ◌==◌, nat_le, nat_lt, slice_index, slice_range}
use Rattle.std.specs.List.{prefix_len}
use Rattle.numbers.specs.Bytes.{bytes4, u2_at}
use Rattle.wire.specs.Frames.{frame_sum, lawful_length}
use Rattle.wire.specs.Sentences.{is_body, checksum, hex_digit}
use Rattle.wire.specs.Items.{Item, frame_item, sentence_item}

-- a good item; bytes that ran out before a rule was broken; a broken rule
pub data Try : Type 0 where
  good : Item → Try
  unfinished : Try
  failed : Try

-- a rule that is judged once byte i is there, and what comes after it
abbrev pub judged : List ℕ → ℕ → Bool → Try → Try
judged bytes i kept next = cond (nat_lt i (length bytes)) (cond kept next failed) unfinished

-- some bytes stand at a place
abbrev pub stand : List ℕ → ℕ → List ℕ → Bool
stand bytes i [] = true
stand bytes i (b ∷ rest) = slice_index bytes i == b && stand bytes (i + 1) rest

-- the payload length and the payload that a frame's first bytes tell
abbrev pub length_of : List ℕ → ℕ
length_of bytes = u2_at bytes 2

abbrev pub payload_of : List ℕ → List ℕ
payload_of bytes = take (length_of bytes) (drop 6 bytes)

-- the last four bytes are the sum
abbrev pub sum_stands : List ℕ → Bool
sum_stands bytes = stand bytes (length_of bytes + 6) (bytes4 (frame_sum (slice_index bytes 4) (slice_index bytes 5) (payload_of bytes)))

-- a try at a frame, rule by rule: the second byte, the length at its second byte, the sum at its last
abbrev pub whole_frame : List ℕ → Try
whole_frame bytes = good (frame_item (slice_index bytes 4) (slice_index bytes 5) (payload_of bytes))

abbrev pub frame_from_sum : List ℕ → Try
frame_from_sum bytes = judged bytes (length_of bytes + 9) (sum_stands bytes) (whole_frame bytes)

abbrev pub frame_from_length : List ℕ → Try
frame_from_length bytes = judged bytes 3 (lawful_length (length_of bytes)) (frame_from_sum bytes)

abbrev pub frame_try : List ℕ → Try
frame_try bytes = judged bytes 1 (slice_index bytes 1 == 0xce) (frame_from_length bytes)

-- a digit 0 to 9 or A to F
abbrev pub is_digit : ℕ → Bool
is_digit b = (nat_le 0x30 b && nat_le b 0x39) || (nat_le 0x41 b && nat_le b 0x46)

-- where the star has to stand: behind the body bytes that follow the lead byte
abbrev pub star_of : List ℕ → ℕ
star_of bytes = 1 + prefix_len is_body (drop 1 bytes)

abbrev pub body_to : List ℕ → ℕ → List ℕ
body_to bytes star = slice_range bytes 1 star

-- the digits behind the star are the body's checksum
abbrev pub digits_stand : List ℕ → ℕ → Bool
digits_stand bytes star =
    (slice_index bytes (star + 1) == hex_digit (checksum (body_to bytes star) / 16)) && slice_index bytes (star + 2) == hex_digit (checksum (body_to bytes star) % 16)

-- a try at a sentence, rule by rule: star, two digits, CR, LF; the digits' value is judged at LF
abbrev pub from_lf : List ℕ → ℕ → Try
from_lf bytes star = judged bytes (star + 4) (slice_index bytes (star + 4) == 0x0a && digits_stand bytes star) (good (sentence_item (body_to bytes star)))

abbrev pub from_cr : List ℕ → ℕ → Try
from_cr bytes star = judged bytes (star + 3) (slice_index bytes (star + 3) == 0x0d) (from_lf bytes star)

abbrev pub from_low : List ℕ → ℕ → Try
from_low bytes star = judged bytes (star + 2) (is_digit (slice_index bytes (star + 2))) (from_cr bytes star)

abbrev pub from_high : List ℕ → ℕ → Try
from_high bytes star = judged bytes (star + 1) (is_digit (slice_index bytes (star + 1))) (from_low bytes star)

abbrev pub from_star : List ℕ → ℕ → Try
from_star bytes star = judged bytes star (slice_index bytes star == 0x2a) (from_high bytes star)

-- an unfinished try that no more bytes are waited for fails
abbrev pub ended : Try → Try
ended (good x) = good x
ended unfinished = failed
ended failed = failed

-- the size is judged at byte 82: what is not finished there fails
abbrev pub sentence_try : List ℕ → Try
sentence_try bytes = cond (nat_lt (length bytes) 82) (from_star bytes (star_of bytes)) (ended (from_star (take 82 bytes) (star_of (take 82 bytes))))

-- a try at whatever begins here; a byte that leads nothing is stray
abbrev pub try_of : List ℕ → Try
try_of [] = unfinished
try_of (b ∷ bytes) = cond (b == 0xba) (frame_try (b ∷ bytes)) (cond (b == 0x24) (sentence_try (b ∷ bytes)) failed)
