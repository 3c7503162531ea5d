-- The battery image: five places of 64 bytes, in section order.
use Rattle.std.specs.Prelude.{ℕ, ◌+◌, ◌-◌, ◌*◌, cond, ◌&&◌, List, length, take, drop, is_ok, Some, None, Option, ◌==◌, nat_le, nat_lt, slice_index, slice_set}
use Rattle.memory.specs.Bytes.{over_from, part}
use Rattle.memory.specs.Memory.{Meaning, known, keep_answer, erase_answer}

-- where the place of section s starts; no section has the number 2
abbrev pub start : ℕ → ℕ
start s = 64 * cond (nat_lt s 2) s (s - 1)

-- the string that stands in a place: byte 0 says 1, byte 1 the length, and the string begins at byte 4
abbrev pub string_in : List ℕ → Option (List ℕ)
string_in place = cond (slice_index place 0 == 1 && nat_le (slice_index place 1) 56) (Some (take (slice_index place 1) (drop 4 place))) None

-- the string of section s
abbrev pub battery_string : List ℕ → ℕ → Option (List ℕ)
battery_string image s = cond (known s) (string_in (part image (start s))) None

-- what an image means; writes cost nothing, and none are counted
abbrev pub battery_meaning : List ℕ → Meaning
battery_meaning image = record { string = battery_string image; left = 0; price = 0 }

-- the image with b in the place that starts at a
abbrev pub filled : ℕ → List ℕ → List ℕ → List ℕ
filled a b image = over_from (a + 4) b (slice_set (slice_set image a 1) (a + 1) (length b))

-- the image after keep
abbrev pub keep_image : List ℕ → ℕ → List ℕ → List ℕ
keep_image image s b = cond (is_ok (keep_answer (battery_meaning image) s b)) (filled (start s) b image) image

-- the image after erase
abbrev pub erase_image : List ℕ → ℕ → List ℕ
erase_image image s = cond (is_ok (erase_answer (battery_meaning image) s)) (slice_set image (start s) 0) image
