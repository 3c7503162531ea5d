-- The flash journal: slots of 64 bytes within the first 65,536.
use Rattle.std.specs.Prelude.{ℕ, zero, suc, ◌-◌, ◌*◌, ◌/◌, min, Bool, cond, ◌&&◌, ◌||◌, List, length, take, drop, Some, None, Option, ◌==◌, nat_le, slice_index}
use Rattle.memory.specs.Bytes.{part}
use Rattle.memory.specs.Memory.{Meaning, known}

-- how many slots there are; a tail shorter than a slot is none
abbrev pub slots : List ℕ → ℕ
slots image = min (length image) 65536 / 64

-- the bytes of slot i
abbrev pub slot : List ℕ → ℕ → List ℕ
slot image i = part image (64 * i)

-- byte 0 of a free slot is 255
abbrev pub free : List ℕ → Bool
free p = slice_index p 0 == 255

-- a keep of at most 56 bytes or an erase of none, of a known section, with 0 in byte 3
abbrev pub well_formed : List ℕ → Bool
well_formed p = ((slice_index p 0 == 1 && nat_le (slice_index p 2) 56) || (slice_index p 0 == 0 && slice_index p 2 == 0)) && (known (slice_index p 1) && slice_index p 3 == 0)

-- a well-formed slot that names section s
abbrev pub names : List ℕ → ℕ → Bool
names p s = well_formed p && s == slice_index p 1

-- what a slot says: the string that it keeps, or none
abbrev pub content : List ℕ → Option (List ℕ)
content p = cond (slice_index p 0 == 1) (Some (take (slice_index p 2) (drop 4 p))) None

-- what the latest of the first n slots that names section s says
abbrev pub latest : List ℕ → ℕ → ℕ → Option (List ℕ)
latest image s zero = None
latest image s (suc i) = cond (names (slot image i) s) (content (slot image i)) (latest image s i)

-- how many of the first n slots there are up to the last one not free
abbrev pub used : List ℕ → ℕ → ℕ
used image zero = 0
used image (suc i) = cond (free (slot image i)) (used image i) (suc i)

-- how many slots stand behind the last used one
abbrev pub writes_left : List ℕ → ℕ
writes_left image = slots image - used image (slots image)

-- what an image means; a write costs one slot
abbrev pub journal_meaning : List ℕ → Meaning
journal_meaning image = record { string = λ s. latest image s (slots image); left = writes_left image; price = 1 }
