-- The written form of a frame.
use Rattle.std.specs.Prelude.{ℕ, ◌+◌, ◌*◌, ◌%◌, ◌^◌, Bool, ◌&&◌, List, [], ◌∷◌, ◌++◌, length, ◌==◌, nat_le}
use Rattle.numbers.specs.Bytes.{word, bytes2, bytes4}

-- the words of some bytes, added up; a tail below four bytes is no word
abbrev pub word_sum : List ℕ → ℕ
word_sum [] = 0
word_sum (a ∷ []) = 0
word_sum (a ∷ b ∷ []) = 0
word_sum (a ∷ b ∷ c ∷ []) = 0
word_sum (a ∷ b ∷ c ∷ d ∷ bytes) = word a b c d + word_sum bytes

-- the sum of a frame: the header word and every payload word, the low 32 bits kept
abbrev pub frame_sum : ℕ → ℕ → List ℕ → ℕ
frame_sum class id payload = (id * 2 ^ 24 + class * 2 ^ 16 + length payload + word_sum payload) % 2 ^ 32

-- the two bytes that every frame starts with
abbrev pub lead : List ℕ
lead = 0xba ∷ 0xce ∷ []

-- what stands before the payload
abbrev pub header : ℕ → ℕ → ℕ → List ℕ
header class id len = lead ++ (bytes2 len ++ (class ∷ id ∷ []))

-- the frame of a class, an id and a payload
abbrev pub frame : ℕ → ℕ → List ℕ → List ℕ
frame class id payload = header class id (length payload) ++ (payload ++ bytes4 (frame_sum class id payload))

-- lawful payload lengths: 0, 4, 8 and so on up to 64
abbrev pub lawful_length : ℕ → Bool
lawful_length n = n % 4 == 0 && nat_le n 64
