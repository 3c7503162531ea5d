-- The written form of a sentence.
use Rattle.std.specs.Prelude.{ℕ, ◌+◌, ◌/◌, ◌%◌, Bool, cond, not, ◌&&◌, List, [], ◌∷◌, ◌++◌, length, fold, ◌==◌, bit_xor, nat_le, nat_lt}
use Rattle.std.specs.List.{prefix_len}

-- a body byte: from space to ~, and neither $ nor *
abbrev pub is_body : ℕ → Bool
is_body b = nat_le 0x20 b && (nat_le b 0x7e && (not (b == 0x24) && not (b == 0x2a)))

-- a body: at most 76 bytes, of which the run of body bytes at the front is all
abbrev pub lawful_body : List ℕ → Bool
lawful_body body = nat_le (length body) 76 && prefix_len is_body body == length body

-- the exclusive or of some bytes
abbrev pub checksum : List ℕ → ℕ
checksum body = fold bit_xor 0 body

-- the digit of a number below 16: 0 to 9, A to F
abbrev pub hex_digit : ℕ → ℕ
hex_digit n = cond (nat_lt n 10) (0x30 + n) (0x37 + n)

-- what stands behind the body: *, the checksum's two digits, CR, LF
abbrev pub ending : List ℕ → List ℕ
ending body = 0x2a ∷ hex_digit (checksum body / 16) ∷ hex_digit (checksum body % 16) ∷ 0x0d ∷ 0x0a ∷ []

-- the sentence of a body
abbrev pub sentence : List ℕ → List ℕ
sentence body = (0x24 ∷ []) ++ (body ++ ending body)
