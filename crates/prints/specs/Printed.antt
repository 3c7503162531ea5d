-- Bytes in print.
use Rattle.std.specs.Prelude.{ℕ, ◌/◌, ◌%◌, Bool, true, ◌&&◌, List, [], ◌∷◌, filter, nat_le}
use Rattle.std.specs.Fmt.{digit_glyph}
use Rattle.std.specs.List.{flat_map}

-- a byte in hex, in capitals and behind a space
abbrev pub pair : ℕ → List ℕ
pair b = 0x20 ∷ digit_glyph true (b / 16) ∷ digit_glyph true (b % 16) ∷ []

-- some bytes in hex
abbrev pub in_hex : List ℕ → List ℕ
in_hex bytes = flat_map pair bytes

-- from space to ~
abbrev pub is_printable : ℕ → Bool
is_printable b = nat_le 0x20 b && nat_le b 0x7e

-- the printable bytes among some
abbrev pub as_text : List ℕ → List ℕ
as_text bytes = filter is_printable bytes
