-- Numbers as their decimal digits.
use Rattle.std.specs.Prelude.{ℕ, zero, suc, ◌+◌, ◌/◌, ◌%◌, List, [], ◌∷◌, ◌++◌}

-- the last digit of a number, as a character
abbrev pub digit : ℕ → ℕ
digit n = 48 + n % 10

-- a number in so many digits, with leading zeros
unfoldable pub padded : ℕ → ℕ → List ℕ
padded zero n = []
padded (suc width) n = padded width (n / 10) ++ (digit n ∷ [])
