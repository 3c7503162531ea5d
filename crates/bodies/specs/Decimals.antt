-- Numbers with decimals.
use Rattle.std.specs.Prelude.{ℕ, ◌/◌, ◌%◌, ◌^◌, List, ◌++◌, codes, decimal}
use Rattle.texts.specs.Decimals.{padded}

-- a number counted in tenths, hundredths, ..: the whole part with no leading zero, a point, the decimals
unfoldable pub pointed : ℕ → ℕ → List ℕ
pointed places n = decimal (n / 10 ^ places) ++ (codes "." ++ padded places (n % 10 ^ places))
