-- Bytes of a string, one by one.
use Rattle.std.specs.Prelude.{ℕ, ◌+◌, List, [], ◌∷◌, slice_index}

-- the four bytes from i on, one by one
abbrev pub four_at : List ℕ → ℕ → List ℕ
four_at b i = slice_index b i ∷ (slice_index b (i + 1) ∷ (slice_index b (i + 2) ∷ (slice_index b (i + 3) ∷ [])))

-- the first five bytes, one by one
abbrev pub five_of : List ℕ → List ℕ
five_of b = slice_index b 0 ∷ (slice_index b 1 ∷ (slice_index b 2 ∷ (slice_index b 3 ∷ (slice_index b 4 ∷ []))))
