-- Strings of bytes written over other bytes.
use Rattle.std.specs.Prelude.{ℕ, List, ◌++◌, length, take, drop}

-- xs with b written over its start
abbrev pub over : List ℕ → List ℕ → List ℕ
over b xs = b ++ drop (length b) xs

-- xs with b written over it from a on
abbrev pub over_from : ℕ → List ℕ → List ℕ → List ℕ
over_from a b xs = take a xs ++ over b (drop a xs)

-- the 64 bytes of xs from a on
abbrev pub part : List ℕ → ℕ → List ℕ
part xs a = take 64 (drop a xs)
