-- What a listing of some bytes comes to.
use Rattle.std.specs.Prelude.{◌≡◌, ℕ, ◌+◌, ◌-◌, ◌^◌, ◌≤◌, min, List, [], ◌∷◌, ◌++◌, length, drop}
use Rattle.wire.specs.declared.reading.Ending.{Ending}
use Rattle.wire.specs.declared.reading.Ending.TheVariants.{More}
use Rattle.wire.specs.Items.{size}
use Rattle.wire.specs.Reading.{Placed, reading}
use Rattle.listen.specs.declared.Listed.{Listed}
use Rattle.listen.specs.declared.Held.{Held}

-- how many bytes the found frames and sentences have
abbrev pub bytes_of : List Placed → ℕ
bytes_of [] = 0
bytes_of (p ∷ more) = size p.item + bytes_of more

-- the rest begins where reading leaves off, with at most 81 bytes, and the good bytes are those of what is found
pub record Lists (ending : Ending) (bytes : List ℕ) (l : Listed) : Type 0 where
  pub within : l.rest ≤ length bytes
  pub unread : drop l.rest bytes ≡ (reading ending bytes 0).unread
  pub few : length bytes ≤ l.rest + 81
  pub good : l.good ≡ bytes_of (reading ending bytes 0).found

-- a count of 64 bits stops at the largest
abbrev pub counted : ℕ → ℕ
counted n = min n (2 ^ 64 - 1)

-- a piece is taken in behind the unread bytes: the rest is what reading both leaves, and the counts go on
pub record Takes (waiting piece rest : List ℕ) (before after : Held) : Type 0 where
  pub unread : rest ≡ (reading More (waiting ++ piece) 0).unread
  pub few : length rest ≤ 81
  pub start : after.start ≡ counted (before.start + (length (waiting ++ piece) - length rest))
  pub good : after.good ≡ counted (before.good + bytes_of (reading More (waiting ++ piece) 0).found)
