-- Reading some bytes: which items are found, each at its place, and what is left for later.
use Rattle.std.specs.Prelude.{ℕ, zero, suc, ◌+◌, ◌-◌, List, [], ◌∷◌, drop}
use Rattle.wire.specs.declared.reading.Ending.{Ending}
use Rattle.wire.specs.declared.reading.Ending.TheVariants.{More, Pause}
use Rattle.wire.specs.Items.{Item, size}
use Rattle.wire.specs.Tries.{Try, good, unfinished, failed, ended, try_of}

-- whether more bytes may come; after a pause, what is unfinished has failed
abbrev pub ended_by : Ending → Try → Try
ended_by More t = t
ended_by Pause t = ended t

abbrev pub try_by : Ending → List ℕ → Try
try_by ending bytes = ended_by ending (try_of bytes)

-- an item and the place of its lead byte
pub record Placed : Type 0 where
  pub at : ℕ
  pub item : Item

-- a good item is found and spends all its bytes; a failed try spends its lead byte
abbrev pub found_at : ℕ → Try → (ℕ → List Placed) → List Placed
found_at at (good x) later = record { at = at; item = x } ∷ later (size x - 1)
found_at at unfinished later = []
found_at at failed later = later 0

-- what is found in bytes that begin at a place and of which the first are spent
abbrev pub found_from : Ending → ℕ → ℕ → List ℕ → List Placed
found_from ending at spent [] = []
found_from ending at (suc spent) (b ∷ bytes) = found_from ending (at + 1) spent bytes
found_from ending at zero (b ∷ bytes) = found_at at (try_by ending (b ∷ bytes)) (λ spent. found_from ending (at + 1) spent bytes)

-- an unfinished try leaves its bytes unread
abbrev pub unread_at : Try → List ℕ → (ℕ → List ℕ) → List ℕ
unread_at (good x) bytes later = later (size x - 1)
unread_at unfinished bytes later = bytes
unread_at failed bytes later = later 0

-- what is left unread of bytes of which the first are spent
abbrev pub unread_from : Ending → ℕ → List ℕ → List ℕ
unread_from ending spent [] = []
unread_from ending (suc spent) (b ∷ bytes) = unread_from ending spent bytes
unread_from ending zero (b ∷ bytes) = unread_at (try_by ending (b ∷ bytes)) (b ∷ bytes) (λ spent. unread_from ending spent bytes)

pub record Reading : Type 0 where
  pub found : List Placed
  pub unread : List ℕ

-- what reading some bytes from a place on gives
abbrev pub reading : Ending → List ℕ → ℕ → Reading
reading ending bytes at = record { found = found_from ending at 0 (drop at bytes); unread = unread_from ending 0 (drop at bytes) }

-- what reading from a place on gives, by what becomes of the try there
abbrev pub onward : Ending → List ℕ → ℕ → Try → Reading
onward ending bytes at (good x) = record { found = record { at = at; item = x } ∷ (reading ending bytes (at + size x)).found; unread = (reading ending bytes (at + size x)).unread }
onward ending bytes at unfinished = record { found = []; unread = drop at bytes }
onward ending bytes at failed = reading ending bytes (at + 1)
