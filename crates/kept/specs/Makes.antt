-- The words by which the make of an image is told.
use Rattle.std.specs.Prelude.{◌≡◌, ℕ, List, Some, None, codes, Option, ◌≢◌}
use Rattle.kept.specs.declared.asked.Make.{Make}
use Rattle.kept.specs.declared.asked.Make.TheVariants.{Battery, Journal}

-- a word names the make that it spells, and any other word names none
pub record Spelled (word : List ℕ) (r : Option Make) : Type 0 where
  pub battery : word ≡ codes "battery" → r ≡ Some Battery
  pub journal : word ≡ codes "journal" → r ≡ Some Journal
  pub other : (word ≢ codes "battery") → (word ≢ codes "journal") → r ≡ None
