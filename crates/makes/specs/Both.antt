-- One string offered to a battery memory and to a journal with no writes left.
use Rattle.std.specs.Prelude.{◌≡◌, ℕ, List, Some, Ok, Err, Result}
use Rattle.memory.specs.declared.Refusal.{Refusal}
use Rattle.memory.specs.declared.Refusal.TheVariants.{NoWritesLeft}
use Rattle.battery.specs.Places.{battery_string}

-- the battery keeps it and the journal refuses it; image is the battery's afterwards, xs and ys are the journal's bytes
pub record FullJournal (image xs ys : List ℕ) (s : ℕ) (b : List ℕ) (by_battery by_journal : Result (Unit {0}) Refusal) : Type 0 where
  pub done : by_battery ≡ Ok tt
  pub kept : battery_string image s ≡ Some b
  pub refused : by_journal ≡ Err NoWritesLeft
  pub same : ys ≡ xs
