-- What the journal's numbers and strings say of its slots, in place of how they are counted.
use Rattle.std.specs.Prelude.{◌≡◌, ℕ, ◌+◌, ◌<◌, ◌≤◌, true, false, List, None, Option, MatchOption}
use Rattle.journal.specs.Slots.{slots, slot, free, names, content}

-- the last n slots are free, and the one before them is not
pub record FreeBehind (image : List ℕ) (n : ℕ) : Type 0 where
  pub within : n ≤ slots image
  pub behind : (i : ℕ) → slots image ≤ i + n → i < slots image → free (slot image i) ≡ true
  pub before : (i : ℕ) → i + n + 1 ≡ slots image → free (slot image i) ≡ false

-- of the first n slots, slot i is the latest well-formed one that names section s
pub record Latest (image : List ℕ) (s n i : ℕ) : Type 0 where
  pub within : i < n
  pub here : names (slot image i) s ≡ true
  pub later : (j : ℕ) → i < j → j < n → names (slot image j) s ≡ false

-- none of the first n slots names section s
abbrev pub Nowhere : List ℕ → ℕ → ℕ → Type 0
Nowhere image s n = (j : ℕ) → j < n → names (slot image j) s ≡ false

-- the latest of the first n slots that names section s, or none
abbrev pub Found : List ℕ → ℕ → ℕ → Option ℕ → Type 0
Found image s n o = MatchOption o (Nowhere image s n) (Latest image s n)

-- the string of section s is what its latest slot says, or none where no slot names it
pub record Said (image : List ℕ) (s : ℕ) (string : Option (List ℕ)) : Type 0 where
  pub by : (i : ℕ) → Latest image s (slots image) i → string ≡ content (slot image i)
  pub nowhere : Nowhere image s (slots image) → string ≡ None
