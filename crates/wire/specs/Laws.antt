-- What is true of the line as a whole.
use Rattle.std.specs.Prelude.{◌≡◌, ℕ, ◌+◌, ◌-◌, ◌<◌, ◌≤◌, true, ◌⊎◌, List, [], ◌∷◌, ◌++◌, map, length, drop}
use Rattle.std.specs.List.{flat_map}
use Rattle.wire.specs.declared.reading.Ending.{Ending}
use Rattle.wire.specs.declared.reading.Ending.TheVariants.{More, Pause}
use Rattle.wire.specs.Items.{Item, form, size, lawful_item}
use Rattle.wire.specs.Tries.{unfinished, try_of}
use Rattle.wire.specs.Reading.{Placed, found_from, unread_from, reading}

-- a good item begins at a place: its content is lawful, and its written form stands there
pub record Begins (bytes : List ℕ) (at : ℕ) (x : Item) : Type 0 where
  pub lawful : lawful_item x ≡ true
  pub behind : List ℕ
  pub stands : drop at bytes ≡ form x ++ behind

-- at no place from one on and before another does a good item begin
abbrev pub NoneBegins : List ℕ → ℕ → ℕ → Type 0
NoneBegins bytes from until = (at : ℕ) (x : Item) → from ≤ at → at < until → Begins bytes at x → ⊥

-- the good item at the first place, from one on, at which one begins
pub record FirstGood (bytes : List ℕ) (from : ℕ) (p : Placed) : Type 0 where
  pub ahead : from ≤ p.at
  pub none : NoneBegins bytes from p.at
  pub here : Begins bytes p.at p.item

-- what is found between two places: the first good item, what is found behind it, and in the end no more
abbrev pub Finds : List ℕ → ℕ → ℕ → List Placed → Type 0
Finds bytes from until [] = (from ≤ until) × NoneBegins bytes from until
Finds bytes from until (p ∷ more) = FirstGood bytes from p × Finds bytes (p.at + size p.item) until more

-- an unfinished try stands at a place
pub record Waits (bytes : List ℕ) (at : ℕ) : Type 0 where
  pub within : at < length bytes
  pub judged : try_of (drop at bytes) ≡ unfinished

-- no unfinished try stands before a place, outside the found items
abbrev pub NoneWaits : List ℕ → ℕ → ℕ → Type 0
NoneWaits bytes from until = (at : ℕ) → from ≤ at → at < until → Waits bytes at → ⊥

abbrev pub NoneWaitsOutside : List ℕ → ℕ → ℕ → List Placed → Type 0
NoneWaitsOutside bytes from until [] = NoneWaits bytes from until
NoneWaitsOutside bytes from until (p ∷ more) = NoneWaits bytes from p.at × NoneWaitsOutside bytes (p.at + size p.item) until more

-- reading, with a pause at the end and without
pub record Read (bytes : List ℕ) : Type 0 where
  -- after a pause all bytes are gone through
  pub paused : Finds bytes 0 (length bytes) (reading Pause bytes 0).found
  pub all_read : (reading Pause bytes 0).unread ≡ []
  -- with more to come, only those before the rest; there the first try waits that is part of no found item
  pub rest : ℕ
  pub found : Finds bytes 0 rest (reading More bytes 0).found
  pub first : NoneWaitsOutside bytes 0 rest (reading More bytes 0).found
  pub waits : (rest ≡ length bytes) ⊎ Waits bytes rest
  pub unread : (reading More bytes 0).unread ≡ drop rest bytes

-- an item is found first in its written form, whatever stands behind, and reading goes on at its end
pub record Back (x : Item) (behind : List ℕ) (ending : Ending) : Type 0 where
  pub found : (reading ending (form x ++ behind) 0).found ≡ record { at = 0; item = x } ∷ (reading ending (form x ++ behind) (length (form x))).found
  pub unread : (reading ending (form x ++ behind) 0).unread ≡ (reading ending (form x ++ behind) (length (form x))).unread

-- reading pieces as they come: the rest, whose first byte stands at a place, and a piece are read as one
abbrev pub found_in_pieces : List ℕ → ℕ → List (List ℕ) → List Placed
found_in_pieces rest at [] = []
found_in_pieces rest at (piece ∷ more) =
    found_from More at 0 (rest ++ piece) ++ found_in_pieces (unread_from More 0 (rest ++ piece)) (at + (length (rest ++ piece) - length (unread_from More 0 (rest ++ piece)))) more

abbrev pub unread_in_pieces : List ℕ → List (List ℕ) → List ℕ
unread_in_pieces rest [] = rest
unread_in_pieces rest (piece ∷ more) = unread_in_pieces (unread_from More 0 (rest ++ piece)) more

abbrev pub together : List (List ℕ) → List ℕ
together pieces = flat_map (λ piece. piece) pieces

-- pieces give what their bytes give as a whole: the items, their places and the rest
pub record Uncut (pieces : List (List ℕ)) : Type 0 where
  pub found : found_in_pieces [] 0 pieces ≡ (reading More (together pieces) 0).found
  pub unread : unread_in_pieces [] pieces ≡ (reading More (together pieces) 0).unread

-- an item some places further on
abbrev pub moved : ℕ → Placed → Placed
moved n p = record { at = n + p.at; item = p.item }

pub record Line : Type 0 where
  pub reads : (bytes : List ℕ) → Read bytes
  pub sizes : (x : Item) → length (form x) ≡ size x
  pub back : (x : Item) (behind : List ℕ) (ending : Ending) → lawful_item x ≡ true → Back x behind ending
  pub uncut : (pieces : List (List ℕ)) → Uncut pieces
  -- where no good item begins in the noise, it only moves what is found behind it
  pub noise : (noise bytes : List ℕ) → NoneBegins (noise ++ bytes) 0 (length noise) → (reading Pause (noise ++ bytes) 0).found ≡ map (moved (length noise)) (reading Pause bytes 0).found
  -- little is left unread
  pub few : (ending : Ending) (bytes : List ℕ) (at : ℕ) → length (reading ending bytes at).unread ≤ 81
