-- What the code's answers stand for.
use Rattle.std.specs.Prelude.{ℕ, ◌+◌, ◌<◌, ◌≤◌, max, List, [], ◌∷◌, length, drop, Ok, Err, Result}
use Rattle.wire.specs.declared.item.Item.{Item as Part}
use Rattle.wire.specs.declared.item.Item.TheVariants.{Frame as FramePart, Sentence as SentencePart}
use Rattle.wire.specs.declared.tries.Miss.{Miss}
use Rattle.wire.specs.declared.tries.Miss.TheVariants.{Unfinished, Failed}
use Rattle.wire.specs.declared.reading.Found.{Found}
use Rattle.wire.specs.declared.reading.Found.TheVariants.{Good as FoundGood, Unfinished as FoundUnfinished, End}
use Rattle.wire.specs.Items.{Item, frame_item, sentence_item, size}
use Rattle.wire.specs.Tries.{Try, good, unfinished, failed}
use Rattle.wire.specs.Reading.{Reading}

-- a part of the caller's bytes, by what it holds
abbrev pub item_of : Part → Item
item_of (FramePart f) = frame_item f.class f.id f.payload.now
item_of (SentencePart body) = sentence_item body.now

-- what a try came to
abbrev pub seen : Result Part Miss → Try
seen (Ok x) = good (item_of x)
seen (Err Unfinished) = unfinished
seen (Err Failed) = failed

-- how many bytes a try spends
abbrev pub spent : Try → ℕ
spent (good x) = size x
spent unfinished = 0
spent failed = 0

-- the bytes of a good item are among those that are there, and an unfinished try has at most 81
abbrev pub Room : ℕ → Try → Type 0
Room len (good x) = (0 < size x) × (size x ≤ len)
Room len unfinished = len ≤ 81
Room len failed = Unit {0}

-- an answer, put before what is read from the place that it leaves
abbrev pub told : List ℕ → Found → Reading → Reading
told bytes (FoundGood at x) later = record { found = record { at = at; item = item_of x } ∷ later.found; unread = later.unread }
told bytes (FoundUnfinished at) later = record { found = []; unread = drop at bytes }
told bytes End later = record { found = []; unread = [] }

-- the place that an answer leaves, from a place on
abbrev pub leaves : List ℕ → ℕ → Found → ℕ
leaves bytes from (FoundGood at x) = at + size (item_of x)
leaves bytes from (FoundUnfinished at) = at
leaves bytes from End = max from (length bytes)

-- an answer's bytes stand in the caller's bytes, from the place on; at most 81 are left unread
abbrev pub Stands : List ℕ → ℕ → Found → Type 0
Stands bytes from (FoundGood at x) = (from ≤ at) × (at < at + size (item_of x)) × (at + size (item_of x) ≤ length bytes)
Stands bytes from (FoundUnfinished at) = (from ≤ at) × (at < length bytes) × (length bytes ≤ at + 81)
Stands bytes from End = Unit {0}
