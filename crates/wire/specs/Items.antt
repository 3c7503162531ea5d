-- What can stand on the line: a frame or a sentence.
use Rattle.std.specs.Prelude.{ℕ, ◌+◌, Bool, List, length}
use Rattle.wire.specs.Frames.{frame, lawful_length}
use Rattle.wire.specs.Sentences.{sentence, lawful_body}

-- a frame's class, id and payload, or a sentence's body
pub data Item : Type 0 where
  frame_item : ℕ → ℕ → List ℕ → Item
  sentence_item : List ℕ → Item

-- its written form
abbrev pub form : Item → List ℕ
form (frame_item class id payload) = frame class id payload
form (sentence_item body) = sentence body

-- how many bytes that has
abbrev pub size : Item → ℕ
size (frame_item class id payload) = length payload + 10
size (sentence_item body) = length body + 6

-- whether its content is lawful
abbrev pub lawful_item : Item → Bool
lawful_item (frame_item class id payload) = lawful_length (length payload)
lawful_item (sentence_item body) = lawful_body body
