-- What the two writers answer, and what stands in the output after.
use Rattle.std.specs.Prelude.{ℕ, cond, List, ◌++◌, length, drop, Ok, Err, Result, ◌==◌, nat_le}
use Rattle.wire.specs.declared.refusal.Refusal.{Refusal}
use Rattle.wire.specs.declared.refusal.Refusal.TheVariants.{PayloadLength, Body, OutputTooShort}
use Rattle.wire.specs.Frames.{frame, lawful_length}
use Rattle.wire.specs.Sentences.{sentence, lawful_body}

-- the number of each refusal
abbrev pub number : Refusal → ℕ
number PayloadLength = 11
number Body = 12
number OutputTooShort = 13

-- the refusal of each number, 11 to 13
abbrev pub refusal : ℕ → Refusal
refusal n = cond (n == 11) PayloadLength (cond (n == 12) Body OutputTooShort)

-- a form at the output's start and its length, every other byte as before; refused where the output is too short, every byte as before
abbrev pub fitted : List ℕ → List ℕ → Result ℕ Refusal × List ℕ
fitted form out = cond (nat_le (length form) (length out)) (Ok (length form), form ++ drop (length form) out) (Err OutputTooShort, out)

-- the frame writer: a length that is not lawful is refused first
abbrev pub frame_written : ℕ → ℕ → List ℕ → List ℕ → Result ℕ Refusal × List ℕ
frame_written class id payload out = cond (lawful_length (length payload)) (fitted (frame class id payload) out) (Err PayloadLength, out)

-- the sentence writer: a body that is not lawful is refused first
abbrev pub sentence_written : List ℕ → List ℕ → Result ℕ Refusal × List ℕ
sentence_written body out = cond (lawful_body body) (fitted (sentence body) out) (Err Body, out)
