-- What the code's values stand for.
use Rattle.std.specs.Prelude.{ℕ, cond, List, length, Ok, Err, Result, nat_lt}
use Rattle.memory.specs.declared.Refusal.{Refusal as MemoryRefusal}
use Rattle.memory.specs.Memory.{Meaning, number}
use Rattle.inforce.specs.Has.{state_of}
use Rattle.commands.specs.Settings.{Configuration}
use Rattle.sheets.specs.Sheet.{sheet_text}
use Rattle.rule.specs.Calls.{Whole, over}
use Rattle.card.specs.declared.parts.Card.{Card}
use Rattle.card.specs.declared.refusal.Refusal.{Refusal}
use Rattle.card.specs.declared.refusal.Refusal.TheVariants.{SendTooLong, ReplyTooShort, SheetTooShort, Memory}

-- a card, where f says what its memory means
abbrev pub whole_of : {A : Type 0} → (A → Meaning) → Card A → Whole
whole_of f c = record { state = state_of f c.inside; unread = c.unread.items }

-- the number of each refusal
abbrev pub number_of : Refusal → ℕ
number_of SendTooLong = 1
number_of ReplyTooShort = 2
number_of SheetTooShort = 6
number_of (Memory e) = number e

-- an answer: its values, or the refusal's number
abbrev pub answer_of : {A : Type 0} → Result A Refusal → Result A ℕ
answer_of (Ok x) = Ok x
answer_of (Err e) = Err (number_of e)

abbrev pub memory_answer : {A : Type 0} → Result A MemoryRefusal → Result A ℕ
memory_answer (Ok x) = Ok x
memory_answer (Err e) = Err (number e)

-- the sheet of some settings at the output's start and its length, every other byte as before; below 96 bytes refused, every byte as before
abbrev pub sheet_answer : Configuration → List ℕ → Result ℕ ℕ × List ℕ
sheet_answer c out = cond (nat_lt (length out) 96) (Err 6, out) (Ok (length (sheet_text c)), over (sheet_text c) out)
