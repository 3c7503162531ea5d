-- The law over every list of calls.
use Rattle.std.specs.Prelude.{◌≡◌, ℕ, ◌+◌, ◌<◌, List, length, take, slice_index_or}
use Rattle.memory.specs.Memory.{Meaning}
use Rattle.rule.specs.Words.{found}
use Rattle.rule.specs.LastWord.{LastWord}
use Rattle.rule.specs.Calls.{start, Whole, Keeps}
use Rattle.rule.specs.Runs.{Call, after, Given, given}

-- a card was built on a memory that meant m, and lived through the calls: this is what each of them gave, and what the card has at the end
pub record Lived (m : Meaning) (calls : List Call) (gave : List Given) (card : Whole) : Type 0 where
  -- every answer, every byte written, and all that the card has after each call, unread bytes too, are as the rule names them
  pub answers : gave ≡ given (found m) start calls
  -- after each call what is in force and what is kept is the last word
  pub words : (k : ℕ) (g : Given) → k < length calls → LastWord (found m) (after (found m) start (take (k + 1) calls)).events (slice_index_or gave k g).card.state
  -- so it is at the end, which is at the build where there are no calls
  pub last : LastWord (found m) (after (found m) start calls).events card.state
  pub keeps : Keeps (found m) (after (found m) start calls) card
