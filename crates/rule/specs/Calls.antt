-- The host's calls: what each answers and writes, and what the rule knows after it.
use Rattle.std.specs.Prelude.{◌≡◌, ℕ, cond, List, [], ◌∷◌, ◌++◌, map, length, drop, Ok, Err, Result, nat_lt}
use Rattle.wire.specs.declared.reading.Ending.{Ending}
use Rattle.wire.specs.declared.reading.Ending.TheVariants.{More, Pause}
use Rattle.wire.specs.Items.{Item}
use Rattle.wire.specs.Reading.{reading}
use Rattle.rule.specs.Events.{Event, built, powered}
use Rattle.rule.specs.Words.{State, Follows}
use Rattle.rule.specs.Saying.{Said, opened, told, written}

-- what the rule keeps of a list of calls: the events, newest first, and the unread bytes
pub record History : Type 0 where
  pub events : List Event
  pub unread : List ℕ

-- a card that has just been built
abbrev pub start : History
start = record { events = built ∷ []; unread = [] }

-- a call: its three numbers or its refusal's number, the frames and sentences that it writes, and the history after it
pub record Turn : Type 0 where
  pub answer : Result (ℕ × ℕ × ℕ) ℕ
  pub told : List Item
  pub next : History

-- a refused call writes nothing and is no event
abbrev pub refused : History → ℕ → Turn
refused h n = record { answer = Err n; told = []; next = h }

-- the good frames and sentences in some bytes
abbrev pub items : Ending → List ℕ → List Item
items ending bytes = map (λ p. p.item) (reading ending bytes 0).found

-- bytes that wait for more: read again, they give nothing and stay
pub record Waiting (unread : List ℕ) : Type 0 where
  pub none : items More unread ≡ []
  pub still : (reading More unread 0).unread ≡ unread

-- what is said to the unread bytes joined with new ones
abbrev pub said_to : State → History → Ending → List ℕ → Said
said_to b h ending bytes = told b (opened h.events) (items ending (h.unread ++ bytes))

abbrev pub hears : State → History → Ending → List ℕ → Turn
hears b h ending bytes = record {
  answer = Ok (length (written (said_to b h ending bytes).answers), (said_to b h ending bytes).accepted, (said_to b h ending bytes).down);
  told = (said_to b h ending bytes).answers;
  next = record { events = (said_to b h ending bytes).events; unread = (reading ending (h.unread ++ bytes) 0).unread };
}

-- a send, with a reply buffer of so many bytes
abbrev pub send_turn : State → History → List ℕ → ℕ → Turn
send_turn b h bytes room = cond (nat_lt 256 (length bytes)) (refused h 1) (cond (nat_lt room 2304) (refused h 2) (hears b h More bytes))

-- a pause
abbrev pub pause_turn : State → History → ℕ → Turn
pause_turn b h room = cond (nat_lt room 2304) (refused h 2) (hears b h Pause [])

-- a power
abbrev pub power_turn : History → Turn
power_turn h = record { answer = Ok (0, 0, 0); told = []; next = record { events = powered ∷ h.events; unread = [] } }

-- a card as a whole: what it has, and its unread bytes
pub record Whole : Type 0 where
  pub state : State
  pub unread : List ℕ

-- a card keeps a history: all that it has is what the rule names
pub record Keeps (b : State) (h : History) (w : Whole) : Type 0 where
  pub follows : Follows b h.events w.state
  pub unread : w.unread ≡ h.unread

-- a buffer after a call: what was written, and behind it what stood there
abbrev pub over : List ℕ → List ℕ → List ℕ
over bytes before = bytes ++ drop (length bytes) before

-- what was written, read by the line's reader, is exactly those frames and sentences in order, and nothing is left unread
pub record ReadsBack (told : List Item) : Type 0 where
  pub found : (ending : Ending) → items ending (written told) ≡ told
  pub all : (ending : Ending) → (reading ending (written told) 0).unread ≡ []

-- a call went as the rule has it: its answer, every byte of its buffer, and the card after it
pub record Goes (b : State) (t : Turn) (answer : Result (ℕ × ℕ × ℕ) ℕ) (before after : List ℕ) (w : Whole) : Type 0 where
  pub answers : answer ≡ t.answer
  pub buffer : after ≡ over (written t.told) before
  pub reads : ReadsBack t.told
  pub keeps : Keeps b t.next w
