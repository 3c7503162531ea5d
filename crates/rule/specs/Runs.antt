-- Whole lists of calls.
use Rattle.std.specs.Prelude.{ℕ, List, [], ◌∷◌, map, Result}
use Rattle.rule.specs.Words.{State, named}
use Rattle.rule.specs.Saying.{written}
use Rattle.rule.specs.Calls.{History, Turn, Whole, send_turn, pause_turn, power_turn}

-- a call of the host, as the rule is fed it: the bytes that are sent, and the length of the buffer for the answer
pub data Call : Type 0 where
  send : List ℕ → ℕ → Call
  pause : ℕ → Call
  power : Call

abbrev pub turn : State → History → Call → Turn
turn b h (send bytes room) = send_turn b h bytes room
turn b h (pause room) = pause_turn b h room
turn b h power = power_turn h

-- the turns of some calls, one after the other, and the history after them
abbrev pub turns : State → History → List Call → List Turn
turns b h [] = []
turns b h (c ∷ cs) = turn b h c ∷ turns b (turn b h c).next cs

abbrev pub after : State → History → List Call → History
after b h [] = h
after b h (c ∷ cs) = after b (turn b h c).next cs

-- a card as the rule names it
abbrev pub whole_by : State → History → Whole
whole_by b h = record { state = named b h.events; unread = h.unread }

-- what a call gave: its numbers or its refusal's number, the bytes that it wrote, and all that the card has after it
pub record Given : Type 0 where
  pub answer : Result (ℕ × ℕ × ℕ) ℕ
  pub bytes : List ℕ
  pub card : Whole

-- what a turn gives
abbrev pub given_by : State → Turn → Given
given_by b t = record { answer = t.answer; bytes = written t.told; card = whole_by b t.next }

-- what each of some calls gives
abbrev pub given : State → History → List Call → List Given
given b h cs = map (given_by b) (turns b h cs)
