-- Two cards that are sent bytes: when they are alike, and what they answer in all.
use Rattle.std.specs.Prelude.{◌≡◌, ℕ, ◌+◌, Bool, true, false, cond, List, [], ◌∷◌, ◌++◌, length, Ok, Err, Result, nat_lt}
use Rattle.wire.specs.Laws.{NoneBegins}
use Rattle.settings.specs.declared.names.Section.{Section}
use Rattle.settings.specs.declared.names.Message.{Message}
use Rattle.rule.specs.Words.{State}
use Rattle.rule.specs.Calls.{Whole}
use Rattle.rule.specs.Runs.{Call, send, pause, power, Given}

-- two cards have the same: settings, counts, strings, writes left and price
pub record SameState (v w : State) : Type 0 where
  pub settings : v.settings ≡ w.settings
  pub count : (m : Message) → v.count m ≡ w.count m
  pub string : (s : Section) → v.string s ≡ w.string s
  pub left : v.left ≡ w.left
  pub price : v.price ≡ w.price

-- and the same unread bytes
pub record SameCard (v w : Whole) : Type 0 where
  pub state : SameState v.state w.state
  pub unread : v.unread ≡ w.unread

-- alike: the same, and nothing is unread
pub record Alike (v w : Whole) : Type 0 where
  pub state : SameState v.state w.state
  pub quiet : v.unread ≡ []
  pub also : w.unread ≡ []

-- noise before other bytes: in the two joined, no good frame or sentence begins at one of its bytes
abbrev pub Noise : List ℕ → List ℕ → Type 0
Noise noise bytes = NoneBegins (noise ++ bytes) 0 (length noise)

-- the bytes of all answers joined, and the sums of both totals; a refused call counts for nothing
pub record Speech : Type 0 where
  pub reply : List ℕ
  pub accepted : ℕ
  pub down : ℕ

abbrev pub accepted_in : Result (ℕ × ℕ × ℕ) ℕ → ℕ
accepted_in (Ok t) = t.1
accepted_in (Err e) = 0

abbrev pub down_in : Result (ℕ × ℕ × ℕ) ℕ → ℕ
down_in (Ok t) = t.2
down_in (Err e) = 0

abbrev pub speech : List Given → Speech
speech [] = record { reply = []; accepted = 0; down = 0 }
speech (g ∷ gs) = record { reply = g.bytes ++ (speech gs).reply; accepted = accepted_in g.answer + (speech gs).accepted; down = down_in g.answer + (speech gs).down }

-- whether a pause, or a send of these bytes, with room for so many is accepted
abbrev pub pauses : ℕ → Bool
pauses room = cond (nat_lt room 2304) false true

abbrev pub sends : List ℕ → ℕ → Bool
sends bytes room = cond (nat_lt 256 (length bytes)) false (pauses room)

abbrev pub If : Bool → Type 0 → Type 0 → Type 0
If true P Q = P
If false P Q = Q

-- sends, accepted and refused, and refused pauses: nothing else
abbrev pub Sends : List Call → Type 0
Sends [] = Unit {0}
Sends (send bytes room ∷ cs) = Sends cs
Sends (pause room ∷ cs) = If (pauses room) ⊥ (Sends cs)
Sends (power ∷ cs) = ⊥

-- such calls, and an accepted pause at the end
abbrev pub SendsAndPauses : List Call → Type 0
SendsAndPauses [] = ⊥
SendsAndPauses (send bytes room ∷ cs) = SendsAndPauses cs
SendsAndPauses (pause room ∷ cs) = If (pauses room) (cs ≡ []) (SendsAndPauses cs)
SendsAndPauses (power ∷ cs) = ⊥

-- the bytes of the accepted sends, joined
abbrev pub sent : List Call → List ℕ
sent [] = []
sent (send bytes room ∷ cs) = cond (sends bytes room) bytes [] ++ sent cs
sent (pause room ∷ cs) = sent cs
sent (power ∷ cs) = sent cs

-- two cards that were the same are sent one run of bytes, each in cuts of its own: the same answers, and they are the same again
pub record Uncut (v w : Whole) (calls others : List Call) (gave gave-others : List Given) (v' w' : Whole) : Type 0 where
  pub uncut : SameCard v w → Sends calls → Sends others → sent calls ≡ sent others → (speech gave ≡ speech gave-others) × SameCard v' w'

-- two cards that were alike, of which one is sent noise and then bytes, the other the bytes alone, each in cuts of its own, and then each a pause: the same answers, and they are alike again
pub record Quiet (v w : Whole) (calls others : List Call) (gave gave-others : List Given) (v' w' : Whole) : Type 0 where
  pub quiet : (noise bytes : List ℕ) → Noise noise bytes → Alike v w → SendsAndPauses calls → SendsAndPauses others → sent calls ≡ noise ++ bytes → sent others ≡ bytes → (speech gave ≡ speech gave-others) × Alike v' w'
