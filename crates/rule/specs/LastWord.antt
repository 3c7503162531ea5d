-- The last word: the latest event that touches a setting names its value, the latest that files a string names that.
use Rattle.std.specs.Prelude.{◌≡◌, Bool, true, false, List, [], ◌∷◌, ◌++◌, is_some, Some}
use Rattle.settings.specs.declared.names.Section.{Section}
use Rattle.commands.specs.Settings.{Name, baud, rate, interval, systems, pulse, group, Configuration}
use Rattle.rule.specs.Events.{Event, factory_settings, touches, names, files}
use Rattle.rule.specs.Words.{State, in_force, kept, left}

-- none of some events passes a test
abbrev pub NoneOf : (Event → Bool) → List Event → Type 0
NoneOf test [] = Unit {0}
NoneOf test (e ∷ h) = (test e ≡ false) × NoneOf test h

-- e is the latest event that passes a test, and older is all that came before it
pub record Latest (test : Event → Bool) (h : List Event) (e : Event) (older : List Event) : Type 0 where
  pub newer : List Event
  pub split : h ≡ newer ++ e ∷ older
  pub here : test e ≡ true
  pub quiet : NoneOf test newer

-- there is a latest event that passes a test
pub record SomeLatest (test : Event → Bool) (h : List Event) : Type 0 where
  pub event : Event
  pub older : List Event
  pub latest : Latest test h event older

-- two configurations agree in a setting
abbrev pub Agree : Name → Configuration → Configuration → Type 0
Agree baud c d = c.baud ≡ d.baud
Agree (rate m) c d = c.rate m ≡ d.rate m
Agree interval c d = c.interval ≡ d.interval
Agree systems c d = c.systems ≡ d.systems
Agree pulse c d = c.pulse ≡ d.pulse
Agree group c d = c.group ≡ d.group

-- whether an event names the string of a section
abbrev pub files_it : Section → Event → Bool
files_it s e = is_some (files e s factory_settings)

-- what a card has is the last word of the events h, which began with b
pub record LastWord (b : State) (h : List Event) (v : State) : Type 0 where
  -- every setting has a latest event that touches it
  pub some : (n : Name) → SomeLatest (λ e. touches e n) h
  -- and is in force as that event names it, by the strings of that moment
  pub force : (n : Name) (e : Event) (older : List Event) → Latest (λ x. touches x n) h e older → Agree n v.settings (names e (kept b older))
  -- every string is as the latest event names it that files it, by the settings in force just before
  pub string : (s : Section) (e : Event) (older : List Event) → Latest (files_it s) h e older → files e s (in_force b older) ≡ Some (v.string s)
  -- or as it was found, where no event files it
  pub found : (s : Section) → NoneOf (files_it s) h → v.string s ≡ b.string s
  -- the writes left have fallen by the price for each section that was written
  pub paid : v.left ≡ left b h
