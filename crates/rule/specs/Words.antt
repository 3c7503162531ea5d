-- What is in force, what is kept and what is counted after some events, newest first.
use Rattle.std.specs.Prelude.{◌≡◌, ℕ, ◌+◌, ◌-◌, ◌*◌, ◌%◌, Bool, cond, List, [], ◌∷◌, ◌==◌}
use Rattle.std.specs.Option.{unwrap_or}
use Rattle.settings.specs.declared.names.Section.{Section}
use Rattle.settings.specs.declared.names.Message.{Message}
use Rattle.settings.specs.Names.{number}
use Rattle.memory.specs.Memory.{Meaning}
use Rattle.commands.specs.Settings.{Name, baud, rate, interval, systems, pulse, group, Configuration}
use Rattle.rule.specs.Events.{Event, Strings, factory_settings, touches, names, files, writes, is_fix}

-- what a card has: the settings in force, the fixes counted for each message, the strings in its memory, the writes left and the price of one
pub record State : Type 0 where
  pub settings : Configuration
  pub count : Message → ℕ
  pub string : Strings
  pub left : ℕ
  pub price : ℕ

-- each setting from the first where a test of its name holds, else from the second
abbrev pub chosen : (Name → Bool) → Configuration → Configuration → Configuration
chosen test c d = record {
  baud = cond (test baud) c.baud d.baud;
  rate = λ m. cond (test (rate m)) (c.rate m) (d.rate m);
  interval = cond (test interval) c.interval d.interval;
  systems = cond (test systems) c.systems d.systems;
  pulse = cond (test pulse) c.pulse d.pulse;
  group = cond (test group) c.group d.group;
}

-- the last word, where b is what the list of events began with
abbrev mutual
  -- in force: what the newest event names of the settings that it touches, the others as they were before it
  pub in_force : State → List Event → Configuration
  in_force b [] = b.settings
  in_force b (e ∷ h) = chosen (touches e) (names e (kept b h)) (in_force b h)

  -- kept: what the newest event names as the section's string, or the string as it was before it
  pub kept : State → List Event → Strings
  kept b [] = b.string
  kept b (e ∷ h) = λ s. unwrap_or (files e s (in_force b h)) (kept b h s)

-- the writes left: the price is paid for each section that an event writes
abbrev pub left : State → List Event → ℕ
left b [] = b.left
left b (e ∷ h) = left b h - writes e * b.price

-- the accepted fixes since the rate of a message last came into force
abbrev pub since : State → Message → List Event → ℕ
since b m [] = b.count m
since b m (e ∷ h) = cond (touches e (rate m)) 0 (cond (is_fix e) (since b m h + 1) (since b m h))

-- a count as a card keeps it, modulo a rate above zero
abbrev pub residue : ℕ → ℕ → ℕ
residue n r = cond (r == 0) 0 (n % r)

-- all that the rule names after some events
abbrev pub named : State → List Event → State
named b h = record { settings = in_force b h; count = λ m. residue (since b m h) ((in_force b h).rate m); string = kept b h; left = left b h; price = b.price }

-- a card that has this follows these events: all that it has is what the rule names
pub record Follows (b : State) (h : List Event) (v : State) : Type 0 where
  pub settings : v.settings ≡ in_force b h
  pub count : (m : Message) → v.count m ≡ residue (since b m h) ((in_force b h).rate m)
  pub string : (s : Section) → v.string s ≡ kept b h s
  pub left : v.left ≡ left b h
  pub price : v.price ≡ b.price

-- what every list of calls on a new card begins with: nothing but what its memory means
abbrev pub found : Meaning → State
found m = record { settings = factory_settings; count = λ k. 0; string = λ s. m.string (number s); left = m.left; price = m.price }
