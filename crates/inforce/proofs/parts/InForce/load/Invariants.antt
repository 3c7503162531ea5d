use Rattle.std.proofs.Common.{◌≡◌, take}
use Rattle.settings.specs.declared.names.Message.{Message}
use Rattle.inforce.specs.Has.{settings_of, count_of, strings_of}
use Rattle.inforce.proofs.Five.{settings_after, count_after}
use Rattle.inforce.proofs.parts.InForce.load.Given as goal

-- the sections so far are loaded, and the memory stays
abbrev pub invariant-loop-section : goal.invariant-loop-section
invariant-loop-section g l =
    let done = take l.section-index l.section-items in
    (l.self.memory ≡ l.initial.self.memory)
    × (settings_of l.self.settings ≡ settings_after l.sections (strings_of (g.M.SettingsMemory.meaning l.initial.self.memory)) (settings_of l.initial.self.settings) done)
    × ((m : Message) → count_of l.self.settings m ≡ count_after l.sections (count_of l.initial.self.settings) done m)
