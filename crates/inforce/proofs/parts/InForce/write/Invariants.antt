use Rattle.std.proofs.Common.{◌≡◌, ◌+◌, ◌-◌, ◌≤◌, take, drop}
use Rattle.settings.specs.declared.names.Section.{Section}
use Rattle.inforce.specs.Has.{settings_of, strings_of}
use Rattle.inforce.proofs.Five.{strings_after, cost_of}
use Rattle.inforce.proofs.parts.InForce.write.Given as goal

-- the sections so far are written and paid for, the writes left suffice for the rest, and the settings stay
abbrev pub invariant-loop-section : goal.invariant-loop-section
invariant-loop-section g l =
    let before = g.M.SettingsMemory.meaning l.initial.self.memory in
    let now = g.M.SettingsMemory.meaning l.self.memory in
    let done = take l.section-index l.section-items in
    (l.self.settings ≡ l.initial.self.settings)
    × ((t : Section) → strings_of now t ≡ strings_after l.writing (settings_of l.initial.self.settings) l.sections (strings_of before) done t)
    × (now.left ≡ before.left - cost_of l.sections before.price done)
    × (now.price ≡ before.price)
    × (cost_of l.sections before.price done + cost_of l.sections before.price (drop l.section-index l.section-items) ≤ before.left)
