use Rattle.std.proofs.Common.{sym, refl, ◌∙◌}
use Rattle.inforce.specs.Has.{strings_of}
use Rattle.inforce.proofs.Loads.{load_settings, load_counts}
use Rattle.inforce.proofs.sections.load_one.Goals as goal

pub returns-in_ok-load_section : goal.returns-in_ok-load_section
returns-in_ok-load_section g c =
    let among = sym c.has.ensures ∙ c.if-has.true in
    record {
      done = refl;
      settings = load_settings c.args.sections (strings_of (g.M.SettingsMemory.meaning c.args.memory.now)) _ _ c.args.section among c.load_section.ensures.values;
      counts = load_counts c.args.sections _ _ c.args.section among c.load_section.ensures.counts;
    }
